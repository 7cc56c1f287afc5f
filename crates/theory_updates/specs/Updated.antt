-- An update's stores: a run that keeps the old map, then one page with a root, after which the new one stands. Assumes
-- nothing.
use Rattle.std.specs.Prelude.{◌≡◌, refl, List, [], ◌∷◌, ◌++◌, ℕ, suc, ◌+◌, ◌<◌, ◌≤◌}
use Rattle.std.proofs.Common.{ap, sym, subst, ◌∙◌, append_assoc, inl, arith}
use Rattle.geometry.specs.declared.Geometry.{Geometry}
use Rattle.geometry.specs.declared.Entry.{Entry}
use Rattle.geometry.specs.Shape.{Shape, shape_core}
use Rattle.model.specs.Count.{count, peak}
use Rattle.model.specs.Image.{pages_of, max_seq, Chip, chip_of}
use Rattle.model.specs.Tree.{map_of}
use Rattle.model.specs.Next.{ahead, next_page}
use Rattle.model.specs.Stores.{Store, apply_store, apply_all, programs, erases}
use Rattle.chip_store.specs.Runs.{all_append, programs_append, erases_append}
use Rattle.theory_chips.specs.Whole.{Whole}
use Rattle.theory_chips.specs.Collect.{R8}
use Rattle.theory_images.specs.Views.{rooted}
use Rattle.theory_images.specs.Built.{Parts, built_view}
use Rattle.model.specs.Legal.{Legal}
use Rattle.live_beside.specs.Update.{Crest}
use Rattle.theory_images.specs.Writes.{next_store, put_legal}
use Rattle.theory_images.proofs.Writes.{root_chip, root_held, root_frees}
use Rattle.theory_updates.specs.Along.{Along, along_append, Keeps, Runs, runs_end}
use Rattle.theory_updates.specs.Topped.{Topped}

-- e after m own pages from c on: the root stands at t, on the last of them
pub record Stands (g : Geometry) (n : ℕ) (c : Chip) (m : ℕ) (t : Crest) (e : Chip) : Type 0 where
  pub root_is : e.root ≡ t.page
  pub level_is : e.level ≡ t.level
  pub topped : Topped g n c m e

-- Z is what more is known of the chip at the end
pub record Updated (g : Geometry) (n : ℕ) (Z : Chip → Type 0) (old new : List Entry) (img : List ℕ) (ss : List Store)
    (b e : ℕ) : Type 0 where
  pub init : List Store
  pub last : Store
  pub list_is : ss ≡ init ++ (last ∷ [])
  pub along : Along g n (Keeps g n old) img init
  pub legal : Legal g n (apply_all g init img) last
  pub end : Keeps g n new (apply_all g ss img)
  pub also : Z (chip_of g n (apply_all g ss img))
  pub programmed : programs ss ≤ b
  pub wiped : erases ss ≤ e

number : (g : Geometry) (n : ℕ) (x : List ℕ) → suc (max_seq g n x) ≡ suc (peak (pages_of g n) (chip_of g n x).seq)
unfolding max_seq
number g n x = refl

-- the last store: of the chip after it is known that it is whole and holds the new map
pub updated : (g : Geometry) → Shape g
    → (n : ℕ) (Z : Chip → Type 0) (old new : List Entry) (img : List ℕ) (ss : List Store)
    (d : Chip) (b e h : ℕ) (parts : ℕ → List Entry) (s : Store)
    → Runs g n old img ss d b e
    → g.pages + 1 ≤ count (pages_of g n) d.er → suc (max_seq g n (apply_all g ss img)) < 4294967295 → Parts g parts
    → 1 ≤ h → h ≤ g.top
    → s ≡ next_store g n h parts (apply_all g ss img)
    → ((q : ℕ) → q ≡ suc (peak (pages_of g n) d.seq) → Whole g n (rooted d (next_page g.pages n (ahead g n d))
    (built_view g q h parts)) ×
    (map_of (rooted d (next_page g.pages n (ahead g n d)) (built_view g q h parts)) ≡ new) ×
    R8 g n (rooted d (next_page g.pages n (ahead g n d)) (built_view g q h parts)) ×
    Z (rooted d (next_page g.pages n (ahead g n d)) (built_view g q h parts)))
    → Updated g n Z old new img (ss ++ (s ∷ [])) (b + 1) e
unfolding apply_all programs erases next_store
updated g shape n Z old new img ss d b e h parts s r f low ok i k se good =
    let x = apply_all g ss img in
    let t = pages_of g n in
    let z = runs_end g n old img ss d b e r in
    let ci = r.chip_is in
    let many : g.pages + 1 ≤ count t (chip_of g n x).er =
    subst (λ (y : Chip). g.pages + 1 ≤ count t y.er) (sym ci) f in
    let free : 1 ≤ count t (chip_of g n x).er = omega (arith, many) in
    let q = suc (max_seq g n x) in
    let rc = root_chip g (shape_core g shape) n x z.held free parts ok low h k i in
    let ge = subst (λ (y : Chip). Whole g n (rooted y (next_page g.pages n (ahead g n y)) (built_view g q h parts)) ×
    (map_of (rooted y (next_page g.pages n (ahead g n y)) (built_view g q h parts)) ≡ new) ×
    R8 g n (rooted y (next_page g.pages n (ahead g n y)) (built_view g q h parts)) ×
    Z (rooted y (next_page g.pages n (ahead g n y)) (built_view g q h parts))) (sym ci)
    (good q (number g n x ∙ ap (λ (y : Chip). suc (peak t y.seq)) ci)) in
    let fr = root_frees g (shape_core g shape) n x z.held free parts ok low h k i in
    let done : Keeps g n new (apply_store g (next_store g n h parts x) x) = record {
      held = root_held g (shape_core g shape) n x z.held free parts ok low h k i
          ge.0;
      r7 = inl (omega (arith, fr, many));
      r8 = subst (R8 g n) (sym rc) ge.2;
      map_is = ap map_of rc ∙ ge.1;
    } in
    record {
      init = ss;
      last = s;
      list_is = refl;
      along = r.along;
      legal = subst (Legal g n x) (sym se) (put_legal g (shape_core g shape) n x z.held free parts ok low h k);
      end = subst (Keeps g n new) (sym (all_append g ss (s ∷ []) img)) (subst (λ (u : Store). Keeps g n new (apply_store g u x)) (sym se) done);
      also = subst (λ (u : List ℕ). Z (chip_of g n u)) (sym (all_append g ss (s ∷ []) img)) (subst (λ (u : Store). Z (chip_of g n (apply_store g u x)))
          (sym se) (subst Z (sym rc) ge.3));
      programmed = let w = programs_append ss (s ∷ []) in let v = ap (λ (u : Store). programs (u ∷ [])) se in
          omega (arith, w, v, r.programmed);
      wiped = let w = erases_append ss (s ∷ []) in let v = ap (λ (u : Store). erases (u ∷ [])) se in
          omega (arith, w, v, r.wiped);
    }

-- an update after a run that keeps the map
pub updated_after : (g : Geometry) (n : ℕ) (Y Z : Chip → Type 0) → ((x : Chip) → Y x → Z x) → (old new : List Entry)
    (img : List ℕ) (ss ts : List Store) (d : Chip) (a b e f : ℕ)
    → Runs g n old img ss d a e → Updated g n Y old new (apply_all g ss img) ts b f → Updated g n Z old new img
    (ss ++ ts) (a + b) (e + f)
updated_after g n Y Z so old new img ss ts d a b e f r u = record {
  init = ss ++ u.init;
  last = u.last;
  list_is = ap (λ m. ss ++ m) u.list_is ∙ sym (append_assoc ss u.init (u.last ∷ []));
  along = along_append g n (Keeps g n old) img ss u.init r.along u.along;
  legal = subst (λ x. Legal g n x u.last) (sym (all_append g ss u.init img)) u.legal;
  end = subst (Keeps g n new) (sym (all_append g ss ts img)) u.end;
  also = subst (λ (x : List ℕ). Z (chip_of g n x)) (sym (all_append g ss ts img)) (so (chip_of g n (apply_all g ts (apply_all g ss img))) u.also);
  programmed = let w = programs_append ss ts in omega (arith, w, r.programmed, u.programmed);
  wiped = let w = erases_append ss ts in omega (arith, w, r.wiped, u.wiped);
}

-- less may be said of the chip at the end
pub updated_also : (g : Geometry) (n : ℕ) (Y Z : Chip → Type 0) → ((x : Chip) → Y x → Z x) → (old new : List Entry)
    (img : List ℕ) (ss : List Store) (b e : ℕ)
    → Updated g n Y old new img ss b e → Updated g n Z old new img ss b e
updated_also g n Y Z so old new img ss b e u = record {
  init = u.init;
  last = u.last;
  list_is = u.list_is;
  along = u.along;
  legal = u.legal;
  end = u.end;
  also = so (chip_of g n (apply_all g ss img)) u.also;
  programmed = u.programmed;
  wiped = u.wiped;
}
