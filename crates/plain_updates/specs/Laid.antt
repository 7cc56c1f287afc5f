-- The plain tree's pages on bytes (request 12): every plan's page but the last leaves the map as it is, the last one
-- carries the root. Assumes nothing.
use Rattle.std.specs.Prelude.{◌≡◌, eqb}
use Rattle.std.proofs.Math.Path.{refl, ap, subst}
use Rattle.std.proofs.Common.{sym, ◌∙◌, eq-eqb, ne_eqb}
use mathlib.Core.List.{List, [], ◌∷◌, ◌++◌}
use Prim.Native.Nat.{ℕ, suc, ◌+◌, ◌-◌, ◌*◌, ◌<◌, ◌≤◌}
use native.Mathlib.Omega.{arith}
use Rattle.std.proofs.Math.ListN.{length}
use Rattle.geometry.specs.declared.Geometry.{Geometry}
use Rattle.geometry.specs.declared.Entry.{Entry}
use Rattle.geometry.specs.Tests.{pick}
use Rattle.geometry.specs.Shape.{Core}
use Rattle.model.specs.Count.{count, peak}
use Rattle.model.specs.Image.{Nodes, Chip, chip_of, pages_of, max_seq}
use Rattle.model.specs.Tree.{map_of}
use Rattle.model.specs.Next.{Ahead, ahead, next_page, after, onward, taken, nth}
use Rattle.model.specs.Page.{built, only}
use Rattle.model.specs.Stores.{Store, program, apply_store, apply_all, erases}
use Rattle.model.specs.Legal.{Legal}
use Rattle.model.specs.Plain.{Plan, laid}
use Rattle.theory_counts.specs.Cases.{by_eq}
use Rattle.theory_nodes.specs.Nodes.{fit_of}
use Rattle.theory_chips.specs.Next.{R2, step, nth_erased}
use Rattle.theory_chips.specs.Whole.{some_page, Whole}
use Rattle.theory_chips.specs.Pages.{side_inj, new_side}
use Rattle.theory_chips.specs.PlainPlans.{plan_at}
use Rattle.theory_images.specs.Views.{rooted, beside}
use Rattle.theory_images.specs.Page.{in_table_lem}
use Rattle.theory_images.specs.Built.{Parts, built_view}
use Rattle.theory_images.specs.Held.{Held}
use Rattle.theory_images.specs.Writes.{next_store, ahead_beside}
use Rattle.theory_images.proofs.Writes.{put_max, root_chip, root_held, side_chip, side_held, side_map}
use Rattle.theory_updates.specs.Along.{Along}
use Rattle.plain_updates.specs.Single.{Buildable}

-- what holds of every image on the way, the map being base
pub record PlainKeeps (g : Geometry) (n : ℕ) (base : List Entry) (img : List ℕ) : Type 0 where
  pub held : Held g n img
  pub map_is : map_of (chip_of g n img) ≡ base

-- pages that leave the map old, and a last one after which the map is new
pub record PlainUpdated (g : Geometry) (n : ℕ) (old new : List Entry) (img : List ℕ) (ss : List Store) : Type 0 where
  pub init : List Store
  pub last : Store
  pub list_is : ss ≡ init ++ (last ∷ [])
  pub along : Along g n (PlainKeeps g n old) img init
  pub legal : Legal g n (apply_all g init img) last
  pub end : PlainKeeps g n new (apply_all g ss img)

-- the nodes s once the first i plans stand on the pages to come
pub record Standing (g : Geometry) (n : ℕ) (c : Chip) (ps : List Plan) (i : ℕ) (s : Nodes) : Type 0 where
  pub placed : (j : ℕ) → j < i → s (nth g.pages n (ahead g n c) j) (plan_at ps j).level ≡ (plan_at ps j).list
  pub stays : (q l : ℕ) → fit_of (g.pages * n) c.er (suc l) q → s q (suc l) ≡ c.nodes q (suc l)

-- the image x after the first i plans: what comes next, the largest number, the nodes
pub record Placed (g : Geometry) (n : ℕ) (c : Chip) (seq : ℕ) (old : List Entry) (ps : List Plan)
    (i : ℕ) (x : List ℕ) : Type 0 where
  pub keeps : PlainKeeps g n old x
  pub ahead_is : ahead g n (chip_of g n x) ≡ taken g.pages n (ahead g n c) i
  pub max_is : max_seq g n x ≡ seq + i
  pub standing : Standing g n c ps i (chip_of g n x).nodes

-- the chip after m + 1 pages, the root on the last of them
abbrev pub chip_after : Geometry → ℕ → Chip → List Plan → ℕ → Nodes → (ℕ → ℕ) → Chip
chip_after g n c ps m s numbers = record {
  er = (taken g.pages n (ahead g n c) (suc m)).er;
  seq = numbers;
  nodes = s;
  level = (plan_at ps m).level - 1;
  root = nth g.pages n (ahead g n c) m;
}

-- whatever the numbers, the chip after m + 1 pages is whole, and its map is new
abbrev pub Finishes : Geometry → ℕ → Chip → List Plan → List Entry → ℕ → Type 0
Finishes g n c ps new m = (s : Nodes) (numbers : ℕ → ℕ) → Standing g n c ps (suc m) s
    → Whole g n (chip_after g n c ps m s numbers) × (map_of (chip_after g n c ps m s numbers) ≡ new)

module _ (g : Geometry) (core : Core g) (n : ℕ) (c : Chip) (r2 : R2 g.pages n c.er) (seq : ℕ) (old : List Entry)
    (ps : List Plan)
    (free : length ps ≤ count (pages_of g n) c.er) (low : seq + length ps < 4294967295)
    (fine : (j : ℕ) → j < length ps → Buildable g (plan_at ps j)) where
  abbrev t : ℕ
  t = pages_of g n

  abbrev page_of : ℕ → ℕ
  page_of i = nth g.pages n (ahead g n c) i

  abbrev At : ℕ → List ℕ → Type 0
  At = Placed g n c seq old ps

  -- the page of plan i with height byte h
  abbrev store_of : ℕ → ℕ → Store
  store_of h i = program (page_of i) (built g (seq + suc i) h (only (plan_at ps i).level (plan_at ps i).list))

  -- ---- plan i on the image x
  module _ (i : ℕ) (lt : i < length ps) (x : List ℕ) (at : At i x) where
    abbrev p : Plan
    p = plan_at ps i

    abbrev parts : ℕ → List Entry
    parts = only p.level p.list

    abbrev d : Chip
    d = chip_of g n x

    abbrev P : ℕ
    P = next_page g.pages n (ahead g n d)

    abbrev held : Held g n x
    held = at.keeps.held

    abbrev ok : Parts g parts
    ok = (fine i lt).2

    page_is : P ≡ page_of i
    page_is = ap (next_page g.pages n) at.ahead_is

    pub some_left : 1 ≤ count t d.er
    some_left =
        let z = (step g.pages n (ahead g n c) (some_page g core) r2 i (omega (arith, lt, free))).left in
        let e = ap (λ (y : Ahead). count t y.er) at.ahead_is in
        omega (arith, z, e, lt, free)

    pub low_now : suc (max_seq g n x) < 4294967295
    low_now = let z = at.max_is in omega (arith, z, low, lt)

    number_is_lem : suc (max_seq g n x) ≡ seq + suc i
    number_is_lem = let z = at.max_is in omega (arith, z)

    pub store_is : (h : ℕ) → store_of h i ≡ next_store g n h parts x
    unfolding next_store
    store_is h = ap (λ q. program q (built g (seq + suc i) h parts)) (sym page_is)
        ∙ ap (λ s. program P (built g s h parts)) (sym number_is_lem)

    number : suc (max_seq g n x) ≡ suc (peak t d.seq)
    unfolding max_seq
    number = refl

    page_in_lem : P < t
    page_in_lem = let z = (nth_erased g.pages n (ahead g n c) (some_page g core) r2 i (omega (arith, lt, free))).1 in
        omega (arith, z, page_is)

    -- the nodes with the page on P
    abbrev with_page : ℕ → Nodes
    with_page h q j = pick (eqb q P) ((built_view g (suc (max_seq g n x)) h parts).node j) (d.nodes q j)

    here : (h q : ℕ) → q ≡ page_of i → with_page h q p.level ≡ p.list
    here h q e = rw (eq-eqb q P (e ∙ sym page_is), in_table_lem g p.level (fine i lt).0 (fine i lt).1, eq-eqb p.level p.level refl) refl

    there : (h q j : ℕ) → (q ≡ page_of i → ⊥) → with_page h q j ≡ d.nodes q j
    there h q j e = rw (ne_eqb q P (λ z. e (z ∙ page_is))) refl

    more : (h : ℕ) → Standing g n c ps (suc i) (with_page h)
    more h = record {
      placed = λ j b. by_eq j i (λ e. subst (λ k. with_page h (page_of k) (plan_at ps k).level ≡ (plan_at ps k).list) (sym e) (here h (page_of i) refl))
          (λ e. there h (page_of j) (plan_at ps j).level (λ z. e (let w = side_inj g core n c r2 (length ps) free (suc j) (suc i) (omega arith)
          (omega (arith, b, lt)) (omega arith) (omega (arith, lt)) z in omega (arith, w)))
          ∙ at.standing.placed j (omega (arith, b, e)));
      stays = λ q l f. there h q (suc l) (λ z. new_side g core n c r2 (length ps) free (suc i) l (omega arith) (omega (arith, lt))
          (subst (fit_of (g.pages * n) c.er (suc l)) z f)) ∙ at.standing.stays q l f;
    }

    -- ---- not the last
    abbrev sided : List ℕ
    sided = apply_store g (next_store g n 0 parts x) x

    chip_sided : chip_of g n sided ≡ beside d P (built_view g (suc (max_seq g n x)) 0 parts)
    chip_sided = side_chip g core n x held some_left parts ok low_now 0 (omega arith) refl

    standing_sided : Standing g n c ps (suc i) (chip_of g n sided).nodes
    unfolding beside
    standing_sided = subst (λ (y : Chip). Standing g n c ps (suc i) y.nodes) (sym chip_sided) (more 0)

    at_sided : At (suc i) sided
    unfolding taken
    at_sided = record {
      keeps = record {
        held = side_held g core n x held some_left parts ok low_now 0 (omega arith) refl;
        map_is = side_map g core n x held some_left parts ok low_now 0 (omega arith) refl ∙ at.keeps.map_is;
      };
      ahead_is = ap (ahead g n) chip_sided ∙ ahead_beside g n d P (built_view g (suc (max_seq g n x)) 0 parts) page_in_lem number
          ∙ ap (λ (w : Ahead). onward (next_page g.pages n w) w) at.ahead_is;
      max_is = put_max g core n x held some_left parts ok low_now 0 (omega arith) ∙ number_is_lem;
      standing = standing_sided;
    }

    pub next_placed : At (suc i) (apply_store g (store_of 0 i) x)
    next_placed = subst (λ (s : Store). At (suc i) (apply_store g s x)) (sym (store_is 0)) at_sided

    -- ---- the last: its level is the height
    abbrev crowned : List ℕ
    crowned = apply_store g (next_store g n p.level parts x) x

    abbrev numbers_after : ℕ → ℕ
    numbers_after q = pick (eqb q P) (suc (max_seq g n x)) (d.seq q)

    chip_crowned : chip_of g n crowned ≡ rooted d P (built_view g (suc (max_seq g n x)) p.level parts)
    chip_crowned = root_chip g core n x held some_left parts ok low_now p.level (fine i lt).1 (fine i lt).0

    crowned_is : rooted d P (built_view g (suc (max_seq g n x)) p.level parts) ≡ chip_after g n c ps i
        (with_page p.level) numbers_after
    unfolding rooted taken
    crowned_is = λ k. record { er = er_is k; seq = numbers_after; nodes = with_page p.level; level = p.level - 1; root = page_is k }
      where
        er_is : after P d.er ≡ after (page_of i) (taken g.pages n (ahead g n c) i).er
        er_is = ap (λ (w : Ahead). after (next_page g.pages n w) w.er) at.ahead_is

    pub last_placed : (new : List Entry) → Finishes g n c ps new i → PlainKeeps g n new
        (apply_store g (store_of p.level i) x)
    last_placed new good =
        let w = good (with_page p.level) numbers_after (more p.level) in
        subst (λ (s : Store). PlainKeeps g n new (apply_store g s x)) (sym (store_is p.level)) (record {
          held = root_held g core n x held some_left parts ok low_now p.level (fine i lt).1 (fine i lt).0 (subst (Whole g n) (sym crowned_is) w.0);
          map_is = ap map_of (chip_crowned ∙ crowned_is) ∙ w.1;
        })

-- ---- all of them

-- before the first
pub none_placed : (g : Geometry) (n : ℕ) (img : List ℕ) (ps : List Plan) → Held g n img
    → Placed g n (chip_of g n img) (max_seq g n img) (map_of (chip_of g n img)) ps 0 img
unfolding taken
none_placed g n img ps held = record {
  keeps = record { held = held; map_is = refl };
  ahead_is = refl;
  max_is = omega arith;
  standing = record { placed = λ j b. absurd (omega (arith, b)); stays = λ q l f. refl };
}

-- a list of plans is as long as its pages
pub laid_length : (g : Geometry) (n : ℕ) (c : Chip) (seq i : ℕ) (ps : List Plan) → length (laid g n c seq i ps)
    ≡ length ps
unfolding laid
laid_length g n c seq i [] = refl
laid_length g n c seq i (x ∷ []) = refl
laid_length g n c seq i (x ∷ y ∷ ps) = ap suc (laid_length g n c seq (suc i) (y ∷ ps))

-- and erases nothing
pub laid_erases : (g : Geometry) (n : ℕ) (c : Chip) (seq i : ℕ) (ps : List Plan) → erases (laid g n c seq i ps) ≡ 0
unfolding laid erases
laid_erases g n c seq i [] = refl
laid_erases g n c seq i (x ∷ []) = refl
laid_erases g n c seq i (x ∷ y ∷ ps) = laid_erases g n c seq (suc i) (y ∷ ps)
