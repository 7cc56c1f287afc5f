-- Laws of insert's own stores, in the form in which the code has the premises. Assumes nothing.
use Prim.Native.Nat.{ℕ, zero, suc, ◌+◌, ◌-◌, ◌<◌, ◌≤◌, max, min}
use Rattle.std.specs.Prelude.{Bool, ◌≡◌, take, get_or, length}
use Rattle.std.proofs.Math.Bool.{true, false}
use Rattle.std.proofs.Math.Path.{refl, sym}
use Rattle.std.proofs.Common.{ap, ◌∙◌, arith, add-one, sub-one}
use mathlib.Core.List.{List, [], ◌∷◌, ◌++◌}
use Rattle.std.proofs.Math.Dec.{eqb}
use borrow.Author.Tests.{le-leb, lt-leb, ne_eqb}
use Rattle.geometry.specs.declared.Geometry.{Geometry}
use Rattle.geometry.specs.declared.Entry.{Entry}
use Rattle.geometry.specs.Geometry.{page_bytes}
use Rattle.geometry.specs.Tests.{pick}
use Rattle.geometry.specs.Bounds.{four_bytes, longest_page}
use Rattle.model.specs.Bytes.{erased}
use Rattle.model.specs.Image.{pages_of}
use Rattle.model.specs.Page.{sealed, built}
use Rattle.model.specs.Stores.{Store, program}
use Rattle.model.specs.Update.{fills, crown_part, crown_height}
use Rattle.tree_node.specs.Node.{entries}
use Rattle.chip_page.specs.Page.{blanks, laid_level, laid, bare}
use Rattle.chip_page.specs.Levels.{laid_more, laid_agree, page_is}
use Rattle.chip_store.specs.declared.Budget.{Budget}
use Rattle.chip_store.specs.Run.{Ran}
use Rattle.chip_store.specs.Runs.{ran_then}
use Rattle.tree_split.specs.declared.Change.TheVariants.{Put}
use Rattle.tree_split.specs.declared.Job.{Job}
use Rattle.tree_split.specs.Step.{side_of}
use Rattle.tree_path.specs.declared.Changed.{Changed}
use Rattle.tree_path.specs.Edit.{changed, parts_of, Changes}
use Rattle.tree_root.specs.declared.Summit.{Summit}
use Rattle.tree_root.specs.Crown.{top_part, Crowned}
use Rattle.tree_root.specs.Owns.{Owns}
use Rattle.chip_next.specs.Coming.{Coming}
use Rattle.open_record.specs.declared.Opened.{Opened}
use Rattle.live_beside.specs.Beside.{page_by}
use Rattle.live_beside.specs.Update.{side_by}
use Rattle.tree_insert.specs.Own.{crown_parts, stores_by, top_by, Climbs, sides_on, Puts}

append_two : (xs ys zs : List Store) → (xs ++ ys) ++ zs ≡ xs ++ (ys ++ zs)
append_two [] ys zs = refl
append_two (x ∷ xs) ys zs = ap (λ (l : List Store). x ∷ l) (append_two xs ys zs)

-- ---- the levels of page N
module _ (g : Geometry) (j : Job) (i : List ℕ) (l : ℕ) (e : Entry) where
  lower : (m : ℕ) → m ≤ l → parts_of g j i l e m ≡ crown_parts g j i l e m
  unfolding crown_parts
  lower m h = rw (le-leb m l h)

  upper : (m : ℕ) → l < m → top_part g j (suc l) (changed g j i l e) m ≡ crown_parts g j i l e m
  unfolding crown_parts
  upper m h = rw (lt-leb m l h)

  pub no_more : (m : ℕ) → suc (suc l) < m → crown_parts g j i l e m ≡ []
  unfolding top_part crown_part
  no_more m h =
      let a : eqb m (suc l) ≡ false = ne_eqb m (suc l) (λ q. let z : m ≡ suc l = q in absurd (omega arith)) in
      let b : eqb m (suc (suc l)) ≡ false = ne_eqb m (suc (suc l)) (λ q. let z : m ≡ suc (suc l) = q in
      absurd (omega arith)) in
      sym (upper m (omega arith)) ∙ rw (a, b) (neither (fills g (suc l) (length (changed g j i l e))))
    where
      neither : (t : Bool) → pick {A = List Entry} t [] [] ≡ []
      neither true = refl
      neither false = refl

  laid_up : (p : List ℕ) → laid_level g (laid_level g (laid g (parts_of g j i l e) l p) (suc l)
      (top_part g j (suc l) (changed g j i l e) (suc l))) (suc (suc l)) (top_part g j (suc l) (changed g j i l e) (suc (suc l)))
      ≡ laid g (crown_parts g j i l e) (suc (suc l)) p
  laid_up p =
      rw (
        laid_agree g (parts_of g j i l e) (crown_parts g j i l e) l p (λ m a h. lower m h),
        upper (suc l) (omega arith),
        upper (suc (suc l)) (omega arith),
        laid_more g (crown_parts g j i l e) l p,
      )
      (laid_more g (crown_parts g j i l e) (suc l) p)

some_height : (g : Geometry) (l : ℕ) (c : List Entry) → 1 ≤ crown_height g (suc l) c
unfolding crown_height
some_height g l c = go (fills g (suc l) (length c))
  where
    go : (t : Bool) → 1 ≤ pick t (suc (suc l)) (suc l)
    go true = omega arith
    go false = omega arith

pub climbs : (g : Geometry) (j : Job) (l : ℕ) (e : Entry) (b : Budget) (u : Changed) (r : Summit) (i h o p d q : List ℕ)
    → Crowned g j (l + 1) (entries u.node) u.budget r h o d q → Changes g j l e b u i h p d
    → Climbs g j l e b r i o p q
climbs g j l e b u r i h o p d q cr ch =
    let s : l + 1 ≡ suc l = add-one l in
    record {
      page = cr.page ∙ rw (s, ch.node, ch.page) (laid_up g j i l e p);
      height = cr.height ∙ rw (s, ch.node);
      some = rw (cr.height, s) (some_height g l (entries u.node));
      ran = ran_then g _ _ _ _ _ _ _ _ ch.ran (rw (s, ch.node) at cr.ran);
    }

pub inserts : (g : Geometry) (j : Job) (l : ℕ) (e : Entry) (b r : Budget) (w : Summit) (last : ℕ) (i h o p q : List ℕ)
    → Ran g (program j.page (take (page_bytes g) (sealed g (bare g (l + 2) (g.top - (l + 2)) q) last w.height)) ∷
    []) w.budget r h o
    → Climbs g j l e b w i h p q → p ≡ blanks longest_page → page_bytes g ≤ longest_page
    → Owns g (stores_by g j i last l e) (top_by g j i l e) b
    (record { budget = r; page = j.page; level = w.height - 1 }) i o
unfolding stores_by
inserts g j l e b r w last i h o p q run c ep le =
    let s : l + 2 ≡ suc (suc l) = omega arith in
    let bytes : take (page_bytes g) (sealed g (bare g (l + 2) (g.top - (l + 2)) q) last w.height) ≡ built g last
    (crown_height g (suc l) (changed g j i l e)) (crown_parts g j i l e) =
    rw (s, c.page, c.height) (page_is g (crown_parts g j i l e) (suc (suc l)) last
    (crown_height g (suc l) (changed g j i l e)) p _ refl ep le (no_more g j i l e)) in
    record {
      ran = rw (← append_two) (ran_then g _ _ _ _ _ _ _ _ c.ran (rw bytes at run));
      crest = rw c.height;
    }

-- the page of a level, by the pages to come
side_is : (page : ℕ → ℕ) (x : ℕ) → 1 ≤ x → page (x - 1) ≡ side_by page x
side_is page zero h = absurd (omega arith)
side_is page (suc x) h = rw sub-one

pub puts : (g : Geometry) (n : ℕ) (i : List ℕ) (o : Opened) (m k a : ℕ) (ps : List ℕ) (c x y z w l : ℕ)
    → Coming g.pages n (erased g i) w c ps → w ≡ min (pages_of g n) o.next
    → c ≡ max x (y + 1) → x ≡ m → y ≡ l → z ≡ o.most → z < four_bytes → 1 ≤ m
    → Puts (sides_on g n i o) o.most l m k a
    (record { key = k; page = get_or ps (x - 1) 0; seq = z; sides = ps; change = Put a })
unfolding side_of sides_on
puts g n i o m k a ps c x y z w l cm ew ec ex ey ez low h = record {
  key = refl;
  change = refl;
  number = ez;
  small = low;
  page = cm.at (x - 1) (omega arith) ∙ rw (ex, ew) (side_is (page_by g n i o) m h);
  sides = λ v lo hi. cm.at (v - 1) (omega arith) ∙ rw ew (side_is (page_by g n i o) v lo);
}

pub ruleset insertion_laws = (climbs, inserts, puts)
