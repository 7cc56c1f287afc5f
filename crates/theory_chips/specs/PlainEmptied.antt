-- Which nodes of the path a deletion empties (request 12): the lowest ones; to which pages the others go does not
-- matter. Assumes nothing.
use Rattle.std.specs.Prelude.{◌≡◌, refl, Bool, true, false, eqb}
use Rattle.std.proofs.Math.Path.{ap, subst}
use Rattle.std.proofs.Common.{sym, ◌∙◌, arith, length-append}
use mathlib.Core.List.{List, [], ◌∷◌}
use Prim.Native.Nat.{ℕ, zero, suc, ◌+◌, ◌<◌, ◌≤◌}
use Rattle.std.proofs.Math.ListN.{length}
use Rattle.geometry.specs.declared.Entry.{Entry}
use Rattle.geometry.specs.Tests.{pick, bit}
use Rattle.model.specs.Count.{count}
use Rattle.model.specs.Image.{Nodes}
use Rattle.model.specs.Tree.{following, place, chosen}
use Rattle.model.specs.Edit.{swap, splice, edited, on_path, remove, remove_in, kept}
use Rattle.model.specs.Plain.{kept_on, none_left}
use Rattle.theory_counts.specs.Tally.{count_most}
use Rattle.theory_counts.specs.Cases.{by_eq, by_le}
use Rattle.theory_nodes.specs.Entries.{Rises, split}
use Rattle.theory_nodes.specs.Nodes.{Ok}
use Rattle.theory_trees.specs.Edit.{splice_length}
use Rattle.theory_trees.specs.Path.{remove_as, on_path_top, on_path_below}

-- ---- the lengths do not hang on the pages
swap_length : (f h : Entry → List Entry) (i : ℕ) (es : List Entry) → ((e : Entry) → length (f e) ≡ length (h e))
    → length (swap f i es) ≡ length (swap h i es)
swap_length f h i [] q = refl
swap_length f h zero (e ∷ es) q = length-append (f e) es ∙ ap (λ m. m + length es) (q e) ∙ sym (length-append (h e) es)
swap_length f h (suc i) (e ∷ es) q = ap suc (swap_length f h i es q)

kept_length : (n n' l : ℕ) (e : Entry) (c c' : List Entry) → length c ≡ length c'
    → length (kept n l e c) ≡ length (kept n' l e c')
kept_length n n' l e [] [] q = refl
kept_length n n' l e [] (y ∷ c') q = absurd (omega (arith, q))
kept_length n n' l e (x ∷ c) [] q = absurd (omega (arith, q))
kept_length n n' l e (x ∷ c) (y ∷ c') q = refl

edited_length : (r : Nodes) (k : ℕ) (n n' : ℕ → ℕ) (l : ℕ) (e : Entry)
    → length (edited r k (remove_in k) (kept_on n) l e) ≡ length (edited r k (remove_in k) (kept_on n') l e)
unfolding edited splice
edited_length r k n n' zero e = refl
edited_length r k n n' (suc l) e =
    let es = r e.addr (suc (suc l)) in
    swap_length (λ x. kept_on n (suc l) x (edited r k (remove_in k) (kept_on n) l x)) (λ x. kept_on n' (suc l) x (edited r k (remove_in k) (kept_on n') l x))
    (place k es) es
    (λ x. kept_length (n (suc l)) (n' (suc l)) (suc l) x (edited r k (remove_in k) (kept_on n) l x) (edited r k (remove_in k) (kept_on n') l x)
    (edited_length r k n n' l x))

pub path_length : (r : Nodes) (k : ℕ) (n n' : ℕ → ℕ) (l : ℕ) (e : Entry) (j : ℕ)
    → length (on_path r k (remove_in k) (kept_on n) l e j) ≡ length (on_path r k (remove_in k) (kept_on n') l e j)
unfolding on_path
path_length r k n n' zero e j = go (eqb j 1)
  where
    go : (t : Bool) → length (pick t (edited r k (remove_in k) (kept_on n) zero e) [])
        ≡ length (pick t (edited r k (remove_in k) (kept_on n') zero e) [])
    go true = edited_length r k n n' zero e
    go false = refl
path_length r k n n' (suc l) e j = go (eqb j (suc (suc l))) (path_length r k n n' l (chosen k (r e.addr (suc (suc l)))) j)
  where
    go : (t : Bool)
        → length (on_path r k (remove_in k) (kept_on n) l (chosen k (r e.addr (suc (suc l)))) j)
        ≡ length (on_path r k (remove_in k) (kept_on n') l (chosen k (r e.addr (suc (suc l)))) j)
        → length (pick t (edited r k (remove_in k) (kept_on n) (suc l) e) (on_path r k (remove_in k) (kept_on n) l
        (chosen k (r e.addr (suc (suc l)))) j))
        ≡ length (pick t (edited r k (remove_in k) (kept_on n') (suc l) e) (on_path r k (remove_in k) (kept_on n') l
        (chosen k (r e.addr (suc (suc l)))) j))
    go true i = edited_length r k n n' (suc l) e
    go false i = i

pub none_same : (c c' : List Entry) → length c ≡ length c' → none_left c ≡ none_left c'
none_same [] [] q = refl
none_same [] (y ∷ c') q = absurd (omega (arith, q))
none_same (x ∷ c) [] q = absurd (omega (arith, q))
none_same (x ∷ c) (y ∷ c') q = refl

pub some_left : (c : List Entry) → 1 ≤ length c → none_left c ≡ false
some_left [] h = absurd (omega (arith, h))
some_left (x ∷ c) h = refl

pub left_some : (c : List Entry) → none_left c ≡ false → 1 ≤ length c
left_some [] h = absurd (omega (arith, ap bit h))
left_some (x ∷ c) h = omega arith

-- nothing passes from m on
pub count_tail : (m p : ℕ) (f : ℕ → Bool) → ((i : ℕ) → m ≤ i → i < p → f i ≡ false) → count p f ≤ m
unfolding count
count_tail m zero f h = omega arith
count_tail m (suc p) f h = by_le (suc p) m (λ z. let w = count_most f (suc p) in omega (arith, w, z))
    (λ z. let w = count_tail m p f (λ i a b. h i a (omega (arith, b))) in let e =
    ap bit (h p (omega (arith, z)) (omega arith)) in omega (arith, w, e))

-- all below m pass
pub count_head : (m p : ℕ) (f : ℕ → Bool) → m ≤ p → ((i : ℕ) → i < m → f i ≡ true) → m ≤ count p f
unfolding count
count_head m zero f b h = omega (arith, b)
count_head m (suc p) f b h = by_le m p (λ z. let w = count_head m p f z h in omega (arith, w))
    (λ z. let w = count_head p p f (omega arith) (λ i d. h i (omega (arith, d, z))) in let e = ap bit (h p z) in
    omega (arith, w, e, b))

-- ---- the emptied nodes are the lowest
module _ (fit : ℕ → ℕ → Type 0) (room : ℕ → ℕ) (r : Nodes) (k : ℕ) (n : ℕ → ℕ) where
  abbrev lists : ℕ → Entry → ℕ → List Entry
  lists = on_path r k (remove_in k) (kept_on n)

  kept_one : (m l : ℕ) (e : Entry) (c : List Entry) → 1 ≤ length c → length (kept m l e c) ≡ 1
  kept_one m l e [] h = absurd (omega (arith, h))
  kept_one m l e (x ∷ c) h = refl

  below : (l j : ℕ) (e : Entry) → j ≤ suc l → lists (suc l) e j ≡ lists l (chosen k (r e.addr (suc (suc l)))) j
  below = on_path_below fit room r k (remove_in k) (λ e. remove k (e ∷ [])) (kept_on n) (remove_as k)

  top : (l : ℕ) (e : Entry) → lists l e (suc l) ≡ edited r k (remove_in k) (kept_on n) l e
  top = on_path_top fit room r k (remove_in k) (λ e. remove k (e ∷ [])) (kept_on n) (remove_as k)

  -- a node above one that is left keeps its length
  pub above_left : (l hi : ℕ) (e : Entry) → k < hi → (1 ≤ l → 0 < length (r e.addr (suc l)))
      → Rises (Ok fit room r l) hi (r e.addr (suc l))
      → (j : ℕ) → 1 ≤ j → j ≤ l → 1 ≤ length (lists l e j) → length (lists l e (suc l)) ≡ length (r e.addr (suc l))
  unfolding Ok edited
  above_left zero hi e q c h j b d s = absurd (omega (arith, b, d))
  above_left (suc l) hi e q c h j b d s =
      let es = r e.addr (suc (suc l)) in
      let x = chosen k es in
      let sp = split (Ok fit room r (suc l)) k hi es (c (omega arith)) q h in
      let o = sp.here in
      let s' : 1 ≤ length (lists l x j) = subst (λ (m : List Entry). 1 ≤ length m) (below l j e d) s in
      let i : 1 ≤ length (lists l x (suc l)) = by_eq j (suc l) (λ z. subst (λ m. 1 ≤ length (lists l x m)) z s')
      (λ z. let w = above_left l (following sp.post hi) x sp.under (λ _. o.1) o.4 j b (omega (arith, d, z)) s' in
      omega (arith, w, o.1)) in
      let one = kept_one (n (suc l)) (suc l) x (edited r k (remove_in k) (kept_on n) l x) (subst (λ (m : List Entry). 1 ≤ length m) (top l x) i) in
      let w = splice_length (Ok fit room r (suc l)) (λ x. kept_on n (suc l) x (edited r k (remove_in k) (kept_on n) l x)) k hi es (c (omega arith)) q h in
      ap length (top (suc l) e) ∙ (let v : length (edited r k (remove_in k) (kept_on n) (suc l) e) ≡ length es =
      omega (arith, w, one) in v)

  -- where a node is left, so are those above it
  pub left_above : (l hi : ℕ) (e : Entry) → k < hi → (1 ≤ l → 0 < length (r e.addr (suc l)))
      → Rises (Ok fit room r l) hi (r e.addr (suc l))
      → (i j : ℕ) → 1 ≤ j → j ≤ i → i ≤ l → 1 ≤ length (lists l e j) → 1 ≤ length (lists l e i)
  unfolding Ok
  left_above zero hi e q c h i j b d u s = absurd (omega (arith, b, d, u))
  left_above (suc l) hi e q c h i j b d u s =
      let es = r e.addr (suc (suc l)) in
      let x = chosen k es in
      let sp = split (Ok fit room r (suc l)) k hi es (c (omega arith)) q h in
      let o = sp.here in
      let s' : 1 ≤ length (lists l x j) = subst (λ (m : List Entry). 1 ≤ length m) (below l j e (omega (arith, d, u))) s in
      subst (λ (m : List Entry). 1 ≤ length m) (sym (below l i e u)) (by_eq i j (λ z. subst (λ m. 1 ≤ length (lists l x m)) (sym z) s')
      (λ z. by_eq i (suc l)
      (λ y. let w = above_left l (following sp.post hi) x sp.under (λ _. o.1) o.4 j b (omega (arith, d, z, y)) s' in
      subst (λ m. 1 ≤ length (lists l x m)) (sym y) (omega (arith, w, o.1)))
      (λ y. left_above l (following sp.post hi) x sp.under (λ _. o.1) o.4 i j b d (omega (arith, u, y)) s')))
