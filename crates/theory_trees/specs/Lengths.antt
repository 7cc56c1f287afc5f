-- The edited nodes of a path: what holds of every entry, and how long they are. Assumes nothing.
use Rattle.std.specs.Prelude.{◌≡◌, List, [], ◌∷◌, Bool, length, take, drop, eqb}
use Rattle.std.proofs.Math.Path.{refl}
use Rattle.std.proofs.Math.Bool.{true, false}
use Prim.Native.Nat.{ℕ, zero, suc, ◌+◌, ◌<◌, ◌≤◌}
use Rattle.std.proofs.Common.{arith, length-append, eq-eqb, ne_eqb}
use Rattle.geometry.specs.declared.Entry.{Entry}
use Rattle.geometry.specs.Tests.{pick}
use Rattle.model.specs.Image.{Nodes}
use Rattle.model.specs.Tree.{following, entry_of, place, chosen}
use Rattle.model.specs.Edit.{swap, splice, edited, on_path}
use Rattle.model.specs.Halving.{place_is}
use Rattle.theory_counts.specs.Cases.{by_eq}
use Rattle.theory_lists.specs.All.{All, all_append}
use Rattle.theory_nodes.specs.Entries.{Rises}
use Rattle.theory_nodes.specs.Nodes.{Ok}

swap_all : (P : Entry → Type 0) (f : Entry → List Entry) (i : ℕ) (es : List Entry) → ((e : Entry) → P e → All P (f e))
    → All P es → All P (swap f i es)
swap_all P f i [] h a = tt
swap_all P f zero (e ∷ es) h a = all_append P (f e) es (h e a.0) a.1
swap_all P f (suc i) (e ∷ es) h a = (a.0, swap_all P f i es h a.1)

pub splice_all : (P : Entry → Type 0) (f : Entry → List Entry) (k : ℕ) (es : List Entry)
    → ((e : Entry) → P e → All P (f e)) → All P es
    → All P (splice f k es)
unfolding splice
splice_all P f k es h a = swap_all P f (place k es) es h a

swap_most : (f : Entry → List Entry) (i d : ℕ) (es : List Entry) → ((e : Entry) → length (f e) ≤ suc d)
    → length (swap f i es) ≤ length es + d
swap_most f i d [] h = omega arith
swap_most f zero d (e ∷ es) h = let w = length-append (f e) es in omega (arith, w, h e)
swap_most f (suc i) d (e ∷ es) h = let w = swap_most f i d es h in omega (arith, w)

pub splice_most : (f : Entry → List Entry) (k d : ℕ) (es : List Entry) → ((e : Entry) → length (f e) ≤ suc d)
    → length (splice f k es) ≤ length es + d
unfolding splice
splice_most f k d es h = swap_most f (place k es) d es h

pub all_take : (P : Entry → Type 0) (m : ℕ) (es : List Entry) → All P es → All P (take m es)
all_take P zero es h = tt
all_take P (suc m) [] h = tt
all_take P (suc m) (e ∷ es) h = (h.0, all_take P m es h.1)

pub all_drop : (P : Entry → Type 0) (m : ℕ) (es : List Entry) → All P es → All P (drop m es)
all_drop P zero es h = h
all_drop P (suc m) [] h = tt
all_drop P (suc m) (e ∷ es) h = all_drop P m es h.1

entry_ok : (P : ℕ → Entry → Type 0) (i hi : ℕ) (es : List Entry) → i < length es → Rises P hi es → (y : ℕ) ×
    P y (entry_of es i)
entry_ok P i hi [] n h = absurd (omega arith)
entry_ok P zero hi (e ∷ es) n h = (following es hi, h.1)
entry_ok P (suc i) hi (e ∷ es) n h = entry_ok P i hi es (omega arith) h.2

chosen_ok : (P : ℕ → Entry → Type 0) (k hi : ℕ) (es : List Entry) → 1 ≤ length es → Rises P hi es → (y : ℕ) ×
    P y (chosen k es)
unfolding chosen
chosen_ok P k hi es n h = entry_ok P (place k es) hi es (place_is k es n).inside h

module _ (r : Nodes) (k : ℕ) (leaf : List Entry → List Entry) (name : ℕ → Entry → List Entry → List Entry) where
  -- what holds of all entries of the nodes holds of the edited ones
  module _ (P : Entry → Type 0) (leaf-all : (es : List Entry) → All P es → All P (leaf es))
      (name-all : (l : ℕ) (e : Entry) (c : List Entry) → P e → All P c → All P (name l e c))
      (all : (q l : ℕ) → All P (r q l)) where
    edited_all : (l : ℕ) (e : Entry) → All P (edited r k leaf name l e)
    unfolding edited
    edited_all zero e = leaf-all (r e.addr 1) (all e.addr 1)
    edited_all (suc l) e = splice_all P (λ x. name (suc l) x (edited r k leaf name l x)) k (r e.addr (suc (suc l)))
        (λ x p. name-all (suc l) x (edited r k leaf name l x) p (edited_all l x)) (all e.addr (suc (suc l)))

    pub path_all : (l : ℕ) (e : Entry) (j : ℕ) → All P (on_path r k leaf name l e j)
    unfolding on_path
    path_all zero e j = go (eqb j 1)
      where
        go : (t : Bool) → All P (pick t (edited r k leaf name zero e) [])
        go true = edited_all zero e
        go false = tt
    path_all (suc l) e j = go (eqb j (suc (suc l))) (path_all l (chosen k (r e.addr (suc (suc l)))) j)
      where
        go : (t : Bool) → All P (on_path r k leaf name l (chosen k (r e.addr (suc (suc l)))) j)
            → All P (pick t (edited r k leaf name (suc l) e)
            (on_path r k leaf name l (chosen k (r e.addr (suc (suc l)))) j))
        go true i = edited_all (suc l) e
        go false i = i

  -- at most d entries more
  module _ (d : ℕ) (leaf-most : (es : List Entry) → length (leaf es) ≤ length es + d)
      (name-most : (l : ℕ) (e : Entry) (c : List Entry) → length (name l e c) ≤ suc d) where
    edited_most : (l : ℕ) (e : Entry) → length (edited r k leaf name l e) ≤ length (r e.addr (suc l)) + d
    unfolding edited
    edited_most zero e = leaf-most (r e.addr 1)
    edited_most (suc l) e = splice_most (λ x. name (suc l) x (edited r k leaf name l x)) k d (r e.addr (suc (suc l)))
        (λ x. name-most (suc l) x (edited r k leaf name l x))

    -- at the top of the path
    pub path_top : (l : ℕ) (e : Entry) → length (on_path r k leaf name l e (suc l)) ≤ length (r e.addr (suc l)) + d
    unfolding on_path
    path_top zero e = edited_most zero e
    path_top (suc l) e = rw (eq-eqb (suc (suc l)) (suc (suc l)) refl) (edited_most (suc l) e)

    -- below it
    pub path_most : (fit : ℕ → ℕ → Type 0) (room : ℕ → ℕ) (l hi : ℕ) (e : Entry)
        → (1 ≤ l → 0 < length (r e.addr (suc l)))
        → Rises (Ok fit room r l) hi (r e.addr (suc l)) → (j : ℕ) → 1 ≤ j → j ≤ l
        → length (on_path r k leaf name l e j) ≤ room j + d
    unfolding on_path Ok
    path_most fit room zero hi e c h j a b = absurd (omega arith)
    path_most fit room (suc l) hi e c h j a b =
        let o = chosen_ok (Ok fit room r (suc l)) k hi (r e.addr (suc (suc l))) (c (omega arith)) h in
        let x = chosen k (r e.addr (suc (suc l))) in
        rw (ne_eqb j (suc (suc l)) (λ z. omega arith)) (by_eq j (suc l) (λ z. rw z (let w = path_top l x in
        omega (arith, w, o.1.2)))
        (λ z. path_most fit room l o.0 x (λ _. o.1.1) o.1.4 j a (omega arith)))

  -- nothing at level 0 nor above the root
  pub path_none : (l : ℕ) (e : Entry) (j : ℕ) → (1 ≤ j → suc l < j) → on_path r k leaf name l e j ≡ []
  unfolding on_path
  path_none zero e j h = rw (ne_eqb j 1 (λ z. let w = h (omega (arith, z)) in omega (arith, w, z))) refl
  path_none (suc l) e j h = rw (ne_eqb j (suc (suc l)) (λ z. let w = h (omega (arith, z)) in omega (arith, w, z)))
      (path_none l (chosen k (r e.addr (suc (suc l)))) j (λ i. let w = h i in omega (arith, w)))
