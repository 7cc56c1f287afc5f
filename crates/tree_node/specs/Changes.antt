-- Laws of nodes by value, in the form in which the code has the premises. Assumes nothing.
use Rattle.std.specs.Prelude.{ℕ, zero, suc, ◌+◌, ◌-◌, ◌<◌, ◌≤◌, min, ◌≡◌, refl, List, [], ◌∷◌, ◌++◌, take, drop, length, get_or, set}
use Rattle.std.proofs.Common.{sym, ap, ◌∙◌, length-take-le, length-take, take-take, take_all, arith, add-one, ext_get_or}
use Rattle.std.specs.List.{CopiedTo, SameBelow, SameFrom}
use Rattle.std.proofs.Math.Decide.{dec_lt}
use Rattle.std.proofs.Math.ListN.{drop_of_length-le}
use Rattle.std.proofs.lemmas.List.{set_split}
use Rattle.geometry.specs.declared.Entry.{Entry}
use Rattle.model.specs.Stores.{written}
use Rattle.model.specs.Tree.{following}
use Rattle.theory_lists.specs.Written.{length_written, written_before, written_inside, written_after}
use Rattle.theory_lists.specs.Places.{insert_at, remove_at, inserted, removed, right, take_set, length_mapped}
use Rattle.tree_node.specs.declared.Node.{Node}
use Rattle.tree_node.specs.declared.Carry.{Carry}
use Rattle.tree_node.specs.declared.Carry.TheVariants.{Nothing, One, Two}
use Rattle.tree_node.specs.Node.{entries, carried, replace_by}

-- an entry to read past an array's end
abbrev pub no_entry : Entry
no_entry = record { key = 0; addr = 0 }

pub entries_length : (n : Node) → length n.e ≡ 256 → n.count ≤ 256 → length (entries n) ≡ n.count
unfolding entries
entries_length n len h = length-take-le n.count n.e (omega arith)

pub size_is : (n : Node) → length n.e ≡ 256 → n.count ≤ 256 → n.count ≡ length (entries n)
size_is n len h = sym (entries_length n len h)

pub empty_is : (n : Node) → n.count ≡ 0 → entries n ≡ []
unfolding entries
empty_is n e = rw e

first : (e : List Entry) (c : ℕ) → 0 < length e → 0 < c → (get_or e 0 no_entry).key ≡ following (take c e) 0
first [] c h g = absurd (omega arith)
first (x ∷ e) zero h g = absurd (omega arith)
first (x ∷ e) (suc c) h g = refl

pub first_none : (n : Node) → n.count ≡ 0 → 0 ≡ following (entries n) 0
first_none n e = rw (empty_is n e)

pub first_some : (n : Node) → length n.e ≡ 256 → (n.count ≡ 0 → ⊥) → (get_or n.e 0 no_entry).key ≡ following (entries n)
    0
unfolding entries
first_some n len h = first n.e n.count (omega arith) (omega arith)

pub replaced : (n : Node) (i : ℕ) (x : Entry) → entries (record { e = set n.e i x; count = n.count })
    ≡ set (entries n) i x
unfolding entries
replaced n i x = take_set n.count i x n.e

-- ---- a part of the array moved
-- what copy_within says of the array m that it leaves
abbrev pub Moved : List Entry → List Entry → ℕ → ℕ → ℕ → Type 0
Moved l m from to n = CopiedTo l m from to n × SameBelow l m to × SameFrom l m (to + n)

moved : (l m : List Entry) (from to n : ℕ) → length m ≡ length l → to + n ≤ length l
    → Moved l m from to n → m ≡ written l to (λ k. get_or l (from + k) no_entry) n
moved l m from to n e h c = ext_get_or no_entry m _ (e ∙ sym (length_written l to f n)) (λ i k. elim (dec_lt i to) [
  | yes b ↦ c.1 i no_entry b ∙ sym (written_before l to f n i no_entry b)
  | no b ↦ elim (dec_lt i (to + n)) [
    | yes g ↦
        let q : to + (i - to) ≡ i = omega arith in
        c.0 i no_entry (omega arith) g
        ∙ sym (rw q at (written_inside l to f n (i - to) no_entry h (omega arith)))
    | no g ↦ c.2 i no_entry (omega arith) ∙ sym (written_after l to f n i no_entry (omega arith))
  ]
])
  where
    f : ℕ → Entry
    f k = get_or l (from + k) no_entry

pub inserts : (n : Node) (m : List Entry) (i : ℕ) (x : Entry) → Moved n.e m i (i + 1) (n.count - i)
    → length m ≡ length n.e → length n.e ≡ 256 → i ≤ n.count → n.count < 256
    → entries (record { e = set m i x; count = n.count + 1 }) ≡ insert_at i x (entries n)
unfolding entries
inserts n m i x c e len p q =
    rw (moved n.e m i (i + 1) (n.count - i) e (omega arith) c) (inserted no_entry n.e n.count (omega arith) i x p (omega arith))

pub removes : (n : Node) (m : List Entry) (i : ℕ) → Moved n.e m (i + 1) i (n.count - (i + 1))
    → length m ≡ length n.e → length n.e ≡ 256 → i < n.count → n.count ≤ 256
    → entries (record { e = m; count = n.count - 1 }) ≡ remove_at i (entries n)
unfolding entries
removes n m i c e len p q =
    let r : n.count - (i + 1) ≡ n.count - 1 - i = omega arith in
    rw (moved n.e m (i + 1) i (n.count - (i + 1)) e (omega arith) c, r) (removed no_entry n.e n.count (omega arith) i p)

entries_few : (n : Node) (h : ℕ) → n.count ≤ h → length (entries n) ≤ h
unfolding entries
entries_few n h p = omega (arith, length-take n.count n.e)

pub lefts : (n : Node) (h : ℕ) → entries (record { e = n.e; count = min n.count h }) ≡ take h (entries n)
unfolding entries
lefts n h = elim (dec_lt h n.count) [
  | yes p ↦ let q : min n.count h ≡ h = omega arith in rw q (sym (take-take h n.count n.e (omega arith)))
  | no p ↦
      let q : min n.count h ≡ n.count = omega arith in
      rw q (sym (take_all h (take n.count n.e) (entries_few n h (omega arith))))
]

none_right : (n : Node) (h : ℕ) → n.count ≤ h → [] ≡ drop h (entries n)
none_right n h p = sym (drop_of_length-le (entries n) (entries_few n h p))

pub rights_none : (n m : Node) (h : ℕ) → entries m ≡ [] → n.count ≤ h → entries m ≡ drop h (entries n)
rights_none n m h e p = e ∙ none_right n h p

pub rights : (n : Node) (m : List Entry) (h : ℕ) → Moved n.e m h 0 (n.count - h)
    → length m ≡ length n.e → length n.e ≡ 256 → h < n.count → n.count ≤ 256
    → entries (record { e = m; count = n.count - h }) ≡ drop h (entries n)
unfolding entries
rights n m h c e len p q =
    rw (moved n.e m h 0 (n.count - h) e (omega arith) c) (right no_entry n.e n.count (omega arith) h (omega arith))

-- ---- splice
replace_none : (i : ℕ) (es : List Entry) → i < length es → remove_at i es ≡ replace_by i [] es
unfolding replace_by remove_at
replace_none i [] h = absurd (omega arith)
replace_none i (e ∷ es) h = rw add-one

replace_one : (i : ℕ) (x : Entry) (es : List Entry) → i < length es → set es i x ≡ replace_by i (x ∷ []) es
unfolding replace_by
replace_one i x [] h = refl
replace_one i x (e ∷ es) h = set_split (e ∷ es) i x h

two_places : (i : ℕ) (x y : Entry) (es : List Entry) → i < length es
    → take (suc i) (set es i x) ++ (y ∷ drop (suc i) (set es i x)) ≡ take i es ++ (x ∷ y ∷ drop (suc i) es)
two_places i x y [] h = absurd (omega arith)
two_places zero x y (e ∷ es) h = refl
two_places (suc i) x y (e ∷ es) h = ap (λ (l : List Entry). e ∷ l) (two_places i x y es (omega arith))

replace_two : (i : ℕ) (x y : Entry) (es : List Entry) → i < length es → insert_at (i + 1) y (set es i x) ≡ replace_by i
    (x ∷ y ∷ []) es
unfolding replace_by insert_at
replace_two i x y [] h = absurd (omega arith)
replace_two i x y (e ∷ es) h = rw add-one (two_places i x y (e ∷ es) h)

pub two_is : (n m r : Node) (i : ℕ) (x y : Entry) → entries r ≡ insert_at (i + 1) y (entries m)
    → entries m ≡ set (entries n) i x → i < length (entries n)
    → entries r ≡ replace_by i (x ∷ y ∷ []) (entries n)
two_is n m r i x y f e h = f ∙ rw e (replace_two i x y (entries n) h)

nil : (i : ℕ) (cs es : List Entry) → length es ≡ 0 → es ≡ replace_by i cs es
unfolding replace_by
nil i cs [] h = refl
nil i cs (e ∷ es) h = absurd (omega arith)

pub spliced_empty : (n : Node) (i k : ℕ) (c : Carry) → k ≡ length (entries n) → k ≡ 0 → entries n ≡ replace_by i
    (carried c) (entries n)
spliced_empty n i k c ek h = nil i (carried c) (entries n) (sym ek ∙ h)

pub spliced_none : (n r : Node) (i k : ℕ) (c : Carry) → entries r ≡ remove_at i (entries n) → c ≡ Nothing
    → k ≡ length (entries n) → k ≡ n.count → i ≤ n.count - 1 → (k ≡ 0 → ⊥)
    → entries r ≡ replace_by i (carried c) (entries n)
unfolding carried
spliced_none n r i k c e ec ek en h z = e ∙ rw ec (replace_none i (entries n) (omega arith))

pub spliced_one : (n r : Node) (i k : ℕ) (c : Carry) (x : Entry) → entries r ≡ set (entries n) i x → c ≡ One x
    → k ≡ length (entries n) → k ≡ n.count → i ≤ n.count - 1 → (k ≡ 0 → ⊥)
    → entries r ≡ replace_by i (carried c) (entries n)
unfolding carried
spliced_one n r i k c x e ec ek en h z = e ∙ rw ec (replace_one i x (entries n) (omega arith))

pub spliced_two : (n r : Node) (i : ℕ) (c : Carry) (x y : Entry) → entries r ≡ replace_by i (x ∷ y ∷ []) (entries n)
    → c ≡ Two x y
    → entries r ≡ replace_by i (carried c) (entries n)
unfolding carried
spliced_two n r i c x y e ec = e ∙ rw ec

pub ruleset node_laws = (length_mapped, size_is, first_none, first_some, replaced, empty_is, inserts, removes, lefts, rights, rights_none, two_is, spliced_empty, spliced_none, spliced_one, spliced_two)
