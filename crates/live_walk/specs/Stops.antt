-- A walk that stops after so many nodes, whatever it does at each of them: laws in the form in which the code has the
-- premises. Assumes nothing.
use Prim.Native.Nat.{ℕ, zero, suc, ◌+◌, ◌-◌, ◌*◌, ◌<◌, ◌≤◌, min}
use Rattle.std.specs.Prelude.{◌≡◌, length, take}
use Rattle.std.proofs.Math.Path.{refl, sym}
use Rattle.std.proofs.Common.{ap, ◌∙◌, length-append, sub-one, add-one}
use mathlib.Core.List.{List, [], ◌∷◌, ◌++◌}
use Rattle.std.proofs.Math.Seq.{take-nil}
use native.Mathlib.Omega.{arith}
use Rattle.geometry.specs.declared.Geometry.{Geometry}
use Rattle.model.specs.Bytes.{u32_at, node_place, node_count, node_at}
use Rattle.model.specs.Tree.{Place, places, places_of}
use Rattle.chip_read.specs.Chip.{naming, chip_with}
use Rattle.live_walk.specs.Table.{note_one, note_all, rest}
use Rattle.theory_counts.specs.Least.{by_lt}
use Rattle.live_walk.specs.Walking.{rest_leaf, rest_start, rest_turn, rest_end, note_nil, note_cons, walk_same}

-- `all` does `one` at each place of a list, in order
pub record Steps (all : List Place → List ℕ → List ℕ) (one : List ℕ → ℕ → ℕ → List ℕ) : Type 0 where
  pub none : (t : List ℕ) → all [] t ≡ t
  pub more : (x : Place) (xs : List Place) (t : List ℕ) → all (x ∷ xs) t ≡ all xs (one t x.page x.level)

-- the node at level l of page p and what it reaches, the first `left` nodes: t before, u after, r what is left then
pub record Walked (all : List Place → List ℕ → List ℕ) (g : Geometry) (img : List ℕ)
    (l p left r : ℕ) (t u : List ℕ) : Type 0 where
  pub done : u ≡ all (take left (places (node_at g img) l (naming p))) t
  pub spared : r ≡ left - length (places (node_at g img) l (naming p))

-- the loop over the n entries from byte `at`: left₀ and t₀ at its start, left and t after i of them
pub record Going (all : List Place → List ℕ → List ℕ) (g : Geometry) (img : List ℕ) (l at n left₀ : ℕ) (t₀ : List ℕ)
    (i left : ℕ) (t : List ℕ) : Type 0 where
  pub done : all (take left₀ (rest g img l at n 0)) t₀ ≡ all (take left (rest g img l at n i)) t
  pub spared : left₀ - length (rest g img l at n 0) ≡ left - length (rest g img l at n i)

-- the leaves that the first k entries from byte `at` name
unfoldable pub leaves_at : List ℕ → ℕ → ℕ → List Place
leaves_at img at zero = []
leaves_at img at (suc k) = leaves_at img at k ++ record { page = u32_at img (at + 8 * k + 4); level = 1 } ∷ []

pub take_append : {A : Type 0} (n : ℕ) (xs ys : List A) → take n (xs ++ ys) ≡ take n xs ++ take (n - length xs) ys
take_append n [] ys = (let w : n - 0 ≡ n = omega arith in rw (w, take-nil n))
take_append zero (x ∷ xs) ys = (let w : 0 - suc (length xs) ≡ 0 = omega arith in rw w)
take_append (suc n) (x ∷ xs) ys =
    let w : suc n - suc (length xs) ≡ n - length xs = omega arith in
    rw w (ap (λ m. x ∷ m) (take_append n xs ys))

pub take_first : {A : Type 0} (n : ℕ) (x : A) (xs : List A) → (n ≡ 0 → ⊥) → take n (x ∷ xs) ≡ x ∷ take (n - 1) xs
take_first zero x xs h = absurd (h refl)
take_first (suc n) x xs h = rw sub-one

module _ (all : List Place → List ℕ → List ℕ) (one : List ℕ → ℕ → ℕ → List ℕ) (s : Steps all one) where
  all_append : (xs ys : List Place) (t : List ℕ) → all (xs ++ ys) t ≡ all ys (all xs t)
  all_append [] ys t = ap (all ys) (sym (s.none t))
  all_append (x ∷ xs) ys t =
      s.more x (xs ++ ys) t ∙ all_append xs ys (one t x.page x.level) ∙ ap (all ys) (sym (s.more x xs t))

  module _ (g : Geometry) (img : List ℕ) (l p left : ℕ) (t : List ℕ) where
    pub walked_none : l ≡ 0 → Walked all g img l p left left t t
    unfolding places
    walked_none e = rw e (record { done = sym (rw take-nil (s.none t)); spared = omega arith })

    pub walked_out : left ≡ 0 → Walked all g img l p left 0 t t
    walked_out e = record { done = sym (rw e (s.none t)); spared = omega arith }

    pub walked_leaf : (u : List ℕ) → u ≡ one t p l → l ≡ 1 → (left ≡ 0 → ⊥) → Walked all g img l p left (left - 1) t u
    walked_leaf u eu e h =
        let x : Place = record { page = p; level = l } in
        let z = rest_leaf g img l p e in
        record {
          done = eu ∙ sym (rw (z, take_first left x [] h, take-nil) (s.more x [] t ∙ s.none (one t p l)));
          spared = rw z refl;
        }

    -- the loop ends where nothing more is done
    walked_by : (at n i left' : ℕ) (u w : List ℕ) → at ≡ node_place g p l → n ≡ node_count g img p l → u ≡ one t p l
        → Going all g img l at n (left - 1) u i left' w → (l ≡ 0 → ⊥) → (left ≡ 0 → ⊥)
        → take left' (rest g img l at n i) ≡ [] → left' - length (rest g img l at n i) ≡ left'
        → Walked all g img l p left left' t w
    walked_by at n i left' u w ea en eu x some more nothing none-less =
        let y : Place = record { page = p; level = l } in
        let below = rest g img l at n 0 in
        let d = x.done in
        let k = x.spared in
        let last : all (take left' (rest g img l at n i)) w ≡ w = rw nothing (s.none w) in
        let few : left' ≡ left - 1 - length below = sym (k ∙ none-less) in
        let first = rest_start g img l p at n ea en some in
        record {
          done = sym (rw (first, take_first left y below more) (s.more y (take (left - 1) below) t
              ∙ ap (all (take (left - 1) below)) (sym eu) ∙ d ∙ last));
          spared = few ∙ rw first (omega arith);
        }

    pub walked_end : (at n i left' : ℕ) (u w : List ℕ) → at ≡ node_place g p l → n ≡ node_count g img p l → u ≡ one t p l
        → Going all g img l at n (left - 1) u i left' w → n ≤ i → (l ≡ 0 → ⊥) → (left ≡ 0 → ⊥)
        → Walked all g img l p left left' t w
    walked_end at n i left' u w ea en eu x h some more =
        let z = rest_end g img l at n i h in
        walked_by at n i left' u w ea en eu x some more (rw (z, take-nil) refl) (rw z (omega arith))

  pub going_turn : (g : Geometry) (img : List ℕ) (l at n left₀ : ℕ) (t₀ : List ℕ) (i left : ℕ) (t : List ℕ)
      (a r : ℕ) (u : List ℕ)
      → Going all g img l at n left₀ t₀ i left t → a ≡ u32_at img (at + 8 * i + 4) → Walked all g img
      (l - 1) a left r t u → i < n
      → Going all g img l at n left₀ t₀ (i + 1) r u
  going_turn g img l at n left₀ t₀ i left t a r u x ea y h =
      let front = places (node_at g img) (l - 1) (naming a) in
      let back = rest g img l at n (i + 1) in
      let e : rest g img l at n i ≡ front ++ back = rw ea (rest_turn g img l at n i h) in
      record {
        done = x.done ∙ ap (λ (xs : List Place). all (take left xs) t) e
            ∙ ap (λ (xs : List Place). all xs t) (take_append left front back)
            ∙ all_append (take left front) (take (left - length front) back) t
            ∙ rw (← y.spared, ← y.done) refl;
        spared = x.spared ∙ ap (λ (xs : List Place). left - length xs) e ∙ (let q = length-append front back in let z =
            y.spared in omega (arith, q, z));
      }

  -- the loop over leaves
  leaves_more : (img : List ℕ) (at i : ℕ) (t : List ℕ) → all (leaves_at img at (suc i)) t
      ≡ one (all (leaves_at img at i) t) (u32_at img (at + 8 * i + 4)) 1
  unfolding leaves_at
  leaves_more img at i t =
      let x : Place = record { page = u32_at img (at + 8 * i + 4); level = 1 } in
      let u = all (leaves_at img at i) t in
      all_append (leaves_at img at i) (x ∷ []) t ∙ s.more x [] u ∙ s.none (one u x.page 1)

  pub leaves_start : (img : List ℕ) (at : ℕ) (t : List ℕ) → t ≡ all (leaves_at img at 0) t
  unfolding leaves_at
  leaves_start img at t = sym (s.none t)

  pub leaves_go : (img : List ℕ) (at i a : ℕ) (t u w : List ℕ) → u ≡ all (leaves_at img at i) t
      → a ≡ u32_at img (at + 8 * i + 4) → w ≡ one u a 1
      → w ≡ all (leaves_at img at (i + 1)) t
  leaves_go img at i a t u w eu ea ew = ew ∙ rw (ea, eu) (sym (rw add-one (leaves_more img at i t)))

  leaves_going : (g : Geometry) (img : List ℕ) (at n left : ℕ) (t : List ℕ) (k : ℕ) → k ≤ n → k ≤ left
      → Going all g img 2 at n left t k (left - k) (all (leaves_at img at k) t)
  unfolding leaves_at
  leaves_going g img at n left t zero h j =
      let w : left - 0 ≡ left = omega arith in
      rw (w, s.none t) (record { done = refl; spared = refl })
  leaves_going g img at n left t (suc k) h j =
      let a = u32_at img (at + 8 * k + 4) in
      let before = leaves_going g img at n left t k (omega arith) (omega arith) in
      let u = all (leaves_at img at k) t in
      let w = all (leaves_at img at (suc k)) t in
      let e : w ≡ one u a 1 = leaves_more img at k t in
      let one_leaf = walked_leaf g img 1 a (left - k) u w e refl (omega arith) in
      let fewer : left - k - 1 ≡ left - suc k = omega arith in
      rw (← fewer, ← (add-one k)) (going_turn g img 2 at n left t k (left - k) u a (left - k - 1) w before refl one_leaf (omega arith))

  pub walked_leaves : (g : Geometry) (img : List ℕ) (p left at n k : ℕ) (t u w : List ℕ) → at ≡ node_place g p 2
      → n ≡ node_count g img p 2 → u ≡ one t p 2
      → k ≡ min n (left - 1) → w ≡ all (leaves_at img at k) u → (left ≡ 0 → ⊥) → Walked all g img 2 p left
      (left - 1 - k) t w
  walked_leaves g img p left at n k t u w ea en eu ek ew more =
      let x : Going all g img 2 at n (left - 1) u k (left - 1 - k) w =
      rw ew (leaves_going g img at n (left - 1) u k (omega (arith, ek)) (omega (arith, ek))) in
      by_lt k n
      (λ h.
      let none : left - 1 - k ≡ 0 = omega (arith, ek) in
      walked_by g img 2 p left t at n k (left - 1 - k) u w ea en eu x (omega arith) more (rw none refl) (rw none (omega arith)))
      (λ h. walked_end g img 2 p left t at n k (left - 1 - k) u w ea en eu x h (omega arith) more)

pub going_start : (all : List Place → List ℕ → List ℕ) (g : Geometry) (img : List ℕ) (l at n left : ℕ) (t : List ℕ)
    → Going all g img l at n left t 0 left t
going_start all g img l at n left t = record { done = refl; spared = refl }

-- from the root of a chip
pub walked_root : (all : List Place → List ℕ → List ℕ) (g : Geometry) (img : List ℕ) (l p left r : ℕ) (t u : List ℕ)
    → Walked all g img (l + 1) p left r t u
    → u ≡ all (take left (places_of (chip_with g img l p))) t
walked_root all g img l p left r t u x = rw (← (add-one l)) x.done

-- noting
pub note_steps : Steps note_all note_one
note_steps = record { none = note_nil; more = note_cons }

pub noted_same : (g : Geometry) (img : List ℕ) (l p left r : ℕ) (t u : List ℕ) → Walked note_all g img l p left r t u
    → length u ≡ length t
noted_same g img l p left r t u x = walk_same (take left (places (node_at g img) l (naming p))) t u x.done

pub ruleset stop_laws = (walked_none, walked_out, walked_leaf, walked_end, going_turn, going_start, walked_root)

-- in the code's form
pub level_two : (all : List Place → List ℕ → List ℕ) (g : Geometry) (img : List ℕ) (l p left r : ℕ) (t u : List ℕ)
    → l ≡ 2 → Walked all g img 2 p left r t u
    → Walked all g img l p left r t u
level_two all g img l p left r t u e x = rw e x

module _ (img : List ℕ) (at : ℕ) (t : List ℕ) where
  pub note_start : t ≡ note_all (leaves_at img at 0) t
  note_start = leaves_start note_all note_one note_steps img at t

  pub note_go : (i a : ℕ) (u w : List ℕ) → u ≡ note_all (leaves_at img at i) t → a ≡ u32_at img (at + 8 * i + 4)
      → w ≡ note_one u a 1 → w ≡ note_all (leaves_at img at (i + 1)) t
  note_go i a u w = leaves_go note_all note_one note_steps img at i a t u w

  pub note_end : (i k : ℕ) (u : List ℕ) → u ≡ note_all (leaves_at img at i) t → i ≤ k → k ≤ i
      → u ≡ note_all (leaves_at img at k) t
  note_end i k u e h j = let z : i ≡ k = omega arith in rw (← z) e

pub note_leaves : (g : Geometry) (img : List ℕ) (p left at n k r : ℕ) (t u w : List ℕ) → at ≡ node_place g p 2
    → n ≡ node_count g img p 2 → u ≡ note_one t p 2
    → k ≡ min n (left - 1) → w ≡ note_all (leaves_at img at k) u → r ≡ left - 1 - k → (left ≡ 0 → ⊥)
    → Walked note_all g img 2 p left r t w
note_leaves g img p left at n k r t u w ea en eu ek ew er more =
    rw er (walked_leaves note_all note_one note_steps g img p left at n k t u w ea en eu ek ew more)

pub ruleset note_laws = (stop_laws, note_steps, noted_same, level_two, note_start, note_go, note_end, note_leaves)
