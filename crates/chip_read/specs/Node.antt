-- A node as the entries that its bytes hold. Assumes nothing.
use Rattle.std.specs.Prelude.{ℕ, zero, suc, ◌+◌, ◌-◌, ◌*◌, ◌<◌, ◌≤◌, min, Bool, true, false, not, ◌≡◌, refl, List, [], ◌∷◌, length, get_or}
use Rattle.std.proofs.Common.{ap, arith, sub-one, add-one}
use Rattle.std.proofs.lemmas.Bool.{not-true, not-false}
use Rattle.geometry.specs.declared.Geometry.{Geometry}
use Rattle.geometry.specs.Geometry.{in_table, root_slots}
use Rattle.model.specs.Bytes.{u32_at, count_at, entries_at, node_place, node_count, node_at}
use Rattle.chip_read.specs.Chip.{entry_at}

-- the count
pub count_none : (g : Geometry) (img : List ℕ) (p l : ℕ) (b : Bool) → b ≡ in_table g l → not b ≡ true
    → 0 ≡ node_count g img p l
unfolding node_count
count_none g img p l b e q = simp (← e, not-true b q)

pub count_some : (g : Geometry) (img : List ℕ) (p l n f : ℕ) (b : Bool) → b ≡ in_table g l → not b ≡ false
    → n ≡ count_at g img p l → f ≡ root_slots g l → min n (f + 1) ≡ node_count g img p l
unfolding node_count
count_some g img p l n f b e q en ef = simp (← e, not-false b q, ← en, ← ef, add-one)

-- the entries
pub node_is : (g : Geometry) (img : List ℕ) (p l : ℕ) → node_at g img p l ≡ entries_at img (node_place g p l)
    (node_count g img p l)
unfolding node_at
node_is g img p l = refl

-- the same with place and count as the code has them
pub node_read : (g : Geometry) (img : List ℕ) (p l at n : ℕ) → at ≡ node_place g p l → n ≡ node_count g img p l
    → entries_at img at n ≡ node_at g img p l
unfolding node_at
node_read g img p l at n e f = rw (e, f)

pub entries_length : (img : List ℕ) (at n : ℕ) → length (entries_at img at n) ≡ n
unfolding entries_at
entries_length img at zero = refl
entries_length img at (suc n) = ap (λ m. suc m) (entries_length img (at + 8) n)

pub node_length : (g : Geometry) (img : List ℕ) (p l : ℕ) → length (node_at g img p l) ≡ node_count g img p l
unfolding node_at
node_length g img p l = entries_length img (node_place g p l) (node_count g img p l)

pub entries_none : (img : List ℕ) (at n : ℕ) → n ≡ 0 → entries_at img at n ≡ []
unfolding entries_at
entries_none img at n e = rw e

pub entries_step : (img : List ℕ) (at n : ℕ) → (n ≡ 0 → ⊥) → entries_at img at n ≡ entry_at img at ∷ entries_at img
    (at + 8) (n - 1)
unfolding entries_at entry_at
entries_step img at zero h = absurd (h refl)
entries_step img at (suc n) h = rw sub-one

-- the step of a loop over the entries, in the loop's own numbers
pub entries_start : (img : List ℕ) (at n : ℕ) → entries_at img at n ≡ entries_at img (at + 8 * 0) (n - 0)
entries_start img at n =
    let e : at + 8 * 0 ≡ at = omega arith in
    let f : n - 0 ≡ n = omega arith in
    rw (e, f)

pub entries_turn : (img : List ℕ) (at n i : ℕ) → i < n
    → entries_at img (at + 8 * i) (n - i) ≡ entry_at img (at + 8 * i) ∷ entries_at img (at + 8 * (i + 1)) (n - (i + 1))
entries_turn img at n i h =
    let e : at + 8 * i + 8 ≡ at + 8 * (i + 1) = omega arith in
    let f : n - i - 1 ≡ n - (i + 1) = omega arith in
    rw (← e, ← f) (entries_step img (at + 8 * i) (n - i) (omega arith))

pub entries_past : (img : List ℕ) (at n i : ℕ) → n ≤ i → entries_at img (at + 8 * i) (n - i) ≡ []
entries_past img at n i h = entries_none img (at + 8 * i) (n - i) (omega arith)

-- the i-th entry
pub entries_at_lem : (img : List ℕ) (at n i : ℕ) → i < n → get_or (entries_at img at n) i (record { key = 0; addr = 0 })
    ≡ entry_at img (at + 8 * i)
unfolding entries_at entry_at
entries_at_lem img at zero i h = absurd (omega arith)
entries_at_lem img at (suc n) zero h =
    let e : at + 8 * 0 ≡ at = omega arith in
    rw e
entries_at_lem img at (suc n) (suc i) h =
    let e : at + 8 * suc i ≡ at + 8 + 8 * i = omega arith in
    rw e (entries_at_lem img (at + 8) n i (omega arith))

pub key_is : (img : List ℕ) (at : ℕ) → (entry_at img at).key ≡ u32_at img at
unfolding entry_at
key_is img at = refl

pub addr_is : (img : List ℕ) (at : ℕ) → (entry_at img at).addr ≡ u32_at img (at + 4)
unfolding entry_at
addr_is img at = refl

pub ruleset node_laws = (count_none, count_some, node_read)
