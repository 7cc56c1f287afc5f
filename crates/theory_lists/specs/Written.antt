-- A loop that writes. Assumes nothing.
use Rattle.std.specs.Prelude.{◌≡◌, ◌⊎◌, List, length, set, get_or}
use Rattle.std.proofs.Math.Path.{refl}
use Rattle.std.proofs.Common.{◌∙◌, eq-or-lt_of_le, zero-add, arith, add-one, get_or-set_same}
use Rattle.std.proofs.Math.Logic.{⊎_elim}
use Prim.Native.Nat.{ℕ, zero, suc, ◌+◌, ◌-◌, ◌≤◌, ◌<◌}
use Rattle.std.proofs.Math.ListN.{length-set}
use Rattle.std.proofs.Math.Seq.{get_or-set_other}
use Rattle.model.specs.Stores.{written}

module _ {A : Type 0} (l : List A) (at : ℕ) (f : ℕ → A) where
  -- where a loop begins, a turn, and where it ends
  pub written_none : l ≡ written l at f 0
  unfolding written
  written_none = refl

  pub written_more : (j : ℕ) (m : List A) → m ≡ written l at f j → set m (at + j) (f j) ≡ written l at f (j + 1)
  unfolding written
  written_more j m e = rw (e, add-one)

  -- the length, and what is read
  pub length_written : (n : ℕ) → length (written l at f n) ≡ length l
  unfolding written
  length_written zero = refl
  length_written (suc n) = length-set (written l at f n) (at + n) (f n) ∙ length_written n

  pub written_before : (n i : ℕ) (d : A) → i < at → get_or (written l at f n) i d ≡ get_or l i d
  unfolding written
  written_before zero i d h = refl
  written_before (suc n) i d h = get_or-set_other (written l at f n) (at + n) i (f n) d (omega arith)
      ∙ written_before n i d h

  pub written_after : (n i : ℕ) (d : A) → at + n ≤ i → get_or (written l at f n) i d ≡ get_or l i d
  unfolding written
  written_after zero i d h = refl
  written_after (suc n) i d h = get_or-set_other (written l at f n) (at + n) i (f n) d (omega arith)
      ∙ written_after n i d (omega arith)

  pub written_inside : (n j : ℕ) (d : A) → at + n ≤ length l → j < n → get_or (written l at f n) (at + j) d ≡ f j
  unfolding written
  written_inside zero j d h k = absurd (omega arith)
  written_inside (suc n) j d h k = ⊎_elim
      (λ e. rw e (get_or-set_same (written l at f n) (at + n) (f n) d (rw length_written (omega arith))))
      (λ lt. get_or-set_other (written l at f n) (at + n) (at + j) (f n) d (omega arith)
      ∙ written_inside n j d (omega arith) lt)
      (eq-or-lt_of_le {n = j} {m = n} (omega arith))

-- only f 0 to f (n - 1) count
pub written_same : {A : Type 0} (l : List A) (at : ℕ) (f h : ℕ → A) (n : ℕ) → ((j : ℕ) → j < n → f j ≡ h j)
    → written l at f n ≡ written l at h n
unfolding written
written_same l at f h zero e = refl
written_same l at f h (suc n) e = rw (written_same l at f h n (λ j p. e j (omega arith)), e n (omega arith))

-- a loop that fills from index 0
pub filled_more : {A : Type 0} (l : List A) (f : ℕ → A) (j : ℕ) (m : List A) → m ≡ written l 0 f j
    → set m j (f j) ≡ written l 0 f (j + 1)
filled_more l f j m e = rw zero-add at (written_more l 0 f j m e)
