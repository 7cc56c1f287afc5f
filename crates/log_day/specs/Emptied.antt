-- Between two parts of the input nothing waits to be written. Assumes nothing.
use Rattle.std.specs.Prelude.{◌≡◌, refl, false, List, ℕ, ◌≤◌, length, take}
use Rattle.std.proofs.Common.{ap, sym, subst, arith, length-take-le}
use Rattle.log_machine.specs.declared.Run.{Run}
use Rattle.log_machine.specs.Run.{start_of, Steady}
use Rattle.log_feed.specs.Left.{left}

abbrev pub emptied : Run → Run
emptied r = record { filled = r.filled; tally = r.tally; over = r.over; wrote = 0 }

pub record Drained (r : Run) (line : List ℕ) : Type 0 where
  pub steady : Steady r line
  pub none : r.wrote ≡ 0

pub drained_start : (r : Run) (line : List ℕ) → r ≡ start_of → length line ≡ 34 → Drained r line
drained_start r line e n = subst (λ (x : Run). Drained x line) (sym e)
    (record { steady = record { filled = omega arith; room = n; within = (omega arith, omega arith, omega arith) }; none = refl })

module _ (r s : Run) (line : List ℕ) (e : s ≡ emptied r) where
  pub drained_emptied : Steady r line → Drained s line
  drained_emptied h = subst (λ (x : Run). Drained x line) (sym e)
      (record { steady = record { filled = h.filled; room = h.room; within = h.within }; none = refl })

  pub left_emptied : left s ≡ left r
  left_emptied = ap left e

-- a run that is not over may still take a byte
pub left_some : (r : Run) → r.over ≡ false → 1 ≤ left r
left_some r e = rw e (omega arith)

pub part_counted : (l : List ℕ) (n : ℕ) → n ≤ length l → length (take n l) ≡ n
part_counted l n h = length-take-le n l h

pub ruleset day_laws = (part_counted)
