-- Laws for the code that feeds what is read. Assumes nothing.
use Rattle.std.specs.Prelude.{◌≡◌, refl, true, List, ◌++◌, ℕ, ◌+◌, ◌<◌, ◌≤◌, length, take, drop, get_or}
use Rattle.std.proofs.Common.{ap, sym, subst, add-one, arith, drop-cons}
use Rattle.std.proofs.Math.Seq.{drop-length}
use Rattle.compare_machine.specs.declared.Run.{Run}
use Rattle.compare_machine.specs.Machine.{goes, feed, ran}
use Rattle.compare_machine.specs.Run.{start_of, state_of, run_of, Steady}
use Rattle.compare_input.specs.Left.{left}

-- a byte of the part is fed
pub ran_goes : (run r : Run) (line mu pl line' mu' pl' : List ℕ) (b : ℕ)
    → r ≡ run_of (feed (state_of run line mu pl) b) → take r.filled line' ≡ (feed (state_of run line mu pl) b).line
    → mu' ≡ (feed (state_of run line mu pl) b).mu → pl' ≡ (feed (state_of run line mu pl) b).plain
    → (part rest : List ℕ) (at : ℕ) → at < length part → b ≡ get_or part at 0
    → ran (state_of run line mu pl) (drop at part ++ rest) ≡ ran (state_of r line' mu' pl') (drop (at + 1) part ++ rest)
unfolding ran
ran_goes run r line mu pl line' mu' pl' b e l m p part rest at h q =
    let fed = feed (state_of run line mu pl) b in
    let same : state_of r line' mu' pl' ≡ fed =
    rw (l, m, p) (ap (λ (x : Run). record { line = fed.line; score = x.score; mu = fed.mu; plain = fed.plain; course = x.course }) e) in
    rw (drop-cons part at 0 h, ← q, add-one, same) refl

pub part_ends : (part rest : List ℕ) (at : ℕ) → at ≤ length part → length part ≤ at → drop at part ++ rest ≡ rest
part_ends part rest at h k = let q : at ≡ length part = omega arith in rw (q, drop-length) refl

pub steady_start : (r : Run) (line : List ℕ) → r ≡ start_of → length line ≡ 34 → Steady r line
steady_start r line e n = subst (λ (x : Run). Steady x line) (sym e)
    (record { filled = omega arith; room = n; within = (omega arith, omega arith, omega arith, omega arith) })

-- a run that goes on may still take a byte
pub left_some : (r : Run) → goes r.course ≡ true → 1 ≤ left r
left_some r e = rw e (omega arith)
