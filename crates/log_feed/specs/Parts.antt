-- Laws for the code that feeds a part. Assumes nothing.
use Rattle.std.specs.Prelude.{◌≡◌, List, ◌++◌, ℕ, suc, ◌+◌, ◌-◌, ◌<◌, ◌≤◌, length, take, drop, get_or}
use Rattle.std.proofs.Common.{ap, sym, append_assoc, arith, drop-cons}
use Rattle.std.proofs.Math.Numerals.{add-one}
use Rattle.std.proofs.Math.Decide.{dec_lt}
use Rattle.std.proofs.lemmas.List.Edits.{sets}
use Rattle.geometry.specs.Geometry.{small}
use Rattle.text_lines.specs.Pieces.{take_sets}
use Rattle.log_machine.specs.declared.Run.{Run}
use Rattle.log_machine.specs.Machine.{Fed, feed, ran}
use Rattle.log_machine.specs.Run.{state_of, run_of}

-- what waits to be written, and all that the machine writes from a state on
abbrev pub whole : Run → List ℕ → List ℕ → List ℕ → List ℕ → List ℕ
whole run line img out text = take run.wrote out ++ ran small (state_of run line img) text

-- a byte of the part is fed
module _ (run r : Run) (line img out line' img' out' : List ℕ) (b : ℕ) where
  abbrev fed : Fed
  fed = feed small (state_of run line img) b

  module _ (e : r ≡ run_of fed run.wrote) (l : take r.filled line' ≡ fed.state.line)
      (i : img' ≡ fed.state.image) (o : out' ≡ sets out run.wrote fed.out) where
    state_is : state_of r line' img' ≡ fed.state
    state_is = rw (l, i) (ap (λ (x : Run). record { line = fed.state.line; tally = x.tally; image = fed.state.image; over = x.over }) e)

    out_is : r.wrote ≤ length out → take r.wrote out' ≡ take run.wrote out ++ fed.out
    out_is h =
        let n : r.wrote ≡ run.wrote + length fed.out = ap (λ (x : Run). x.wrote) e in
        rw (o, n) (take_sets out run.wrote fed.out (omega arith))

    pub whole_goes : (part rest : List ℕ) (at : ℕ) → at < length part → b ≡ get_or part at 0 → r.wrote ≤ length out
        → whole run line img out (drop at part ++ rest) ≡ whole r line' img' out' (drop (at + 1) part ++ rest)
    unfolding ran
    whole_goes part rest at h q k =
        rw (drop-cons part at 0 h, ← q, add-one, out_is k, state_is)
        (sym (append_assoc (take run.wrote out) fed.out (ran small fed.state (drop (suc at) part ++ rest))))

-- with room for a line the first byte at least is fed
pub went : (run state : Run) (out out₀ : List ℕ) (from at : ℕ) → from ≤ at → (at ≡ from → state ≡ run)
    → length out ≡ length out₀ → length out - state.wrote < 86
    → run.wrote + 86 ≤ length out₀ → from < at
went run state out out₀ from at h s n k m = elim (dec_lt from at) [
  | yes q ↦ q
  | no q ↦ absurd (let w : state.wrote ≡ run.wrote = ap (λ (x : Run). x.wrote) (s (omega arith)) in omega (arith, w))
]
