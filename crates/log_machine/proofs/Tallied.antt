-- Request 3: the tally is "proved equal to the sums of the answers". Assumes nothing.
use Rattle.std.specs.Prelude.{◌≡◌, refl, List, [], ◌∷◌, ◌++◌, ℕ, ◌+◌, ◌≤◌, length}
use Rattle.std.proofs.Common.{ap, sym, ◌∙◌, append_assoc, arith, lt-ltb}
use Rattle.geometry.specs.declared.Geometry.{Geometry}
use Rattle.model.specs.Calls.{Outcome}
use Rattle.text_lines.specs.Lines.{lines}
use Rattle.log_tally.specs.declared.Tally.{Tally}
use Rattle.log_tally.specs.Counted.{none_yet}
use Rattle.log_lines.specs.declared.Order.{Order}
use Rattle.log_lines.specs.Replay.{obeyed, blank_image, answer_line, last_line, tally_after, ending, reply, most_lines, form_after, answers, replayed}
use Rattle.log_machine.specs.Tallied.{outcomes, programmed_sum, erased_sum, tallied, answer_lines, Formed}

-- it is the count of the answers and both sums
sums_from : (t : Tally) (os : List Outcome) → tallied t os
    ≡ record {
      lines = t.lines + length os;
      programmed = t.programmed + programmed_sum os;
      erased = t.erased + erased_sum os;
    }
unfolding tallied programmed_sum erased_sum
sums_from t [] = same t
  where
    same : (t : Tally) → t ≡ record { lines = t.lines + 0; programmed = t.programmed + 0; erased = t.erased + 0 }
    same t =
        let a : t.lines + 0 ≡ t.lines = omega arith in
        let b : t.programmed + 0 ≡ t.programmed = omega arith in
        let c : t.erased + 0 ≡ t.erased = omega arith in
        rw (a, b, c) refl
sums_from t (o ∷ os) =
    let a : t.lines + 1 + length os ≡ t.lines + length (o ∷ os) = omega arith in
    let b : t.programmed + o.programmed + programmed_sum os ≡ t.programmed + (o.programmed + programmed_sum os) =
    omega arith in
    let c : t.erased + o.erased + erased_sum os ≡ t.erased + (o.erased + erased_sum os) = omega arith in
    sums_from (tally_after t o) os ∙ rw (a, b, c) refl

pub tally_sums : (os : List Outcome) → tallied none_yet os ≡ record {
  lines = length os;
  programmed = programmed_sum os;
  erased = erased_sum os;
}
tally_sums os =
    let a : 0 + length os ≡ length os = omega arith in
    let b : 0 + programmed_sum os ≡ programmed_sum os = omega arith in
    let c : 0 + erased_sum os ≡ erased_sum os = omega arith in
    sums_from none_yet os ∙ rw (a, b, c) refl

log_from : (g : Geometry) (t : Tally) (img : List ℕ) (ls : List (List ℕ)) (cs : List Order) → Formed ls cs
    → t.lines + length ls ≤ most_lines
    → answers g t img ls [] ≡ answer_lines cs (outcomes g img cs) ++ last_line (tallied t (outcomes g img cs))
unfolding answers reply ending form_after answer_lines tallied outcomes
log_from g t img [] [] p q = refl
log_from g t img [] (c ∷ cs) p q = absurd p
log_from g t img (l ∷ ls) [] p q = absurd p
log_from g t img (l ∷ ls) (c ∷ cs) p q =
    let o = obeyed g c img in
    rw (lt-ltb t.lines 1000000 (omega arith), p.0)
    (ap (λ m. answer_line c o ++ m) (log_from g (tally_after t o) o.image ls cs p.1 (omega arith))
    ∙ sym (append_assoc (answer_line c o) (answer_lines cs (outcomes g o.image cs)) (last_line (tallied (tally_after t o) (outcomes g o.image cs)))))

-- its lines are answered in order, then come T, the count of the answers, and their sums
pub log_answers : (g : Geometry) (input : List ℕ) (cs : List Order) → Formed (lines input).ended cs
    → (lines input).rest ≡ []
    → length (lines input).ended ≤ most_lines
    → replayed g input ≡ answer_lines cs (outcomes g (blank_image g) cs) ++ last_line (record {
      lines = length (outcomes g (blank_image g) cs);
      programmed = programmed_sum (outcomes g (blank_image g) cs);
      erased = erased_sum (outcomes g (blank_image g) cs);
    })
unfolding replayed
log_answers g input cs f e n =
    rw e (log_from g none_yet (blank_image g) (lines input).ended cs f (omega arith)
    ∙ ap (λ u. answer_lines cs (outcomes g (blank_image g) cs) ++ last_line u) (tally_sums (outcomes g (blank_image g) cs)))
