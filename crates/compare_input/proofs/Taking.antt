-- Laws of what is taken and reported.
use Rattle.std.specs.Prelude.{◌≡◌, List, [], ◌∷◌, ◌++◌, ℕ, ◌≤◌, Bool, true, false, Option, IfSome, None, Some, length, take, replicate}
use Rattle.std.proofs.Common.{refl, ap, ◌∙◌, append_assoc, zero-add, arith}
use Rattle.std.proofs.KnownBytes.{Consumes-nil, Consumes-trans}
use Rattle.std.proofs.lemmas.List.Edits.{sets}
use Rattle.std.specs.Io.KnownBytes.{Appends, Consumes, IsAtEnd}
use Rattle.geometry.specs.Geometry.{page_base}
use Rattle.text_lines.specs.Pieces.{take_sets}
use Rattle.compare_scores.specs.Compare.{compared}
use Rattle.compare_machine.specs.declared.Run.{Run}
use Rattle.compare_machine.specs.Machine.{State, goes, start, feed, finish, ran}
use Rattle.compare_machine.proofs.Machine.{machine}
use Rattle.compare_machine.specs.Run.{start_of, state_of}
use Rattle.compare_input.specs.Taken.{Takes}

pub takes_none : (from : Option (List ℕ)) (s : State) → Takes from from s s
takes_none from s = record { taken = []; consumed = Consumes-nil from; same = λ rest. refl }

pub takes_more : (p q r : Option (List ℕ)) (s t u : State) (part : List ℕ) → Takes p q s t → Consumes q r part
    → ((rest : List ℕ) → ran t (part ++ rest) ≡ ran u rest) → Takes p r s u
takes_more p q r s t u part h k d = record {
  taken = h.taken ++ part;
  consumed = Consumes-trans p q r h.taken part h.consumed k;
  same = λ rest. ap (ran s) (append_assoc h.taken part rest) ∙ h.same (part ++ rest) ∙ d rest;
}

-- a run that is over writes the same, whatever follows
ran_over : (s : State) (bs : List ℕ) → goes s.course ≡ false → ran s bs ≡ finish s.course s.score s.line
unfolding ran feed
ran_over s [] e = refl
ran_over s (b ∷ bs) e = rw e (ran_over s bs e)

-- the end of the input, or of the run
ended : (s t : State) (taken rest : List ℕ) → (goes t.course ≡ true → rest ≡ [])
    → ((rest : List ℕ) → ran s (taken ++ rest) ≡ ran t rest)
    → ran s (taken ++ rest) ≡ finish t.course t.score t.line
unfolding ran
ended s t taken rest h q = q rest ∙ go (goes t.course) refl
  where
    go : (u : Bool) → goes t.course ≡ u → ran t rest ≡ finish t.course t.score t.line
    go true e = rw (h e) refl
    go false e = ran_over t rest e

takes_end : (from from' to last : Option (List ℕ)) (s : State) → Takes from from' start s
    → (goes s.course ≡ true → IsAtEnd from') → Appends to last (finish s.course s.score s.line) → IfSome from (λ input. Appends to last (compared input))
takes_end None from' to last s h e k = tt
takes_end (Some input) None to last s h e k = absurd h.consumed
takes_end (Some input) (Some rest) to last s h e k =
    let all = ended start s h.taken rest e h.same in rw (← machine input, h.consumed, all) k

-- both images are all 255 at first
starts : (line : List ℕ) → state_of start_of line (replicate 50688 255) (replicate 50688 255) ≡ start
unfolding page_base
starts line = refl

-- the report that the machine makes at the end is written
pub compare_end : (from from' to last : Option (List ℕ)) (run r : Run) (line mu pl line' mu' pl' out out' : List ℕ) (n : ℕ)
    → run ≡ start_of → mu ≡ replicate 50688 255 → pl ≡ replicate 50688 255
    → Takes from from' (state_of run line mu pl) (state_of r line' mu' pl')
    → (goes r.course ≡ true → IsAtEnd from') → n ≡ length (finish r.course r.score (take r.filled line'))
    → out' ≡ sets out 0 (finish r.course r.score (take r.filled line')) → n ≤ length out → Appends to last (take n out')
    → IfSome from (λ input. Appends to last (compared input))
compare_end from from' to last run r line mu pl line' mu' pl' out out' n b i j h e count bytes room k =
    let first : state_of run line mu pl ≡ start = rw (b, i, j) (starts line) in
    let text : take n out' ≡ finish r.course r.score (take r.filled line') =
    rw (bytes, count) (rw zero-add at (take_sets out 0 (finish r.course r.score (take r.filled line')) (omega arith))) in
    takes_end from from' to last (state_of r line' mu' pl') (rw first at h) e (rw text at k)
