-- Laws of what is written for what is read.
use Rattle.std.specs.Prelude.{◌≡◌, List, [], ◌∷◌, ◌++◌, ℕ, ◌+◌, ◌≤◌, true, false, Option, IfSome, None, Some, length, take, replicate, Bool}
use Rattle.std.proofs.Common.{refl, sym, ap, ◌∙◌, append_assoc, arith}
use Rattle.std.proofs.KnownBytes.{Consumes-nil, Consumes-trans, Appends-nil, Appends-trans}
use Rattle.std.specs.Io.KnownBytes.{Appends, Consumes, IsAtEnd}
use Rattle.geometry.specs.Geometry.{small, page_base}
use Rattle.std.proofs.lemmas.List.Edits.{sets}
use Rattle.log_lines.specs.Replay.{blank_image, replayed}
use Rattle.text_lines.specs.Pieces.{take_sets}
use Rattle.log_machine.specs.declared.Run.{Run}
use Rattle.log_machine.specs.Run.{start_of, state_of}
use Rattle.log_machine.specs.Machine.{State, start, feed, finish, ran}
use Rattle.log_machine.proofs.Machine.{machine}
use Rattle.log_day.specs.Emptied.{emptied}
use Rattle.log_day.specs.Answered.{Answers, Passes}

pub answers_none : (to : Option (List ℕ)) (s : State) (text : List ℕ) → Answers to to s s text text
answers_none to s text = record { written = []; appended = Appends-nil to; same = λ rest. refl }

pub answers_more : (a b c : Option (List ℕ)) (s t u : State) (text left left' bs : List ℕ) → Answers a b s t text left
    → Appends b c bs → ((rest : List ℕ) → ran small t (left ++ rest) ≡ bs ++ ran small u (left' ++ rest))
    → Answers a c s u text left'
answers_more a b c s t u text left left' bs h k q = record {
  written = h.written ++ bs;
  appended = Appends-trans a b c h.written bs h.appended k;
  same = λ rest. h.same rest ∙ ap (λ l. h.written ++ l) (q rest) ∙ sym (append_assoc h.written bs (ran small u (left' ++ rest)));
}

pub passes_none : (from to : Option (List ℕ)) (s : State) → Passes from from to to s s
passes_none from to s = record { taken = []; consumed = Consumes-nil from; answers = answers_none to s [] }

pub passes_more : (p q r a b c : Option (List ℕ)) (s t u : State) (part : List ℕ) → Passes p q a b s t → Consumes q r part
    → Answers b c t u part [] → Passes p r a c s u
passes_more p q r a b c s t u part h k d = record {
  taken = h.taken ++ part;
  consumed = Consumes-trans p q r h.taken part h.consumed k;
  answers = record {
    written = h.answers.written ++ d.written;
    appended = Appends-trans a b c h.answers.written d.written h.answers.appended d.appended;
    same = λ rest. ap (ran small s) (append_assoc h.taken part rest) ∙ h.answers.same (part ++ rest)
        ∙ ap (λ l. h.answers.written ++ l) (d.same rest)
        ∙ sym (append_assoc h.answers.written d.written (ran small u rest));
  };
}

-- a run that is over writes nothing more, whatever follows
pub ran_over : (s : State) (bs : List ℕ) → s.over ≡ true → ran small s bs ≡ finish s
unfolding ran feed finish
ran_over s [] e = refl
ran_over s (b ∷ bs) e = rw e (rw e at (ran_over s bs e))

-- the end of the input, or of the run: what the machine writes for all of it is written
ends : (s t : State) (taken rest written : List ℕ) → (t.over ≡ false → rest ≡ [])
    → ((rest : List ℕ) → ran small s (taken ++ rest) ≡ written ++ ran small t rest)
    → ran small s (taken ++ rest) ≡ written ++ finish t
unfolding ran
ends s t taken rest written h q = q rest ∙ ap (λ l. written ++ l) (go t.over refl)
  where
    go : (u : Bool) → t.over ≡ u → ran small t rest ≡ finish t
    go true e = ran_over t rest e
    go false e = rw (h e) refl

pub passes_end : (from from' to to' last : Option (List ℕ)) (s : State) → Passes from from' to to' (start small) s
    → (s.over ≡ false → IsAtEnd from') → Appends to' last (finish s) → IfSome from (λ input. Appends to last (replayed small input))
passes_end None from' to to' last s h e k = tt
passes_end (Some input) None to to' last s h e k = absurd h.consumed
passes_end (Some input) (Some rest) to to' last s h e k =
    let all = ends (start small) s h.taken rest h.answers.written e h.answers.same in
    rw (← machine small input, h.consumed, all)
    (Appends-trans to to' last h.answers.written (finish s) h.answers.appended k)

-- a part of the text is fed and what waits is written
pub answers_part : (a b c : Option (List ℕ)) (s : State) (run r t : Run) (line img out line' img' out' text left left' : List ℕ)
    → Answers a b s (state_of run line img) text left → run.wrote ≡ 0 → t ≡ emptied r → Appends b c (take r.wrote out')
    → ((rest : List ℕ) → take run.wrote out ++ ran small (state_of run line img) (left ++ rest)
    ≡ take r.wrote out' ++ ran small (state_of r line' img') (left' ++ rest))
    → Answers a c s (state_of t line' img') text left'
answers_part a b c s run r t line img out line' img' out' text left left' h none e k q =
    let same : state_of t line' img' ≡ state_of r line' img' = ap (λ (x : Run). state_of x line' img') e in
    rw same (answers_more a b c s (state_of run line img) (state_of r line' img') text left left' (take r.wrote out') h k
    (λ rest. rw none at (q rest)))

blank : replicate 50688 255 ≡ blank_image small
unfolding page_base
blank = refl

-- the end: what the machine adds is written too
pub replay_end : (from from' to to' last : Option (List ℕ)) (run r : Run) (line img line' img' out out' : List ℕ) (n : ℕ)
    → run ≡ start_of → img ≡ replicate 50688 255 → Passes from from' to to' (state_of run line img) (state_of r line' img')
    → (r.over ≡ false → IsAtEnd from') → r.wrote ≡ 0 → n ≡ r.wrote + length (finish (state_of r line' []))
    → out' ≡ sets out r.wrote (finish (state_of r line' [])) → n ≤ length out → Appends to' last (take n out')
    → IfSome from (λ input. Appends to last (replayed small input))
unfolding finish
replay_end from from' to to' last run r line img line' img' out out' n b i h e none count bytes room k =
    let first : state_of run line img ≡ start small = rw (b, i, blank) refl in
    let text : take n out' ≡ finish (state_of r line' []) =
    rw (bytes, count, none) (take_sets out 0 (finish (state_of r line' [])) (omega arith)) in
    passes_end from from' to to' last (state_of r line' img') (rw first at h) e (rw text at k)
