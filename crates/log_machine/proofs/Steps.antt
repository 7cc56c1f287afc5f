-- Laws for the code of the machine. Assumes nothing.
use Rattle.std.specs.Prelude.{◌≡◌, Bool, true, false, ltb, take, set}
use Rattle.std.proofs.Math.Path.{refl, ap, sym}
use Rattle.std.proofs.Common.{subst, ◌∙◌, Fits, add-zero, add-one, arith, length-append, length-take-le, take-suc-set}
use mathlib.Core.List.{List, [], ◌∷◌, ◌++◌}
use Prim.Native.Nat.{ℕ, zero, suc, ◌+◌, ◌<◌, ◌≤◌}
use Rattle.std.specs.Int.{w32}
use Rattle.std.proofs.Math.ListN.{length}
use Rattle.std.proofs.lemmas.List.Edits.{sets}
use borrow.Author.Tests.{lt-ltb, le-ltb, ltb-true, eq-eqb, ne_eqb}
use Rattle.geometry.specs.Geometry.{small}
use Rattle.geometry.specs.Tests.{pick}
use Rattle.model.specs.Calls.{Outcome}
use Rattle.call_answers.specs.declared.Answer.{Answer}
use Rattle.call_answers.specs.declared.Row.{Row}
use Rattle.call_answers.specs.Answers.{row_of, told}
use Rattle.log_tally.specs.declared.Tally.{Tally}
use Rattle.log_tally.specs.Counted.{counted, Within, within_more}
use Rattle.log_lines.specs.declared.Order.{Order}
use Rattle.log_lines.specs.Line.{Line, Of, Other}
use Rattle.log_lines.specs.Replay.{obeyed, line_text, letter_of, answer_line, error_line, last_line, ending, form_at}
use Rattle.log_lines.specs.Bytewise.{part_length, form_late, form_as}
use Rattle.log_machine.specs.declared.Run.{Run}
use Rattle.log_machine.specs.Machine.{State, Fed, close, longer, feed, finish}
use Rattle.log_machine.specs.Run.{state_of, run_of, refused_run, longer_from, Steady}

-- ---- an order
abbrev pub row_line : ℕ → Row → List ℕ
row_line l w = line_text l (take 4 (w.answer ∷ w.address ∷ w.programmed ∷ w.erased ∷ []))

module _ (t : Tally) (img x : List ℕ) (order : Order) (a : Answer) (w : Row) (e : told a x ≡ obeyed small order img)
    (f : w ≡ row_of a) where
  module _ (l : ℕ) (q : l ≡ letter_of order) where
    row_line_lem : row_line l w ≡ answer_line order (obeyed small order img)
    row_line_lem = rw (q, f, ← e) refl

    pub answer_run : (wrote next : ℕ) (u : Tally) → u ≡ counted t w.programmed w.erased
        → next ≡ wrote + length (row_line l w)
        → record { filled = 0; tally = u; over = false; wrote = next } ≡ run_of (close small t img (Of order)) wrote
    unfolding close
    answer_run wrote next u g h = rw (g, h, row_line_lem, f, ← e) refl

    pub answer_out : (buf out : List ℕ) (wrote : ℕ) → out ≡ sets buf wrote (row_line l w) → out ≡ sets buf wrote
        (close small t img (Of order)).out
    unfolding close
    answer_out buf out wrote g = g ∙ rw row_line_lem refl

  pub answer_image : x ≡ (close small t img (Of order)).state.image
  unfolding close
  answer_image = ap (λ (o : Outcome). o.image) e

pub answer_within : (t u : Tally) (p e : ℕ) → u ≡ counted t p e → Within t → t.lines < 1000000 → Fits w32 p
    → Fits w32 e → Within u
answer_within t u p e q w h i j =
    let y : p ≤ 4294967295 = omega (arith, i.fits) in
    let z : e ≤ 4294967295 = omega (arith, j.fits) in
    subst Within (sym q) (within_more t p e w h y z)

-- ---- a line that is whole: what follows from its form
module _ (t : Tally) (line : List ℕ) where
  module _ (img : List ℕ) (r : Run) (buf out : List ℕ) (wrote : ℕ) where
    pub refused_run_lem : form_at t line ≡ Other → r ≡ refused_run t wrote → r ≡ run_of (close small t img (form_at t line))
        wrote
    unfolding close
    refused_run_lem e f = f ∙ rw e refl

    pub refused_image : form_at t line ≡ Other → img ≡ (close small t img (form_at t line)).state.image
    unfolding close
    refused_image e = rw e refl

    pub refused_out : form_at t line ≡ Other → out ≡ sets buf wrote (error_line t) → out ≡ sets buf wrote
        (close small t img (form_at t line)).out
    unfolding close
    refused_out e f = f ∙ rw e refl

    pub refused_within : Within t → r ≡ refused_run t wrote → Within r.tally
    refused_within w f = subst (λ (x : Run). Within x.tally) (sym f) w

    module _ (order : Order) (e : form_at t line ≡ Of order) where
      pub answered_run : r ≡ run_of (close small t img (Of order)) wrote → r ≡ run_of (close small t img (form_at t line))
          wrote
      answered_run f = rw e f

      pub answered_image : (y : List ℕ) → y ≡ (close small t img (Of order)).state.image → y ≡ (close small t img
          (form_at t line)).state.image
      answered_image y f = rw e f

      pub answered_out : out ≡ sets buf wrote (close small t img (Of order)).out → out ≡ sets buf wrote
          (close small t img (form_at t line)).out
      answered_out f = rw e f

-- ---- a byte more of a line
module _ (t : Tally) (line : List ℕ) (filled b : ℕ) (room : length line ≡ 34) where
  few : filled ≤ 34 → length (take filled line) ≡ filled
  few h = length-take-le filled line (omega arith)

  module _ (h : filled < 34) where
    goes : longer_from t (take filled line) b ≡ record {
      state = record {
        line = take filled line ++ (b ∷ []);
        tally = t;
        image = [];
        over = false;
      };
      out = [];
    }
    unfolding longer
    goes = rw (few (omega arith), lt-ltb filled 34 h) refl

    pub longer_run : (wrote : ℕ) → record { filled = filled + 1; tally = t; over = false; wrote = wrote }
        ≡ run_of (longer_from t (take filled line) b) wrote
    longer_run wrote =
        let n = length-append (take filled line) (b ∷ []) in
        let k = few (omega arith) in
        let z : length (take filled line ++ (b ∷ [])) ≡ filled + 1 = omega (arith, n, k) in
        sym (rw (goes, z, add-zero) refl)

    pub longer_line : (new : List ℕ) → new ≡ set line filled b → take (filled + 1) new ≡ (longer_from t
        (take filled line) b).state.line
    longer_line new e = rw (goes, e, add-one) (take-suc-set line filled b (omega arith))

    pub longer_out : (buf : List ℕ) (wrote : ℕ) → buf ≡ sets buf wrote (longer_from t (take filled line) b).out
    longer_out buf wrote = rw goes refl

  module _ (h : 34 ≤ filled) (g : filled ≤ 34) where
    stops : longer_from t (take filled line) b ≡ close small t [] Other
    unfolding longer
    stops = rw (few g, le-ltb filled 34 h) refl

    pub stops_run : (r : Run) (wrote : ℕ) → r ≡ refused_run t wrote → r ≡ run_of (longer_from t (take filled line) b) wrote
    unfolding close
    stops_run r wrote f = f ∙ sym (rw stops refl)

    pub stops_line : (r : Run) (wrote : ℕ) (new : List ℕ) → r ≡ refused_run t wrote → take r.filled new ≡ (longer_from t
        (take filled line) b).state.line
    unfolding close
    stops_line r wrote new f = rw (stops, f) refl

    pub stops_out : (buf out : List ℕ) (wrote : ℕ) → out ≡ sets buf wrote (error_line t) → out ≡ sets buf wrote
        (longer_from t (take filled line) b).out
    unfolding close
    stops_out buf out wrote f = f ∙ sym (rw stops refl)

-- ---- a byte of the input, by what the code has tested
module _ (s : State) (b : ℕ) where
  feed_over : s.over ≡ true → feed small s b ≡ record { state = s; out = [] }
  unfolding feed
  feed_over e = rw e refl

  feed_close : s.over ≡ false → b ≡ 10 → feed small s b ≡ close small s.tally s.image
      (form_at s.tally s.line)
  unfolding feed
  feed_close e h = rw (e, eq-eqb b 10 h) refl

  feed_longer : s.over ≡ false → (b ≡ 10 → ⊥) → feed small s b ≡ longer small s b
  unfolding feed
  feed_longer e h = rw (e, ne_eqb b 10 h) refl

-- a line that has begun does not look at the image
abbrev with_image : List ℕ → Fed → Fed
with_image img f = record {
  state = record { line = f.state.line; tally = f.state.tally; image = img; over = f.state.over };
  out = f.out;
}

longer_image : (s : State) (b : ℕ) → longer small s b ≡ with_image s.image (longer_from s.tally s.line b)
unfolding longer close
longer_image s b = go (ltb (length s.line) 34)
  where
    go : (t : Bool) → pick t (record {
      state = record {
        line = s.line ++ (b ∷ []);
        tally = s.tally;
        image = s.image;
        over = false;
      };
      out = [];
    }) (close small s.tally s.image Other)
        ≡ with_image s.image (pick t (record {
          state = record {
            line = s.line ++ (b ∷ []);
            tally = s.tally;
            image = [];
            over = false;
          };
          out = [];
        }) (close small s.tally [] Other))
    go true = refl
    go false = refl

longer_few : (t : Tally) (l : List ℕ) (b : ℕ) → length (longer_from t l b).state.line ≤ 34
unfolding longer close
longer_few t l b = go (ltb (length l) 34) refl
  where
    go : (u : Bool) → ltb (length l) 34 ≡ u
        → length (pick u (record {
          state = record { line = l ++ (b ∷ []); tally = t; image = []; over = false };
          out = [];
        }) (close small t [] Other)).state.line ≤ 34
    go true e = let h = ltb-true (length l) 34 e in let n = length-append l (b ∷ []) in omega (arith, h, n)
    go false e = omega arith

close_empty : (t : Tally) (img : List ℕ) (x : Line) → (close small t img x).state.line ≡ []
unfolding close
close_empty t img Other = refl
close_empty t img (Of order) = refl

module _ (run r : Run) (line img : List ℕ) (b : ℕ) (h : Steady run line) where
  abbrev fed : Fed
  fed = feed small (state_of run line img) b

  -- after E
  module _ (e : run.over ≡ true) where
    pub over_run : run ≡ run_of fed run.wrote
    over_run = sym (rw (feed_over (state_of run line img) b e, part_length line run.filled h.filled h.room, add-zero) refl)

    pub over_line : take run.filled line ≡ fed.state.line
    over_line = rw (feed_over (state_of run line img) b e) refl

    pub over_image : img ≡ fed.state.image
    over_image = rw (feed_over (state_of run line img) b e) refl

    pub over_out : (out : List ℕ) → out ≡ sets out run.wrote fed.out
    over_out out = rw (feed_over (state_of run line img) b e) refl

  -- a line's end
  module _ (e : run.over ≡ false) (q : b ≡ 10) where
    abbrev closed : Fed
    closed = close small run.tally img (form_at run.tally (take run.filled line))

    at_end : fed ≡ closed
    at_end = feed_close (state_of run line img) b e q

    empty : r ≡ run_of closed run.wrote → r.filled ≡ 0
    empty f = ap (λ (x : Run). x.filled) f ∙ rw (close_empty run.tally img (form_at run.tally (take run.filled line))) refl

    pub end_run : r ≡ run_of closed run.wrote → r ≡ run_of fed run.wrote
    end_run f = rw at_end f

    pub end_line : r ≡ run_of closed run.wrote → take r.filled line ≡ fed.state.line
    end_line f = rw (at_end, empty f, close_empty run.tally img (form_at run.tally (take run.filled line))) refl

    pub end_image : (x : List ℕ) → x ≡ closed.state.image → x ≡ fed.state.image
    end_image x f = rw at_end f

    pub end_out : (buf out : List ℕ) → out ≡ sets buf run.wrote closed.out → out ≡ sets buf run.wrote
        fed.out
    end_out buf out f = rw at_end f

    pub end_steady : r ≡ run_of closed run.wrote → Within r.tally → Steady r line
    end_steady f w = let z = empty f in record { filled = omega (arith, z); room = h.room; within = w }

  -- another byte
  module _ (e : run.over ≡ false) (q : b ≡ 10 → ⊥) where
    abbrev more : Fed
    more = longer_from run.tally (take run.filled line) b

    at_more : fed ≡ with_image img more
    at_more = feed_longer (state_of run line img) b e q ∙ longer_image (state_of run line img) b

    pub more_run : r ≡ run_of more run.wrote → r ≡ run_of fed run.wrote
    more_run f = rw at_more f

    pub more_line : (new : List ℕ) → take r.filled new ≡ more.state.line → take r.filled new ≡ fed.state.line
    more_line new f = rw at_more f

    pub more_image : img ≡ fed.state.image
    more_image = rw at_more refl

    pub more_out : (buf out : List ℕ) → out ≡ sets buf run.wrote more.out → out ≡ sets buf run.wrote fed.out
    more_out buf out f = rw at_more f

    pub more_steady : (new : List ℕ) → r ≡ run_of more run.wrote → length new ≡ 34 → Within r.tally → Steady r new
    more_steady new f n w =
        let z : r.filled ≡ length more.state.line = ap (λ (x : Run). x.filled) f in
        let k = longer_few run.tally (take run.filled line) b in
        record { filled = omega (arith, z, k); room = n; within = w }

-- ---- the end of the input
module _ (run : Run) (line : List ℕ) where
  pub finish_over : run.over ≡ true → finish (state_of run line []) ≡ []
  unfolding finish
  finish_over e = rw e refl

  pub finish_last : run.over ≡ false → run.filled ≡ 0 → finish (state_of run line []) ≡ last_line run.tally
  unfolding finish ending
  finish_last e f = rw (e, f) refl

  pub finish_error : Steady run line → run.over ≡ false → (run.filled ≡ 0 → ⊥) → finish (state_of run line [])
      ≡ error_line run.tally
  unfolding finish ending
  finish_error h e f = rw e (go run.filled line f h.room)
    where
      go : (n : ℕ) (l : List ℕ) → (n ≡ 0 → ⊥) → length l ≡ 34 → ending run.tally (take n l) ≡ error_line run.tally
      go zero l f k = absurd (f refl)
      go (suc n) [] f k = absurd (omega arith)
      go (suc n) (b ∷ l) f k = refl

pub ruleset step_laws = (
  part_length,
  form_late,
  form_as,
  refused_run_lem,
  refused_image,
  refused_out,
  refused_within,
  answered_run,
  answered_image,
  answered_out,
  longer_run,
  longer_line,
  longer_out,
  stops_run,
  stops_line,
  stops_out,
)
