-- Laws for the code of the machine. Assumes nothing.
use Rattle.std.specs.Prelude.{◌≡◌, Bool, ltb, take, set}
use Rattle.std.proofs.Math.Path.{refl, ap}
use Rattle.std.proofs.Common.{sym, subst, ◌∙◌, Fits, add-one, arith, length-append, take-suc-set}
use Rattle.std.proofs.Math.Bool.{true, false, not}
use mathlib.Core.List.{List, [], ◌∷◌, ◌++◌}
use Prim.Native.Nat.{ℕ, zero, suc, ◌+◌, ◌<◌, ◌≤◌}
use Rattle.std.specs.Int.{w32}
use Rattle.std.proofs.Math.ListN.{length}
use borrow.Author.Tests.{lt-ltb, le-ltb, ltb-true, eq-eqb, ne_eqb}
use Rattle.geometry.specs.Geometry.{small, plain}
use Rattle.geometry.specs.Tests.{pick, ◌&◌, and_true, and_false, and_none}
use Rattle.model.specs.Calls.{Outcome, format, lookup}
use Rattle.model.specs.Plain.{plain_insert, plain_delete}
use Rattle.call_answers.specs.declared.Answer.{Answer}
use Rattle.call_answers.specs.declared.Row.{Row}
use Rattle.call_answers.specs.Answers.{row_of, told, told_by}
use Rattle.log_lines.specs.declared.Order.{Order}
use Rattle.log_lines.specs.declared.Order.TheVariants.{Format, Insert, Delete, Lookup, Limited}
use Rattle.log_lines.specs.Line.{Line, Of, Other}
use Rattle.log_lines.specs.Replay.{obeyed, numbers_text, error_after, form_after}
use Rattle.log_lines.specs.Bytewise.{part_length, form_late, form_as}
use Rattle.compare_scores.specs.declared.Score.{Score}
use Rattle.compare_scores.specs.declared.Ratio.{Ratio}
use Rattle.compare_scores.specs.Ratio.{ratio}
use Rattle.compare_scores.specs.Scores.{plain_obeyed, stops, scored}
use Rattle.compare_scores.specs.Scoring.{outcome_of, Within, within_more}
use Rattle.compare_scores.specs.Compare.{report, ending}
use Rattle.compare_machine.specs.declared.Course.{Course}
use Rattle.compare_machine.specs.declared.Course.TheVariants.{Going, Stopped, Refused}
use Rattle.compare_machine.specs.declared.Run.{Run}
use Rattle.compare_machine.specs.Machine.{State, goes, in_line, refused, played, close, longer, feed, finish}
use Rattle.compare_machine.specs.Run.{state_of, run_of, refused_run, stopped_run, longer_from, Steady}

-- ---- an order on the plain tree's image
module _ (order : Order) (img : List ℕ) (o : Outcome) where
  pub plain_format : order ≡ Format → o ≡ format plain img → o ≡ plain_obeyed order img
  unfolding plain_obeyed
  plain_format e h = h ∙ ap (λ (x : Order). plain_obeyed x img) (sym e)

  pub plain_insert_lem : (k a : ℕ) → order ≡ Insert k a → o ≡ plain_insert plain img k a 4294967295
      → o ≡ plain_obeyed order img
  unfolding plain_obeyed
  plain_insert_lem k a e h = h ∙ ap (λ (x : Order). plain_obeyed x img) (sym e)

  pub plain_delete_lem : (k : ℕ) → order ≡ Delete k → o ≡ plain_delete plain img k 4294967295 → o ≡ plain_obeyed order img
  unfolding plain_obeyed
  plain_delete_lem k e h = h ∙ ap (λ (x : Order). plain_obeyed x img) (sym e)

  pub plain_lookup : (k : ℕ) → order ≡ Lookup k → o ≡ lookup plain img k → o ≡ plain_obeyed order img
  unfolding plain_obeyed
  plain_lookup k e h = h ∙ ap (λ (x : Order). plain_obeyed x img) (sym e)

  pub plain_limited : (k a allowance : ℕ) → order ≡ Limited k a allowance → o ≡ plain_insert plain img k a allowance
      → o ≡ plain_obeyed order img
  unfolding plain_obeyed
  plain_limited k a allowance e h = h ∙ ap (λ (x : Order). plain_obeyed x img) (sym e)

pub ruleset plain_laws = (plain_format, plain_insert_lem, plain_delete_lem, plain_lookup, plain_limited)

-- ---- an order on both images
abbrev stopped_in : Score → List ℕ → List ℕ → State
stopped_in s x y = record { line = []; score = s; mu = x; plain = y; course = Stopped }

abbrev pub with_images : List ℕ → List ℕ → State → State
with_images x y s = record { line = s.line; score = s.score; mu = x; plain = y; course = s.course }

module _ (s : Score) (order : Order) (v w : Row) where
  abbrev settled : Run
  settled = run_of (played s order (outcome_of v) (outcome_of w))

  module _ (p : Bool) (i : p ≡ stops (outcome_of v)) where
    pub first_stops : (r : Run) → p ≡ true → r ≡ stopped_run s → r ≡ settled
    unfolding played
    first_stops r k f = f ∙ rw (← i, k, and_false) refl

    module _ (q : Bool) (j : q ≡ stops (outcome_of w)) (k : p ≡ false) where
      pub second_stops : (r : Run) → q ≡ true → r ≡ stopped_run s → r ≡ settled
      unfolding played
      second_stops r l f = f ∙ rw (← i, ← j, k, l, and_none) refl

      pub none_stops : (t : Score) → q ≡ false → t ≡ scored s order (outcome_of v) (outcome_of w)
          → record { filled = 0; score = t; course = Going } ≡ settled
      unfolding played
      none_stops t l f = rw (f, ← i, ← j, k, l, and_true) refl

  pub stopped_within : (r : Run) → Within s → r ≡ stopped_run s → Within r.score
  stopped_within r h f = subst (λ (x : Run). Within x.score) (sym f) h

  pub scored_within : (t : Score) → t ≡ scored s order (outcome_of v) (outcome_of w) → Within s → s.lines < 1000000
      → Fits w32 v.programmed → Fits w32 w.programmed → Within t
  scored_within t q h k i j =
      let y : v.programmed ≤ 4294967295 = omega (arith, i.fits) in
      let z : w.programmed ≤ 4294967295 = omega (arith, j.fits) in
      subst Within (sym q) (within_more s order (outcome_of v) (outcome_of w) h k y z)

  -- what becomes of the images does not hang on the score
  played_images : (x y : List ℕ) → played s order (told_by v x) (told_by w y) ≡ with_images x y
      (played s order (outcome_of v) (outcome_of w))
  unfolding played scored
  played_images x y = go (not (stops (outcome_of v)) & not (stops (outcome_of w)))
    where
      go : (t : Bool) → pick t (in_line [] (scored s order (told_by v x) (told_by w y)) x y) (stopped_in s x y)
          ≡ with_images x y (pick t (in_line [] (scored s order (outcome_of v) (outcome_of w)) [] []) (stopped_in s [] []))
      go true = refl
      go false = refl

  module _ (mu pl x y : List ℕ) (a b : Answer) (e : told a x ≡ obeyed small order mu)
      (f : told b y ≡ plain_obeyed order pl) (g : v ≡ row_of a) (h : w ≡ row_of b) where
    pub close_both : close s mu pl (Of order) ≡ with_images x y (played s order (outcome_of v) (outcome_of w))
    unfolding close
    close_both = ap (λ o. played s order o (plain_obeyed order pl)) (sym e)
        ∙ ap (λ o. played s order (told a x) o) (sym f) ∙ rw (← g, ← h) (played_images x y)

pub ruleset settle_laws = (first_stops, second_stops, none_stops, stopped_within, scored_within)

-- ---- a line that is whole: what follows from its form
module _ (s : Score) (line mu pl : List ℕ) (r : Run) where
  module _ (e : form_after s.lines line ≡ Other) where
    pub refused_run_lem : r ≡ refused_run s → r ≡ run_of (close s mu pl (form_after s.lines line))
    unfolding close
    refused_run_lem f = f ∙ rw e refl

    pub refused_mu : mu ≡ (close s mu pl (form_after s.lines line)).mu
    unfolding close
    refused_mu = rw e refl

    pub refused_plain : pl ≡ (close s mu pl (form_after s.lines line)).plain
    unfolding close
    refused_plain = rw e refl

  pub refused_within : Within s → r ≡ refused_run s → Within r.score
  refused_within w f = subst (λ (x : Run). Within x.score) (sym f) w

  module _ (order : Order) (e : form_after s.lines line ≡ Of order) where
    pub played_run : r ≡ run_of (close s mu pl (Of order)) → r ≡ run_of (close s mu pl (form_after s.lines line))
    played_run f = rw e f

    pub played_mu : (x : List ℕ) → x ≡ (close s mu pl (Of order)).mu → x ≡ (close s mu pl (form_after s.lines line)).mu
    played_mu x f = rw e f

    pub played_plain : (x : List ℕ) → x ≡ (close s mu pl (Of order)).plain → x ≡ (close s mu pl
        (form_after s.lines line)).plain
    played_plain x f = rw e f

-- ---- a byte more of a line
module _ (s : Score) (line : List ℕ) (filled b : ℕ) (room : length line ≡ 34) where
  few : filled ≤ 34 → length (take filled line) ≡ filled
  few h = part_length line filled h room

  module _ (h : filled < 34) where
    on : longer_from s (take filled line) b ≡ in_line (take filled line ++ (b ∷ [])) s [] []
    unfolding longer
    on = rw (few (omega arith), lt-ltb filled 34 h) refl

    pub longer_run : record { filled = filled + 1; score = s; course = Going }
        ≡ run_of (longer_from s (take filled line) b)
    longer_run =
        let n = length-append (take filled line) (b ∷ []) in
        let k = few (omega arith) in
        let z : length (take filled line ++ (b ∷ [])) ≡ filled + 1 = omega (arith, n, k) in
        sym (rw (on, z) refl)

    pub longer_line : (new : List ℕ) → new ≡ set line filled b → take (filled + 1) new ≡ (longer_from s
        (take filled line) b).line
    longer_line new e = rw (on, e, add-one) (take-suc-set line filled b (omega arith))

  module _ (h : 34 ≤ filled) (g : filled ≤ 34) (r : Run) (f : r ≡ refused_run s) where
    off : longer_from s (take filled line) b ≡ refused s [] []
    unfolding longer
    off = rw (few g, le-ltb filled 34 h) refl

    pub ends_run : r ≡ run_of (longer_from s (take filled line) b)
    ends_run = f ∙ sym (rw off refl)

    pub ends_line : (new : List ℕ) → take r.filled new ≡ (longer_from s (take filled line) b).line
    ends_line new = rw (off, f) refl

-- ---- a byte of the input, by what the code has tested
-- a line that has begun does not look at the images
longer_images : (s : State) (b : ℕ) → longer s b ≡ with_images s.mu s.plain (longer_from s.score s.line b)
unfolding longer
longer_images s b = go (ltb (length s.line) 34)
  where
    go : (t : Bool) → pick t (in_line (s.line ++ (b ∷ [])) s.score s.mu s.plain)
        (refused s.score s.mu s.plain)
        ≡ with_images s.mu s.plain (pick t (in_line (s.line ++ (b ∷ [])) s.score [] []) (refused s.score
        [] []))
    go true = refl
    go false = refl

longer_few : (s : Score) (l : List ℕ) (b : ℕ) → length (longer_from s l b).line ≤ 34
unfolding longer
longer_few s l b = go (ltb (length l) 34) refl
  where
    go : (u : Bool) → ltb (length l) 34 ≡ u → length (pick u (in_line (l ++ (b ∷ [])) s [] []) (refused s [] [])).line ≤
        34
    go true e = let h = ltb-true (length l) 34 e in let n = length-append l (b ∷ []) in omega (arith, h, n)
    go false e = omega arith

close_empty : (s : Score) (mu pl : List ℕ) (x : Line) → (close s mu pl x).line ≡ []
unfolding close played
close_empty s mu pl Other = refl
close_empty s mu pl (Of order) = go (not (stops (obeyed small order mu)) & not (stops (plain_obeyed order pl)))
  where
    go : (t : Bool) → (pick t (in_line [] (scored s order (obeyed small order mu) (plain_obeyed order pl))
        (obeyed small order mu).image (plain_obeyed order pl).image)
        (stopped_in s (obeyed small order mu).image (plain_obeyed order pl).image)).line ≡ []
    go true = refl
    go false = refl

module _ (run r : Run) (line mu pl : List ℕ) (b : ℕ) (h : Steady run line) where
  abbrev fed : State
  fed = feed (state_of run line mu pl) b

  -- a run that is over
  module _ (e : goes run.course ≡ false) where
    same : fed ≡ state_of run line mu pl
    unfolding feed
    same = rw e refl

    pub over_run : run ≡ run_of fed
    over_run = sym (rw (same, part_length line run.filled h.filled h.room) refl)

    pub over_line : take run.filled line ≡ fed.line
    over_line = rw same refl

    pub over_mu : mu ≡ fed.mu
    over_mu = rw same refl

    pub over_plain : pl ≡ fed.plain
    over_plain = rw same refl

  -- a line's end
  module _ (e : goes run.course ≡ true) (q : b ≡ 10) where
    abbrev closed : State
    closed = close run.score mu pl (form_after run.score.lines (take run.filled line))

    at_end : fed ≡ closed
    unfolding feed
    at_end = rw (e, eq-eqb b 10 q) refl

    none : closed.line ≡ []
    none = close_empty run.score mu pl (form_after run.score.lines (take run.filled line))

    empty : r ≡ run_of closed → r.filled ≡ 0
    empty f = ap (λ (x : Run). x.filled) f ∙ rw none refl

    pub end_run : r ≡ run_of closed → r ≡ run_of fed
    end_run f = rw at_end f

    pub end_line : r ≡ run_of closed → take r.filled line ≡ fed.line
    end_line f = rw (at_end, empty f, none) refl

    pub end_mu : (x : List ℕ) → x ≡ closed.mu → x ≡ fed.mu
    end_mu x f = rw at_end f

    pub end_plain : (x : List ℕ) → x ≡ closed.plain → x ≡ fed.plain
    end_plain x f = rw at_end f

    pub end_steady : r ≡ run_of closed → Within r.score → Steady r line
    end_steady f w = let z = empty f in record { filled = omega (arith, z); room = h.room; within = w }

  -- another byte
  module _ (e : goes run.course ≡ true) (q : b ≡ 10 → ⊥) where
    abbrev more : State
    more = longer_from run.score (take run.filled line) b

    at_more : fed ≡ with_images mu pl more
    unfolding feed
    at_more = rw (e, ne_eqb b 10 q) (longer_images (state_of run line mu pl) b)

    pub more_run : r ≡ run_of more → r ≡ run_of fed
    more_run f = rw at_more f

    pub more_line : (new : List ℕ) → take r.filled new ≡ more.line → take r.filled new ≡ fed.line
    more_line new f = rw at_more f

    pub more_mu : mu ≡ fed.mu
    more_mu = rw at_more refl

    pub more_plain : pl ≡ fed.plain
    more_plain = rw at_more refl

    pub more_steady : (new : List ℕ) → r ≡ run_of more → length new ≡ 34 → Within r.score → Steady r new
    more_steady new f n w =
        let z : r.filled ≡ length more.line = ap (λ (x : Run). x.filled) f in
        let k = longer_few run.score (take run.filled line) b in
        record { filled = omega (arith, z, k); room = n; within = w }

-- ---- the end of the input
pub report_is : (s : Score) (r : Ratio) → r ≡ ratio s.mu s.plain
    → numbers_text (s.updates ∷ s.mu ∷ s.plain ∷ r.upper ∷ r.lower ∷ []) ≡ report s
report_is s r e = rw e refl

module _ (c : Course) (s : Score) (line : List ℕ) where
  pub finish_stopped : c ≡ Stopped → finish c s line ≡ report s
  unfolding finish
  finish_stopped e = rw e refl

  pub finish_refused : c ≡ Refused → finish c s line ≡ error_after s.lines
  unfolding finish
  finish_refused e = rw e refl

  pub finish_last : (n : ℕ) → c ≡ Going → n ≡ 0 → finish c s (take n line) ≡ report s
  unfolding finish ending
  finish_last n e f = rw (e, f) refl

  pub finish_begun : (n : ℕ) → length line ≡ 34 → c ≡ Going → (n ≡ 0 → ⊥)
      → finish c s (take n line) ≡ error_after s.lines
  unfolding finish ending
  finish_begun n k e f = rw e (go n line f k)
    where
      go : (n : ℕ) (l : List ℕ) → (n ≡ 0 → ⊥) → length l ≡ 34 → ending s (take n l) ≡ error_after s.lines
      go zero l f k = absurd (f refl)
      go (suc n) [] f k = absurd (omega arith)
      go (suc n) (b ∷ l) f k = refl

pub ruleset step_laws = (
  part_length,
  form_late,
  form_as,
  refused_run_lem,
  refused_mu,
  refused_plain,
  refused_within,
  played_run,
  played_mu,
  played_plain,
  longer_run,
  longer_line,
  ends_run,
  ends_line,
)
