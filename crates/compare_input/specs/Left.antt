-- A run is over after 35,000,035 bytes at the latest: each byte lowers a number. Assumes nothing.
use Rattle.std.specs.Prelude.{◌≡◌, refl, Bool, true, false, not, List, [], ◌∷◌, ◌++◌, ℕ, ◌+◌, ◌-◌, ◌≤◌, eqb, ltb, length}
use Rattle.std.proofs.Common.{sym, subst, arith, length-append, ltb-true}
use Rattle.geometry.specs.Geometry.{small}
use Rattle.geometry.specs.Tests.{pick, ◌&◌}
use Rattle.model.specs.Calls.{Outcome}
use Rattle.log_lines.specs.declared.Order.{Order}
use Rattle.log_lines.specs.Line.{Line, Of, Other}
use Rattle.log_lines.specs.Forms.{parsed}
use Rattle.log_lines.specs.Replay.{obeyed, most_lines, form_after}
use Rattle.log_lines.specs.Short.{longest}
use Rattle.log_lines.specs.Bytewise.{part_length, bytes_left}
use Rattle.compare_scores.specs.declared.Score.{Score}
use Rattle.compare_scores.specs.Scores.{plain_obeyed, stops, counts, scored}
use Rattle.compare_machine.specs.declared.Course.TheVariants.{Stopped}
use Rattle.compare_machine.specs.declared.Run.{Run}
use Rattle.compare_machine.specs.Machine.{State, goes, in_line, refused, played, close, longer, feed}
use Rattle.compare_machine.specs.Run.{state_of, run_of, Steady}

abbrev left_in : State → ℕ
left_in s = bytes_left (not (goes s.course)) s.score.lines (length s.line)

abbrev pub left : Run → ℕ
left r = bytes_left (not (goes r.course)) r.score.lines r.filled

scored_lines : (s : Score) (order : Order) (a b : Outcome) → (scored s order a b).lines ≡ s.lines + 1
unfolding scored
scored_lines s order a b = go (counts order a b)
  where
    go : (t : Bool) → (pick {A = Score} t
        (record { lines = s.lines + 1; updates = s.updates + 1; mu = s.mu + a.programmed; plain = s.plain + b.programmed })
        (record { lines = s.lines + 1; updates = s.updates; mu = s.mu; plain = s.plain })).lines ≡ s.lines + 1
    go true = refl
    go false = refl

played_left : (s : Score) (order : Order) (a b : Outcome) (n : ℕ) → s.lines + 1 ≤ most_lines → n ≤ longest
    → left_in (played s order a b) ≤ bytes_left false s.lines n - 1
unfolding played
played_left s order a b n h k = go (not (stops a) & not (stops b))
  where
    go : (t : Bool) → left_in (pick t (in_line [] (scored s order a b) a.image b.image)
        (record { line = []; score = s; mu = a.image; plain = b.image; course = Stopped }))
        ≤ bytes_left false s.lines n - 1
    go true = let q = scored_lines s order a b in omega (arith, q, h, k)
    go false = omega arith

close_left : (s : Score) (mu pl line : List ℕ) → length line ≤ longest
    → left_in (close s mu pl (form_after s.lines line)) ≤ bytes_left false s.lines (length line) - 1
unfolding close form_after
close_left s mu pl line h = go (ltb s.lines most_lines) refl (parsed line)
  where
    go : (u : Bool) → ltb s.lines most_lines ≡ u → (x : Line)
        → left_in (close s mu pl (pick u x Other)) ≤ bytes_left false s.lines (length line) - 1
    go true e Other = omega arith
    go true e (Of order) = played_left s order (obeyed small order mu) (plain_obeyed order pl) (length line)
        (let q = ltb-true s.lines most_lines e in omega (arith, q)) h
    go false e x = omega arith

longer_left : (s : State) (b : ℕ) → left_in (longer s b) ≤ bytes_left false s.score.lines (length s.line) - 1
unfolding longer
longer_left s b = go (ltb (length s.line) longest) refl
  where
    go : (u : Bool) → ltb (length s.line) longest ≡ u
        → left_in (pick u (in_line (s.line ++ (b ∷ [])) s.score s.mu s.plain)
        (refused s.score s.mu s.plain))
        ≤ bytes_left false s.score.lines (length s.line) - 1
    go true e = let q = ltb-true (length s.line) longest e in let n = length-append s.line (b ∷ []) in
        omega (arith, q, n)
    go false e = omega arith

feed_left : (s : State) (b : ℕ) → length s.line ≤ longest → left_in (feed s b) ≤ left_in s - 1
unfolding feed
feed_left s b h = go (goes s.course) refl (eqb b 10)
  where
    go : (u : Bool) → goes s.course ≡ u → (v : Bool)
        → left_in (pick u (pick v (close s.score s.mu s.plain (form_after s.score.lines s.line))
        (longer s b)) s)
        ≤ bytes_left (not u) s.score.lines (length s.line) - 1
    go true e true = close_left s.score s.mu s.plain s.line h
    go true e false = longer_left s b
    go false e v = rw e (omega arith)

-- in the code's words
pub run_left : (run r : Run) (line mu pl : List ℕ) (b : ℕ) → Steady run line
    → r ≡ run_of (feed (state_of run line mu pl) b) → left r ≤ left run - 1
run_left run r line mu pl b h e =
    let n = part_length line run.filled h.filled h.room in
    subst (λ (x : Run). left x ≤ left run - 1) (sym e)
    (subst (λ k. left_in (feed (state_of run line mu pl) b) ≤ bytes_left (not (goes run.course)) run.score.lines k - 1) n
    (feed_left (state_of run line mu pl) b (omega (arith, n, h.filled))))
