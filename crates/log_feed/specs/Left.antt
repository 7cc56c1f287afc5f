-- A run is over after 35,000,035 bytes at the latest: each byte lowers a number. Assumes nothing.
use Rattle.std.specs.Prelude.{◌≡◌, Bool, List, [], ◌∷◌, ◌++◌, ℕ, ◌-◌, ◌≤◌, eqb, length}
use Rattle.std.proofs.Math.Path.{refl}
use Rattle.std.proofs.Common.{sym, subst, length-append}
use Rattle.std.proofs.Math.Bool.{true, false}
use native.Mathlib.Omega.{arith}
use Rattle.std.proofs.Math.Dec.{ltb}
use borrow.Author.Tests.{ltb-true}
use Rattle.geometry.specs.Geometry.{small}
use Rattle.geometry.specs.Tests.{pick}
use Rattle.log_tally.specs.declared.Tally.{Tally}
use Rattle.log_lines.specs.Line.{Line, Of, Other}
use Rattle.log_lines.specs.Forms.{parsed}
use Rattle.log_lines.specs.Replay.{most_lines, form_after, form_at}
use Rattle.log_machine.specs.declared.Run.{Run}
use Rattle.log_lines.specs.Short.{longest}
use Rattle.log_lines.specs.Bytewise.{part_length, bytes_left}
use Rattle.log_machine.specs.Machine.{State, close, longer, feed}
use Rattle.log_machine.specs.Run.{state_of, run_of, Steady}

abbrev left_in : State → ℕ
left_in s = bytes_left s.over s.tally.lines (length s.line)

abbrev pub left : Run → ℕ
left r = bytes_left r.over r.tally.lines r.filled

module _ (t : Tally) (img : List ℕ) where
  close_left : (line : List ℕ) → length line ≤ 34 → left_in (close small t img (form_at t line)).state ≤ bytes_left false
      t.lines (length line) - 1
  unfolding close form_after
  close_left line h = go (ltb t.lines most_lines) refl (parsed line)
    where
      go : (u : Bool) → ltb t.lines most_lines ≡ u → (x : Line)
          → left_in (close small t img (pick u x Other)).state ≤ bytes_left false t.lines (length line) - 1
      go true e Other = omega arith
      go true e (Of order) = let q = ltb-true t.lines 1000000 e in omega (arith, q, h)
      go false e x = omega arith

longer_left : (s : State) (b : ℕ) → left_in (longer small s b).state ≤ bytes_left false s.tally.lines
    (length s.line) - 1
unfolding longer close
longer_left s b = go (ltb (length s.line) longest) refl
  where
    go : (u : Bool) → ltb (length s.line) longest ≡ u
        → left_in (pick u (record {
          state = record {
            line = s.line ++ (b ∷ []);
            tally = s.tally;
            image = s.image;
            over = false;
          };
          out = [];
        }) (close small s.tally s.image Other)).state
        ≤ bytes_left false s.tally.lines (length s.line) - 1
    go true e = let q = ltb-true (length s.line) 34 e in let n = length-append s.line (b ∷ []) in
        omega (arith, q, n)
    go false e = omega arith

feed_left : (s : State) (b : ℕ) → length s.line ≤ 34 → left_in (feed small s b).state ≤ left_in s - 1
unfolding feed
feed_left s b h = go s.over refl (eqb b 10)
  where
    go : (u : Bool) → s.over ≡ u → (v : Bool)
        → left_in (pick u (record { state = s; out = [] })
        (pick v (close small s.tally s.image (form_at s.tally s.line)) (longer small s b))).state
        ≤ bytes_left u s.tally.lines (length s.line) - 1
    go true e v = rw e (omega arith)
    go false e true = close_left s.tally s.image s.line h
    go false e false = longer_left s b

-- in the code's words
pub run_left : (run r : Run) (line img : List ℕ) (b : ℕ) → Steady run line
    → r ≡ run_of (feed small (state_of run line img) b) run.wrote → left r ≤ left run - 1
run_left run r line img b h e =
    let n = part_length line run.filled h.filled h.room in
    subst (λ (x : Run). left x ≤ left run - 1) (sym e)
    (subst (λ k. left_in (feed small (state_of run line img) b).state ≤ bytes_left run.over run.tally.lines k - 1) n
    (feed_left (state_of run line img) b (omega (arith, n, h.filled))))
