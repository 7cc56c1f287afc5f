use Rattle.std.proofs.Common.{◌≡◌, refl, ◌∙◌, length, arith}
use Rattle.log_feed.specs.Left.{run_left}
use Rattle.log_feed.specs.Parts.{whole_goes, went}
use Rattle.log_feed.proofs.play_part.Goals as goal

pub loop-at-init : goal.loop-at-init
loop-at-init c = record {
  begun = omega arith;
  within = omega arith;
  steady = c.requires.0;
  room = omega arith;
  first = λ _. refl;
  fewer = omega arith;
  same = λ rest. refl;
}

pub overflow_sub-out : goal.overflow_sub-out
overflow_sub-out c = c.loop-at.invariant.room

pub returns-then-out-state-lt86-clause-steady : goal.returns-then-out-state-lt86-clause-steady
returns-then-out-state-lt86-clause-steady c = c.loop-at.invariant.steady

pub returns-then-out-state-lt86-clause-room : goal.returns-then-out-state-lt86-clause-room
returns-then-out-state-lt86-clause-room c = c.loop-at.invariant.room

pub returns-then-out-state-lt86-clause-goes : goal.returns-then-out-state-lt86-clause-goes
returns-then-out-state-lt86-clause-goes c =
    λ h k. went _ c.loop-at.state c.loop-at.out c.args.out.now _ _ c.loop-at.invariant.begun c.loop-at.invariant.first
    c.loop-at.auto.out c.if-out-state-lt86.true k

pub returns-then-out-state-lt86-clause-left : goal.returns-then-out-state-lt86-clause-left
returns-then-out-state-lt86-clause-left c = c.loop-at.invariant.fewer

pub returns-then-out-state-lt86-clause-ran : goal.returns-then-out-state-lt86-clause-ran
returns-then-out-state-lt86-clause-ran c = c.loop-at.invariant.same

pub feed-state-requires : goal.feed-state-requires
feed-state-requires c = (
  c.loop-at.invariant.steady,
  omega (arith, c.loop-at.invariant.room, c.loop-at.auto.out, c.requires.3),
)

pub loop-at-preserved : goal.loop-at-preserved
loop-at-preserved c =
    let inv = c.loop-at.invariant in
    let fed = c.feed-state.ensures in
    let less = run_left c.loop-at.state c.feed-state.result c.loop-at.line c.loop-at.img _ inv.steady fed.run in
    record {
      begun = omega (arith, inv.begun);
      within = omega (arith, c.loop-at-test.true);
      steady = fed.steady;
      room = omega (arith, c.feed-state.auto.out, fed.most, c.if-out-state-lt86.false, inv.room);
      first = λ e. absurd (omega (arith, e, inv.begun));
      fewer = omega (arith, less, inv.fewer, inv.begun);
      same = λ rest. inv.same rest ∙ whole_goes c.loop-at.state c.feed-state.result c.loop-at.line c.loop-at.img
          c.loop-at.out c.feed-state.new.line c.feed-state.new.img c.feed-state.new.out _ fed.run fed.line fed.image fed.out _ rest
          c.loop-at.at c.loop-at-test.true refl (omega (arith, fed.most, c.if-out-state-lt86.false, inv.room));
    }

pub returns-clause-steady : goal.returns-clause-steady
returns-clause-steady c = c.loop-at.invariant.steady

pub returns-clause-room : goal.returns-clause-room
returns-clause-room c = c.loop-at.invariant.room

pub returns-clause-left : goal.returns-clause-left
returns-clause-left c =
    let inv = c.loop-at.invariant in omega (arith, inv.fewer, inv.within, c.loop-at-test.false)

pub returns-clause-ran : goal.returns-clause-ran
returns-clause-ran c =
    let all : c.loop-at.at ≡ length c.args.part.now = omega (arith, c.loop-at.invariant.within, c.loop-at-test.false) in
    λ rest. rw (← all) (c.loop-at.invariant.same rest)
