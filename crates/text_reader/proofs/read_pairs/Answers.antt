use Rattle.std.proofs.Common.{ℕ, suc, ◌≡◌, ◌+◌, ◌-◌, List, refl, ◌∙◌, set, arith, add-one}
use Rattle.geometry.specs.declared.Entry.{Entry}
use Rattle.text_reader.specs.declared.Spot.{Spot}
use Rattle.text_reader.specs.declared.Turn.{Turn}
use Rattle.text_reader.specs.Reader.{turn_of, spot_after, pairs_of, filled}
use Rattle.text_reader.proofs.Lists.{put_from, put_over}
use Rattle.text_reader.proofs.read_pairs.Goals as goal

-- what k turns leave, their pairs put into the slice from place i on
abbrev leaves : List ℕ → ℕ → ℕ → Spot → List Entry → Spot × List Entry
leaves text k i t zs = (spot_after text k t, put_from i (pairs_of text k t) zs)

all_left : (text : List ℕ) (k n : ℕ) (s : Spot) (zs : List Entry) → k ≡ n → leaves text k 0 s zs ≡ filled text n s zs
all_left text k n s zs e = rw (e, put_over (pairs_of text n s) zs) refl

one_turn : (text : List ℕ) (k m i : ℕ) (t : Spot) (zs : List Entry) (r : Turn) → k ≡ suc m → r ≡ turn_of text t
    → leaves text m (i + 1) r.spot (set zs i r.entry) ≡ leaves text k i t zs
unfolding spot_after pairs_of
one_turn text k m i t zs r e f = rw (e, f, add-one) refl

none_left : (text : List ℕ) (k i : ℕ) (t : Spot) (zs : List Entry) → k ≡ 0 → (t, zs) ≡ leaves text k i t zs
unfolding spot_after pairs_of
none_left text k i t zs e = rw e refl

pub loop-i-init : goal.loop-i-init
loop-i-init c = all_left c.args.text.now (c.args.n - 0) c.args.n c.args.s c.args.pairs.now (omega arith)

pub loop-i-preserved : goal.loop-i-preserved
loop-i-preserved c =
    one_turn c.args.text.now (c.args.n - c.loop-i.i) (c.args.n - (c.loop-i.i + 1)) c.loop-i.i c.loop-i.t c.loop-i.pairs c.read_turn-r.result
    (omega arith) c.read_turn-r.ensures ∙ c.loop-i.invariant

pub returns : goal.returns
returns c = none_left c.args.text.now (c.args.n - c.loop-i.i) c.loop-i.i c.loop-i.t c.loop-i.pairs (omega arith) ∙ c.loop-i.invariant
