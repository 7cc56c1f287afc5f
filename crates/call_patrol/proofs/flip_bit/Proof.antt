use borrow.Author.Rules.{rules}
use Rattle.call_patrol.specs.Patrols.{patrol_laws, flip_is}
use Rattle.call_patrol.proofs.flip_bit.Statement.{statement}
use Rattle.call_patrol.proofs.flip_bit.Tie as tie
use Rattle.call_patrol.proofs.flip_bit.Reads as reads
use Rattle.call_patrol.proofs.flip_bit.Lts as lts
use Rattle.call_patrol.proofs.bit.Reads as bit-reads
use Rattle.geometry.proofs.index.Reads as index_Reads

ruleset all = (rules, patrol_laws)

pub flip_bit_spec : {M : Type 1} → statement M
flip_bit_spec =
    tie.close
    (tie.spec
    (λ c κs. search all)
    (λ c κs. search all)
    (λ c. search all)
    (λ c. search all)
    (λ c. search all)
    (λ c. search all)
    (λ c. search all)
    (λ c.
    let at_args = c.before.before.before.before in
    flip_is _ at_args.args.at at_args.args.n _ _ c.before.before.bit-b.ensures c.before.index-i.ensures.0))
