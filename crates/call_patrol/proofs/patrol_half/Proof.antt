use borrow.Author.Rules.{rules}
use Rattle.call_patrol.specs.Patrols.{patrol_laws, found_data, after_data, found_code, after_code, found_beyond, after_beyond}
use Rattle.call_patrol.proofs.patrol_half.Statement.{statement}
use Rattle.call_patrol.proofs.patrol_half.Tie as tie
use Rattle.call_patrol.proofs.patrol_half.Reads as reads
use Rattle.call_patrol.proofs.patrol_half.Lts as lts
use Rattle.chip_codes.proofs.fresh_code.Reads as fresh-code-reads
use Rattle.call_patrol.proofs.difference.Reads as difference-reads
use Rattle.call_patrol.proofs.flip_bit.Reads as flip-bit-reads
use Rattle.call_patrol.proofs.in_pairs.Reads as in-pairs-reads
use Rattle.chip_page.proofs.put_code.Reads as put-code-reads
use Rattle.chip_read.proofs.code_at.Reads as code-at-reads

ruleset all = (rules, patrol_laws)

pub patrol_half_spec : {M : Type 1} → statement M
patrol_half_spec =
    tie.close
    (tie.spec
    (λ c κs. search all)
    (λ c κs. search all)
    (λ c κs. search all)
    (λ c. search all)
    (λ c. search all)
    (λ c κs. search all)
    (λ c κs. search all)
    (λ c. search all)
    (λ c.
    let at_if2 = c.before.before.before.before in
    let at_in_pairs = at_if2.before in
    let at_if1 = at_in_pairs.before in
    let at_difference = at_if1.before in
    let at_code_at = at_difference.before in
    let at_fresh_code = at_code_at.before in (
      found_data _ _ _ _ _ _ at_difference.difference-d.ensures.0 at_code_at.code_at.ensures.0 at_fresh_code.fresh_code-fresh.ensures.0 _ at_in_pairs.in_pairs.ensures at_if2.if-in_pairs.true at_if1.if-d-eq0.false,
      after_data _ _ _ _ _ _ at_difference.difference-d.ensures.0 at_code_at.code_at.ensures.0 at_fresh_code.fresh_code-fresh.ensures.0 _ _ at_in_pairs.in_pairs.ensures at_if2.if-in_pairs.true at_if1.if-d-eq0.false c.before.before.flip_bit.ensures,
    ))
    (λ c κs. search all)
    (λ c. search all)
    (λ c.
    let at_if3 = c.before.before.before.before in
    let at_if2 = at_if3.before in
    let at_in_pairs = at_if2.before in
    let at_if1 = at_in_pairs.before in
    let at_difference = at_if1.before in
    let at_code_at = at_difference.before in
    let at_fresh_code = at_code_at.before in (
      found_code _ _ _ _ _ _ at_difference.difference-d.ensures.0 at_code_at.code_at.ensures.0 at_fresh_code.fresh_code-fresh.ensures.0 _ at_in_pairs.in_pairs.ensures at_if2.if-in_pairs.false at_if1.if-d-eq0.false at_difference.difference-d.ensures.1 at_if3.if-d-eq1.true,
      after_code _ _ _ _ _ _ at_difference.difference-d.ensures.0 at_code_at.code_at.ensures.0 at_fresh_code.fresh_code-fresh.ensures.0 _ _ at_in_pairs.in_pairs.ensures at_if2.if-in_pairs.false at_if1.if-d-eq0.false at_difference.difference-d.ensures.1 at_if3.if-d-eq1.true c.before.before.put_code.ensures,
    ))
    (λ c. search all)
    (λ c.
    let at_if1 = c.before.before.before in
    let at_difference = at_if1.before in
    let at_code_at = at_difference.before in
    let at_fresh_code = at_code_at.before in (
      found_beyond _ _ _ _ _ _ at_difference.difference-d.ensures.0 at_code_at.code_at.ensures.0 at_fresh_code.fresh_code-fresh.ensures.0 _ c.before.before.in_pairs.ensures c.before.if-in_pairs.false at_if1.if-d-eq0.false at_difference.difference-d.ensures.1 c.if-d-eq1.false,
      after_beyond _ _ _ _ _ _ at_difference.difference-d.ensures.0 at_code_at.code_at.ensures.0 at_fresh_code.fresh_code-fresh.ensures.0 _ c.before.before.in_pairs.ensures c.before.if-in_pairs.false at_if1.if-d-eq0.false at_difference.difference-d.ensures.1 c.if-d-eq1.false,
    )))
