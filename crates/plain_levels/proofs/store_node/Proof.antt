use borrow.Author.Rules.{rules}
use Rattle.plain_levels.proofs.WayUp.{level_laws}
use Rattle.plain_levels.proofs.store_node.Statement.{statement}
use Rattle.plain_levels.proofs.store_node.Tie as tie
use Rattle.plain_levels.proofs.store_node.Reads as reads
use Rattle.plain_levels.proofs.store_node.Lts as lts
use Rattle.chip_page.proofs.only_bytes.Reads as only-bytes-reads
use Rattle.plain_levels.proofs.number.Reads as number-reads
use Rattle.plain_levels.proofs.page_at.Reads as page-at-reads
use Rattle.chip_store.proofs.put_page.Reads as put-page-reads

ruleset all = (rules, level_laws)

pub store_node_spec : {M : Type 1} → statement M
store_node_spec =
    tie.close
    (tie.spec
    (λ c κs. search all)
    (λ c κs. search all)
    (λ c κs. search all)
    (λ c. search all)
    (λ c κs. search all)
    (λ c. search all)
    (λ c. search all))
