use borrow.Author.Rules.{rules}
use Rattle.call_patrol.specs.Calls.{call_laws}
use Rattle.call_patrol.proofs.patrol_on.Statement.{statement}
use Rattle.call_patrol.proofs.patrol_on.Tie as tie
use Rattle.call_patrol.proofs.patrol_on.Reads as reads
use Rattle.call_patrol.proofs.patrol_on.Lts as lts
use Rattle.chip_read.proofs.first_page.Reads as first-page-reads
use Rattle.chip_read.proofs.good_blocks.Reads as good-blocks-reads
use Rattle.geometry.proofs.code_place.Reads as code-place-reads
use Rattle.geometry.proofs.halves.Reads as halves-reads
use Rattle.geometry.proofs.index.Reads as index_Reads
use Rattle.geometry.proofs.page_base.Reads as page-base-reads
use Rattle.call_patrol.proofs.finding.Reads as finding-reads
use Rattle.call_patrol.proofs.mended_bit.Reads as mended-bit-reads
use Rattle.call_patrol.proofs.patrol_half.Reads as patrol-half-reads

ruleset all = (rules, call_laws)

pub patrol_on_spec : {M : Type 1} → statement M
patrol_on_spec =
    tie.close
    (tie.spec
    (λ c κs. search all)
    (λ c κs. search all)
    (λ c. search all)
    (λ c. search all)
    (λ c κs. search all)
    (λ c κs. search all)
    (λ c. search all)
    (λ c. search all)
    (λ c κs. search all)
    (λ c κs. search all)
    (λ c. search all)
    (λ c. search all)
    (λ c. search all)
    (λ c κs. search all)
    (λ c κs. search all)
    (λ c κs. search all)
    (λ c. search all)
    (λ c. search all))
