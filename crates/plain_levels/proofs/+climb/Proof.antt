use borrow.Author.Rules.{rules}
use Rattle.plain_levels.proofs.WayUp.{level_laws}
use Prim.Native.Nat.{ℕ, ◌<◌}
use borrow.Fn.Kinds.{In}
use borrow.Fn.PlainCycle.{Measures, is, falls, and}
use Rattle.plain_levels.proofs.climb.Reads as climb
use Rattle.plain_levels.proofs.climb.Kinds as climb-kinds
use Rattle.plain_levels.proofs.+climb.Lts-climb as climb-lts
use Rattle.tree_load.proofs.take_node.Reads as take-node-reads
use Rattle.plain_levels.proofs.leaf.Reads as leaf-reads
use Rattle.plain_levels.proofs.rejoin.Reads as rejoin-reads
use Rattle.plain_levels.proofs.+climb.{statement}
use Rattle.plain_levels.proofs.+climb.Tie.{close}

ruleset all = (rules, level_laws)

abbrev μ-climb : Measures 1 climb-kinds.ps ℕ
μ-climb κs a = a.1.1.1.1.0

abbrev climb_at : ℕ → In 1 climb-kinds.ps
climb_at t = and 1 climb-kinds.ps (is 1 climb-kinds.ps μ-climb t) climb.Pre

abbrev climb_below : ℕ → In 1 climb-kinds.ps
climb_below t = and 1 climb-kinds.ps (falls 1 climb-kinds.ps ◌<◌ μ-climb t) climb.Pre

pub +climb_spec : {M : Type 1} → statement M
+climb_spec = close μ-climb λ t. climb-lts.spec (
  leaf-reads.Asked,
  leaf-reads.Learnt,
  take-node-reads.Asked,
  take-node-reads.Learnt,
  climb_below t,
  climb.Post,
  rejoin-reads.Asked,
  rejoin-reads.Learnt,
)
    (climb_at t)
    climb.Post
    (λ c κs. search all)
    (λ c. search all)
    (λ c. search all)
    (λ c. search all)
    (λ c κs. search all)
    (λ c. search all)
    (λ c κs. search all)
    (λ c κs. search all)
    (λ c. search all)
    (λ c. search all)
