-- What an update of the plain tree counts before its stores, on every image. Definitions alone; assumes nothing.
use Rattle.std.specs.Prelude.{ℕ, zero, suc, ◌+◌, ◌-◌, ◌≤◌, Bool, true, false, ◌≡◌, List, length, eqb, Option, None, Some, is_none}
use Rattle.geometry.specs.declared.Geometry.{Geometry}
use Rattle.geometry.specs.declared.Entry.{Entry}
use Rattle.geometry.specs.Tests.{pick}
use Rattle.model.specs.Bytes.{node_at}
use Rattle.model.specs.Count.{count}
use Rattle.model.specs.Image.{Nodes, Chip, the_root}
use Rattle.model.specs.Tree.{chosen, leaf, find_in, sought}
use Rattle.model.specs.Edit.{remove_in, kept, edited, on_path}
use Rattle.model.specs.Update.{delete_list}
use Rattle.model.specs.Plain.{plain_cuts, plain_grows, none_left, emptied}
use Rattle.tree_plan.specs.declared.Run.{Run}
use Rattle.plain_calls.specs.declared.Loss.{Loss}

-- the levels that an insert splits, and whether the root is one
pub record Cuts (g : Geometry) (c : Chip) (k : ℕ) (r : Run) : Type 0 where
  pub cuts : r.splits ≡ plain_cuts g c k
  pub grows : r.gains ≡ plain_grows g c k
  pub few : r.splits ≤ suc c.level

-- the node that e names with l levels below it, after a delete (whether a node is emptied does not hang on page
-- numbers: 0)
abbrev pub less_of : Nodes → ℕ → ℕ → Entry → List Entry
less_of r k l e = edited r k (remove_in k) (kept 0) l e

-- how many of the levels below it are emptied
abbrev pub emptied_below : Nodes → ℕ → ℕ → Entry → ℕ
emptied_below r k l e = count l (λ j. none_left (on_path r k (remove_in k) (kept 0) l e (suc j)))

-- what a delete does to that node, and whether its key is absent there
pub record Loses (g : Geometry) (img : List ℕ) (k l : ℕ) (e : Entry) (missing : Bool) (r : Loss) : Type 0 where
  pub absent : missing ≡ is_none (find_in k (leaf (node_at g img) k l e))
  pub emptied : r.emptied ≡ emptied_below (node_at g img) k l e
  pub left : r.left ≡ length (less_of (node_at g img) k l e)
  pub few : r.emptied ≤ l

-- what is counted where the key is absent: the leaf keeps its entries, and a node above loses one where the node below
-- has none
unfoldable pub idle_loss : Nodes → ℕ → ℕ → Entry → Loss
idle_loss r k zero e = record { emptied = 0; left = length (r e.addr 1) }
idle_loss r k (suc l) e =
    let below = idle_loss r k l (chosen k (r e.addr (suc (suc l)))) in
    pick (eqb below.left 0)
    (record { emptied = below.emptied + 1; left = length (r e.addr (suc (suc l))) - 1 })
    (record { emptied = below.emptied; left = length (r e.addr (suc (suc l))) })

-- the loss of a key that stands there; where it is absent, none is handed out
abbrev pub LosesSome : Geometry → List ℕ → ℕ → ℕ → Entry → Option Loss → Type 0
LosesSome g img k l e None = Loses g img k l e true (idle_loss (node_at g img) k l e)
LosesSome g img k l e (Some r) = Loses g img k l e false r

-- the same of the root
pub record Sheds (c : Chip) (k : ℕ) (missing : Bool) (r : Loss) : Type 0 where
  pub absent : missing ≡ is_none (sought c k)
  pub emptied : r.emptied ≡ emptied c k
  pub left : r.left ≡ length (delete_list c k 0 (suc c.level))
  pub few : r.emptied ≤ c.level

abbrev pub ShedsSome : Chip → ℕ → Option Loss → Type 0
ShedsSome c k None = Sheds c k true (idle_loss c.nodes k c.level (the_root c))
ShedsSome c k (Some r) = Sheds c k false r
