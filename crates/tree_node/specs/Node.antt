-- What a node and a carry stand for. Definitions alone; assumes nothing.
use Rattle.std.specs.Prelude.{List, [], ◌∷◌, ◌++◌, ℕ, suc, take, drop}
use Rattle.geometry.specs.declared.Entry.{Entry}
use Rattle.tree_node.specs.declared.Node.{Node}
use Rattle.tree_node.specs.declared.Carry.{Carry}
use Rattle.tree_node.specs.declared.Carry.TheVariants.{Nothing, One, Two}

unfoldable pub entries : Node → List Entry
entries n = take n.count n.e

unfoldable pub carried : Carry → List Entry
carried Nothing = []
carried (One x) = x ∷ []
carried (Two x y) = x ∷ y ∷ []

-- the list with the entry at place i replaced by cs
unfoldable pub replace_by : ℕ → List Entry → List Entry → List Entry
replace_by i cs [] = []
replace_by i cs (e ∷ es) = take i (e ∷ es) ++ (cs ++ drop (suc i) (e ∷ es))
