-- The tree of a sound image of one of the two chips has at most 8,388,608 nodes and 536,870,912 pairs. Assumes nothing.
use Prim.Native.Nat.{ℕ, zero, suc, ◌<◌, ◌≤◌}
use Rattle.std.proofs.Common.{lit≤}
use native.Mathlib.Omega.{arith}
use Rattle.geometry.specs.declared.Geometry.{Geometry}
use Rattle.geometry.specs.Geometry.{small, large, first_slot, slots_of, root_slots, root_most}
use Rattle.geometry.specs.Shape.{Known, is_small, is_large}
use Rattle.theory_nodes.specs.Between.{most_under}
use Rattle.theory_images.specs.Few.{Few, large_nodes, most_nodes, most_pairs, nodes_under}

small_nodes : (l : ℕ) → l < 5 → most_nodes small l ≤ 8388608
unfolding nodes_under root_most root_slots first_slot slots_of
small_nodes zero h = lit≤ tt
small_nodes (suc zero) h = lit≤ tt
small_nodes (suc (suc zero)) h = lit≤ tt
small_nodes (suc (suc (suc zero))) h = lit≤ tt
small_nodes (suc (suc (suc (suc zero)))) h = lit≤ tt
small_nodes (suc (suc (suc (suc (suc l))))) h = absurd (omega (arith, h))

small_pairs : (l : ℕ) → l < 5 → most_pairs small l ≤ 536870912
unfolding most_under root_most root_slots first_slot slots_of
small_pairs zero h = lit≤ tt
small_pairs (suc zero) h = lit≤ tt
small_pairs (suc (suc zero)) h = lit≤ tt
small_pairs (suc (suc (suc zero))) h = lit≤ tt
small_pairs (suc (suc (suc (suc zero)))) h = lit≤ tt
small_pairs (suc (suc (suc (suc (suc l))))) h = absurd (omega (arith, h))

large_pairs : (l : ℕ) → l < 7 → most_pairs large l ≤ 536870912
unfolding most_under root_most root_slots first_slot slots_of
large_pairs zero h = lit≤ tt
large_pairs (suc zero) h = lit≤ tt
large_pairs (suc (suc zero)) h = lit≤ tt
large_pairs (suc (suc (suc zero))) h = lit≤ tt
large_pairs (suc (suc (suc (suc zero)))) h = lit≤ tt
large_pairs (suc (suc (suc (suc (suc zero))))) h = lit≤ tt
large_pairs (suc (suc (suc (suc (suc (suc zero)))))) h = lit≤ tt
large_pairs (suc (suc (suc (suc (suc (suc (suc l))))))) h = absurd (omega (arith, h))

pub known_few : (g : Geometry) → Known g → Few g
known_few _ is_small = record { nodes = small_nodes; pairs = small_pairs }
known_few _ is_large = record { nodes = large_nodes; pairs = large_pairs }
