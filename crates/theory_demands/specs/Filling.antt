-- Request 10's proof: after n insertions with x pages beyond them the tree has x + height − 1 nodes below its root,
-- each at least half full, and half-full nodes are few. Assumes nothing.
use Rattle.std.specs.Prelude.{◌≡◌, true}
use Rattle.std.proofs.Math.Path.{refl}
use Rattle.std.proofs.Common.{ap, ◌∙◌}
use mathlib.Core.List.{List}
use Prim.Native.Nat.{ℕ, ◌+◌, ◌*◌, ◌<◌, ◌≤◌}
use native.Mathlib.Omega.{arith}
use Rattle.std.proofs.Math.ListN.{length}
use Rattle.geometry.specs.declared.Geometry.{Geometry}
use Rattle.geometry.specs.Geometry.{small, slots_of, half}
use Rattle.geometry.specs.Shape.{Shape, shape_core}
use Rattle.geometry.proofs.Shape.{small_shape}
use Rattle.model.specs.Bytes.{byte_at}
use Rattle.model.specs.Image.{blocks_of, good_length, chip_of}
use Rattle.model.specs.Tree.{under}
use Rattle.model.specs.Update.{root_node}
use Rattle.model.specs.Calls.{format}
use Rattle.theory_trees.specs.Fill.{bare_nodes, bare_all, Filled, nodes_most}
use Rattle.theory_chips.specs.Whole.{nodes_below, HalfFull}
use Rattle.theory_images.specs.Held.{height_most}
use Rattle.theory_images.specs.Lengths.{good_blocks_lem}
use Rattle.theory_updates.specs.Format.{formatted_level}
use Rattle.theory_demands.specs.Inserts.{chip_at}
use Rattle.theory_demands.specs.Words.{Ready, map_at}
use Rattle.theory_demands.specs.Bridges.{some_pages, ready_keeps}
use Rattle.theory_demands.specs.Builds.{format_holds, new_is, new_blocks}

module _ (g : Geometry) (shape : Shape g) where
  -- what holds after n insertions with x pages beyond them
  pub record Stands (img : List ℕ) (n x : ℕ) : Type 0 where
    pub ready : Ready g img
    pub pairs : length (map_at g img) ≡ n
    pub nodes : length (nodes_below (chip_at g img)) ≡ x + (chip_at g img).level
    pub filled : HalfFull g (chip_at g img)

  -- a formatted image
  pub format_stands : 1 ≤ g.worn → (img : List ℕ) → good_length g img ≡ true → ((i : ℕ) → byte_at img i < 256)
      → Stands (format g img).image 0 0
  format_stands some img good bytes =
      let new = (format g img).image in
      let holds = format_holds g shape some img good bytes in
      let b = good_blocks_lem g img good in
      let nb = new_blocks g shape some img good bytes in
      let low : (chip_at g new).level ≡ 0 = ap (λ m. (chip_of g m new).level) nb
      ∙ ap (λ (x : List ℕ). (chip_of g (blocks_of g img) x).level)
      (new_is g shape some img good bytes) ∙ formatted_level g (shape_core g shape) (blocks_of g img) b.least img b.image bytes in
      record {
        ready = holds.ready;
        pairs = ap length holds.map_is;
        nodes = (let z = bare_nodes (chip_at g new).nodes (chip_at g new).level (root_node (chip_at g new)) low in
            omega (arith, z, low));
        filled = bare_all (Filled (half g) (chip_at g new).nodes) (chip_at g new).nodes (chip_at g new).level (root_node (chip_at g new)) low;
      }

-- the small geometry: the bound
pub small_most : (img : List ℕ) (n x : ℕ) → Stands small small_shape img n x → 1024 * (x + (chip_at small img).level) ≤ 75 * n
unfolding slots_of under
small_most img n x h =
    let c = chip_at small img in
    let top = height_most small (shape_core small small_shape) (blocks_of small img) img (some_pages small small_shape img h.ready)
    (ready_keeps small small_shape img h.ready).held in
    let z = nodes_most (half small) c.nodes refl refl refl refl c.level (root_node c) (omega (arith, top)) h.filled in
    omega (arith, z, h.nodes, h.pairs)
