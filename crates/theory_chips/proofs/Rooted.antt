-- The erase of an emptied block. Assumes nothing.
use Rattle.std.specs.Prelude.{◌≡◌}
use Rattle.std.proofs.Common.{arith}
use Rattle.std.proofs.Math.Bool.{true}
use Prim.Native.Nat.{ℕ, ◌-◌, ◌*◌, ◌<◌, ◌≤◌}
use Rattle.geometry.specs.declared.Geometry.{Geometry}
use Rattle.geometry.specs.Geometry.{half, root_most}
use Rattle.geometry.specs.Shape.{Shape}
use Rattle.geometry.specs.Bounds.{four_bytes}
use Rattle.model.specs.Image.{Chip}
use Rattle.theory_nodes.specs.Nodes.{Rooted, rooted_with, fit_of}
use Rattle.theory_chips.specs.Sweep.{Sweeping}
use Rattle.theory_chips.specs.Erase.{fit_outside, in_b, outside}

module _ (g : Geometry) (shape : Shape g) (n : ℕ) (v : ℕ) (v-in : v < n) (c : Chip) (sw : Sweeping g n v 0 c) where
  pub rooted : Rooted (fit_outside g shape n v v-in c sw) (λ l. 2 * half g l) (root_most g) four_bytes c.nodes c.level c.root
  rooted = rooted_with (fit_of (g.pages * n) c.er) (λ l. 2 * half g l) (root_most g) four_bytes c.nodes
      (λ l q. 1 ≤ l → in_b g.pages v q ≡ true → ⊥) c.level c.root (λ a z. absurd (omega arith)) (outside g shape n v v-in c sw) sw.good.sound.rooted
