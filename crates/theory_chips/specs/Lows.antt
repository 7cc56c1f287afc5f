-- "after each move the table equals the one worked out afresh", on every chip that keeps R2, R5 and R6: the lowest live
-- levels after a move are those before, but for the new page and the pages whose lowest live node stands on the path.
-- Assumes nothing.
use Rattle.std.specs.Prelude.{ℕ, suc, ◌*◌, ◌≤◌, ◌≡◌, refl, List, true}
use Rattle.geometry.specs.declared.Geometry.{Geometry}
use Rattle.geometry.specs.Geometry.{half, root_most}
use Rattle.geometry.specs.Shape.{Shape}
use Rattle.geometry.specs.Bounds.{four_bytes}
use Rattle.model.specs.Count.{count}
use Rattle.model.specs.Image.{Chip, the_root}
use Rattle.model.specs.Tree.{Place, places_of, live, low_level}
use Rattle.model.specs.Next.{ahead, next_page, after}
use Rattle.model.specs.Collect.{move_key}
use Rattle.theory_nodes.specs.Nodes.{fit_of}
use Rattle.theory_nodes.specs.PathPlaces.{path_places}
use Rattle.theory_trees.specs.Lows.{Lowered}
use Rattle.theory_trees.proofs.Lows.{lowered}
use Rattle.theory_chips.specs.Whole.{Whole}
use Rattle.theory_chips.specs.Moves.{move_to, keep, not_new, stays, low, made, at_root_lem, fit_new, k_low}

-- the path to the lowest live node of page p, from its level up
abbrev pub move_path : Chip → ℕ → List Place
move_path c p = path_places c.nodes (move_key c p) (low_level (places_of c) p) (suc c.level) (the_root c)

module _ (g : Geometry) (shape : Shape g) (n : ℕ) (c : Chip) (good : Whole g n c)
    (p : ℕ) (alive : live (places_of c) p ≡ true)
    (free : 1 ≤ count (g.pages * n) c.er) where
  abbrev new : ℕ
  new = next_page g.pages n (ahead g n c)

  pub low_moved : Lowered new (low_level (places_of c) p) (places_of c) (move_path c p)
      (places_of (move_to (g.pages * n) c p new))
  unfolding move_to
  low_moved = lowered p (low_level (places_of c) p) new four_bytes (half g) (root_most g) c.nodes (move_to (g.pages * n) c p new).nodes
      (fit_of (g.pages * n) c.er) (fit_of (g.pages * n) (after new c.er)) (fit_new g shape n c good p alive free)
      (keep g shape n c good p alive free) (stays g shape n c good p alive free) (λ l h. not_new g shape n c good p alive free new l h refl)
      c.level c.root good.sound (low g shape n c good p alive free).0 (low g shape n c good p alive free).1
      (made g shape n c good p alive free) (at_root_lem g shape n c good p alive free) (λ _. k_low g shape n c good p alive free)
