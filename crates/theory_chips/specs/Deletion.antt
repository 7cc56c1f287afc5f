-- A deletion's one page on an abstract chip: R2, R5, R6 hold again, and the map is without K. Assumes nothing.
use Rattle.std.specs.Prelude.{◌≡◌, false, is_none}
use mathlib.Core.List.{List, [], ◌∷◌}
use Prim.Native.Nat.{ℕ, zero, suc, ◌*◌, ◌<◌, ◌≤◌}
use native.Mathlib.Omega.{arith}
use Rattle.std.proofs.Math.ListN.{length}
use Rattle.geometry.specs.declared.Geometry.{Geometry}
use Rattle.geometry.specs.declared.Entry.{Entry}
use Rattle.geometry.specs.Shape.{Shape}
use Rattle.geometry.specs.Bounds.{four_bytes}
use Rattle.model.specs.Count.{count}
use Rattle.model.specs.Image.{Nodes, Chip}
use Rattle.model.specs.Tree.{under, places, places_of, live, map_of, sought}
use Rattle.model.specs.Next.{ahead, taken}
use Rattle.model.specs.Edit.{remove, Top, collapse}
use Rattle.model.specs.Update.{side_page, delete_list, delete_top, delete_part}
use Rattle.theory_nodes.specs.Nodes.{the, fit_of}
use Rattle.theory_chips.specs.Whole.{Whole}

-- the root that is left is no higher
pub collapse_low : (r : Nodes) (l : ℕ) (cs : List Entry) → (collapse r l cs).level ≤ l
unfolding collapse
collapse_low r zero cs = omega arith
collapse_low r (suc l) [] = omega arith
collapse_low r (suc l) (x ∷ []) = omega (arith, collapse_low r l (r x.addr (suc l)))
collapse_low r (suc l) (x ∷ y ∷ cs) = omega arith

-- what N holds at level j
abbrev pub left_list : Geometry → ℕ → Chip → ℕ → ℕ → List Entry
left_list g n c k j = delete_part c k (side_page g n c 1) j

module _ (g : Geometry) (shape : Shape g) (n k : ℕ) (k_low : k < four_bytes) (c : Chip) (good : Whole g n c)
    (present : is_none (sought c k) ≡ false) where
  abbrev r : Nodes
  r = c.nodes

  abbrev N : ℕ
  N = side_page g n c 1

  abbrev lists : ℕ → List Entry
  lists = delete_list c k N

  abbrev fit : ℕ → ℕ → Type 0
  fit = fit_of (g.pages * n) c.er

  abbrev top : Top
  top = delete_top c k N

  -- where the root's list is more than one entry, or the tree is a leaf, the root stays
  unfoldable pub Stays : ℕ → List Entry → Type 0
  Stays zero c = Unit {0}
  Stays (suc l) c = 2 ≤ length c

  pub top_low : top.level ≤ c.level
  unfolding delete_top
  top_low = collapse_low r c.level (lists (suc c.level))

  module _ (free : 1 ≤ count (g.pages * n) c.er) (s : Nodes) (numbers : ℕ → ℕ)
      (at_n : (j : ℕ) → 1 ≤ j → j ≤ g.top → s N j ≡ left_list g n c k j)
      (stays : (q l : ℕ) → fit (suc l) q → s q (suc l) ≡ r q (suc l)) (high : suc c.level ≤ g.top) where
    abbrev pub Done : ℕ → Type 0
    Done l = Whole g n (record { er = (taken g.pages n (ahead g n c) 1).er; seq = numbers; nodes = s; level = l; root = N }) ×
        (under s (suc l) (the N) ≡ remove k (map_of c)) ×
        (count (g.pages * n) (live (places s (suc l) (the N))) ≤ count (g.pages * n) (live (places_of c)))
