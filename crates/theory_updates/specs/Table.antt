-- What fits a page, by the table. Assumes nothing.
use Rattle.std.specs.Prelude.{◌≡◌, List, [], false, ℕ, suc, ◌+◌, ◌<◌, ◌≤◌, length}
use Rattle.std.proofs.Common.{ap, arith}
use Rattle.geometry.specs.declared.Geometry.{Geometry}
use Rattle.geometry.specs.declared.Entry.{Entry}
use Rattle.geometry.specs.Geometry.{slots, first_slot, slots_of, root_slots, root_most, in_table}
use Rattle.geometry.specs.Shape.{Shape, most_slots}
use Rattle.theory_counts.specs.Cases.{by_eq, by_le, true_false}
use Rattle.theory_lists.specs.All.{All}
use Rattle.theory_images.specs.Bytes.{Fits}
use Rattle.theory_images.specs.Page.{in_table_lem}
use Rattle.theory_images.specs.Built.{Parts, parts_table}

module _ (g : Geometry) (shape : Shape g) where
  pub slots_byte : (l : ℕ) → 1 ≤ l → l ≤ g.top → slots_of g l < 256
  slots_byte l a b = let x = shape.fits l in let y = shape.byte l a b in omega (arith, x, y)

  pub root_inside : (l m : ℕ) → l ≤ g.top → m ≤ root_most g l → first_slot g l + m ≤ slots g
  unfolding root_slots
  root_inside l m b h = let x = most_slots g l in let y = shape.room l b in omega (arith, x, y, h)

  -- a level that the table has not is 0 or above the root
  pub off_table : (l h : ℕ) → h ≤ g.top → in_table g l ≡ false → 1 ≤ l → h < l
  off_table l h b e i = by_le (suc h) l (λ z. z) (λ z. absurd (true_false (in_table g l) (in_table_lem g l i (omega (arith, z, b))) e))

  -- levels below h within the slots, level h within the root's, nothing above
  pub parts_most : (h : ℕ) (parts : ℕ → List Entry) → 1 ≤ h → h ≤ g.top
      → ((l : ℕ) → 1 ≤ l → l ≤ g.top → All Fits (parts l))
      → ((l : ℕ) → 1 ≤ l → l < h → length (parts l) ≤ slots_of g l)
      → length (parts h) ≤ root_most g h → ((l : ℕ) → h < l → parts l ≡ []) → Parts g parts
  parts_most h parts a b fits low high above =
      parts_table g shape h parts fits low (λ q. root_inside h (length (parts h)) q high)
      (λ l q. ap length (above l q)) bytes
    where
      bytes : (l : ℕ) → 1 ≤ l → l ≤ g.top → length (parts l) < 256
      bytes l i k = by_le (suc l) h (λ z. let x = low l i z in let y = slots_byte l i k in omega (arith, x, y))
          (λ z. by_eq l h (λ e. let y = shape.byte l i k in let u = ap (λ m. length (parts m)) e in let w =
          ap (root_most g) e in
          omega (arith, high, y, u, w))
          (λ e. let x = ap length (above l (omega (arith, z, e))) in omega (arith, x)))
