-- The two stores on the image's bytes: which views change, and what the chip then is. Assumes nothing.
use Rattle.std.specs.Prelude.{◌≡◌, Bool, true, false, length, eqb, ltb}
use Rattle.std.proofs.Math.Path.{refl, ap}
use Rattle.std.proofs.Common.{sym, subst, ◌∙◌, inl, inr, arith, zero-add, add-mul, mul-le-mul_right, lt-ltb, le-leb, eq-eqb, ne_eqb, ltb-true, ltb-false}
use mathlib.Core.List.{List}
use Prim.Native.Nat.{ℕ, ◌+◌, ◌-◌, ◌*◌, ◌<◌, ◌≤◌}
use Rattle.geometry.specs.declared.Geometry.{Geometry}
use Rattle.geometry.specs.Tests.{pick}
use Rattle.geometry.specs.Geometry.{page_bytes, page_base}
use Rattle.geometry.specs.Shape.{Core, base_apart}
use Rattle.model.specs.Bytes.{byte_at}
use Rattle.model.specs.Image.{pages_of, chip_of}
use Rattle.model.specs.Stores.{Store, program, erase, written, apply_store}
use Rattle.theory_lists.specs.Written.{length_written, written_inside}
use Rattle.theory_counts.specs.Cases.{by_eq, true_false}
use Rattle.theory_chips.specs.Next.{block_in}
use Rattle.theory_chips.specs.Erase.{in_b, range, erase_block}
use Rattle.theory_images.specs.Bytes.{Off, written_off}
use Rattle.theory_images.specs.Views.{no_view, top_of, root_at, chip, laid, wipe, chip_wipe, R3, AllR1, r1_wipe, r3_wipe, R4, r4_wipe, max_wipe}
use Rattle.theory_images.specs.Page.{view_from, views, view_chip, copy_view, view_erased}

-- n blocks of bytes
abbrev pub Image : Geometry → ℕ → List ℕ → Type 0
Image g n img = length img ≡ page_base g (pages_of g n)

pub length_store : (g : Geometry) (s : Store) (img : List ℕ) → length (apply_store g s img) ≡ length img
unfolding apply_store
length_store g (program p bs) img = length_written img (page_base g p) (byte_at bs) (page_bytes g)
length_store g (erase b) img = length_written img (page_base g (g.pages * b)) (λ k. 255) (page_base g g.pages)

pub base_add : (g : Geometry) (p q : ℕ) → page_base g (p + q) ≡ page_base g p + page_base g q
unfolding page_base
base_add g p q = add-mul p q (page_bytes g)

pub base_le : (g : Geometry) (p q : ℕ) → p ≤ q → page_base g p ≤ page_base g q
unfolding page_base
base_le g p q h = mul-le-mul_right (page_bytes g) h

-- pages do not overlap
pub page_off : (g : Geometry) (p q k : ℕ) → (q ≡ p → ⊥) → k < page_bytes g → Off (page_base g q + k) (page_base g p)
    (page_bytes g)
page_off g p q k d h = go (ltb q p) refl
  where
    go : (t : Bool) → ltb q p ≡ t → Off (page_base g q + k) (page_base g p) (page_bytes g)
    go true e = let w = base_apart g q p (ltb-true q p e) in inl (omega (arith, w))
    go false e = let z = ltb-false q p e in let w = base_apart g p q (omega (arith, z, d)) in inr (omega (arith, w))

pub within : (p b q : ℕ) → p * b ≤ q → q < p * b + p → in_b p b q ≡ true
unfolding in_b
within p b q x y = rw (le-leb (p * b) q x, lt-ltb q (p * b + p) y) refl

module _ (g : Geometry) (core : Core g) (img : List ℕ) where
  -- program: one view changes
  pub views_program : (p : ℕ) (bs : List ℕ) → page_base g p + page_bytes g ≤ length img
      → views g (apply_store g (program p bs) img) ≡ laid (views g img) p (view_from g bs 0)
  unfolding apply_store
  views_program p bs room = λ i q. at q i
    where
      new : List ℕ
      new = written img (page_base g p) (byte_at bs) (page_bytes g)

      at : (q : ℕ)
          → view_from g (written img (page_base g p) (byte_at bs) (page_bytes g)) (page_base g q) ≡ pick (eqb q p)
          (view_from g bs 0)
          (view_from g img (page_base g q))
      at q = by_eq q p
          (λ e. rw (eq-eqb q p e, e) (copy_view g core bs 0 (written img (page_base g p) (byte_at bs) (page_bytes g)) (page_base g p)
          (λ k h. rw zero-add (written_inside img (page_base g p) (byte_at bs) (page_bytes g) k 0 room h))))
          (λ e. rw (ne_eqb q p e) (copy_view g core img (page_base g q) (written img (page_base g p) (byte_at bs) (page_bytes g)) (page_base g q)
          (λ k h. written_off img (page_base g p) (byte_at bs) (page_bytes g) (page_base g q + k) (page_off g p q k e h))))

  -- erase: the views of one block go
  pub views_erase : (b : ℕ) → page_base g (g.pages * b) + page_base g g.pages ≤ length img
      → views g (apply_store g (erase b) img) ≡ wipe g b (views g img)
  unfolding apply_store
  views_erase b room = λ i q. at q (in_b g.pages b q) refl i
    where
      inside : (q k : ℕ) → (g.pages * b ≤ q) × (q < g.pages * b + g.pages) → k < page_bytes g
          → byte_at (written img (page_base g (g.pages * b)) (λ k. 255) (page_base g g.pages)) (page_base g q + k) ≡ 255
      inside q k r h =
          let d : q ≡ g.pages * b + (q - g.pages * b) = omega (arith, r) in
          let e : page_base g q ≡ page_base g (g.pages * b) + page_base g (q - g.pages * b) =
          ap (page_base g) d ∙ base_add g (g.pages * b)
          (q - g.pages * b) in
          let w = base_apart g (q - g.pages * b) g.pages (omega (arith, r)) in
          let f : page_base g q + k ≡ page_base g (g.pages * b) + (page_base g (q - g.pages * b) + k) =
          omega (arith, e) in
          rw f (written_inside img (page_base g (g.pages * b)) (λ k. 255) (page_base g g.pages) (page_base g (q - g.pages * b) + k) 0 room
          (omega (arith, w, h)))

      outside : (q k : ℕ) → in_b g.pages b q ≡ false → k < page_bytes g
          → Off (page_base g q + k) (page_base g (g.pages * b)) (page_base g g.pages)
      outside q k r h = go (ltb q (g.pages * b)) (ltb q (g.pages * b + g.pages)) refl refl
        where
          go : (x y : Bool) → ltb q (g.pages * b) ≡ x → ltb q (g.pages * b + g.pages) ≡ y
              → Off (page_base g q + k) (page_base g (g.pages * b)) (page_base g g.pages)
          go true y e f = let w = base_apart g q (g.pages * b) (ltb-true q (g.pages * b) e) in
              inl (omega (arith, w, h))
          go false true e f = absurd (true_false (in_b g.pages b q) (within g.pages b q (ltb-false q (g.pages * b) e)
              (ltb-true q (g.pages * b + g.pages) f)) r)
          go false false e f = let w = base_le g (g.pages * b + g.pages) q (ltb-false q (g.pages * b + g.pages) f) in let z = base_add g
              (g.pages * b) g.pages in inr (omega (arith, w, z))

      at : (q : ℕ) (t : Bool) → in_b g.pages b q ≡ t
          → view_from g (written img (page_base g (g.pages * b)) (λ k. 255) (page_base g g.pages)) (page_base g q)
          ≡ pick (in_b g.pages b q)
          (no_view g) (view_from g img (page_base g q))
      at q true e = rw e (view_erased g core (written img (page_base g (g.pages * b)) (λ k. 255) (page_base g g.pages)) (page_base g q)
          (λ k h. inside q k (range g.pages b q e) h))
      at q false e = rw e (copy_view g core img (page_base g q) (written img (page_base g (g.pages * b)) (λ k. 255) (page_base g g.pages))
          (page_base g q) (λ k h. written_off img (page_base g (g.pages * b)) (λ k. 255) (page_base g g.pages) (page_base g q + k) (outside q k e h)))

  -- the stores on the chip. T pages; max is the largest number on the image
  module _ (n : ℕ) (image : Image g n img) where
    abbrev t : ℕ
    t = pages_of g n

    pub block_room : (b : ℕ) → b < n → page_base g (g.pages * b) + page_base g g.pages ≤ length img
    block_room b h = let w = base_le g (g.pages * b + g.pages) t (block_in g.pages b n h) in let z =
        base_add g (g.pages * b) g.pages in
        omega (arith, w, z, image)

    -- the erase of a block that the root is not in
    module _ (b : ℕ) (b-in : b < n) where
      pub erase_chip : in_b g.pages b (root_at t (views g img)) ≡ false → chip_of g n (apply_store g (erase b) img)
          ≡ erase_block g b (chip_of g n img)
      erase_chip e = sym (view_chip g n _) ∙ ap (chip t) (views_erase b (block_room b b-in))
          ∙ chip_wipe t g b (views g img)
          (let w = block_in g.pages b n b-in in let z = core.pages_low in omega (arith, w, z)) e
          ∙ ap (erase_block g b) (view_chip g n img)

      pub erase_r1 : AllR1 g.top t (views g img) → AllR1 g.top t (views g (apply_store g (erase b) img))
      erase_r1 r = subst (AllR1 g.top t) (sym (views_erase b (block_room b b-in))) (r1_wipe g.top t g b (views g img) r)

      pub erase_r3 : R3 t (views g img) → R3 t (views g (apply_store g (erase b) img))
      erase_r3 r = subst (R3 t) (sym (views_erase b (block_room b b-in))) (r3_wipe t g b (views g img) r)

      pub erase_r4 : in_b g.pages b (root_at t (views g img)) ≡ false → R4 t (views g img)
          → R4 t (views g (apply_store g (erase b) img))
      erase_r4 e r = subst (R4 t) (sym (views_erase b (block_room b b-in))) (r4_wipe t g b (views g img)
          (let w = block_in g.pages b n b-in in let z = core.pages_low in omega (arith, w, z)) e r)

      pub erase_max : top_of t (views g (apply_store g (erase b) img)) ≤ top_of t (views g img)
      erase_max = subst (λ v. top_of t v ≤ top_of t (views g img)) (sym (views_erase b (block_room b b-in))) (max_wipe t g b (views g img))
