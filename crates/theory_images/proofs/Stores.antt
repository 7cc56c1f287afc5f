-- The two stores on the image's bytes: which views change, and what the chip then is. Assumes nothing.
use Rattle.std.specs.Prelude.{◌≡◌, true, length}
use Rattle.std.proofs.Math.Path.{refl, ap}
use Rattle.std.proofs.Common.{sym, subst, ◌∙◌, arith}
use mathlib.Core.List.{List}
use Prim.Native.Nat.{ℕ, suc, ◌+◌, ◌<◌, ◌≤◌}
use Rattle.geometry.specs.declared.Geometry.{Geometry}
use Rattle.geometry.specs.declared.Entry.{Entry}
use Rattle.geometry.specs.Geometry.{page_bytes, page_base}
use Rattle.geometry.specs.Shape.{Core, base_apart}
use Rattle.model.specs.Image.{pages_of, Chip, chip_of}
use Rattle.model.specs.Page.{built}
use Rattle.model.specs.Stores.{program, apply_store}
use Rattle.theory_images.specs.Views.{top_of, chip, laid, rooted, beside, chip_beside, R3, AllR1, r1_put, r3_put, R4, r4_beside, max_put}
use Rattle.theory_images.proofs.Views.{chip_root, r4_root}
use Rattle.theory_images.specs.Page.{views, view_chip, view_none}
use Rattle.theory_images.specs.Built.{Parts, built_view}
use Rattle.theory_images.proofs.Built.{view_built}
use Rattle.theory_images.specs.Stores.{Image, views_program}

module _ (g : Geometry) (core : Core g) (img : List ℕ) where
  -- the stores on the chip. T pages; max is the largest number on the image
  module _ (n : ℕ) (image : Image g n img) where
    abbrev t : ℕ
    t = pages_of g n

    page_room : (p : ℕ) → p < t → page_base g p + page_bytes g ≤ length img
    page_room p h = let w = base_apart g p t h in omega (arith, w, image)

    module _ (p : ℕ) (p_in : p < t) (seq h : ℕ) (parts : ℕ → List Entry) (ok : Parts g parts)
        (small : seq < 4294967295) (high : h < 256) where
      pub views_built : views g (apply_store g (program p (built g seq h parts)) img) ≡ laid (views g img) p
          (built_view g seq h parts)
      views_built = views_program g core img p (built g seq h parts) (page_room p p_in) ∙ ap (laid (views g img) p)
          (view_built g core parts ok seq h small high)

      -- a page with a root and the number max + 1: it holds the root
      pub program_root : 1 ≤ h → seq ≡ suc (top_of t (views g img))
          → chip_of g n (apply_store g (program p (built g seq h parts)) img) ≡ rooted (chip_of g n img) p
          (built_view g seq h parts)
      program_root hh s = sym (view_chip g n _) ∙ ap (chip t) views_built
          ∙ chip_root g t (views g img) p (built_view g seq h parts) refl p_in hh s
          ∙ ap (λ (c : Chip). rooted c p (built_view g seq h parts)) (view_chip g n img)

      -- a page without one, on an erased page: root as before
      pub program_beside : h ≡ 0 → (views g img p).er ≡ true
          → chip_of g n (apply_store g (program p (built g seq h parts)) img) ≡ beside (chip_of g n img) p
          (built_view g seq h parts)
      program_beside hh e = sym (view_chip g n _) ∙ ap (chip t) views_built
          ∙ chip_beside g t (views g img) p (built_view g seq h parts) refl
          (view_none g core img (page_base g p) e) hh
          ∙ ap (λ (c : Chip). beside c p (built_view g seq h parts)) (view_chip g n img)

      pub program_r1 : h ≤ g.top → 1 ≤ seq → AllR1 g.top t (views g img)
          → AllR1 g.top t (views g (apply_store g (program p (built g seq h parts)) img))
      program_r1 hh s r = subst (AllR1 g.top t) (sym views_built) (r1_put g.top t (views g img) p (built_view g seq h parts) r
          (record { high = hh; rest = refl; some = λ _. s }))

      pub program_r3 : seq ≡ suc (top_of t (views g img)) → R3 t (views g img)
          → R3 t (views g (apply_store g (program p (built g seq h parts)) img))
      program_r3 s r = subst (R3 t) (sym views_built) (r3_put t (views g img) p (built_view g seq h parts) r s)

      pub program_r4 : 1 ≤ h → seq ≡ suc (top_of t (views g img))
          → R4 t (views g (apply_store g (program p (built g seq h parts)) img))
      program_r4 hh s = subst (R4 t) (sym views_built) (r4_root g t (views g img) p (built_view g seq h parts) refl p_in hh s)

      pub beside_r4 : h ≡ 0 → (views g img p).er ≡ true → R4 t (views g img)
          → R4 t (views g (apply_store g (program p (built g seq h parts)) img))
      beside_r4 hh e r = subst (R4 t) (sym views_built) (r4_beside g t (views g img) p (built_view g seq h parts) refl
          (view_none g core img (page_base g p) e) hh r)

      pub program_max : seq ≡ suc (top_of t (views g img))
          → top_of t (views g (apply_store g (program p (built g seq h parts)) img)) ≤ suc (top_of t (views g img))
      program_max s = subst (λ v. top_of t v ≤ suc (top_of t (views g img))) (sym views_built)
          (max_put t (views g img) p (built_view g seq h parts) (omega (arith, s)))
