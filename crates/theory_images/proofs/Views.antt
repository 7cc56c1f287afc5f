-- What is read of a page as one record, and the chip made of the records of all pages; root and largest number. No
-- bytes here. Assumes nothing.
use Rattle.std.specs.Prelude.{◌≡◌, refl, false, ℕ, suc, ◌-◌, ◌<◌, ◌≤◌}
use Rattle.std.proofs.Math.Path.{ap}
use Rattle.std.proofs.Common.{◌∙◌, eq-eqb}
use Rattle.geometry.specs.declared.Geometry.{Geometry}
use Rattle.theory_images.specs.Views.{R4, View, Views, chip, laid, put_er, put_here, put_node, put_seq, root_at, root_new, rooted, top_of}

module _ (g : Geometry) (t : ℕ) (v : Views) (p : ℕ) (w : View) (written : w.er ≡ false) where
  pub chip_root : p < t → 1 ≤ w.height → w.seq ≡ suc (top_of t v) → chip t (laid v p w) ≡ rooted (chip t v) p w
  unfolding rooted
  chip_root h k s =
      let r = root_new g t v p w written h k s in
      let e : (laid v p w (root_at t (laid v p w))).height - 1 ≡ w.height - 1 = ap (λ q. (laid v p w q).height - 1) r
      ∙ ap (λ (x : View). x.height - 1) (put_here g t v p w written) in
      λ i. record { er = λ q. put_er g t v p w written q i; seq = λ q. put_seq g t v p w written q i; nodes = λ q l. put_node g t v p w written q l i; level = e i; root = r i }

pub r4_root : (g : Geometry) (t : ℕ) (v : Views) (p : ℕ) (w : View) → w.er ≡ false → p < t → 1 ≤ w.height
    → w.seq ≡ suc (top_of t v)
    → R4 t (laid v p w)
r4_root g t v p w e h k s = rw (root_new g t v p w e h k s, eq-eqb p p refl) k
