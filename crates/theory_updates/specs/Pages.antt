-- The pages to come by the record's next page are those of the rule, while pages are erased. Assumes nothing.
use Rattle.std.specs.Prelude.{◌≡◌, List}
use Rattle.std.proofs.Math.Path.{ap}
use Rattle.std.proofs.Common.{◌∙◌}
use Prim.Native.Nat.{ℕ, zero, suc, ◌+◌, ◌*◌, ◌<◌, ◌≤◌}
use native.Mathlib.Omega.{arith}
use Rattle.geometry.specs.declared.Geometry.{Geometry}
use Rattle.geometry.specs.Shape.{Core}
use Rattle.model.specs.Count.{count}
use Rattle.model.specs.Image.{pages_of, chip_of}
use Rattle.model.specs.Next.{Ahead, ahead, next_page, taken, nth}
use Rattle.theory_chips.specs.Next.{R2, next_in, step}
use Rattle.theory_chips.specs.Whole.{some_page}
use Rattle.theory_images.specs.Held.{Held}
use Rattle.open_record.specs.Opened.{opened_in}
use Rattle.live_beside.specs.Beside.{next_after, page_from, next_by, page_by}
use Rattle.theory_updates.specs.Beside.{next_after_lem}

-- from the s-th page on. p is a block's pages
module _ (p n : ℕ) (w : Ahead) (pos : 1 ≤ p) (start : R2 p n w.er) where
  nth_right : (i s : ℕ) → s + i < count (p * n) w.er → page_from p n (taken p n w s).er (nth p n w s) i ≡ nth p n w
      (s + i)
  unfolding page_from taken
  nth_right zero s h = ap (nth p n w) (let v : s ≡ s + 0 = omega arith in v)
  nth_right (suc i) s h =
      let now = step p n w pos start s (omega arith) in
      let then = step p n w pos start (suc s) (omega arith) in
      let e : next_after p n (taken p n w (suc s)).er (nth p n w s) ≡ nth p n w (suc s)
      = next_after_lem p n (taken p n w s) pos now.r2 (omega (arith, now.left)) (omega (arith, then.left)) in
      ap (λ x. page_from p n (taken p n w (suc s)).er x i) e ∙ nth_right i (suc s) (omega arith)
      ∙ ap (nth p n w) (let v : suc s + i ≡ s + suc i = omega arith in v)

pub pages_right : (g : Geometry) → Core g → (n : ℕ) (img : List ℕ) → Held g n img → (i : ℕ) → i < count (pages_of g n)
    (chip_of g n img).er
    → page_by g n img (opened_in g n img) i ≡ nth g.pages n (ahead g n (chip_of g n img)) i
unfolding opened_in taken
pages_right g core n img held i h =
    let w = ahead g n (chip_of g n img) in
    let z = next_in g.pages n w (some_page g core) held.whole.r2 (omega (arith, h)) in
    let e : next_by g n (opened_in g n img) ≡ next_page g.pages n w = omega (arith, z) in
    ap (λ x. page_from g.pages n w.er x i) e
    ∙ nth_right g.pages n w (some_page g core) held.whole.r2 i 0 (omega (arith, h))
    ∙ ap (nth g.pages n w) (let v : 0 + i ≡ i = omega arith in v)
