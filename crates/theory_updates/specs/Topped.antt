-- A chip after m own pages, the root on the last of them: that page has the largest number, and the next page goes on
-- from it. Assumes nothing.
use Rattle.std.specs.Prelude.{◌≡◌, refl, Bool, true, false, ℕ, suc, ◌+◌, ◌<◌, ◌≤◌, eqb}
use Rattle.std.proofs.Common.{ap, sym, ◌∙◌, arith, eq-eqb}
use Rattle.geometry.specs.declared.Geometry.{Geometry}
use Rattle.geometry.specs.Tests.{pick}
use Rattle.geometry.specs.Shape.{Shape, shape_core}
use Rattle.model.specs.Count.{count, peak}
use Rattle.model.specs.Image.{pages_of, Chip}
use Rattle.model.specs.Next.{ahead, next_page, after}
use Rattle.theory_chips.specs.Count.{count_gone}
use Rattle.theory_chips.specs.Next.{R2, next_found, next_in}
use Rattle.theory_chips.specs.Whole.{some_page}
use Rattle.theory_images.specs.Views.{View, peak_le, peak_least, rooted, beside}
use Rattle.theory_images.specs.Writes.{ahead_beside}
use Rattle.live_beside.specs.Beside.{next_after}
use Rattle.theory_updates.specs.Beside.{next_after_lem}

-- e after m own pages from c on
pub record Topped (g : Geometry) (n : ℕ) (c : Chip) (m : ℕ) (e : Chip) : Type 0 where
  pub number_is_lem : e.seq e.root ≡ peak (pages_of g n) c.seq + m
  pub most_is : peak (pages_of g n) e.seq ≡ peak (pages_of g n) c.seq + m
  pub next_is : next_after g.pages n e.er e.root ≡ next_page g.pages n (ahead g n e)
  pub frees : count (pages_of g n) e.er + m ≡ count (pages_of g n) c.er

-- a page with a root and the next number on the next page of d, which has i own pages from c on
pub topped : (g : Geometry) → Shape g → (n : ℕ) (c d : Chip) (i m : ℕ) (w : View) → R2 g.pages n d.er
    → 2 ≤ count (pages_of g n) d.er
    → w.seq ≡ suc (peak (pages_of g n) d.seq) → peak (pages_of g n) d.seq ≡ peak (pages_of g n) c.seq + i
    → count (pages_of g n) d.er + i ≡ count (pages_of g n) c.er → m ≡ suc i
    → Topped g n c m (rooted d (next_page g.pages n (ahead g n d)) w)
unfolding rooted beside
topped g shape n c d i m w r2 many num most left e = record {
  number_is_lem = ap (λ (b : Bool). pick b w.seq (d.seq P)) (eq-eqb P P refl) ∙ (let z : w.seq ≡ peak t c.seq + m =
      omega (arith, num, most, e) in z);
  most_is = largest ∙ (let z : w.seq ≡ peak t c.seq + m = omega (arith, num, most, e) in z);
  next_is = next_after_lem g.pages n (ahead g n d) (some_page g (shape_core g shape)) r2 (omega (arith, many))
      (omega (arith, gone, many)) ∙ sym (ap (next_page g.pages n) goes);
  frees = omega (arith, gone, left, e);
}
  where
    t : ℕ
    t = pages_of g n

    P : ℕ
    P = next_page g.pages n (ahead g n d)

    P-in : P < t
    P-in = next_in g.pages n (ahead g n d) (some_page g (shape_core g shape)) r2 (omega (arith, many))

    gone : count t d.er ≡ suc (count t (after P d.er))
    gone = let z = count_gone t P d.er P-in (next_found g.pages n (ahead g n d) (some_page g (shape_core g shape))
        r2 (omega (arith, many))).2 in omega (arith, z)

    goes : ahead g n (rooted d P w) ≡ record { er = after P d.er; last = P }
    goes = ahead_beside g n d P w P-in num

    largest : peak t (λ q. pick (eqb q P) w.seq (d.seq q)) ≡ w.seq
    largest =
        let up = peak_least t (λ q. pick (eqb q P) w.seq (d.seq q)) w.seq (λ j q. go j q (eqb j P)) in
        let down = peak_le t (λ q. pick (eqb q P) w.seq (d.seq q)) P P-in in
        let here : pick (eqb P P) w.seq (d.seq P) ≡ w.seq =
        ap (λ (b : Bool). pick b w.seq (d.seq P)) (eq-eqb P P refl) in
        omega (arith, up, down, here)
      where
        go : (j : ℕ) → j < t → (b : Bool) → pick b w.seq (d.seq j) ≤ w.seq
        go j q true = omega arith
        go j q false = let z = peak_le t d.seq j q in omega (arith, z, num)
