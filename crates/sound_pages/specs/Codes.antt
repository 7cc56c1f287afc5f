-- The codes of a page, in the form in which the code has the premises. Assumes nothing.
use Prim.Native.Nat.{ℕ, zero, suc, ◌+◌, ◌-◌, ◌*◌, ◌<◌, ◌≤◌}
use Rattle.std.specs.Prelude.{true, false, ◌≡◌, List}
use Rattle.std.proofs.Math.Path.{refl}
use Rattle.std.proofs.Common.{sym, arith, add-suc, eq-eqb, ne_eqb}
use Rattle.std.proofs.Math.Nat.{add-zero}
use Rattle.std.proofs.Math.Numerals.{add-one}
use Rattle.geometry.specs.declared.Geometry.{Geometry}
use Rattle.geometry.specs.Geometry.{halves, code_place}
use Rattle.geometry.specs.Tests.{and_false, and_none, and_both}
use Rattle.model.specs.Codes.{code_at, fresh_code, fits, codes_fit}

module _ (g : Geometry) (img : List ℕ) (b : ℕ) where
  pub codes_start : codes_fit g img b 0 ≡ true
  unfolding codes_fit
  codes_start = refl

  -- a code that does not fit
  codes_later : (k m : ℕ) → codes_fit g img b k ≡ false → codes_fit g img b (k + m) ≡ false
  unfolding codes_fit
  codes_later k zero e = rw add-zero e
  codes_later k (suc m) e = rw (add-suc, codes_later k m e) (and_false _)

  -- f, s: the fresh and the stored code of half k
  module _ (k c f s : ℕ) (ec : c ≡ code_place g k) (ef : f ≡ fresh_code img (b + 256 * k)) (es : s ≡ code_at img
      (b + c)) where
    pub codes_more : codes_fit g img b k ≡ true → s ≡ f → codes_fit g img b (k + 1) ≡ true
    unfolding codes_fit fits
    codes_more e q = rw add-one (and_both _ _ e (eq-eqb (code_at img (b + code_place g k)) (fresh_code img (b + 256 * k)) (rw (← ec, ← es, ← ef) q)))

    last_off : (s ≡ f → ⊥) → codes_fit g img b (suc k) ≡ false
    unfolding codes_fit fits
    last_off q =
        rw (ne_eqb (code_at img (b + code_place g k)) (fresh_code img (b + 256 * k)) (rw (← ec, ← es, ← ef) q)) (and_none (codes_fit g img b k))

    pub codes_off : (n : ℕ) → n ≡ halves g → k < n → (s ≡ f → ⊥) → false ≡ codes_fit g img b (halves g)
    codes_off n en h q =
        let e : suc k + (n - suc k) ≡ halves g = omega (arith, en, h) in
        sym (rw e at (codes_later (suc k) (n - suc k) (last_off q)))

  pub codes_done : (k n : ℕ) → n ≡ halves g → k ≤ n → n ≤ k → codes_fit g img b k ≡ true → true ≡ codes_fit g img b
      (halves g)
  codes_done k n en h l e = let q : k ≡ halves g = omega (arith, en) in rw (← q) (sym e)

pub ruleset code_laws = (codes_start, codes_more, codes_off, codes_done)
