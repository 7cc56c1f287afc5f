-- The codes of a page: copied with it, and written and read back. Assumes nothing.
use Rattle.std.specs.Prelude.{◌≡◌, List, true, ◌⊎◌}
use Rattle.std.proofs.Math.Path.{refl}
use Rattle.std.proofs.Common.{◌∙◌, ⊎_elim, arith}
use Rattle.std.proofs.Math.Logic.{inl, inr}
use Prim.Native.Nat.{ℕ, zero, suc, ◌+◌, ◌*◌, ◌<◌, ◌≤◌}
use Rattle.std.proofs.Math.Nat.{zero-add}
use Rattle.std.proofs.Math.ListN.{length, length-set}
use Rattle.geometry.specs.declared.Geometry.{Geometry}
use Rattle.geometry.specs.Geometry.{halves, code_place}
use Rattle.geometry.specs.Tests.{and_both}
use Rattle.model.specs.Bytes.{byte_at}
use Rattle.model.specs.Codes.{fresh_code, put_code, codes_fit}
use Rattle.model.specs.Page.{coded}
use Rattle.theory_codes.specs.Written.{fits_same, put_other, put_fits}
use Rattle.theory_images.specs.Bytes.{Copy, copy_byte}

module _ (g : Geometry) where
  -- whether codes fit hangs on the bytes of the halves and the codes
  pub copy_codes : (a : List ℕ) (p : ℕ) (b : List ℕ) (q n : ℕ) → Copy a p b q n → (k : ℕ) → k ≤ halves g
      → code_place g k ≤ n → codes_fit g b q k ≡ codes_fit g a p k
  unfolding codes_fit
  copy_codes a p b q n c zero h l = refl
  copy_codes a p b q n c (suc k) h l =
      let c₀ : byte_at b (q + code_place g k) ≡ byte_at a (p + code_place g k) = copy_byte a p b q n c (code_place g k)
      (p + code_place g k) (q + code_place g k) refl refl (omega arith) in
      let c₁ : byte_at b (q + code_place g k + 1) ≡ byte_at a (p + code_place g k + 1) = copy_byte a p b q n c
      (code_place g k + 1) (p + code_place g k + 1) (q + code_place g k + 1) (omega arith) (omega arith) (omega arith) in
      let c₂ : byte_at b (q + code_place g k + 2) ≡ byte_at a (p + code_place g k + 2) = copy_byte a p b q n c
      (code_place g k + 2) (p + code_place g k + 2) (q + code_place g k + 2) (omega arith) (omega arith) (omega arith) in
      rw (
        copy_codes a p b q n c k (omega arith) (omega arith),
        fits_same a b (p + 256 * k) (q + 256 * k) (p + code_place g k) (q + code_place g k)
            (λ i m. copy_byte a p b q n c (256 * k + i) (p + 256 * k + i) (q + 256 * k + i) (omega arith) (omega arith) (omega arith)) c₀ c₁ c₂,
      )

  pub length_coded : (k : ℕ) (b : List ℕ) → length (coded g k b) ≡ length b
  unfolding coded put_code
  length_coded zero b = refl
  length_coded (suc k) b = simp length-set (length_coded k b)

  -- the bytes before the first code and after the last one stay
  pub coded_off : (k : ℕ) (b : List ℕ) (i : ℕ) → (i < code_place g 0) ⊎ (code_place g k ≤ i)
      → byte_at (coded g k b) i ≡ byte_at b i
  unfolding coded
  coded_off zero b i o = refl
  coded_off (suc k) b i o =
      put_other (coded g k b) (code_place g k) (fresh_code (coded g k b) (256 * k)) i
      (⊎_elim (λ (h : i < code_place g 0). inl (omega arith)) (λ (h : code_place g (suc k) ≤ i). inr (omega arith)) o)
      ∙ coded_off k b i (⊎_elim (λ (h : i < code_place g 0). inl h) (λ (h : code_place g (suc k) ≤ i). inr (omega arith)) o)

  -- codes that were written fit
  pub coded_fits : (k : ℕ) (b : List ℕ) → k ≤ halves g → code_place g k ≤ length b → codes_fit g (coded g k b) 0 k ≡ true
  unfolding codes_fit coded
  coded_fits zero b h l = refl
  coded_fits (suc k) b h l =
      let old = coded g k b in
      let new = put_code old (code_place g k) (fresh_code old (256 * k)) in
      let room : code_place g k + 3 ≤ length old = rw (length_coded k b) (omega arith) in
      and_both _ _
      (copy_codes old 0 new 0 (code_place g k)
      (λ i m. put_other old (code_place g k) (fresh_code old (256 * k)) (0 + i) (inl (omega arith))) k (omega arith) (omega arith)
      ∙ coded_fits k b (omega arith) (omega arith))
      (rw (zero-add (256 * k), zero-add (code_place g k)) (put_fits old (256 * k) (code_place g k) room (inr (omega arith))))
