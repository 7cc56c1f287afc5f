-- R1. Assumes nothing.
use Rattle.std.specs.Prelude.{ℕ, ◌*◌, ◌<◌, ◌≤◌, Bool, true, false, not, ◌≡◌, refl, List}
use Rattle.std.proofs.Common.{sym, ◌∙◌, arith}
use borrow.Author.Tests.{not-true, not-false, le-leb, lt-leb}
use Rattle.geometry.specs.declared.Geometry.{Geometry}
use Rattle.geometry.specs.Findings.{Finding}
use Rattle.geometry.specs.Geometry.{halves, page_base}
use Rattle.geometry.specs.Tests.{and_true, and_false}
use Rattle.model.specs.Bytes.{erased, seq_at, height_at, tail_at}
use Rattle.model.specs.Codes.{codes_fit}
use Rattle.model.specs.Rules.{lowest, well_formed, r1}
use Rattle.theory_counts.specs.Scan.{fails}

module _ (g : Geometry) (img : List ℕ) (p : ℕ) where
  pub formed_erased : (e : Bool) → e ≡ erased g img p → e ≡ true → true ≡ well_formed g img p
  unfolding well_formed
  formed_erased e ee q = simp (← ee, q)

  pub page_there : (e : Bool) → e ≡ erased g img p → e ≡ false → erased g img p ≡ false
  page_there e ee q = sym ee ∙ q

-- a programmed page: t is the top, w its height as a wide number
module _ (g : Geometry) (img : List ℕ) (p h s : ℕ) (q : erased g img p ≡ false) (eh : h ≡ height_at g img p)
    (es : s ≡ seq_at g img p) (t w : ℕ) (et : t ≡ g.top) (ew : w ≡ h) where
  pub formed_high : t < w → false ≡ well_formed g img p
  unfolding well_formed
  formed_high k = simp (q, ← et, ← eh, lt-leb h t (rw (← ew) k), and_false)

  pub formed_tail : (b : Bool) → b ≡ tail_at g img p → w ≤ t → not b ≡ true → false ≡ well_formed g img p
  unfolding well_formed
  formed_tail b eb k n = simp (q, ← et, ← eh, le-leb h t (rw (← ew) k), ← eb, not-true b n, and_true, and_false)

  pub formed_number : (b : Bool) → b ≡ tail_at g img p → w ≤ t → not b ≡ false → s ≡ 0 → false ≡ well_formed g img p
  unfolding well_formed
  formed_number b eb k n z = simp (q, ← et, ← eh, le-leb h t (rw (← ew) k), ← eb, not-false b n, ← es, z, and_true, and_false)

  pub formed_codes : (o : ℕ) (b r : Bool) → b ≡ tail_at g img p → o ≡ page_base g p → r ≡ codes_fit g img o (halves g)
      → w ≤ t → not b ≡ false → (s ≡ 0 → ⊥)
      → r ≡ well_formed g img p
  unfolding well_formed
  formed_codes o b r eb eo er k n z = simp (q, ← et, ← eh, le-leb h t (rw (← ew) k), ← eb, not-false b n, ← es, le-leb 1 s (omega arith), ← eo, ← er, and_true)

-- R1's test, as a name
abbrev pub malformed : Geometry → List ℕ → ℕ → Bool
malformed g img = fails (well_formed g img)

pub rule_is : (g : Geometry) (n t : ℕ) (img : List ℕ) (v : Finding) → t ≡ g.pages * n → v ≡ lowest t (malformed g img)
    → v ≡ r1 g n img
unfolding r1 fails
rule_is g n t img v et e = e ∙ rw et refl

pub ruleset formed_laws = (formed_erased, page_there, formed_high, formed_tail, formed_number, formed_codes, rule_is)
