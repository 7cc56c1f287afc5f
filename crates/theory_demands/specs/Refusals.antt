-- Demand 1's words: bad lengths and damaged trees are refused by number, and nothing else is, for every image, key,
-- address and allowance; a refusal leaves the image, and that of a damaged tree has the verdict's rule and page.
-- Assumes nothing.
use Rattle.std.specs.Prelude.{◌≡◌, refl, List, true, false, ℕ, ◌≤◌, None, Option, Some}
use native.Mathlib.Omega.{arith}
use Rattle.geometry.specs.declared.Geometry.{Geometry}
use Rattle.geometry.specs.Findings.{Sound, broken_at}
use Rattle.model.specs.Image.{blocks_of, good_length, chip_of}
use Rattle.model.specs.Tree.{sought}
use Rattle.model.specs.Rules.{verdict}
use Rattle.model.specs.Calls.{Outcome, refused, damaged, by_verdict, judged, judged_call, answered, lookup, insert_rest, insert, format}
use Rattle.model.specs.Stores.{apply_all}
use Rattle.model.specs.Update.{insert_stores, format_stores}
use Rattle.theory_demands.specs.Tests.{tested_later}
use Rattle.theory_demands.specs.Calls.{insert_tests, insert_rest_lem, made_began}

-- LENGTH for a bad length, DAMAGED with rule and page for an image that is not sound, neither otherwise; both leave the
-- image
pub record Refuses (g : Geometry) (img : List ℕ) (o : Outcome) : Type 0 where
  pub bad_length : good_length g img ≡ false → o ≡ refused 1 img
  pub not_sound : (rule page : ℕ) → good_length g img ≡ true → verdict g (blocks_of g img) img ≡ broken_at rule page
      → o ≡ damaged img rule page
  pub neither : good_length g img ≡ true → verdict g (blocks_of g img) img ≡ Sound → 1 ≤ o.answer → 3 ≤ o.answer

-- a call of any kind that is judged first
pub judged_refuses : (g : Geometry) (img : List ℕ) (rest : Outcome) → (1 ≤ rest.answer → 3 ≤ rest.answer)
    → Refuses g img (judged_call g img rest)
unfolding judged by_verdict
judged_refuses g img rest h = record {
  bad_length = λ e. rw e;
  not_sound = λ rule page e d. rw (e, d);
  neither = λ e d. rw (e, d) h;
}

lookup_later : (o : Option ℕ) (img : List ℕ) → 1 ≤ (answered o img).answer → 3 ≤ (answered o img).answer
unfolding answered
lookup_later None img h = omega arith
lookup_later (Some a) img h = absurd (omega (arith, h))

module _ (g : Geometry) (img : List ℕ) (k : ℕ) where
  pub lookup_refuses : Refuses g img (lookup g img k)
  unfolding lookup
  lookup_refuses = judged_refuses g img (answered (sought (chip_of g (blocks_of g img) img) k) img) (lookup_later (sought (chip_of g (blocks_of g img) img) k) img)

  pub insert_refuses : (a al : ℕ) → Refuses g img (insert g img k a al)
  unfolding insert
  insert_refuses a al = judged_refuses g img (insert_rest g (blocks_of g img) img k a al) (rw (insert_rest_lem g img k a al)
      (tested_later img (insert_tests g img k a al) _ (omega arith, (omega arith, (omega arith, tt)))
      (made_began g (insert_stores g (blocks_of g img) img k a) al img)))

-- format gives 1 for a bad length and leaves the image; else 0
pub format_refuses : (g : Geometry) (img : List ℕ) → good_length g img ≡ false → format g img ≡ refused 1 img
unfolding format
format_refuses g img e = rw e

pub format_answers : (g : Geometry) (img : List ℕ) → good_length g img ≡ true → (format g img).answer ≡ 0
unfolding format
format_answers g img e = rw e

pub format_image : (g : Geometry) (img : List ℕ) → good_length g img ≡ true → (format g img).image ≡ apply_all g
    (format_stores g (blocks_of g img)) img
unfolding format
format_image g img e = rw e refl
