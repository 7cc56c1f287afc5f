-- Demand 1's words: bad lengths and damaged trees are refused by number, and nothing else is, for every image, key,
-- address and allowance; a refusal leaves the image, and that of a damaged tree has the verdict's rule and page.
-- Assumes nothing.
use Rattle.std.specs.Prelude.{List, ℕ}
use native.Mathlib.Omega.{arith}
use Rattle.geometry.specs.declared.Geometry.{Geometry}
use Rattle.model.specs.Image.{blocks_of}
use Rattle.model.specs.Calls.{delete_rest, delete}
use Rattle.model.specs.Update.{delete_stores}
use Rattle.theory_demands.specs.Tests.{tested_later}
use Rattle.theory_demands.specs.Calls.{delete_tests, delete_rest_lem, made_began}
use Rattle.theory_demands.specs.Refusals.{Refuses, judged_refuses}

module _ (g : Geometry) (img : List ℕ) (k : ℕ) where
  pub delete_refuses : (al : ℕ) → Refuses g img (delete g img k al)
  unfolding delete
  delete_refuses al = judged_refuses g img (delete_rest g (blocks_of g img) img k al) (rw (delete_rest_lem g img k 0 al)
      (tested_later img (delete_tests g img k 0 al) _ (omega arith, (omega arith, tt)) (made_began g (delete_stores g (blocks_of g img) img k) al img)))
