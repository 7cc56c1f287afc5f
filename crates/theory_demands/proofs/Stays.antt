-- An update on a sound image leaves a sound image of the same length, whatever its answer and its allowance. Assumes
-- nothing.
use Rattle.std.specs.Prelude.{List, [], ◌∷◌, ℕ, ◌<◌, ◌≤◌}
use Rattle.std.proofs.Common.{sym, subst, inl, inr, arith}
use Rattle.geometry.specs.declared.Geometry.{Geometry}
use Rattle.geometry.specs.Shape.{Shape}
use Rattle.geometry.specs.Bounds.{four_bytes}
use Rattle.model.specs.Calls.{insert, delete}
use Rattle.theory_demands.specs.Words.{Ready, OneOf}
use Rattle.theory_demands.specs.Demands.{insert_refused, insert_answers}
use Rattle.theory_demands.proofs.Demands.{delete_refused, delete_answers, insert_done, delete_done, insert_stopped, delete_stopped}

module _ (g : Geometry) (shape : Shape g) (img : List ℕ) (ready : Ready g img) where
  pub insert_ready : (k a al : ℕ) → k < four_bytes → a < four_bytes → Ready g (insert g img k a al).image
  insert_ready k a al k_low a-low = go (insert_answers g shape img ready k k_low a al)
    where
      stays : 1 ≤ (insert g img k a al).answer → (insert g img k a al).answer ≤ 6 → Ready g (insert g img k a al).image
      stays p q = subst (Ready g) (sym (insert_refused g img k a al p q)) ready

      go : OneOf (insert g img k a al).answer (0 ∷ 3 ∷ 5 ∷ 6 ∷ 7 ∷ []) → Ready g (insert g img k a al).image
      go (inl e) = (insert_done g shape img ready k k_low a al a-low e).ready
      go (inr (inl e)) = stays (omega (arith, e)) (omega (arith, e))
      go (inr (inr (inl e))) = stays (omega (arith, e)) (omega (arith, e))
      go (inr (inr (inr (inl e)))) = stays (omega (arith, e)) (omega (arith, e))
      go (inr (inr (inr (inr (inl e))))) = (insert_stopped g shape img ready k k_low a al a-low e).ready
      go (inr (inr (inr (inr (inr e))))) = absurd e

  pub delete_ready : (k al : ℕ) → k < four_bytes → Ready g (delete g img k al).image
  delete_ready k al k_low = go (delete_answers g shape img ready k k_low al)
    where
      stays : 1 ≤ (delete g img k al).answer → (delete g img k al).answer ≤ 6 → Ready g (delete g img k al).image
      stays p q = subst (Ready g) (sym (delete_refused g img k al p q)) ready

      go : OneOf (delete g img k al).answer (0 ∷ 3 ∷ 4 ∷ 7 ∷ []) → Ready g (delete g img k al).image
      go (inl e) = (delete_done g shape img ready k k_low al e).ready
      go (inr (inl e)) = stays (omega (arith, e)) (omega (arith, e))
      go (inr (inr (inl e))) = stays (omega (arith, e)) (omega (arith, e))
      go (inr (inr (inr (inl e)))) = (delete_stopped g shape img ready k k_low al e).ready
      go (inr (inr (inr (inr e)))) = absurd e
