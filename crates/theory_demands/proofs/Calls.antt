-- The calls opened: which tests an answer stands for. Assumes nothing.
use Rattle.std.specs.Prelude.{◌≡◌, ℕ}
use Rattle.std.proofs.Common.{sym, subst, ◌∙◌, arith}
use mathlib.Core.List.{List}
use Rattle.geometry.specs.declared.Geometry.{Geometry}
use Rattle.model.specs.Image.{blocks_of}
use Rattle.model.specs.Update.{delete_stores}
use Rattle.model.specs.Calls.{Outcome, made, delete_rest, delete}
use Rattle.theory_lists.specs.All.{All}
use Rattle.theory_demands.specs.Words.{Ready, Began}
use Rattle.theory_demands.specs.Tests.{tested, Untouched, Unmet, tested_untouched, tested_passed}
use Rattle.theory_demands.specs.Calls.{delete_rest_lem, delete_tests, judged_ready, judged_untouched, made_untouched}

module _ (g : Geometry) (img : List ℕ) (k a al : ℕ) where
  abbrev n : ℕ
  n = blocks_of g img

  abbrev del : Outcome
  del = made g (delete_stores g n img k) al img

  pub delete_untouched : Untouched img (delete g img k al)
  unfolding delete
  delete_untouched = judged_untouched g img (delete_rest g n img k al) (subst (Untouched img) (sym (delete_rest_lem g img k a al))
      (tested_untouched img (delete_tests g img k a al) del (made_untouched g (delete_stores g n img k) al img)))

  module _ (ready : Ready g img) where
    pub delete_is : delete g img k al ≡ tested img (delete_tests g img k a al) del
    unfolding delete
    delete_is = judged_ready g img (delete_rest g n img k al) ready ∙ (delete_rest_lem g img k a al)

    pub delete_passed : Began (delete g img k al) → All Unmet (delete_tests g img k a al) × (delete g img k al ≡ del)
    delete_passed b =
        let p = tested_passed img (delete_tests g img k a al) del ((omega arith, omega arith), ((omega arith, omega arith), tt)) (subst Began delete_is b) in
        (p.0, delete_is ∙ p.1)
