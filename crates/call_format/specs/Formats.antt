-- What the code of format does, in the form in which it has the premises. Assumes nothing.
use Rattle.std.specs.Prelude.{◌≡◌, refl, Bool, true, false, List, [], ◌∷◌, ◌++◌, ℕ, ◌+◌, ◌-◌, ◌≤◌, take}
use Rattle.std.proofs.Common.{sym, ap, ◌∙◌, arith, add-one, leb-true}
use Rattle.geometry.specs.declared.Geometry.{Geometry}
use Rattle.geometry.specs.Geometry.{page_bytes}
use Rattle.geometry.specs.Tests.{pick, and_left, and_right}
use Rattle.geometry.specs.Bounds.{longest_page}
use Rattle.model.specs.Image.{blocks_of, good_length}
use Rattle.model.specs.Page.{built, sealed}
use Rattle.model.specs.Stores.{program, erase, apply_store, apply_all}
use Rattle.model.specs.Update.{erasures, format_stores}
use Rattle.model.specs.Calls.{gives, format}
use Rattle.call_answers.specs.Answers.{told}
use Rattle.call_answers.specs.declared.Answer.TheVariants.{Done, Length}
use Rattle.chip_read.specs.Chip.{good_blocks}
use Rattle.chip_store.specs.TwoStores.{program_cut}
use Rattle.chip_store.specs.Runs.{all_append}
use Rattle.chip_page.specs.Page.{blanks, bare}
use Rattle.chip_page.specs.Levels.{page_is, laid_none}

-- ---- the loop of erases
pub erased_none : (g : Geometry) (img : List ℕ) → img ≡ apply_all g (erasures 0) img
unfolding erasures apply_all
erased_none g img = refl

pub erased_more : (g : Geometry) (img d o : List ℕ) (b : ℕ) → d ≡ apply_all g (erasures b) img → o ≡ apply_store g
    (erase b) d → o ≡ apply_all g (erasures (b + 1)) img
unfolding erasures apply_all
erased_more g img d o b e f = f ∙ rw (e, add-one) (sym (all_append g (erasures b) (erase b ∷ []) img))

pub erased_done : (g : Geometry) (img d : List ℕ) (b n : ℕ) → d ≡ apply_all g (erasures b) img → b ≤ n → n ≤ b
    → d ≡ apply_all g (erasures n) img
erased_done g img d b n e h k = let q : b ≡ n = omega arith in rw (← q) e

-- ---- the page
pub empty_is : (g : Geometry) (b c : List ℕ) → c ≡ sealed g (bare g 0 (g.top - 0) b) 1 1 → b ≡ blanks longest_page
    → page_bytes g ≤ longest_page
    → take (page_bytes g) c ≡ built g 1 1 (λ j. [])
empty_is g b c e f h = page_is g (λ j. []) 0 1 1 b c (e
    ∙ ap (λ x. sealed g (bare g 0 (g.top - 0) x) 1 1) (laid_none g (λ j. []) b)) f h (λ j i. refl)

-- ---- the whole
short : (g : Geometry) (img : List ℕ) (t : Bool) → good_length g img ≡ t → pick t (blocks_of g img) 0 ≡ 0
    → good_length g img ≡ false
unfolding good_length
short g img true e h = absurd (omega (arith, h, leb-true 3 (blocks_of g img) (and_right _ _ (and_left _ _ e))))
short g img false e h = e

long : (g : Geometry) (img : List ℕ) (t : Bool) → good_length g img ≡ t → (pick t (blocks_of g img) 0 ≡ 0 → ⊥)
    → good_length g img ≡ true
long g img true e h = e
long g img false e h = absurd (h refl)

pub format_length : (g : Geometry) (img : List ℕ) (n : ℕ) → n ≡ good_blocks g img → n ≡ 0
    → told Length img ≡ format g img
unfolding good_blocks format
format_length g img n e z = rw (short g img (good_length g img) refl (sym e ∙ z)) refl

pub format_done : (g : Geometry) (img d o bs : List ℕ) (n k : ℕ) → o ≡ apply_store g (program 0 bs) d
    → d ≡ apply_all g (erasures n) img → take (page_bytes g) bs ≡ built g 1 1 (λ j. [])
    → n ≡ good_blocks g img → k ≡ n → (n ≡ 0 → ⊥) → told (Done 0 1 k) o ≡ format g img
unfolding good_blocks format format_stores apply_all
format_done g img d o bs n k e f b c ek z =
    let good = long g img (good_length g img) refl (λ q. z (c ∙ q)) in
    let m : n ≡ blocks_of g img = c ∙ rw good refl in
    let i : o ≡ apply_all g (erasures (blocks_of g img) ++ (program 0 (built g 1 1 (λ j. [])) ∷ [])) img
    = e ∙ program_cut g 0 bs d ∙ rw (b, f, m) (sym (all_append g (erasures (blocks_of g img)) (program 0 (built g 1 1 (λ j. [])) ∷ []) img)) in
    rw good (λ t. gives 0 0 1 ((ek ∙ m) t) (i t))

pub ruleset format_laws = (erased_none, erased_more, erased_done, empty_is, format_length, format_done)
