-- The calls opened: which tests an answer stands for. Assumes nothing.
use Rattle.std.specs.Prelude.{◌≡◌, ◌⊎◌, Bool, ℕ, ◌<◌, ◌≤◌, length, take, leb, Err, is_none}
use Rattle.std.proofs.Math.Path.{refl, ap}
use Rattle.std.proofs.Common.{sym, subst, ◌∙◌, arith, take_all}
use mathlib.Core.List.{List, [], ◌∷◌}
use Rattle.std.proofs.Math.Logic.{inl, inr}
use Rattle.std.proofs.Math.Bool.{true, false}
use borrow.Author.Tests.{leb-true, leb-false}
use Rattle.geometry.specs.declared.Geometry.{Geometry}
use Rattle.geometry.specs.Findings.{Verdict, Sound}
use Rattle.geometry.specs.Tests.{pick}
use Rattle.model.specs.Image.{blocks_of, good_length, Chip, chip_of}
use Rattle.model.specs.Tree.{sought}
use Rattle.model.specs.Rules.{verdict}
use Rattle.model.specs.Stores.{Store, apply_all, programs}
use Rattle.model.specs.Update.{needs, too_high, insert_stores, delete_stores}
use Rattle.model.specs.Calls.{Outcome, refused, damaged, made, by_verdict, judged, judged_call, worn, roomless, free_pages, insert_rest, insert, delete_rest}
use Rattle.theory_lists.specs.All.{All}
use Rattle.theory_demands.specs.Words.{Ready, Began}
use Rattle.theory_demands.specs.Tests.{Test, tested, Untouched, Unmet, tested_untouched, tested_passed}

pub judged_ready : (g : Geometry) (img : List ℕ) (rest : Outcome) → Ready g img → judged_call g img rest ≡ rest
unfolding judged by_verdict
judged_ready g img rest r = rw (r.length_good, r.is_sound_lem) refl

pub judged_untouched : (g : Geometry) (img : List ℕ) (rest : Outcome) → Untouched img rest
    → Untouched img (judged_call g img rest)
unfolding judged by_verdict
judged_untouched g img rest h = go (good_length g img) (verdict g (blocks_of g img) img)
  where
    go : (x : Bool) (v : Verdict) → Untouched img (pick x (by_verdict v (damaged img) rest) (refused 1 img))
    go true Sound = λ p q. h p q
    go true (Err b) = λ p q. refl
    go false v = λ p q. refl

pub made_untouched : (g : Geometry) (ss : List Store) (al : ℕ) (img : List ℕ) → Untouched img (made g ss al img)
unfolding made
made_untouched g ss al img = go (leb (length ss) al)
  where
    go : (x : Bool) → 1 ≤ pick x 0 7 → pick x 0 7 ≤ 6 → apply_all g (take al ss) img ≡ img
    go true p q = absurd (omega arith)
    go false p q = absurd (omega arith)

-- ---- insert and delete
module _ (g : Geometry) (img : List ℕ) (k a al : ℕ) where
  abbrev n : ℕ
  n = blocks_of g img

  abbrev c : Chip
  c = chip_of g n img

  abbrev ins : Outcome
  ins = made g (insert_stores g n img k a) al img

  abbrev del : Outcome
  del = made g (delete_stores g n img k) al img

  -- WORN, HEIGHT, ROOM
  abbrev pub insert_tests : List Test
  insert_tests =
      record { met = worn g n img; number = 3 }
      ∷ record { met = too_high g c k; number = 5 }
      ∷ record { met = roomless g (free_pages g n c) (needs g c k); number = 6 }
      ∷ []

  -- WORN, ABSENT
  abbrev pub delete_tests : List Test
  delete_tests = record { met = worn g n img; number = 3 } ∷ record { met = is_none (sought c k); number = 4 } ∷ []

  pub insert_rest_lem : insert_rest g n img k a al ≡ tested img insert_tests ins
  unfolding insert_rest
  insert_rest_lem = refl

  pub delete_rest_lem : delete_rest g n img k al ≡ tested img delete_tests del
  unfolding delete_rest
  delete_rest_lem = refl

  pub insert_untouched : Untouched img (insert g img k a al)
  unfolding insert
  insert_untouched = judged_untouched g img (insert_rest g n img k a al) (subst (Untouched img) (sym insert_rest_lem)
      (tested_untouched img insert_tests ins (made_untouched g (insert_stores g n img k a) al img)))

  module _ (ready : Ready g img) where
    pub insert_is : insert g img k a al ≡ tested img insert_tests ins
    unfolding insert
    insert_is = judged_ready g img (insert_rest g n img k a al) ready ∙ insert_rest_lem

    -- a call that has begun has met none of its tests
    pub insert_passed : Began (insert g img k a al) → All Unmet insert_tests × (insert g img k a al ≡ ins)
    insert_passed b =
        let p = tested_passed img insert_tests ins
        ((omega arith, omega arith), ((omega arith, omega arith), ((omega arith, omega arith), tt))) (subst Began insert_is b) in
        (p.0, insert_is ∙ p.1)

-- ---- what `made` does
module _ (g : Geometry) (ss : List Store) (al : ℕ) (img : List ℕ) where
  by_answer : (x : Bool) (r : ℕ) → pick x 0 7 ≡ r → (r ≡ 0 → x ≡ true) × (r ≡ 7 → x ≡ false)
  by_answer true r e = ((λ _. refl), λ h. absurd (omega (arith, e, h)))
  by_answer false r e = ((λ h. absurd (omega (arith, e, h))), λ _. refl)

  pub made_began : Began (made g ss al img)
  unfolding made
  made_began = go (leb (length ss) al)
    where
      go : (x : Bool) → (pick {A = ℕ} x 0 7 ≡ 0) ⊎ (pick {A = ℕ} x 0 7 ≡ 7)
      go true = inl refl
      go false = inr refl

  pub made_all : (made g ss al img).answer ≡ 0 → length ss ≤ al
  unfolding made
  made_all h = leb-true (length ss) al ((by_answer (leb (length ss) al) 0 h).0 refl)

  pub made_done : (made g ss al img).answer ≡ 0 → (made g ss al img).image ≡ apply_all g ss img
  unfolding made
  made_done h = ap (λ (x : List Store). apply_all g x img) (take_all al ss (made_all h))

  pub made_counts : (made g ss al img).answer ≡ 0 → (made g ss al img).programmed ≡ programs ss
  unfolding made
  made_counts h = ap programs (take_all al ss (made_all h))

  pub made_stopped : (made g ss al img).answer ≡ 7 → al < length ss
  unfolding made
  made_stopped h = leb-false (length ss) al ((by_answer (leb (length ss) al) 7 h).1 refl)

  pub made_image : (made g ss al img).image ≡ apply_all g (take al ss) img
  unfolding made
  made_image = refl
