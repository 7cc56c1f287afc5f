-- R2, R7 and R8 as tests are R2, R7 and R8 as statements, both ways. Assumes nothing.
use Rattle.std.specs.Prelude.{◌≡◌, Bool, ℕ, suc, ◌+◌, ◌-◌, ◌*◌, ◌<◌, ◌≤◌, eqb}
use Rattle.std.proofs.Math.Path.{refl, ap, sym}
use Rattle.std.proofs.Common.{◌∙◌, arith}
use Rattle.std.proofs.Math.Bool.{true, false, not}
use Rattle.std.proofs.Math.Logic.{inl, inr}
use Rattle.std.proofs.Math.Dec.{leb, ltb}
use borrow.Author.Tests.{not-true, not-false, lt-ltb, le-leb, eq-eqb, ltb-true, leb-true, eqb-true}
use Rattle.geometry.specs.declared.Geometry.{Geometry}
use Rattle.geometry.specs.Findings.{Good}
use Rattle.geometry.specs.Tests.{pick, ◌&◌, and_true, and_false, and_left, and_right, and_both}
use Rattle.model.specs.Count.{count, least, any}
use Rattle.model.specs.Image.{Chip}
use Rattle.model.specs.Tree.{places_of, live, live_pages}
use Rattle.model.specs.Rules.{in_order, second_mixed, r2, spare_room, r7, ample, r8}
use Rattle.model.specs.Next.{mixed, full, first_in, in_block}
use Rattle.theory_counts.specs.Least.{least_is, least_none, none_passes, any_clear}
use Rattle.theory_counts.specs.Lowest.{good_unless}
use Rattle.theory_counts.specs.Cases.{by_eq, by_le, by_test, true_false}
use Rattle.theory_nodes.specs.Judge.{unless_both}
use Rattle.theory_chips.specs.Next.{R2}
use Rattle.theory_chips.specs.Collect.{R7, R8}

pub any_one : (n i : ℕ) (f : ℕ → Bool) → i < n → f i ≡ true → any n f ≡ true
any_one n i f q h = by_test (any n f) (λ z. z) (λ z. absurd (true_false (f i) h (none_passes f n z i q)))

-- a test that comes out n
none_from : (n : ℕ) (f : ℕ → Bool) → leb n (least n f) ≡ true → (i : ℕ) → i < n → f i ≡ false
none_from n f h i q = (least_is f n).before i (omega (arith, leb-true n (least n f) h))

from_none : (n : ℕ) (f : ℕ → Bool) → ((i : ℕ) → i < n → f i ≡ false) → leb n (least n f) ≡ true
from_none n f h = le-leb n (least n f) (omega (arith, least_none f n h))

-- ---- R2
module _ (p n : ℕ) (er : ℕ → Bool) where
  ordered : (b : ℕ) → in_order p er b ≡ true → (i j : ℕ) → i ≤ j → j < p → er (p * b + i) ≡ true → er (p * b + j) ≡ true
  unfolding in_order
  ordered b h i j q w e =
      let l = least_is (λ j. er (p * b + j)) p in
      let first : first_in p er b ≤ i = by_le (first_in p er b) i (λ z. z) (λ z. absurd (true_false (er (p * b + i)) e (l.before i z))) in
      by_eq (first_in p er b) j (λ z. rw (← z) (l.there (omega (arith, z, w))))
      (λ z. not-false (er (p * b + j)) (rw (lt-ltb (first_in p er b) j (omega (arith, z, first, q)), and_true (not (er (p * b + j)))) at
      (none_passes (λ j. ltb (first_in p er b) j & not (er (p * b + j))) p (not-true (any p (λ j. ltb (first_in p er b) j & not (er (p * b + j)))) h) j
      w)))

  in_order_lem : (b : ℕ) → ((i j : ℕ) → i ≤ j → j < p → er (p * b + i) ≡ true → er (p * b + j) ≡ true)
      → in_order p er b ≡ true
  unfolding in_order
  in_order_lem b h = ap not
      (any_clear (λ j. ltb (first_in p er b) j & not (er (p * b + j))) p (λ j w. go j w (ltb (first_in p er b) j) refl))
    where
      go : (j : ℕ) → j < p → (t : Bool) → ltb (first_in p er b) j ≡ t → (t & not (er (p * b + j))) ≡ false
      go j w false e = and_false (not (er (p * b + j)))
      go j w true e =
          let z = ltb-true (first_in p er b) j e in
          rw (
            and_true (not (er (p * b + j))),
            h (first_in p er b) j (omega (arith, z)) w
                ((least_is (λ j. er (p * b + j)) p).there (omega (arith, z, w))),
          ) refl

  pub r2_holds : r2 p n er ≡ Good → R2 p n er
  unfolding r2 second_mixed
  r2_holds h =
      let u = good_unless _ _ _ h in
      let v = good_unless _ _ _ u.1 in
      let first : (b : ℕ) → b < n → in_order p er b ≡ true = λ b q. not-false (in_order p er b)
      (none_from n (λ b. not (in_order p er b)) u.0 b q) in
      let one : (b : ℕ) → b < n → mixed p er b ≡ true → b ≡ least n (mixed p er) = λ b q m.
      eqb-true b (least n (mixed p er)) (not-false (eqb b (least n (mixed p er)))
      (rw (m, and_true (not (eqb b (least n (mixed p er))))) at (none_from n (λ b. mixed p er b & not (eqb b (least n (mixed p er)))) v.0 b q))) in
      record { mono = λ b i j q. ordered b (first b q) i j; one = λ b c q w x y. one b q x ∙ sym (one c w y) }

  pub holds_r2 : R2 p n er → r2 p n er ≡ Good
  unfolding r2 second_mixed
  holds_r2 h = unless_both _ _ _
      (from_none n (λ b. not (in_order p er b)) (λ b q. rw (in_order_lem b (λ i j. h.mono b i j q)) refl))
      (unless_both _ _ _ (from_none n (λ b. mixed p er b & not (eqb b (least n (mixed p er)))) (λ b q. go b q (mixed p er b) refl)) refl)
    where
      go : (b : ℕ) → b < n → (t : Bool) → mixed p er b ≡ t → (t & not (eqb b (least n (mixed p er)))) ≡ false
      go b q false e = and_false (not (eqb b (least n (mixed p er))))
      go b q true e =
          let l = least_is (mixed p er) n in
          let z : least n (mixed p er) < n = by_le (suc (least n (mixed p er))) n (λ y. y)
          (λ y. absurd (true_false (mixed p er b) e (l.before b (omega (arith, y, q))))) in
          rw (and_true (not (eqb b (least n (mixed p er)))), eq-eqb b (least n (mixed p er)) (h.one b (least n (mixed p er)) q z e (l.there z))) refl

-- ---- R7
module _ (g : Geometry) (n : ℕ) (c : Chip) where
  abbrev fits : ℕ → Bool
  fits b = full g.pages c.er b & leb (in_block g.pages (live (places_of c)) b) (count (g.pages * n) c.er)

  pub r7_holds : r7 g.pages n c ≡ Good → R7 g n c
  unfolding r7 spare_room
  r7_holds h = go (leb g.pages (count (g.pages * n) c.er)) refl (good_unless _ _ _ h).0
    where
      go : (t : Bool) → leb g.pages (count (g.pages * n) c.er) ≡ t → pick t true (any n fits) ≡ true → R7 g n c
      go true e i = inl (leb-true g.pages (count (g.pages * n) c.er) e)
      go false e i = let z = ltb-true (least n fits) n i in let w = (least_is fits n).there z in inr
          (least n fits, z, and_left _ _ w, leb-true _ _ (and_right _ _ w))

  pub holds_r7 : R7 g n c → r7 g.pages n c ≡ Good
  unfolding r7 spare_room
  holds_r7 (inl h) = unless_both _ _ _ (rw (le-leb g.pages (count (g.pages * n) c.er) h) refl) refl
  holds_r7 (inr h) = unless_both _ _ _ (go (leb g.pages (count (g.pages * n) c.er))
      (any_one n h.0 fits h.1 (and_both _ _ h.2 (le-leb _ _ h.3)))) refl
    where
      go : (t : Bool) → any n fits ≡ true → pick t true (any n fits) ≡ true
      go true i = refl
      go false i = i

-- ---- R8
module _ (g : Geometry) (pos : 1 ≤ g.pages) (n : ℕ) (c : Chip) where
  pub r8_holds : r8 g.pages n c ≡ Good → R8 g n c
  unfolding r8 ample
  r8_holds h = let z = leb-true (2 * g.pages) (g.pages * n - live_pages (g.pages * n) c) (good_unless _ _ _ h).0 in
      omega (arith, z, pos)

  pub holds_r8 : R8 g n c → r8 g.pages n c ≡ Good
  unfolding r8 ample
  holds_r8 h = unless_both _ _ _ (le-leb (2 * g.pages) (g.pages * n - live_pages (g.pages * n) c) (omega (arith, h))) refl
