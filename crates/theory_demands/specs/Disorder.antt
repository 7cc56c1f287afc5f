-- R2 in request 5's words: a block's pages p, n blocks, er tells the erased pages. Assumes nothing.
use Rattle.std.specs.Prelude.{◌≡◌, refl, ◌⊎◌, Bool, false, ℕ, ◌+◌, ◌-◌, ◌*◌, ◌<◌, ◌≤◌, eqb, ltb}
use Rattle.std.proofs.Math.Path.{ap, subst}
use Rattle.std.proofs.Common.{sym, inl, inr}
use Rattle.std.proofs.Math.Bool.{true, not}
use native.Mathlib.Omega.{arith}
use Rattle.std.proofs.Math.Dec.{leb}
use borrow.Author.Tests.{not-true, not-false, ne_eqb, eqb-false, lt-ltb, ltb-true, leb-true, leb-false}
use Rattle.geometry.specs.Findings.{Good, Bad}
use Rattle.geometry.specs.Tests.{pick, ◌&◌, and_left, and_right, and_both}
use Rattle.model.specs.Count.{least}
use Rattle.model.specs.Next.{mixed, first_in}
use Rattle.model.specs.Rules.{in_order, second_mixed, unless, r2}
use Rattle.theory_counts.specs.Least.{least_is}
use Rattle.theory_counts.specs.Lowest.{bad_good}
use Rattle.theory_counts.specs.Cases.{by_eq, by_le, by_test, true_false}
use Rattle.theory_chips.specs.Next.{block_in}
use Rattle.theory_chips.specs.Tests.{any_one}
use Rattle.theory_demands.specs.Findings.{bad_unless}

module _ (p n : ℕ) (er : ℕ → Bool) where
  -- place i of block b is erased, and a page after it in its block is programmed
  pub record Before (b i : ℕ) : Type 0 where
    pub block_in : b < n
    pub erased_is : er (p * b + i) ≡ true
    pub later : ℕ
    pub after : i < later
    pub place_in : later < p
    pub programmed_is : er (p * b + later) ≡ false

  -- a mixed block has both
  pub record Mixed (b : ℕ) : Type 0 where
    pub block_in : b < n
    pub erased_at : ℕ
    pub erased_in_lem : erased_at < p
    pub erased_is : er (p * b + erased_at) ≡ true
    pub programmed_at : ℕ
    pub programmed_in_lem : programmed_at < p
    pub programmed_is : er (p * b + programmed_at) ≡ false

  -- "the first erased page before a programmed one"
  pub record FirstErased (q : ℕ) : Type 0 where
    pub block : ℕ
    pub place : ℕ
    pub page_is : q ≡ p * block + place
    pub before : Before block place
    pub first : (b i : ℕ) → Before b i → q ≤ p * b + i

  -- "or else the first programmed page of the second mixed block"
  pub record SecondMixed (q : ℕ) : Type 0 where
    pub ordered : (b i : ℕ) → Before b i → ⊥
    pub one : ℕ
    pub second : ℕ
    pub higher : one < second
    pub one_mixed : Mixed one
    pub second_mixed_lem : Mixed second
    pub no_other : (b : ℕ) → b < second → Mixed b → b ≡ one
    pub page_is : q ≡ p * second
    pub programmed_is : er q ≡ false

  -- ---- order in a block
  late : ℕ → ℕ → Bool
  late b j = ltb (first_in p er b) j & not (er (p * b + j))

  first_le : (b i : ℕ) → er (p * b + i) ≡ true → first_in p er b ≤ i
  first_le b i e = by_le (first_in p er b) i (λ z. z) (λ z. absurd (true_false _ e ((least_is (λ j. er (p * b + j)) p).before i z)))

  before_late : (b i : ℕ) → Before b i → in_order p er b ≡ false
  unfolding in_order late
  before_late b i x = ap not (any_one p x.later (late b) x.place_in
      (and_both _ _ (lt-ltb (first_in p er b) x.later (omega (arith, first_le b i x.erased_is, x.after))) (ap not x.programmed_is)))

  late_before : (b : ℕ) → b < n → in_order p er b ≡ false → Before b (first_in p er b)
  unfolding in_order late
  late_before b q e =
      let h = ltb-true (least p (late b)) p (not-false _ e) in
      let w = (least_is (late b) p).there h in
      let up = ltb-true (first_in p er b) (least p (late b)) (and_left _ _ w) in
      record {
        block_in = q;
        erased_is = (least_is (λ j. er (p * b + j)) p).there (omega (arith, up, h));
        later = least p (late b);
        after = up;
        place_in = h;
        programmed_is = not-true _ (and_right _ _ w);
      }

  -- ---- the first block out of order
  abbrev disordered : ℕ
  disordered = least n (λ b. not (in_order p er b))

  first_erased : disordered < n → FirstErased (p * disordered + first_in p er disordered)
  first_erased h =
      let l = least_is (λ b. not (in_order p er b)) n in
      let x = late_before disordered h (not-true _ (l.there h)) in
      record {
        block = disordered;
        place = first_in p er disordered;
        page_is = refl;
        before = x;
        first = λ b i y. by_le disordered b
            (λ z. by_eq disordered b
            (λ e. subst (λ d. p * d + first_in p er d ≤ p * b + i) (sym e) (omega (arith, first_le b i y.erased_is)))
            (λ d. omega (arith, block_in p disordered b (omega (arith, z, d)), x.after, x.place_in)))
            (λ z. absurd (true_false _ (ap not (before_late b i y)) (l.before b z)));
      }

  -- ---- the second mixed block, where all blocks are in order
  module _ (ordered : (b i : ℕ) → Before b i → ⊥) where
    mixed_test : (b : ℕ) → Mixed b → mixed p er b ≡ true
    mixed_test b m = rw (starts, ends) refl
      where
        starts : er (p * b + 0) ≡ false
        starts = by_test (er (p * b + 0)) (λ e. by_eq m.programmed_at 0
            (λ z. absurd (true_false _ e (subst (λ j. er (p * b + j) ≡ false) z m.programmed_is)))
            (λ z. absurd (ordered b 0 (record {
              block_in = m.block_in;
              erased_is = e;
              later = m.programmed_at;
              after = omega (arith, z);
              place_in = m.programmed_in_lem;
              programmed_is = m.programmed_is;
            })))) (λ e. e)

        ends : er (p * b + (p - 1)) ≡ true
        ends = by_test (er (p * b + (p - 1))) (λ e. e) (λ e. by_eq m.erased_at (p - 1)
            (λ z. absurd (true_false _ (subst (λ j. er (p * b + j) ≡ true) z m.erased_is) e))
            (λ z. absurd (ordered b m.erased_at (record {
              block_in = m.block_in;
              erased_is = m.erased_is;
              later = p - 1;
              after = omega (arith, z, m.erased_in_lem);
              place_in = omega (arith, m.erased_in_lem);
              programmed_is = e;
            }))))

    test_parts : (a z : Bool) → pick a false z ≡ true → (a ≡ false) × (z ≡ true)
    test_parts true z e = absurd (true_false false e refl)
    test_parts false z e = (refl, e)

    test_mixed : (b : ℕ) → b < n → mixed p er b ≡ true → Mixed b
    test_mixed b q e =
        let w = test_parts (er (p * b + 0)) (er (p * b + (p - 1))) e in
        let some : 1 ≤ p = by_le 1 p (λ z. z) (λ z. absurd (true_false _ w.1 (let y : p - 1 ≡ 0 = omega (arith, z) in
        rw y w.0))) in
        record {
          block_in = q;
          erased_at = p - 1;
          erased_in_lem = omega (arith, some);
          erased_is = w.1;
          programmed_at = 0;
          programmed_in_lem = omega (arith, some);
          programmed_is = w.0;
        }

    abbrev one_is : ℕ
    one_is = least n (mixed p er)

    other : ℕ → Bool
    other b = mixed p er b & not (eqb b one_is)

    second_found : second_mixed p n er < n → SecondMixed (p * second_mixed p n er)
    unfolding second_mixed other
    second_found h =
        let s = second_mixed p n er in
        let w = (least_is other n).there h in
        let m = and_left _ _ w in
        let apart : s ≡ one_is → ⊥ = eqb-false s one_is (not-true (eqb s one_is) (and_right _ _ w)) in
        let l = least_is (mixed p er) n in
        let low : one_is ≤ s = by_le one_is s (λ z. z) (λ z. absurd (true_false _ m (l.before s z))) in
        let under : one_is < s = by_eq s one_is (λ z. absurd (apart z)) (λ z. omega (arith, low, z)) in
        record {
          ordered = ordered;
          one = one_is;
          second = s;
          higher = under;
          one_mixed = test_mixed one_is (omega (arith, under, h)) (l.there (omega (arith, under, h)));
          second_mixed_lem = test_mixed s h m;
          no_other = λ b q x. by_eq b one_is (λ z. z)
              (λ z. absurd (true_false _ (and_both _ _ (mixed_test b x) (ap not (ne_eqb b one_is z))) ((least_is other n).before b q)));
          page_is = refl;
          programmed_is = (let z : p * s + 0 ≡ p * s = omega arith in
              subst (λ j. er j ≡ false) z (test_parts _ _ m).0);
        }

  pub r2_names : (q : ℕ) → r2 p n er ≡ Bad q → FirstErased q ⊎ SecondMixed q
  unfolding r2
  r2_names q e = go (bad_unless _ _ q _ e)
    where
      none : leb n disordered ≡ true → (b i : ℕ) → Before b i → ⊥
      none h b i x = true_false _ (ap not (before_late b i x)) ((least_is (λ b. not (in_order p er b)) n).before b
          (omega (arith, leb-true n disordered h, x.block_in)))

      then : leb n disordered ≡ true → ((leb n (second_mixed p n er) ≡ false) × (p * second_mixed p n er ≡ q)) ⊎
          ((leb n (second_mixed p n er) ≡ true) × (Good ≡ Bad q)) → FirstErased q ⊎ SecondMixed q
      then h (inl w) = inr (subst SecondMixed w.1 (second_found (none h) (leb-false n (second_mixed p n er) w.0)))
      then h (inr w) = absurd (bad_good q (sym w.1))

      go : ((leb n disordered ≡ false) × (p * disordered + first_in p er disordered ≡ q)) ⊎
          ((leb n disordered ≡ true) × (unless (leb n (second_mixed p n er)) (p * second_mixed p n er) Good ≡ Bad q)) → FirstErased q ⊎ SecondMixed q
      go (inl w) = inl (subst FirstErased w.1 (first_erased (leb-false n disordered w.0)))
      go (inr w) = then w.0 (bad_unless _ _ q _ w.1)
