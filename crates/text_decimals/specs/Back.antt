-- What is written is read as the number, and what is read is written as it stood. Assumes nothing.
use Rattle.std.specs.Prelude.{ℕ, zero, suc, ◌+◌, ◌-◌, ◌*◌, ◌/◌, ◌%◌, ◌<◌, ◌≤◌, ◌^◌, Bool, ◌≡◌, List, [], ◌∷◌, ◌++◌, length, get_or, None, Some}
use Rattle.std.proofs.Math.Bool.{true, false}
use Rattle.std.proofs.lemmas.Bool.{false≢true}
use Rattle.std.proofs.Math.Path.{refl, subst}
use Rattle.std.proofs.Common.{ap, sym, ◌∙◌, append_assoc, append-nil, arith, lit<, length-append}
use Rattle.std.proofs.Math.Decide.{dec_lt}
use Rattle.std.proofs.Math.Dec.{leb}
use Rattle.std.proofs.Math.ListN.{get_or-append}
use borrow.Author.Tests.{lt-ltb, le-ltb, le-leb, ltb-true, leb-true}
use Rattle.geometry.specs.Tests.{pick, ◌&◌, and_left, and_right, and_both}
use Rattle.text_decimals.specs.Decimals.{digit, all_digits, value, proper, largest, number_of, digits_of, decimal}

-- ---- the bytes of a number
-- how far above n `most` is makes no difference
digits_same : (f g n : ℕ) → n < f → n < g → digits_of f n ≡ digits_of g n
unfolding digits_of
digits_same zero g n h k = absurd (omega arith)
digits_same (suc f) zero n h k = absurd (omega arith)
digits_same (suc f) (suc g) n h k = elim (dec_lt n 10) [
  | yes q ↦ rw (lt-ltb n 10 q) refl
  | no q ↦ rw (le-ltb n 10 (omega arith)) (ap (λ ds. ds ++ ((48 + n % 10) ∷ [])) (digits_same f g (n / 10) (omega arith) (omega arith)))
]

pub decimal_one : (n : ℕ) → n < 10 → decimal n ≡ (48 + n) ∷ []
unfolding decimal digits_of
decimal_one n h = rw (lt-ltb n 10 h) refl

pub decimal_more : (n : ℕ) → 10 ≤ n → decimal n ≡ decimal (n / 10) ++ ((48 + n % 10) ∷ [])
unfolding decimal digits_of
decimal_more n h = rw (le-ltb n 10 h) (ap (λ ds. ds ++ ((48 + n % 10) ∷ [])) (digits_same n (suc (n / 10)) (n / 10) (omega arith) (omega arith)))

-- by the digits, the last one first
by_digits : (P : ℕ → Type 0) → ((n : ℕ) → n < 10 → P n) → ((n : ℕ) → 10 ≤ n → P (n / 10) → P n) → (n : ℕ) → P n
by_digits P one more n = go (suc n) n (omega arith)
  where
    go : (f n : ℕ) → n < f → P n
    go zero n h = absurd (omega arith)
    go (suc f) n h = elim (dec_lt n 10) [ yes q ↦ one n q | no q ↦ more n (omega arith) (go f (n / 10) (omega arith)) ]

pub decimal_some : (n : ℕ) → 1 ≤ length (decimal n)
decimal_some = by_digits (λ n. 1 ≤ length (decimal n))
    (λ n h. rw (decimal_one n h) (omega arith))
    (λ n h i. rw (decimal_more n h) (let e = length-append (decimal (n / 10)) ((48 + n % 10) ∷ []) in omega (arith, e)))

-- as many digits as the number has tens
pub decimal_short : (k n : ℕ) → n < 10 ^ suc k → length (decimal n) ≤ suc k
decimal_short zero n h = rw (decimal_one n h) (omega arith)
decimal_short (suc k) n h = elim (dec_lt n 10) [
  | yes q ↦ rw (decimal_one n q) (omega arith)
  | no q ↦
      (let i = decimal_short k (n / 10) (omega arith) in
      let e = length-append (decimal (n / 10)) ((48 + n % 10) ∷ []) in
      rw (decimal_more n (omega arith)) (omega (arith, i, e)))
]

-- ---- what is written is read as the number
value_snoc : (v : ℕ) (ds : List ℕ) (b : ℕ) → value v (ds ++ (b ∷ [])) ≡ 10 * value v ds + (b - 48)
unfolding value
value_snoc v [] b = refl
value_snoc v (d ∷ ds) b = value_snoc (10 * v + (d - 48)) ds b

digits_snoc : (ds : List ℕ) (b : ℕ) → all_digits ds ≡ true → digit b ≡ true → all_digits (ds ++ (b ∷ [])) ≡ true
unfolding all_digits
digits_snoc [] b h e = and_both _ _ e refl
digits_snoc (d ∷ ds) b h e = and_both _ _ (and_left _ _ h) (digits_snoc ds b (and_right _ _ h) e)

digit_is : (n : ℕ) → n < 10 → digit (48 + n) ≡ true
unfolding digit
digit_is n h = and_both _ _ (le-leb 48 (48 + n) (omega arith)) (le-leb (48 + n) 57 (omega arith))

decimal_value : (n : ℕ) → value 0 (decimal n) ≡ n
unfolding value
decimal_value = by_digits (λ n. value 0 (decimal n) ≡ n)
    (λ n h. rw (decimal_one n h) (omega arith))
    (λ n h i. rw (decimal_more n h) (value_snoc 0 (decimal (n / 10)) (48 + n % 10) ∙ rw i (omega arith)))

decimal_digits : (n : ℕ) → all_digits (decimal n) ≡ true
unfolding all_digits
decimal_digits = by_digits (λ n. all_digits (decimal n) ≡ true)
    (λ n h. rw (decimal_one n h) (and_both _ _ (digit_is n h) refl))
    (λ n h i. rw (decimal_more n h) (digits_snoc (decimal (n / 10)) (48 + n % 10) i (digit_is (n % 10) (omega arith))))

-- the first digit is not 0
decimal_first : (n : ℕ) → 1 ≤ n → 48 < get_or (decimal n) 0 0
decimal_first = by_digits (λ n. 1 ≤ n → 48 < get_or (decimal n) 0 0)
    (λ n h k. rw (decimal_one n h) (omega arith))
    (λ n h i k. let s = decimal_some (n / 10) in
    rw (decimal_more n h, get_or-append (decimal (n / 10)) ((48 + n % 10) ∷ []) 0 0 s) (i (omega arith)))

proper_first : (ds : List ℕ) → 1 ≤ length ds → 48 < get_or ds 0 0 → proper ds ≡ true
unfolding proper
proper_first [] h k = absurd (omega arith)
proper_first (b ∷ []) h k = refl
proper_first (b ∷ c ∷ bs) h k = lt-ltb 48 b k

decimal_proper : (n : ℕ) → proper (decimal n) ≡ true
unfolding proper
decimal_proper zero = rw (decimal_one 0 (lit< tt)) refl
decimal_proper (suc n) = proper_first (decimal (suc n)) (decimal_some (suc n)) (decimal_first (suc n) (omega arith))

pub number_read : (n : ℕ) → n ≤ largest → number_of (decimal n) ≡ Some n
unfolding number_of
number_read n h = rw (and_both _ _ (and_both _ _ (decimal_digits n) (decimal_proper n)) (le-leb (value 0 (decimal n)) largest (rw (decimal_value n) h)))
    (ap Some (decimal_value n))

-- ---- what is read is written as it stood
value_back : (v : ℕ) (ds : List ℕ) → 1 ≤ v → all_digits ds ≡ true → decimal (value v ds) ≡ decimal v ++ ds
unfolding value all_digits digit
value_back v [] h d = sym (append-nil (decimal v))
value_back v (b ∷ ds) h d =
    let lo = leb-true 48 b (and_left _ _ (and_left _ _ d)) in
    let hi = leb-true b 57 (and_right _ _ (and_left _ _ d)) in
    let x : (10 * v + (b - 48)) / 10 ≡ v = omega arith in
    let y : 48 + (10 * v + (b - 48)) % 10 ≡ b = omega arith in
    value_back (10 * v + (b - 48)) ds (omega arith) (and_right _ _ d)
    ∙ rw (decimal_more (10 * v + (b - 48)) (omega arith), x, y) (append_assoc (decimal v) (b ∷ []) ds)

digits_back : (ds : List ℕ) → all_digits ds ≡ true → proper ds ≡ true → decimal (value 0 ds) ≡ ds
unfolding proper all_digits value digit
digits_back [] d p = absurd (false≢true p)
digits_back (b ∷ []) d p =
    let lo = leb-true 48 b (and_left _ _ (and_left _ _ d)) in
    let hi = leb-true b 57 (and_right _ _ (and_left _ _ d)) in
    let x : 48 + (10 * 0 + (b - 48)) ≡ b = omega arith in
    decimal_one (10 * 0 + (b - 48)) (omega arith) ∙ rw x refl
digits_back (b ∷ c ∷ bs) d p =
    let lo = ltb-true 48 b p in
    let hi = leb-true b 57 (and_right _ _ (and_left _ _ d)) in
    let x : 48 + (10 * 0 + (b - 48)) ≡ b = omega arith in
    value_back (10 * 0 + (b - 48)) (c ∷ bs) (omega arith) (and_right _ _ d)
    ∙ rw (decimal_one (10 * 0 + (b - 48)) (omega arith), x) refl

module _ (ds : List ℕ) (n : ℕ) where
  -- bytes that are a number are its decimal, and it is not too large
  number_is_lem : number_of ds ≡ Some n → (decimal n ≡ ds) × (n ≤ largest)
  unfolding number_of
  number_is_lem = go (all_digits ds & proper ds & leb (value 0 ds) largest) refl
    where
      go : (t : Bool) → (all_digits ds & proper ds & leb (value 0 ds) largest) ≡ t → pick t (Some (value 0 ds)) None
          ≡ Some n
          → (decimal n ≡ ds) × (n ≤ largest)
      go true e h =
          let q : value 0 ds ≡ n = cc in
          let l = leb-true (value 0 ds) largest (and_right _ _ e) in
          (ap decimal (sym q) ∙ digits_back ds (and_left _ _ (and_left _ _ e)) (and_right _ _ (and_left _ _ e)), subst (λ m. m ≤ largest) q l)
      go false e h = absurd (cc)

  pub number_back : number_of ds ≡ Some n → decimal n ≡ ds
  number_back h = (number_is_lem h).0

  pub number_most : number_of ds ≡ Some n → n ≤ largest
  number_most h = (number_is_lem h).1

  -- it has at most ten digits
  pub number_short : number_of ds ≡ Some n → length ds ≤ 10
  number_short h = let m = number_most h in
      subst (λ l. length l ≤ 10) (number_back h) (decimal_short 9 n (omega (arith, m)))
