-- Laws of the pages to come, in the form in which the code has the premises. Assumes nothing.
use Prim.Native.Nat.{ℕ, zero, suc, ◌+◌, ◌-◌, ◌*◌, ◌/◌, ◌%◌, ◌<◌, ◌≤◌}
use Rattle.std.specs.Prelude.{Bool, true, false, ◌≡◌, List, eqb, ltb, get_or, set, take, length, ◌||◌}
use Rattle.std.proofs.Math.Path.{refl, sym}
use Rattle.std.proofs.Common.{ap, ◌∙◌, Fits, length-set, get_or-set_same, get_or-set_other, div-le_self, mul-le-mul_left, take-suc}
use Rattle.std.proofs.Math.Seq.{take-length}
use Rattle.std.specs.Int.{w16}
use Rattle.std.specs.List.{list_any}
use Rattle.std.proofs.Math.Decide.{ℕ_discrete}
use Rattle.std.proofs.lemmas.List.Folds.{list_any-append}
use native.Mathlib.Omega.{arith}
use Rattle.std.proofs.Math.Nat.{div-zero, mod-zero}
use Rattle.std.proofs.Math.Numerals.{sub-one, add-one}
use borrow.Author.Tests.{eq-eqb, ne_eqb, lt-ltb, le-ltb, le-leb, lt-leb}
use Rattle.geometry.specs.Tests.{pick, ◌&◌, and_true, and_false}
use Rattle.geometry.specs.Bounds.{four_bytes}
use Rattle.model.specs.Count.{least}
use Rattle.model.specs.Next.{mixed, first_in, round, next_block, next_page, after}
use Rattle.live_beside.specs.Beside.{next_after, page_from}
use Rattle.live_beside.specs.Collect.{next_erased}
use Rattle.theory_counts.specs.Least.{by_lt}
use Rattle.theory_counts.specs.Scan.{scan_laws}
use Rattle.chip_next.specs.Coming.{free, whole, whole_after, seen, Coming, erased_from}

-- ---- is_free
eqb_swap : (x y : ℕ) → eqb x y ≡ eqb y x
eqb_swap x y = elim (ℕ_discrete x y) [
  | yes e ↦ eq-eqb x y e ∙ sym (eq-eqb y x (sym e))
  | no e ↦ ne_eqb x y e ∙ sym (ne_eqb y x (λ z. e (sym z)))
]

any_more : (a b : Bool) (r : Bool) → pick b false (pick a false r) ≡ pick (a || (b || false)) false r
any_more true true r = refl
any_more true false r = refl
any_more false true r = refl
any_more false false r = refl

-- page q is free where it is none of the first i pages chosen, and erased
module _ (er : ℕ → Bool) (ps : List ℕ) (q : ℕ) where
  free_any : (i : ℕ) → i ≤ length ps → free er ps i q ≡ pick (list_any (λ y. eqb y q) (take i ps)) false (er q)
  unfolding free
  free_any zero h = refl
  free_any (suc i) h =
      rw (take-suc ps i 0 h, list_any-append, eqb_swap q (get_or ps i 0), free_any i (omega arith))
      (any_more (list_any (λ y. eqb y q) (take i ps)) (eqb (get_or ps i 0) q) (er q))

  free_all : free er ps (length ps) q ≡ pick (list_any (λ y. eqb y q) ps) false (er q)
  free_all = free_any (length ps) (omega arith) ∙ rw take-length

  module _ (t : Bool) (e : t ≡ list_any (λ y. eqb y q) ps) where
    pub free_taken : t ≡ true → false ≡ free er ps (length ps) q
    free_taken w = sym (free_all ∙ rw (← e, w))

    pub free_clear : t ≡ false → er q ≡ free er ps (length ps) q
    free_clear w = sym (free_all ∙ rw (← e, w))

-- the first k pages chosen by themselves
free_cut : (er : ℕ → Bool) (ps : List ℕ) (k : ℕ) → k ≤ length ps
    → free er (take k ps) (length (take k ps)) ≡ free er ps k
free_cut er ps k h = λ z q. (free_all er (take k ps) q ∙ sym (free_any er ps q k h)) z

-- ---- the block of a page
pub quotient : (a b x y : ℕ) → x ≡ a → y ≡ b → x / y ≡ a / b
quotient a b x y e f = rw (e, f)

pub quotient_low : (x y : ℕ) → x < four_bytes → x / y < four_bytes
quotient_low x y h = omega (arith, div-le_self x y, h)

pub quotient_none : (a b y : ℕ) → y ≡ b → y ≡ 0 → 0 ≡ a / b
quotient_none a b y e z = sym (ap (λ x. a / x) (sym e ∙ z) ∙ div-zero a)

-- ---- blocks
module _ (p : ℕ) (er : ℕ → Bool) where
  pub whole_no : (a b v : ℕ) → v ≡ b → v < a → false ≡ whole p er a b
  unfolding whole
  whole_no a b v e h = sym (rw (lt-leb a b (omega arith)) (and_false (er (p * b + 0))))

  pub whole_is : (a b v q : ℕ) (r : Bool) → v ≡ b → a ≤ v → q ≡ p * b + 0 → r ≡ er q → r ≡ whole p er a b
  unfolding whole
  whole_is a b v q r e h eq er' = er' ∙ sym (rw (le-leb a b (omega arith), ← eq) (and_true (er q)))

  -- from block 0 on is all of them
  whole_each : (b : ℕ) → whole p er 0 b ≡ er (p * b + 0)
  unfolding whole
  whole_each b = rw (le-leb 0 b (omega arith)) (and_true (er (p * b + 0)))

  whole_all : whole p er 0 ≡ (λ b. er (p * b + 0))
  whole_all = λ z b. whole_each b z

  pub next_mixed : (n b last : ℕ) → b ≡ least n (mixed p er) → b < n → b ≡ next_block p n (seen er last)
  unfolding next_block
  next_mixed n b last e h = sym (simp (← e, lt-ltb b n h))

  -- round from the block after b
  module _ (n b j : ℕ) (ej : j ≡ least n (whole p er (b + 1))) where
    later_is : j ≡ least n (λ i. ltb b i & er (p * i + 0))
    unfolding whole
    later_is = ej ∙ rw (add-one b) refl

    pub round_later : j < n → j ≡ whole_after p n er b
    unfolding whole_after round
    round_later h = sym (rw (← later_is, lt-ltb j n h) refl)

    pub round_start : (v : ℕ) → v ≡ least n (whole p er 0) → n ≤ j → v ≡ whole_after p n er b
    unfolding whole_after round
    round_start v ev h = ev ∙ rw whole_all (sym (rw (← later_is, le-ltb j n h) refl))

  pub next_round : (n m b v last : ℕ) (ps : List ℕ) → v ≡ whole_after p n (free er ps 0) b → b ≡ last / p
      → m ≡ least n (mixed p er) → n ≤ m
      → v ≡ next_block p n (seen er last)
  unfolding next_block whole_after free
  next_round n m b v last ps ev eb em none = ev ∙ rw eb (sym (rw (← em, le-ltb m n none) refl))

  pub after_is : (n b j last r : ℕ) → r ≡ p * b + j → b ≡ next_block p n (seen er last) → j ≡ first_in p er b
      → r ≡ next_page p n (seen er last)
  after_is n b j last r e eb ej = e ∙ rw (ej, eb)

-- a page of 16 bits' worth of blocks and of pages in each
pub page_low : (p b j r : ℕ) → r ≡ p * b + j → j ≤ p → Fits w16 p → Fits w16 b → r ≤ 4294901760
page_low p b j r e h fp fb =
    let hp : p ≤ 65535 = omega (arith, fp.fits) in
    let hb : b ≤ 65535 = omega (arith, fb.fits) in
    omega (arith, e, h, mul-le-mul_left p hb)

-- ---- the page after one
pub ends_none : (x p w : ℕ) → w ≡ p → w ≡ 0 → false ≡ eqb (suc x % p) 0
ends_none x p w e z = sym (ap (λ y. eqb (suc x % y) 0) (sym e ∙ z)
    ∙ rw (mod-zero (suc x)) (ne_eqb (suc x) 0 (λ q. let r : suc x ≡ 0 = q in omega arith)))

pub ends_is : (x p y w : ℕ) → y ≡ x → w ≡ p → eqb ((y + 1) % w) 0 ≡ eqb (suc x % p) 0
ends_is x p y w e f = rw (add-one y, e, f)

module _ (p n x : ℕ) (er : ℕ → Bool) (t : Bool) (et : t ≡ eqb (suc x % p) 0) where
  pub goes_on : t ≡ false → x + 1 ≡ next_after p n er x
  unfolding next_after
  goes_on q = add-one x ∙ sym (rw (← et, q) refl)

  pub goes_round : (b v r : ℕ) → r ≡ p * v → v ≡ whole_after p n er b → b ≡ x / p → t ≡ true → r ≡ next_after p n er x
  unfolding next_after whole_after
  goes_round b v r e ev eb q = e ∙ rw (ev, eb) (sym (rw (← et, q) refl))

pub after_none : (p n x r : ℕ) (er : ℕ → Bool) (ps : List ℕ) → r ≡ next_after p n (free er ps 0) x
    → r ≡ next_after p n er x
unfolding free
after_none p n x r er ps e = e

-- ---- the next page once a block was erased
pub starts_none : (x p w : ℕ) → w ≡ p → w ≡ 0 → eqb x 0 ≡ eqb (x % p) 0
starts_none x p w e z = sym (ap (λ y. eqb (x % y) 0) (sym e ∙ z) ∙ rw (mod-zero x) refl)

pub starts_is : (x p y w : ℕ) → y ≡ x → w ≡ p → eqb (y % w) 0 ≡ eqb (x % p) 0
starts_is x p y w e f = rw (e, f)

module _ (p n root x : ℕ) (er : ℕ → Bool) (t : Bool) (et : t ≡ eqb (x % p) 0) where
  pub erased_stays : t ≡ false → x ≡ next_erased p n er root x
  unfolding next_erased
  erased_stays q = sym (rw (← et, q) refl)

  pub erased_round : (b v r : ℕ) (ps : List ℕ) → r ≡ p * v → v ≡ whole_after p n (free er ps 0) b → b ≡ root / p
      → t ≡ true → r ≡ next_erased p n er root x
  unfolding next_erased whole_after free
  erased_round b v r ps e ev eb q = e ∙ rw (ev, eb) (sym (rw (← et, q) refl))

-- ---- the pages to come
module _ (p n : ℕ) where
  -- the page after the i-th one, and the erased pages then
  from_suc : (er : ℕ → Bool) (x i : ℕ) → page_from p n er x (suc i) ≡ next_after p n (erased_from p n er x (suc i))
      (page_from p n er x i)
  unfolding page_from erased_from
  from_suc er x zero = refl
  from_suc er x (suc i) = from_suc (after x er) (next_after p n (after x er) x) i

  erased_suc : (er : ℕ → Bool) (x i q : ℕ) → erased_from p n er x (suc i) q ≡ after (page_from p n er x i)
      (erased_from p n er x i) q
  unfolding page_from erased_from
  erased_suc er x zero q = refl
  erased_suc er x (suc i) q = erased_suc (after x er) (next_after p n (after x er) x) i q

  module _ (er : ℕ → Bool) (x : ℕ) where
    -- the page after one, where the pages chosen lie in a longer list
    after_cut : (k page y : ℕ) (ps : List ℕ) → k ≤ length ps
        → y ≡ next_after p n (free er (take k ps) (length (take k ps))) page → y ≡ next_after p n (free er ps k) page
    after_cut k page y ps h ey = ey ∙ ap (λ (f : ℕ → Bool). next_after p n f page) (free_cut er ps k h)

    -- the code's test of a page, and the erased pages once the chosen ones are programmed
    free_from : (k : ℕ) (ps : List ℕ) → Coming p n er x k ps → (q : ℕ) → free er ps k q ≡ erased_from p n er x k q
    unfolding free erased_from
    free_from zero ps c q = refl
    free_from (suc k) ps c q =
        rw (c.at k (omega arith), free_from k ps (record { at = λ i h. c.at i (omega arith) }) q) (sym (erased_suc er x k q))

    next_from : (k page y : ℕ) (ps : List ℕ) → Coming p n er x k ps → page ≡ page_from p n er x (k - 1) → 1 ≤ k
        → y ≡ next_after p n (free er ps k) page
        → y ≡ page_from p n er x k
    next_from zero page y ps c e h ey = absurd (omega arith)
    next_from (suc k) page y ps c e h ey =
        let w : page ≡ page_from p n er x k = rw sub-one at e in
        ey ∙ (λ z. next_after p n (λ q. free_from (suc k) ps c q z) (w z)) ∙ sym (from_suc er x k)

    pub coming_one : (ps : List ℕ) → length ps ≡ 256 → Coming p n er x 1 (set ps 0 x)
    unfolding page_from
    coming_one ps len = record { at = λ i h. let q : i ≡ 0 = omega arith in rw q (get_or-set_same ps 0 x 0 (omega arith)) }

    pub page_one : x ≡ page_from p n er x (1 - 1)
    unfolding page_from
    page_one = refl

    pub page_more : (k page y : ℕ) (ps : List ℕ) → Coming p n er x k ps → page ≡ page_from p n er x (k - 1) → 1 ≤ k
        → y ≡ next_after p n (free er (take k ps) (length (take k ps))) page → length ps ≡ 256 → k < 256
        → y ≡ page_from p n er x (k + 1 - 1)
    page_more k page y ps c e h ey len l =
        let q : k + 1 - 1 ≡ k = omega arith in
        rw q (next_from k page y ps c e h (after_cut k page y ps (omega arith) ey))

    pub coming_more : (k page y : ℕ) (ps : List ℕ) → Coming p n er x k ps → page ≡ page_from p n er x (k - 1) → 1 ≤ k
        → y ≡ next_after p n (free er (take k ps) (length (take k ps))) page
        → length ps ≡ 256 → k < 256 → Coming p n er x (k + 1) (set ps k y)
    coming_more k page y ps c e some ey len h = record {
      at = λ i j. by_lt i k
          (λ b. get_or-set_other ps k i y 0 (omega arith) ∙ c.at i b)
          (λ b. let q : i ≡ k = omega arith in rw q (get_or-set_same ps k y 0 (omega arith)
          ∙ next_from k page y ps c e some (after_cut k page y ps (omega arith) ey)));
    }

    pub coming_done : (k m : ℕ) (ps : List ℕ) → Coming p n er x k ps → m ≤ k → Coming p n er x m ps
    coming_done k m ps c h = record { at = λ i j. c.at i (omega arith) }

-- the array keeps its length
pub set_length : (ps : List ℕ) (k x m : ℕ) → length ps ≡ m → length (set ps k x) ≡ m
set_length ps k x m e = length-set ps k x ∙ e

pub ruleset free_laws = (free_taken, free_clear)

pub ruleset whole_laws = (whole_no, whole_is, next_mixed, round_later, round_start, next_round)

pub ruleset block_laws = (quotient, quotient_low, quotient_none)

pub ruleset page_laws = (after_is, page_low, ends_none, ends_is, goes_on, goes_round, after_none)

pub ruleset erased_laws = (starts_none, starts_is, erased_stays, erased_round)

pub ruleset coming_laws = (coming_one, page_one, page_more, coming_more, coming_done)

pub ruleset next_laws = (scan_laws, free_laws, block_laws, whole_laws, page_laws, erased_laws, coming_laws)
