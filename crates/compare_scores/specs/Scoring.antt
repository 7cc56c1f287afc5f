-- Laws for the code that keeps the score and works out the ratio. Assumes nothing.
use Rattle.std.specs.Prelude.{◌≡◌, Bool, true, false, not, [], ℕ, zero, suc, ◌+◌, ◌*◌, ◌/◌, ◌%◌, ◌<◌, ◌≤◌, eqb, leb}
use Rattle.std.proofs.Math.Path.{refl, sym}
use Rattle.std.proofs.Common.{◌∙◌, mod-lt, arith}
use borrow.Author.Tests.{eqb-false, eq-eqb, ne_eqb, lt-leb, le-leb, not-true, not-false}
use Rattle.geometry.specs.Tests.{pick, and_true, and_false}
use Rattle.model.specs.Calls.{Outcome}
use Rattle.call_answers.specs.declared.Row.{Row}
use Rattle.call_answers.specs.Answers.{told_by}
use Rattle.log_lines.specs.declared.Order.{Order}
use Rattle.compare_scores.specs.declared.Score.{Score}
use Rattle.compare_scores.specs.Ratio.{euclid, greatest, ratio}
use Rattle.compare_scores.specs.Lowest.{greatest_some}
use Rattle.compare_scores.specs.Scores.{stops, is_update, counts, scored}

-- ---- Euclid's loop
-- steps beyond b change nothing
steps_same : (n m a b : ℕ) → b ≤ n → b ≤ m → euclid n a b ≡ euclid m a b
unfolding euclid
steps_same zero zero a b h k = refl
steps_same zero (suc m) a b h k = rw (eq-eqb b 0 (omega arith)) refl
steps_same (suc n) zero a b h k = rw (eq-eqb b 0 (omega arith)) refl
steps_same (suc n) (suc m) a b h k = go (eqb b 0) refl (steps_same n m b (a % b))
  where
    go : (t : Bool) → eqb b 0 ≡ t → (a % b ≤ n → a % b ≤ m → euclid n b (a % b) ≡ euclid m b (a % b))
        → pick t a (euclid n b (a % b)) ≡ pick t a (euclid m b (a % b))
    go true e i = refl
    go false e i =
        let some = eqb-false b 0 e in
        let less = mod-lt a {m = b} (omega arith) in
        i (omega arith) (omega arith)

greatest_step : (x y : ℕ) → (y ≡ 0 → ⊥) → greatest x y ≡ greatest y (x % y)
unfolding euclid
greatest_step x zero h = absurd (h refl)
greatest_step x (suc k) h =
    let less = mod-lt x {m = suc k} (omega arith) in
    rw (ne_eqb (suc k) 0 h) (steps_same k (x % suc k) (suc k) (x % suc k) (omega arith) (omega arith))

module _ (a b x y : ℕ) (same : greatest a b ≡ greatest x y) where
  pub euclid_goes : (y ≡ 0 → ⊥) → greatest a b ≡ greatest y (x % y)
  euclid_goes h = same ∙ greatest_step x y h

  pub euclid_ends : y ≡ 0 → x ≡ greatest a b
  unfolding euclid
  euclid_ends h = sym (same ∙ rw h refl)

pub euclid_falls : (x y : ℕ) → (y ≡ 0 → ⊥) → x % y < y
euclid_falls x y h = mod-lt x {m = y} (omega arith)

-- ---- the ratio
module _ (a b : ℕ) where
  pub ratio_none : b ≡ 0 → record { upper = 0; lower = 0 } ≡ ratio a b
  unfolding ratio
  ratio_none h = rw (eq-eqb b 0 h) refl

  pub ratio_some : (g : ℕ) → g ≡ greatest a b → (b ≡ 0 → ⊥) → record { upper = a / g; lower = b / g } ≡ ratio a b
  unfolding ratio
  ratio_some g e h = rw (e, ne_eqb b 0 h) refl

  pub part_some : (g : ℕ) → g ≡ greatest a b → (b ≡ 0 → ⊥) → 0 < g
  part_some g e h = rw e (greatest_some a b (omega arith))

-- ---- what is counted
-- what a row says; a score does not look at the image
abbrev pub outcome_of : Row → Outcome
outcome_of w = told_by w []

-- what at most 1,000,000 lines can come to, each with numbers of 32 bits
abbrev pub Within : Score → Type 0
Within s = (s.lines ≤ 1000000) × (s.updates ≤ s.lines) × (s.mu ≤ 4294967295 * s.lines) × (s.plain ≤ 4294967295 * s.lines)

module _ (w : Row) where
  pub stops_below : w.answer < 5 → false ≡ stops (outcome_of w)
  stops_below h = rw (lt-leb 5 w.answer h) (sym (and_false (leb w.answer 7)))

  pub stops_from : 5 ≤ w.answer → leb w.answer 7 ≡ stops (outcome_of w)
  stops_from h = rw (le-leb 5 w.answer h) (sym (and_true (leb w.answer 7)))

module _ (order : Order) (v w : Row) (u : Bool) (e : u ≡ is_update order) where
  pub counts_none : not u ≡ true → false ≡ counts order (outcome_of v) (outcome_of w)
  counts_none h = rw (← e, not-true u h) (sym (simp (and_false)))

  module _ (h : not u ≡ false) where
    pub counts_first : (v.answer ≡ 0 → ⊥) → false ≡ counts order (outcome_of v) (outcome_of w)
    counts_first k = rw (← e, not-false u h, ne_eqb v.answer 0 k) (sym (simp (and_true, and_false)))

    pub counts_second : v.answer ≡ 0 → eqb w.answer 0 ≡ counts order (outcome_of v) (outcome_of w)
    counts_second k = rw (← e, not-false u h, eq-eqb v.answer 0 k) (sym (simp (and_true)))

module _ (s : Score) (order : Order) (v w : Row) (t : Bool) (e : t ≡ counts order (outcome_of v) (outcome_of w)) where
  pub scored_none : not t ≡ true → record { lines = s.lines + 1; updates = s.updates; mu = s.mu; plain = s.plain }
      ≡ scored s order (outcome_of v) (outcome_of w)
  unfolding scored
  scored_none h = rw (← e, not-true t h) refl

  pub scored_one : not t ≡ false
      → record {
        lines = s.lines + 1;
        updates = s.updates + 1;
        mu = s.mu + v.programmed;
        plain = s.plain + w.programmed;
      } ≡ scored s order (outcome_of v) (outcome_of w)
  unfolding scored
  scored_one h = rw (← e, not-false t h) refl

-- a line more of those that may come
pub within_more : (s : Score) (order : Order) (a b : Outcome) → Within s → s.lines < 1000000
    → a.programmed ≤ 4294967295 → b.programmed ≤ 4294967295
    → Within (scored s order a b)
unfolding scored
within_more s order a b w h i j = go (counts order a b)
  where
    go : (t : Bool) → Within (pick t
        (record { lines = s.lines + 1; updates = s.updates + 1; mu = s.mu + a.programmed; plain = s.plain + b.programmed })
        (record { lines = s.lines + 1; updates = s.updates; mu = s.mu; plain = s.plain }))
    go true = (omega arith, omega arith, omega arith, omega arith)
    go false = (omega arith, omega arith, omega arith, omega arith)
