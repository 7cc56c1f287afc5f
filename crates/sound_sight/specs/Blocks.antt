-- The blocks, in the form in which the code has the premises. Assumes nothing.
use Rattle.std.specs.Prelude.{ℕ, zero, suc, ◌+◌, ◌-◌, ◌*◌, ◌<◌, ◌≤◌, Bool, true, false, not, ◌≡◌, refl, List, ltb}
use Rattle.std.proofs.lemmas.Bool.{false≢true, not-true, not-false, lt-leb}
use Rattle.std.proofs.Math.Path.{sym, ap}
use Rattle.std.proofs.Common.{◌∙◌, arith, add-one, add-zero, mul-suc, le-leb, lt-ltb}
use Rattle.geometry.specs.declared.Geometry.{Geometry}
use Rattle.geometry.specs.Tests.{◌&◌, and_true}
use Rattle.model.specs.Bytes.{erased, seq_at}
use Rattle.model.specs.Count.{count}
use Rattle.model.specs.Next.{first_in}
use Rattle.model.specs.Rules.{well_formed, in_order}
use Rattle.theory_counts.specs.Least.{by_lt, none_passes, least_is}
use Rattle.theory_counts.specs.Tally.{count_most}
use Rattle.chip_survey.specs.declared.Seen.{Seen}
use Rattle.chip_survey.specs.Survey.{seen_to}
use Rattle.chip_survey.specs.Pass.{see_erased}
use Rattle.sound_numbers.specs.declared.Range.{Range}
use Rattle.sound_numbers.specs.Ranges.{range_to}
use Rattle.sound_numbers.specs.RuleThree.{extend_erased, range_go}
use Rattle.sound_sight.specs.Sight.{Told, Fronted, Back, Late, Spoilt, Strip}
use Rattle.sound_sight.specs.Pages.{told_yes, told_no}

pub seen_bound : (g : Geometry) (img : List ℕ) (t : Bool) (B : Type 0) (b j : ℕ) (s : Seen) (r : Range)
    → Told t (Fronted g img b j s r) B → not t ≡ false
    → s.erased ≤ g.pages * b + j
unfolding seen_to
seen_bound g img t B b j s r x n =
    let f = x.yes (not-false t n) in
    let e : s.erased ≡ count (g.pages * b + j) (erased g img) = ap (λ (y : Seen). y.erased) f.seen in
    omega (arith, e, count_most (erased g img) (g.pages * b + j))

-- erased pages add to the erased ones alone
abbrev more : Seen → ℕ → Seen
more s k = record { root = s.root; score = s.score; most = s.most; last = s.last; erased = s.erased + k }

module _ (g : Geometry) (img : List ℕ) where
  blank_seen : (k q : ℕ) (s : Seen) → s ≡ seen_to g img q → ((i : ℕ) → i < k → erased g img (q + i) ≡ true)
      → more s k ≡ seen_to g img (q + k)
  blank_seen zero q s e h = rw (add-zero s.erased, add-zero q) e
  blank_seen (suc k) q s e h =
      let w : s.erased + k + 1 ≡ s.erased + suc k = omega arith in
      let v : q + k + 1 ≡ q + suc k = omega arith in
      rw (← w, ← v) (see_erased g img (q + k) (more s k) (blank_seen k q s e (λ i m. h i (omega arith))) (erased g img (q + k)) refl (h k (omega arith)))

module _ (er : ℕ → Bool) (seq : ℕ → ℕ) (base : ℕ) where
  blank_range : (k j : ℕ) (r : Range) → r ≡ range_to er seq base j → ((i : ℕ) → i < k → er (base + (j + i)) ≡ true)
      → r ≡ range_to er seq base (j + k)
  blank_range zero j r e h = rw (add-zero j) e
  blank_range (suc k) j r e h =
      let v : j + k + 1 ≡ j + suc k = omega arith in
      let w : r ≡ range_to er seq base (j + k) = blank_range k j r e (λ i m. h i (omega arith)) in
      rw (← v) (range_go er seq base (j + k) (base + (j + k)) r r w refl (extend_erased er seq (base + (j + k)) r (h k (omega arith))))

-- a programmed page after an erased one
late_order : (p : ℕ) (er : ℕ → Bool) (b j k : ℕ) → j < k → k < p → er (p * b + j) ≡ true → er (p * b + k) ≡ false
    → in_order p er b ≡ true → ⊥
unfolding in_order
late_order p er b j k lt h ej ek o =
    false≢true (sym (none_passes (λ i. ltb (first_in p er b) i & not (er (p * b + i))) p (not-true _ o) k h)
    ∙ simp (lt-ltb (first_in p er b) k first, ek, and_true))
  where
    first : first_in p er b < k
    first = by_lt (first_in p er b) k (λ m. m) (λ m. absurd (false≢true (sym ((least_is (λ i. er (p * b + i)) p).before j (omega arith)) ∙ ej)))

blank_formed : (g : Geometry) (img : List ℕ) (p : ℕ) → erased g img p ≡ true → well_formed g img p ≡ true
unfolding well_formed
blank_formed g img p e = simp e

pub strip_kept : (t : Bool) (A A' B : Type 0) → Told t A' B → not t ≡ true → Told t A B
strip_kept t A A' B x n = rw (not-true t n) (told_no A B (x.no (not-true t n)))

module _ (g : Geometry) (img : List ℕ) (b j : ℕ) (s : Seen) (r : Range) (t : Bool) (B : Type 0)
    (x : Told t (Fronted g img b j s r) B) (n : not t ≡ false) where
  f : Fronted g img b j s r
  f = x.yes (not-false t n)

  base_next : g.pages * (b + 1) ≡ g.pages * b + g.pages
  base_next = rw add-one (mul-suc g.pages b)

  pub strip_full : g.pages ≤ j → Told t (Strip g img b j s r) B
  unfolding f
  strip_full h =
      let w : j ≡ g.pages = omega (arith, f.most) in
      rw (not-false t n) (told_yes _ B (record {
        most = f.most;
        kinds = λ i k. f.front.programmed i (omega (arith, w, k)) ∙ sym (lt-leb j i (omega (arith, w, k)));
        formed = λ i k. f.front.formed i (omega (arith, w, k));
        seen = f.seen ∙ ap (seen_to g img) (let e : g.pages * b + j ≡ g.pages * (b + 1) =
            omega (arith, base_next, w) in e);
        range = f.range ∙ ap (λ (k : ℕ). range_to (erased g img) (seq_at g img) (g.pages * b) k) w;
      }))

  pub strip_late : (A : Type 0) (u : Bool) → j < g.pages → Told u (Back g img b (j + 1) g.pages)
      (Late g img b (j + 1)) → not u ≡ true
      → Told false A (Spoilt g img b)
  strip_late A u h y m =
      let l = y.no (not-true u m) in
      told_no A _ (record {
        spoilt = λ w o. late_order g.pages (erased g img) b j l.place (omega (
          arith,
          l.after,
        )) l.inside (f.ended h) l.programmed o;
      })

  pub strip_good : (C : Type 0) (u : Bool) (a : Seen) → j < g.pages → Told u (Back g img b (j + 1) g.pages)
      (Late g img b (j + 1)) → not u ≡ false
      → a ≡ record {
        root = s.root;
        score = s.score;
        most = s.most;
        last = s.last;
        erased = s.erased + (g.pages - j);
      } → Told true (Strip g img b j a r) C
  strip_good C u a h y m ea = told_yes _ C (record {
    most = omega arith;
    kinds = λ i k. by_lt i j (λ v. f.front.programmed i v ∙ sym (lt-leb j i v)) (λ v. blank i v k
        ∙ sym (le-leb j i v));
    formed = λ i k. by_lt i j (λ v. f.front.formed i v) (λ v. blank_formed g img (g.pages * b + i) (blank i v k));
    seen = ea ∙ all_seen;
    range = all_range;
  })
    where
      blank : (i : ℕ) → j ≤ i → i < g.pages → erased g img (g.pages * b + i) ≡ true
      blank i v k = by_lt j i (λ w. (y.yes (not-false u m)).blank i (omega arith) k) (λ w. (let e : i ≡ j =
          omega arith in rw e (f.ended h)))

      after : (i : ℕ) → i < g.pages - j → erased g img (g.pages * b + (j + i)) ≡ true
      after i k = blank (j + i) (omega arith) (omega arith)

      all_seen : more s (g.pages - j) ≡ seen_to g img (g.pages * (b + 1))
      all_seen =
          let e : g.pages * b + j + (g.pages - j) ≡ g.pages * (b + 1) = omega (arith, base_next) in
          blank_seen g img (g.pages - j) (g.pages * b + j) s f.seen
          (λ i k. ap (erased g img) (let w : g.pages * b + j + i ≡ g.pages * b + (j + i) = omega arith in w)
          ∙ after i k)
          ∙ ap (seen_to g img) e

      all_range : r ≡ range_to (erased g img) (seq_at g img) (g.pages * b) g.pages
      all_range =
          let e : j + (g.pages - j) ≡ g.pages = omega arith in
          blank_range (erased g img) (seq_at g img) (g.pages * b) (g.pages - j) j r f.range after
          ∙ ap (λ (k : ℕ). range_to (erased g img) (seq_at g img) (g.pages * b) k) e

pub more_is : (s : Seen) (w p j : ℕ) → w ≡ p - j → more s w ≡ more s (p - j)
more_is s w p j e = ap (more s) e

pub ruleset block_laws = (seen_bound, strip_kept, strip_full, strip_late, strip_good, more_is)
