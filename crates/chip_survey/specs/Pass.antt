-- The pass over the pages, in the form in which the code has the premises. Assumes nothing.
use Rattle.std.specs.Prelude.{ℕ, ◌+◌, ◌-◌, ◌*◌, ◌<◌, ◌≤◌, max, Bool, true, false, ◌≡◌, refl, List, ltb}
use Rattle.std.proofs.Common.{sym, ◌∙◌, arith}
use Rattle.std.proofs.Math.Path.{ap}
use Rattle.std.proofs.Math.Nat.{max-eq_left, max-eq_right}
use borrow.Author.Tests.{le-leb, ltb-true, ltb-false}
use Rattle.geometry.specs.declared.Geometry.{Geometry}
use Rattle.geometry.specs.Findings.{Good, Bad}
use Rattle.geometry.specs.Tests.{pick}
use Rattle.model.specs.Bytes.{erased, seq_at, height_at}
use Rattle.model.specs.Count.{count, peak, arg}
use Rattle.model.specs.Image.{Chip, chip_of, pages_of, seq_of, height_of, max_seq, root_score, root_of}
use Rattle.model.specs.Rules.{r4}
use Rattle.chip_read.specs.Chip.{chip_with}
use Rattle.theory_counts.specs.Tally.{count_more}
use Rattle.theory_counts.specs.Peak.{peak_more, arg_higher, arg_stays, peak_higher, peak_stays}
use Rattle.theory_counts.specs.Lowest.{unless_true, unless_false}
use Rattle.chip_survey.specs.declared.Seen.{Seen}
use Rattle.chip_survey.specs.declared.Survey.{Survey}
use Rattle.chip_survey.specs.Survey.{seen_to, survey_of}

-- for `tree_insert`, which compares by hand
pub larger_right : (a b : ℕ) → a < b → b ≡ max a b
larger_right a b h = sym (max-eq_right {n = a} {m = b} (omega arith))

pub larger_left : (a b : ℕ) → b ≤ a → a ≡ max a b
larger_left a b h = sym (max-eq_left {n = a} {m = b} h)

pub seen_start : (g : Geometry) (img : List ℕ) → record { root = 0; score = 0; most = 0; last = 0; erased = 0 }
    ≡ seen_to g img 0
unfolding seen_to arg peak count
seen_start g img = refl

pub seen_end : (g : Geometry) (img : List ℕ) (s : Seen) (p n : ℕ) → s ≡ seen_to g img p → p ≤ n → n ≤ p
    → s ≡ seen_to g img n
seen_end g img s p n e h k =
    let w : p ≡ n = omega arith in
    rw (← w) e

-- one page more
module _ (g : Geometry) (img : List ℕ) (p : ℕ) (s : Seen) (es : s ≡ seen_to g img p) where
  score : ℕ → ℕ
  score = root_score g img

  root_is : s.root ≡ arg p score
  unfolding seen_to score
  root_is = ap (λ (x : Seen). x.root) es

  score_is : s.score ≡ peak p score
  unfolding seen_to score
  score_is = ap (λ (x : Seen). x.score) es

  most_is : s.most ≡ peak p (seq_of g img)
  unfolding seen_to
  most_is = ap (λ (x : Seen). x.most) es

  last_is : s.last ≡ arg p (seq_of g img)
  unfolding seen_to
  last_is = ap (λ (x : Seen). x.last) es

  erased_is : s.erased ≡ count p (erased g img)
  unfolding seen_to
  erased_is = ap (λ (x : Seen). x.erased) es

  next : (a b c l d : ℕ) → a ≡ arg (p + 1) score → b ≡ peak (p + 1) score → c ≡ peak (p + 1) (seq_of g img)
      → l ≡ arg (p + 1) (seq_of g img)
      → d ≡ count (p + 1) (erased g img) → record { root = a; score = b; most = c; last = l; erased = d } ≡ seen_to g img
      (p + 1)
  unfolding seen_to score
  next a b c l d ea eb ec el ed = λ i. record { root = ea i; score = eb i; most = ec i; last = el i; erased = ed i }

  -- a page that can not be the root
  stays_root : score p ≤ s.score → s.root ≡ arg (p + 1) score
  stays_root h = root_is ∙ arg_stays score p (rw (← score_is) h)

  stays_score : score p ≤ s.score → s.score ≡ peak (p + 1) score
  stays_score h = score_is ∙ peak_stays score p (rw (← score_is) h)

  pub see_erased : (e : Bool) → e ≡ erased g img p → e ≡ true
      → record { root = s.root; score = s.score; most = s.most; last = s.last; erased = s.erased + 1 }
      ≡ seen_to g img (p + 1)
  unfolding root_score height_of seq_of score
  see_erased e ee q =
      let none : root_score g img p ≡ 0 = simp (← ee, q) in
      let seq : seq_of g img p ≡ 0 = simp (← ee, q) in
      next s.root s.score s.most s.last (s.erased + 1)
      (stays_root (rw none (omega arith)))
      (stays_score (rw none (omega arith)))
      (most_is ∙ peak_stays (seq_of g img) p (rw seq (omega arith)))
      (last_is ∙ arg_stays (seq_of g img) p (rw seq (omega arith)))
      (sym (count_more (erased g img) p ∙ rw (← ee, q, ← erased_is) (omega arith)))

  module _ (q : erased g img p ≡ false) (n m : ℕ) (en : n ≡ seq_at g img p) (em : m ≡ max n s.most)
      (l : ℕ) (el : l ≡ pick (ltb s.most n) p s.last) (h : ℕ) (eh : h ≡ height_at g img p) where
    seq_is : seq_of g img p ≡ n
    unfolding seq_of
    seq_is = simp (q, ← en)

    most_next : m ≡ peak (p + 1) (seq_of g img)
    most_next = em ∙ sym (peak_more (seq_of g img) p ∙ rw (seq_is, ← most_is))

    last_next : l ≡ arg (p + 1) (seq_of g img)
    last_next = el ∙ go (ltb s.most n) refl
      where
        go : (t : Bool) → ltb s.most n ≡ t → pick t p s.last ≡ arg (p + 1) (seq_of g img)
        go true x = arg_higher (seq_of g img) p (rw (← most_is, seq_is) (ltb-true s.most n x))
        go false x = last_is ∙ arg_stays (seq_of g img) p (rw (← most_is, seq_is) (ltb-false s.most n x))

    erased_next : s.erased ≡ count (p + 1) (erased g img)
    erased_next = sym (count_more (erased g img) p ∙ rw (q, ← erased_is) (omega arith))

    score_none : h ≡ 0 → score p ≡ 0
    unfolding root_score height_of score
    score_none z = simp (q, ← eh, z)

    score_some : (h ≡ 0 → ⊥) → score p ≡ n
    unfolding root_score height_of score
    score_some z = simp (seq_is, q, ← eh, le-leb 1 h (omega arith))

    stays : score p ≤ s.score → record { root = s.root; score = s.score; most = m; last = l; erased = s.erased }
        ≡ seen_to g img (p + 1)
    stays k = next s.root s.score m l s.erased (stays_root k) (stays_score k) most_next last_next erased_next

    pub see_flat : h ≡ 0 → record { root = s.root; score = s.score; most = m; last = l; erased = s.erased }
        ≡ seen_to g img (p + 1)
    see_flat z = stays (rw (score_none z) (omega arith))

    pub see_older : (h ≡ 0 → ⊥) → n ≤ s.score → record {
      root = s.root;
      score = s.score;
      most = m;
      last = l;
      erased = s.erased;
    } ≡ seen_to g img (p + 1)
    see_older z k = stays (rw (score_some z) k)

    pub see_newer : (h ≡ 0 → ⊥) → s.score < n → record { root = p; score = n; most = m; last = l; erased = s.erased }
        ≡ seen_to g img (p + 1)
    see_newer z k =
        let up : peak p score < score p = rw (← score_is, score_some z) k in
        next p n m l s.erased (arg_higher score p up) (sym (score_some z)
        ∙ peak_higher score p up) most_next last_next erased_next

-- a page that is not erased
pub page_there : (g : Geometry) (img : List ℕ) (p : ℕ) (e : Bool) → e ≡ erased g img p → e ≡ false
    → erased g img p ≡ false
page_there g img p e ee q = sym ee ∙ q

pub height_none : (g : Geometry) (img : List ℕ) (p : ℕ) (e : Bool) → e ≡ erased g img p → e ≡ true
    → 0 ≡ height_of g img p
unfolding height_of
height_none g img p e ee q = simp (← ee, q)

pub height_some : (g : Geometry) (img : List ℕ) (p h : ℕ) (e : Bool) → e ≡ erased g img p → e ≡ false
    → h ≡ height_at g img p → h ≡ height_of g img p
unfolding height_of
height_some g img p h e ee q eh = eh ∙ simp (← ee, q)

pub survey_is : (g : Geometry) (img : List ℕ) (n t h l : ℕ) (s : Seen) → t ≡ g.pages * n → s ≡ seen_to g img t
    → h ≡ height_of g img s.root → l ≡ h - 1
    → record { root = s.root; height = h; level = l; most = s.most; last = s.last; erased = s.erased } ≡ survey_of g
    n img
unfolding survey_of seen_to root_of max_seq
survey_is g img n t h l s et es eh el =
    let f : s ≡ seen_to g img (g.pages * n) = es ∙ rw et in
    let r : s.root ≡ root_of g n img = ap (λ (x : Seen). x.root) f in
    let k : h ≡ height_of g img (root_of g n img) = eh ∙ rw r in
    let m : l ≡ height_of g img (root_of g n img) - 1 = el ∙ rw k in
    λ i. record {
      root = r i;
      height = k i;
      level = m i;
      most = ap (λ (x : Seen). x.most) f i;
      last = ap (λ (x : Seen). x.last) f i;
      erased = ap (λ (x : Seen). x.erased) f i;
    }

-- R4
pub height_field : (g : Geometry) (img : List ℕ) (n : ℕ) (s : Survey) → s ≡ survey_of g n img
    → s.height ≡ height_of g img (root_of g n img)
unfolding survey_of
height_field g img n s e = ap (λ (x : Survey). x.height) e

pub root_missing : (g : Geometry) (img : List ℕ) (n : ℕ) (s : Survey) → s ≡ survey_of g n img → s.height ≡ 0
    → Bad 0 ≡ r4 g n img
unfolding r4
root_missing g img n s e z = sym (rw (← (height_field g img n s e), z) (unless_false 0 Good))

pub root_there : (g : Geometry) (img : List ℕ) (n : ℕ) (s : Survey) → s ≡ survey_of g n img → (s.height ≡ 0 → ⊥)
    → Good ≡ r4 g n img
unfolding r4
root_there g img n s e z = sym (rw (← (height_field g img n s e), le-leb 1 s.height (omega arith)) (unless_true 0 Good))

-- what a survey tells of its image: the chip, the page with the largest number, and what is made of largest number and
-- chip
module _ (g : Geometry) (n : ℕ) (img : List ℕ) (s : Survey) (e : s ≡ survey_of g n img) where
  pub chip_is : chip_with g img s.level s.root ≡ chip_of g n img
  unfolding survey_of
  chip_is = λ i. chip_with g img (e i).level (e i).root

  pub newest_is : s.last ≡ arg (pages_of g n) (seq_of g img)
  unfolding survey_of
  newest_is = ap (λ (x : Survey). x.last) e

  pub makes : {A : Type 0} (f : ℕ → Chip → A) → f s.most (chip_with g img s.level s.root) ≡ f (max_seq g n img)
      (chip_of g n img)
  unfolding survey_of
  makes f = λ i. f (e i).most (chip_with g img (e i).level (e i).root)

pub ruleset survey_laws = (seen_start, seen_end, see_erased, see_flat, see_older, see_newer, page_there, height_none, height_some, survey_is, root_missing, root_there)
