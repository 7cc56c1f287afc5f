-- The verdict: R1 to R8 in their order, in the form in which the code has the premises. Assumes nothing.
use Prim.Native.Nat.{ℕ, zero, suc, ◌-◌, ◌*◌, ◌/◌, ◌%◌, ◌<◌, ◌≤◌}
use Rattle.std.specs.Prelude.{Bool, true, false, not, ◌≡◌, refl, List, length, Err}
use Rattle.std.proofs.Math.Path.{sym}
use Rattle.std.proofs.Common.{ap, subst, ◌∙◌, arith, mul-le-mul, mod-lt, eq-eqb, ne_eqb}
use Rattle.std.proofs.Math.Nat.{div-add-mod}
use Rattle.std.proofs.lemmas.Bool.{not-true, not-false}
use Rattle.geometry.specs.declared.Geometry.{Geometry}
use Rattle.geometry.specs.declared.Broken.{Broken}
use Rattle.geometry.specs.Findings.{Finding, Good, Bad, Verdict, Sound}
use Rattle.model.specs.Bytes.{erased, seq_at}
use Rattle.model.specs.Count.{arg}
use Rattle.model.specs.Image.{Chip, chip_of, pages_of, root_of, root_score}
use Rattle.model.specs.Rules.{r1, r2, r5, r6, asked, or_else, verdict}
use Rattle.chip_read.specs.Chip.{chip_with}
use Rattle.theory_counts.specs.Blocks.{some_pages, block_below}
use Rattle.theory_counts.specs.Lowest.{or_sound}
use Rattle.theory_counts.specs.Peak.{arg_most, arg_less}
use Rattle.chip_survey.specs.declared.Survey.{Survey}
use Rattle.chip_survey.specs.Survey.{survey_of}
use Rattle.chip_survey.specs.Pass.{chip_is}
use Rattle.sound_numbers.specs.Ranges.{Shows, Ranges}
use Rattle.sound_sight.specs.Sight.{Told, Counted, Clear, Flaw}
use Rattle.sound_nodes.specs.Programmed.{Programmed}
use Rattle.sound_nodes.specs.Noted.{Marks}
use Rattle.live_walk.specs.Table.{Marked}
use Rattle.sound_links.specs.Loose.{Inside}
use Rattle.sound_links.specs.Judged.{r5_inside}
use Rattle.sound_verdict.specs.declared.Judgement.{Judgement}
use Rattle.sound_verdict.specs.Verdict.{from2, from3, Roomy, Surveyed, Tells, Never, Judged}

-- rule k and those after it: v is what its finding f tells alone
module _ (k : ℕ) (f : Finding) (v : Verdict) (e : v ≡ or_else k f Sound) where
  pub told_good : v ≡ Sound → f ≡ Good
  told_good h = (or_sound k f Sound (sym e ∙ h)).0

  pub told_bad : (b : Broken) (w : Verdict) → v ≡ Err b → Err b ≡ or_else k f w
  unfolding or_else
  told_bad b w h = go f (sym h ∙ e)
    where
      go : (f : Finding) → Err b ≡ or_else k f Sound → Err b ≡ or_else k f w
      go Good q = absurd (cc)
      go (Bad p) q = q

pub or_good : (k : ℕ) (f : Finding) (u w : Verdict) → f ≡ Good → u ≡ w → u ≡ or_else k f w
unfolding or_else
or_good k f u w h e = e ∙ sym (rw h refl)

pub verdict_is : (g : Geometry) (n : ℕ) (img : List ℕ) (u : Verdict) → u ≡ or_else 1 (r1 g n img) (from2 g n img)
    → u ≡ verdict g n img
unfolding verdict
verdict_is g n img u e = e

-- R5 and R6 by the survey
module _ (g : Geometry) (n : ℕ) (img : List ℕ) (v : Finding) (s : Survey) (es : s ≡ survey_of g n img)
    (t : ℕ) (et : t ≡ g.pages * n) where
  pub nodes_by : v ≡ r5 g t (chip_with g img s.level s.root) → v ≡ r5 g (pages_of g n) (chip_of g n img)
  nodes_by e = rw (← et, ← (chip_is g n img s es)) e

  pub links_by : v ≡ r6 t (chip_with g img s.level s.root) → v ≡ r6 (pages_of g n) (chip_of g n img)
  links_by e = rw (← et, ← (chip_is g n img s es)) e

-- R7 and R8 are asked, or not
module _ (g : Geometry) (j k : ℕ) (f h : Finding) where
  pub not_asked : g.table ≡ 2 → Sound ≡ or_else j (asked g f) (or_else k (asked g h) Sound)
  unfolding asked or_else
  not_asked e = sym (rw (eq-eqb g.table 2 e) refl)

module _ (g : Geometry) (f : Finding) (d : g.table ≡ 2 → ⊥) where
  pub asked_is : (v : Finding) → v ≡ f → v ≡ asked g f
  unfolding asked
  asked_is v e = e ∙ sym (rw (ne_eqb g.table 2 d) refl)

  pub asked_or : (k : ℕ) (u w : Verdict) → u ≡ or_else k f w → u ≡ or_else k (asked g f) w
  asked_or k u w e = e ∙ ap (λ (y : Finding). or_else k y w) (asked_is f refl)

-- the table
pub tells_broken : (c : Chip) (tbl : List ℕ) (b : Broken) → Tells c tbl (Err b)
tells_broken c tbl b = record { marked = λ e. cc }

-- 65536 places have room for 1024 blocks of at most 64 pages, 4096 for 64 blocks
pub roomy_many : (g : Geometry) (n m : ℕ) → g.pages ≤ 64 → n ≤ 1024 → 65536 ≤ m → Roomy g n m
roomy_many g n m p k r = record {
  some = omega arith;
  room = omega (arith, r, mul-le-mul {n₁ = g.pages} {m₁ = n} {n₂ = 64} {m₂ = 1024} p k);
}

pub roomy_few : (g : Geometry) (n m : ℕ) → g.pages ≤ 64 → n ≤ 64 → 4096 ≤ m → Roomy g n m
roomy_few g n m p k r = record {
  some = omega arith;
  room = omega (arith, r, mul-le-mul {n₁ = g.pages} {m₁ = n} {n₂ = 64} {m₂ = 64} p k);
}

module _ (g : Geometry) (n : ℕ) (img : List ℕ) (s : Survey) where
  pub surveyed_is : (m : ℕ) → s ≡ survey_of g n img → s.level < 255 → Roomy g n m → Surveyed g n img s m
  surveyed_is m e h r = record { survey = e; level = h; some = r.some; room = r.room }

  module _ (m : ℕ) (x : Surveyed g n img s m) where
    pub surveyed_same : (k : ℕ) → k ≡ m → Surveyed g n img s k
    surveyed_same k e = rw e x

    marked_chip : (tbl : List ℕ) → Marked (chip_with g img s.level s.root) tbl → Marked (chip_of g n img) tbl
    marked_chip tbl y = subst (λ (c : Chip). Marked c tbl) (chip_is g n img s x.survey) y

    pub marked_rule : (u : List ℕ) (v : Finding) → Marks v (chip_with g img s.level s.root) u → v ≡ Good
        → Marked (chip_of g n img) u
    marked_rule u v y e = marked_chip u (y.marks e)

    pub marked_with : (tbl : List ℕ) → Marked (chip_of g n img) tbl → Marked (chip_with g img s.level s.root) tbl
    marked_with tbl y = subst (λ (c : Chip). Marked c tbl) (sym (chip_is g n img s x.survey)) y

    pub inside_with : (k : ℕ) → Inside (chip_of g n img) k → Inside (chip_with g img s.level s.root) k
    inside_with k y = subst (λ (c : Chip). Inside c k) (sym (chip_is g n img s x.survey)) y

    root_below : s.root < m
    unfolding survey_of root_of
    root_below = rw (ap (λ (v : Survey). v.root) x.survey) (by_pages (g.pages * n) x.room)
      where
        by_pages : (t : ℕ) → t ≤ m → arg t (root_score g img) < m
        by_pages zero h = (let w = arg_most (root_score g img) 0 in omega (arith, w, x.some))
        by_pages (suc t) h = (let w = arg_less (root_score g img) (suc t) (omega arith) in omega (arith, w, h))

    pub inside_good : (v : Finding) (t k : ℕ) → t ≡ g.pages * n → v ≡ r5 g t (chip_with g img s.level s.root)
        → v ≡ Good → k ≡ m
        → Inside (chip_of g n img) k
    inside_good v t k et e f ek =
        subst (λ (c : Chip). Inside c k) (chip_is g n img s x.survey)
        (r5_inside g t k (chip_with g img s.level s.root) (omega (arith, et, ek, x.room)) (rw ek root_below) (sym e ∙ f))

    pub tells_rule : (u : List ℕ) (v : Finding) (w : Verdict) → Marks v (chip_with g img s.level s.root) u
        → v ≡ Good → Tells (chip_of g n img) u w
    tells_rule u v w y e = record { marked = λ _. marked_rule u v y e }

pub judged_is : (g : Geometry) (n : ℕ) (img t u : List ℕ) (v : Verdict) (s : Survey) → v ≡ verdict g n img
    → s ≡ survey_of g n img → s.level < 255
    → Tells (chip_of g n img) u v → length u ≡ length t → Judged g n img (record { verdict = v; survey = s }) t u
judged_is g n img t u v s ev es h x e = record { verdict = ev; survey = es; level = h; table = x; same = e }

-- the programmed pages, page by page
pub programmed_is : (g : Geometry) (n t : ℕ) (img programmed : List ℕ) → Counted g n img programmed
    → n ≤ length programmed → t ≡ g.pages * n → Programmed g img t programmed
programmed_is g n t img programmed x l e = record {
  some = λ a h. some_pages g.pages n a (rw (← e) h);
  inside = λ a h. omega (arith, l, block_below g.pages n a (rw (← e) h));
  kinds = λ a h. ap (erased g img) (sym (div-add-mod a g.pages))
      ∙ x.kinds (a / g.pages) (block_below g.pages n a (rw (← e) h)) (a % g.pages)
      (mod-lt a {m = g.pages} (some_pages g.pages n a (rw (← e) h)));
}

-- an image that R1 or R2 breaks
pub never_broken : (b : Broken) → Never (Err b)
never_broken b = record { never = λ e. cc }

pub order_breaks : (g : Geometry) (n : ℕ) (img : List ℕ) (v : Verdict) → Flaw g n img → r1 g n img ≡ Good
    → v ≡ or_else 2 (r2 g.pages n (erased g img)) Sound → (v ≡ from2 g n img) × Never v
unfolding or_else
order_breaks g n img v x e h = go (r2 g.pages n (erased g img)) (x.flaw e) h
  where
    go : (f : Finding) → (f ≡ Good → ⊥) → v ≡ or_else 2 f Sound → (v ≡ or_else 2 f (from3 g n img)) × Never v
    go Good z q = absurd (z refl)
    go (Bad p) z q = (q, record { never = λ s. cc })

pub judged_never : (g : Geometry) (n : ℕ) (img t : List ℕ) (j : Judgement) → j.verdict ≡ verdict g n img
    → Never j.verdict → j.survey ≡ survey_of g n img
    → j.survey.level < 255 → Judged g n img j t t
judged_never g n img t j ev x es h = record { verdict = ev; survey = es; level = h; table = record { marked = λ e. absurd (x.never e) }; same = refl }

-- an image that both pass
module _ (g : Geometry) (n : ℕ) (img : List ℕ) (t f : Bool) (s : Survey) (programmed lows highs : List ℕ)
    (x : Told f (Clear g n img t s programmed lows highs) (Flaw g n img)) where
  pub sight_broken : not f ≡ true → Flaw g n img
  sight_broken m = x.no (not-true f m)

  module _ (m : not f ≡ false) where
    c : Clear g n img t s programmed lows highs
    c = x.yes (not-false f m)

    pub sight_surveyed : (k : ℕ) → Roomy g n k → Surveyed g n img s k
    sight_surveyed k r = surveyed_is g n img s k c.survey c.level r

    pub sight_counted : Counted g n img programmed
    sight_counted = c.counted

    pub sight_ranges : Shows t (Ranges (erased g img) (seq_at g img) g.pages n lows highs)
    sight_ranges = c.ranges

    pub sight_judged : (w u : List ℕ) (v : Verdict) → v ≡ from3 g n img → Tells (chip_of g n img) u v
        → length u ≡ length w
        → Judged g n img (record { verdict = v; survey = s }) w u
    sight_judged w u v ev y e =
        judged_is g n img w u v s (verdict_is g n img v (or_good 1 _ v _ c.formed
        (or_good 2 _ v _ c.ordered ev))) c.survey c.level y e
