-- Laws of the victim, in the form in which the code has the premises. Assumes nothing.
use Rattle.std.specs.Prelude.{ℕ, suc, ◌+◌, ◌-◌, ◌*◌, ◌<◌, ◌≤◌, Bool, true, false, not, ◌≡◌, refl, List, None, Option, Some}
use Rattle.std.proofs.lemmas.Bool.{false≢true}
use Rattle.std.proofs.Math.Path.{sym, ap}
use Rattle.std.proofs.Common.{◌∙◌, arith, add-one}
use borrow.Author.Tests.{not-true, not-false, lt-ltb, le-ltb}
use Rattle.geometry.specs.declared.Geometry.{Geometry}
use Rattle.model.specs.Bytes.{erased}
use Rattle.model.specs.Collect.{better, victim}
use Rattle.model.specs.Next.{full}
use Rattle.live_words.specs.Words.{block_ones}
use Rattle.collect_victim.specs.declared.Best.{Best}
use Rattle.collect_victim.specs.Victim.{full_in, ones_by, best_of, Bests}

-- ---- the best block
module _ (full : ℕ → Bool) (lives : ℕ → ℕ) where
  pub best_start : Bests full lives 0 (record { found = false; block = 0; lives = 0 })
  unfolding best_of victim
  best_start = record { best = refl; count = λ e. absurd (false≢true e); below = λ e. absurd (false≢true e) }

  pub best_end : (k n : ℕ) (r : Best) → Bests full lives k r → k ≤ n → n ≤ k → Bests full lives n r
  best_end k n r b h g = let q : k ≡ n = omega arith in rw (← q) b

  keep : (k : ℕ) (r : Best) → Bests full lives k r → better full lives k (best_of r) ≡ best_of r → Bests full lives
      (suc k) r
  unfolding victim
  keep k r b e = record {
    best = sym e ∙ ap (λ (o : Option ℕ). better full lives k o) b.best;
    count = b.count;
    below = λ f. let h : r.block < k = b.below f in omega arith;
  }

  take : (k l : ℕ) (r : Best) → Bests full lives k r → l ≡ lives k → better full lives k (best_of r) ≡ Some k
      → Bests full lives (suc k) (record { found = true; block = k; lives = l })
  unfolding best_of victim
  take k l r b el e = record {
    best = sym e ∙ ap (λ (o : Option ℕ). better full lives k o) b.best;
    count = λ f. el;
    below = λ f. omega arith;
  }

  unfull : (k : ℕ) (o : Option ℕ) → full k ≡ false → better full lives k o ≡ o
  unfolding better
  unfull k None e = rw e
  unfull k (Some v) e = rw e

  first : (k : ℕ) (r : Best) → full k ≡ true → r.found ≡ false → better full lives k (best_of r) ≡ Some k
  unfolding better best_of
  first k r e f = rw (f, e)

  fewer : (k : ℕ) (r : Best) → full k ≡ true → r.found ≡ true → lives k < lives r.block → better full lives k
      (best_of r) ≡ Some k
  unfolding better best_of
  fewer k r e f h = rw (f, e, lt-ltb (lives k) (lives r.block) h)

  no_fewer : (k : ℕ) (r : Best) → full k ≡ true → r.found ≡ true → lives r.block ≤ lives k → better full lives k
      (best_of r) ≡ best_of r
  unfolding better best_of
  no_fewer k r e f h = rw (f, e, le-ltb (lives k) (lives r.block) h)

  -- full or not, a block with no fewer live pages is passed over
  no_better : (k : ℕ) (r : Best) → r.found ≡ true → lives r.block ≤ lives k → better full lives k
      (best_of r) ≡ best_of r
  no_better k r f h = go (full k) refl
    where
      go : (t : Bool) → full k ≡ t → better full lives k (best_of r) ≡ best_of r
      go true e = no_fewer k r e f h
      go false e = unfull k (best_of r) e

module _ (g : Geometry) (img ws : List ℕ) (k : ℕ) (r : Best) (b : Bests (full_in g img) (ones_by g ws) k r) where
  module _ (l : ℕ) (el : l ≡ block_ones g ws k) where
    lives_is : l ≡ ones_by g ws k
    unfolding ones_by
    lives_is = el

    pub better_stay : not r.found ≡ false → r.lives ≤ l → Bests (full_in g img) (ones_by g ws) (k + 1) r
    better_stay f h =
        let t : r.found ≡ true = not-false r.found f in
        rw add-one (keep (full_in g img) (ones_by g ws) k r b (no_better (full_in g img) (ones_by g ws) k r t (rw (← lives_is, ← (b.count t)) h)))

  module _ (e : Bool) (ee : e ≡ erased g img (g.pages * k + (g.pages - 1))) where
    not_full : e ≡ true → full_in g img k ≡ false
    unfolding full_in
    not_full q = rw (← ee, q)

    is_full : e ≡ false → full_in g img k ≡ true
    unfolding full_in
    is_full q = rw (← ee, q)

    pub better_not : e ≡ true → Bests (full_in g img) (ones_by g ws) (k + 1) r
    better_not q = rw add-one (keep (full_in g img) (ones_by g ws) k r b (unfull (full_in g img) (ones_by g ws) k (best_of r) (not_full q)))

    module _ (l : ℕ) (el : l ≡ block_ones g ws k) (q : e ≡ false) where
      pub better_first : not r.found ≡ true → Bests (full_in g img) (ones_by g ws)
          (k + 1) (record { found = true; block = k; lives = l })
      better_first f =
          rw add-one (take (full_in g img) (ones_by g ws) k l r b (lives_is l el) (first (full_in g img) (ones_by g ws) k r (is_full q) (not-true r.found f)))

      pub better_fewer : not r.found ≡ false → l < r.lives → Bests (full_in g img) (ones_by g ws)
          (k + 1) (record { found = true; block = k; lives = l })
      better_fewer f h =
          let t : r.found ≡ true = not-false r.found f in
          rw add-one (take (full_in g img) (ones_by g ws) k l r b (lives_is l el) (fewer (full_in g img) (ones_by g ws) k r
          (is_full q) t (rw (← (lives_is l el), ← (b.count t)) h)))

-- ---- the definition's victim
pub victim_is : (g : Geometry) (n : ℕ) (img ws : List ℕ) (r : Best) → Bests (full_in g img) (ones_by g ws) n r
    → best_of r ≡ victim (full g.pages (erased g img)) (λ b. block_ones g ws b) n
unfolding full_in ones_by
victim_is g n img ws r b = b.best

pub ruleset victim_laws = (best_start, best_end, better_not, better_first, better_fewer, better_stay)
