-- The collector's counting: pages by blocks, the victim, why there is one. g is a block's pages.
-- Assumes nothing.
use Rattle.std.specs.Prelude.{◌≡◌, refl, Bool, true, false, ◌⊎◌, ℕ, zero, suc, ◌+◌, ◌*◌, ◌<◌, ◌≤◌, eqb, leb, ltb, None, Option, Some}
use Rattle.std.proofs.Common.{ap, ◌∙◌, inl, inr, arith, ltb-true, ltb-false, leb-true, leb-false, eqb-true}
use Rattle.std.proofs.lemmas.Bool.{eqb-false}
use Rattle.geometry.specs.Tests.{pick, bit}
use Rattle.model.specs.Count.{count}
use Rattle.model.specs.Next.{in_block}
use Rattle.model.specs.Collect.{better, victim}
use Rattle.theory_counts.specs.Least.{by_lt}
use Rattle.theory_counts.specs.Cases.{true_false}
use Rattle.theory_chips.specs.Count.{sum, count_blocks, count_three}

-- blocks that are not full, but one, m, have no dead page: then a full block has one, or all dead pages are m's
pub full_dead : (n m : ℕ) (full : ℕ → Bool) (d : ℕ → ℕ) → ((b : ℕ) → b < n → full b ≡ false → (b ≡ m → ⊥) → d b ≡ 0)
    → (b : ℕ) → b ≤ n → ((v : ℕ) × (v < b) × (full v ≡ true) × (1 ≤ d v)) ⊎ ((sum b d ≤ d m) × (b ≤ m → sum b d ≡ 0))
unfolding sum
full_dead n m full d z zero q = inr (omega arith, λ _. refl)
full_dead n m full d z (suc b) q = go (full b) (leb 1 (d b)) (eqb b m) refl refl refl (full_dead n m full d z b (omega arith))
  where
    Out : Type 0
    Out = ((v : ℕ) × (v < suc b) × (full v ≡ true) × (1 ≤ d v)) ⊎ ((d b + sum b d ≤ d m) × (suc b ≤ m → d b + sum b d ≡ 0))

    none_here : d b ≡ 0 → (sum b d ≤ d m) × (b ≤ m → sum b d ≡ 0) → Out
    none_here e h = inr (omega (arith, h.0), λ w. omega (arith, h.1 (omega arith)))

    at_m : b ≡ m → (sum b d ≤ d m) × (b ≤ m → sum b d ≡ 0) → Out
    at_m e h = inr (omega (arith, h.1 (omega arith), ap d e), λ w. absurd (omega arith))

    go : (t u v : Bool) → full b ≡ t → leb 1 (d b) ≡ u → eqb b m ≡ v
        → ((v : ℕ) × (v < b) × (full v ≡ true) × (1 ≤ d v)) ⊎ ((sum b d ≤ d m) × (b ≤ m → sum b d ≡ 0)) → Out
    go true true v x y e (inl h) = inl (b, omega arith, x, leb-true 1 (d b) y)
    go true true v x y e (inr h) = inl (b, omega arith, x, leb-true 1 (d b) y)
    go true false v x y e (inl h) = inl (h.0, omega (arith, h.1), h.2, h.3)
    go true false v x y e (inr h) = let i = leb-false 1 (d b) y in none_here (omega arith) h
    go false u true x y e (inl h) = inl (h.0, omega (arith, h.1), h.2, h.3)
    go false u true x y e (inr h) = at_m (eqb-true b m e) h
    go false u false x y e (inl h) = inl (h.0, omega (arith, h.1), h.2, h.3)
    go false u false x y e (inr h) = none_here (z b q x (eqb-false b m e)) h

pub record Victim (full : ℕ → Bool) (lv : ℕ → ℕ) (b v : ℕ) : Type 0 where
  pub below : v < b
  pub is_full : full v ≡ true
  pub fewest : (c : ℕ) → c < b → full c ≡ true → lv v ≤ lv c

abbrev pub Found : (ℕ → Bool) → (ℕ → ℕ) → ℕ → Option ℕ → Type 0
Found full lv b None = (c : ℕ) → c < b → full c ≡ false
Found full lv b (Some v) = Victim full lv b v

by_last : {C : Type 0} (c b : ℕ) → c < suc b → (c < b → C) → (c ≡ b → C) → C
by_last c b q f g = by_lt c b f (λ z. g (omega arith))

better_is : (full : ℕ → Bool) (lv : ℕ → ℕ) (b : ℕ) (o : Option ℕ) → Found full lv b o → Found full lv (suc b)
    (better full lv b o)
unfolding better
better_is full lv b None h = go (full b) refl
  where
    go : (t : Bool) → full b ≡ t → Found full lv (suc b) (pick t (Some b) None)
    go true e = record {
      below = omega arith;
      is_full = e;
      fewest = λ c q f. by_last c b q (λ z. absurd (true_false (full c) f (h c z)))
          (λ z. rw z (omega arith));
    }
    go false e = λ c q. by_last c b q (λ z. h c z) (λ z. rw z e)
better_is full lv b (Some v) h = go (full b) (ltb (lv b) (lv v)) refl refl
  where
    go : (t u : Bool) → full b ≡ t → ltb (lv b) (lv v) ≡ u → Found full lv (suc b) (pick t (pick u (Some b) (Some v))
        (Some v))
    go true true e i = let w = ltb-true (lv b) (lv v) i in record {
      below = omega arith;
      is_full = e;
      fewest = λ c q f. by_last c b q
          (λ z. omega (arith, h.fewest c z f)) (λ z. rw z (omega arith));
    }
    go true false e i = let w = ltb-false (lv b) (lv v) i in record {
      below = omega (arith, h.below);
      is_full = h.is_full;
      fewest =
          λ c q f. by_last c b q (λ z. h.fewest c z f) (λ z. rw z w);
    }
    go false u e i = record {
      below = omega (arith, h.below);
      is_full = h.is_full;
      fewest = λ c q f. by_last c b q (λ z. h.fewest c z f)
          (λ z. absurd (true_false (full b) (rw (← z) f) e));
    }

pub victim_is : (full : ℕ → Bool) (lv : ℕ → ℕ) (b : ℕ) → Found full lv b (victim full lv b)
unfolding victim
victim_is full lv zero = λ c q. absurd (omega arith)
victim_is full lv (suc b) = better_is full lv b (victim full lv b) (victim_is full lv b)

-- it hangs on the counts of the blocks below b alone
better_alike : (full : ℕ → Bool) (lv lw : ℕ → ℕ) (b : ℕ) (o : Option ℕ) → Found full lv b o
    → ((c : ℕ) → c < suc b → lv c ≡ lw c)
    → better full lv b o ≡ better full lw b o
unfolding better
better_alike full lv lw b None h e = refl
better_alike full lv lw b (Some v) h e = rw (e b (omega arith), e v (omega (arith, h.below)))

pub victim_alike : (full : ℕ → Bool) (lv lw : ℕ → ℕ) (b : ℕ) → ((c : ℕ) → c < b → lv c ≡ lw c)
    → victim full lv b ≡ victim full lw b
unfolding victim
victim_alike full lv lw zero e = refl
victim_alike full lv lw (suc b) e = better_alike full lv lw b (victim full lv b) (victim_is full lv b) e
    ∙ ap (better full lw b) (victim_alike full lv lw b (λ c q. e c (omega arith)))

-- with room for k more pages and too few erased ones some full block has a dead page; m is the mixed block, or n
module _ (g k n : ℕ) (er lv dd : ℕ → Bool) (three : (q : ℕ) → bit (er q) + bit (lv q) + bit (dd q) ≡ 1) (full : ℕ
    → Bool) (m : ℕ)
    (some_er : m < n → 1 ≤ in_block g er m) (clean : (b : ℕ) → b < n → full b ≡ false → (b ≡ m → ⊥)
    → in_block g dd b ≡ 0) where
  by_block : (b : ℕ) → in_block g er b + in_block g lv b + in_block g dd b ≡ g
  by_block b = count_three g (λ j. er (g * b + j)) (λ j. lv (g * b + j)) (λ j. dd (g * b + j)) (λ j. three (g * b + j))

  pub dead_block : 1 ≤ g → count (g * n) lv + (2 * g + k) ≤ suc (g * n) → count (g * n) er < g + k
      → (v : ℕ) × (v < n) × (full v ≡ true) × (in_block g lv v < g)
  dead_block h room few = go (full_dead n m full (in_block g dd) clean n (omega arith)) (ltb m n) refl
    where
      enough : g ≤ sum n (in_block g dd)
      enough = omega (arith, count_three (g * n) er lv dd three, count_blocks g n dd, room, few)

      go : ((v : ℕ) × (v < n) × (full v ≡ true) × (1 ≤ in_block g dd v)) ⊎
          ((sum n (in_block g dd) ≤ in_block g dd m) × (n ≤ m → sum n (in_block g dd) ≡ 0)) → (t : Bool) → ltb m n ≡ t
          → (v : ℕ) × (v < n) × (full v ≡ true) × (in_block g lv v < g)
      go (inl w) t e = (w.0, w.1, w.2, omega (arith, by_block w.0, w.3))
      go (inr w) true e = absurd (omega (arith, enough, w.0, by_block m, some_er (ltb-true m n e)))
      go (inr w) false e = absurd (omega (arith, enough, w.1 (ltb-false m n e)))
