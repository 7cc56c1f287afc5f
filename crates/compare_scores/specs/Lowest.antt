-- Request 12: the ratio is exact and "in lowest terms". Assumes nothing.
use Rattle.std.specs.Prelude.{◌≡◌, refl, Bool, true, false, ℕ, zero, suc, ◌*◌, ◌/◌, ◌%◌, ◌≤◌, eqb}
use Rattle.std.proofs.Common.{sym, subst, mod-lt, one-mul, arith, eqb-true, ne_eqb}
use Rattle.std.specs.Int.{◌∣◌}
use Rattle.std.proofs.Math.Nat.{dvd_refl, dvd-zero, dvd-mod_iff, pos_of_dvd_of_pos, div-mul_cancel, mul-dvd-mul_right, dvd_of_mul-dvd-mul_right, eq-one_of_dvd-one}
use Rattle.std.proofs.lemmas.Bool.{eqb-false}
use Rattle.geometry.specs.Tests.{pick}
use Rattle.compare_scores.specs.declared.Ratio.{Ratio}
use Rattle.compare_scores.specs.Ratio.{euclid, greatest, ratio}

-- ---- Euclid's number
-- it parts both
parts_both : (n a b : ℕ) → b ≤ n → (euclid n a b ∣ a) × (euclid n a b ∣ b)
unfolding euclid
parts_both zero a b h = (dvd_refl a, (let z : b ≡ 0 = omega arith in rw z (dvd-zero a)))
parts_both (suc n) a b h = go (eqb b 0) refl (parts_both n b (a % b))
  where
    go : (t : Bool) → eqb b 0 ≡ t → (a % b ≤ n → (euclid n b (a % b) ∣ b) × (euclid n b (a % b) ∣ a % b))
        → (pick t a (euclid n b (a % b)) ∣ a) × (pick t a (euclid n b (a % b)) ∣ b)
    go true e i = (dvd_refl a, rw (eqb-true b 0 e) (dvd-zero a))
    go false e i =
        let some = eqb-false b 0 e in
        let less = mod-lt a {m = b} (omega arith) in
        let both = i (omega arith) in
        ((dvd-mod_iff (euclid n b (a % b)) both.0).0 both.1, both.0)

-- each number that parts both parts it
parted : (n a b d : ℕ) → d ∣ a → d ∣ b → d ∣ euclid n a b
unfolding euclid
parted zero a b d h k = h
parted (suc n) a b d h k = go (eqb b 0) (parted n b (a % b) d k ((dvd-mod_iff d k).1 h))
  where
    go : (t : Bool) → d ∣ euclid n b (a % b) → d ∣ pick t a (euclid n b (a % b))
    go true i = h
    go false i = i

pub greatest_some : (a b : ℕ) → 1 ≤ b → 1 ≤ greatest a b
greatest_some a b h = pos_of_dvd_of_pos (parts_both b a b (omega arith)).1 h

-- ---- the ratio
pub record Lowest (a b : ℕ) (r : Ratio) : Type 0 where
  pub exact : r.upper * b ≡ r.lower * a
  pub lowest : (d : ℕ) → d ∣ r.upper → d ∣ r.lower → d ≡ 1

-- both parted by g, with what is left of them
crossed : (a b u l g : ℕ) → u * g ≡ a → l * g ≡ b → u * b ≡ l * a
crossed a b u l g e f = rw (← e, ← f) (omega arith)

no_part : (a b u l d : ℕ) → 1 ≤ greatest a b → u * greatest a b ≡ a → l * greatest a b ≡ b → d ∣ u → d ∣ l → d ≡ 1
no_part a b u l d h e f p q =
    let g = greatest a b in
    let x = rw e at (mul-dvd-mul_right d p g) in
    let y = rw f at (mul-dvd-mul_right d q g) in
    eq-one_of_dvd-one (dvd_of_mul-dvd-mul_right d {n = 1} h (subst (λ m. d * g ∣ m) (sym (one-mul g)) (parted b a b (d * g) x y)))

pub lowest_terms : (a b : ℕ) → 1 ≤ b → Lowest a b (ratio a b)
unfolding ratio
lowest_terms a b h =
    let g = greatest a b in
    let both = parts_both b a b (omega arith) in
    let upper = div-mul_cancel g both.0 in
    let lower = div-mul_cancel g both.1 in
    rw (ne_eqb b 0 (omega arith)) (record {
      exact = crossed a b (a / g) (b / g) g upper lower;
      lowest = λ d p q. no_part a b (a / g) (b / g) d (greatest_some a b h) upper lower p q;
    })

-- "or 0 and 0 if the second count is zero"
pub no_terms : (a : ℕ) → ratio a 0 ≡ record { upper = 0; lower = 0 }
unfolding ratio
no_terms a = refl
