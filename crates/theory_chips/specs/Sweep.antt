-- The collector empties one block. Assumes nothing.
use Rattle.std.specs.Prelude.{◌≡◌, Bool, true, false}
use Rattle.std.proofs.Math.Path.{refl}
use Rattle.std.proofs.Common.{ap, ◌∙◌}
use Prim.Native.Nat.{ℕ, zero, suc, ◌+◌, ◌-◌, ◌*◌, ◌<◌, ◌≤◌}
use native.Mathlib.Omega.{arith}
use Rattle.geometry.specs.declared.Geometry.{Geometry}
use Rattle.geometry.specs.Tests.{pick, bit}
use Rattle.geometry.specs.Shape.{Shape}
use Rattle.model.specs.Count.{count}
use Rattle.model.specs.Image.{Chip}
use Rattle.model.specs.Tree.{map_of, places_of, live}
use Rattle.model.specs.Next.{ahead, next_page}
use Rattle.model.specs.Collect.{lives_in}
use Rattle.theory_counts.specs.Cases.{by_eq, true_false}
use Rattle.theory_chips.specs.Count.{count_drop}
use Rattle.theory_chips.specs.Whole.{Whole, Same, same_self, same_then}
use Rattle.theory_chips.specs.Moves.{move_to, MoveStep, move_step}

bit_zero : (b c : Bool) → bit b ≤ bit c → c ≡ false → b ≡ false
bit_zero true c h e = absurd (omega (arith, h, ap bit e))
bit_zero false c h e = refl

-- the last j pages of block v, in rising order, each live one moved
unfoldable pub sweep : Geometry → ℕ → ℕ → ℕ → Chip → Chip
sweep g n v zero c = c
sweep g n v (suc j) c = pick (live (places_of c) (g.pages * v + (g.pages - suc j)))
    (sweep g n v j (move_to (g.pages * n) c (g.pages * v + (g.pages - suc j)) (next_page g.pages n (ahead g n c)))) (sweep g n v j c)

-- block v is full, has no more live pages than there are erased ones, and its first g.pages - j pages are dead
pub record Sweeping (g : Geometry) (n : ℕ) (v j : ℕ) (c : Chip) : Type 0 where
  pub good : Whole g n c
  pub full : (i : ℕ) → i < g.pages → c.er (g.pages * v + i) ≡ false
  pub few : lives_in g.pages v c ≤ count (g.pages * n) c.er
  pub dead : (i : ℕ) → i + j < g.pages → live (places_of c) (g.pages * v + i) ≡ false

pub record Swept (g : Geometry) (n : ℕ) (v : ℕ) (c c' : Chip) : Type 0 where
  pub done : Sweeping g n v 0 c'
  pub pairs_are : map_of c' ≡ map_of c
  pub lives : count (g.pages * n) (live (places_of c')) ≤ count (g.pages * n) (live (places_of c))
  pub alike : Same g c c'
  pub frees : count (g.pages * n) c.er ≤ count (g.pages * n) c'.er + lives_in g.pages v c

module _ (g : Geometry) (shape : Shape g) (n : ℕ) (v : ℕ) where
  -- one move within the sweep
  pub moved_on : (j : ℕ) (c : Chip) → suc j ≤ g.pages → Sweeping g n v (suc j) c → live (places_of c)
      (g.pages * v + (g.pages - suc j)) ≡ true
      → Sweeping g n v j (move_to (g.pages * n) c (g.pages * v + (g.pages - suc j))
      (next_page g.pages n (ahead g n c))) × MoveStep g n c
      (move_to (g.pages * n) c (g.pages * v + (g.pages - suc j)) (next_page g.pages n (ahead g n c))) (g.pages * v + (g.pages - suc j))
      (next_page g.pages n (ahead g n c))
      × (suc (lives_in g.pages v (move_to (g.pages * n) c (g.pages * v + (g.pages - suc j))
      (next_page g.pages n (ahead g n c)))) ≤ lives_in g.pages v c)
  moved_on j c q h a = (record { good = m.good; full = full'; few = omega (arith, m.frees, fewer, h.few); dead = dead' }, m, fewer)
    where
      p : ℕ
      p = g.pages * v + (g.pages - suc j)

      new : ℕ
      new = next_page g.pages n (ahead g n c)

      c' : Chip
      c' = move_to (g.pages * n) c p new

      one : 1 ≤ lives_in g.pages v c
      one = omega (
        arith,
        count_drop g.pages (g.pages - suc j) (λ i. live (places_of c) (g.pages * v + i)) (λ _. false) (omega arith) a refl
            (λ i _. omega arith),
      )

      m : MoveStep g n c c' p new
      m = move_step g shape n c h.good p a (omega (arith, one, h.few))

      not_new : (i : ℕ) → i < g.pages → g.pages * v + i ≡ new → ⊥
      not_new i w e = true_false (c.er new) m.was (rw (← e) (h.full i w))

      full' : (i : ℕ) → i < g.pages → c'.er (g.pages * v + i) ≡ false
      full' i w = m.ers (g.pages * v + i) (h.full i w)

      fewer : suc (lives_in g.pages v c') ≤ lives_in g.pages v c
      fewer = count_drop g.pages (g.pages - suc j) (λ i. live (places_of c) (g.pages * v + i)) (λ i. live (places_of c') (g.pages * v + i))
          (omega arith) a m.dead (λ i w. m.others (g.pages * v + i) (not_new i w))

      dead' : (i : ℕ) → i + j < g.pages → live (places_of c') (g.pages * v + i) ≡ false
      dead' i w = by_eq i (g.pages - suc j) (λ e. rw e m.dead) (λ e. bit_zero (live (places_of c') (g.pages * v + i))
          (live (places_of c) (g.pages * v + i)) (m.others (g.pages * v + i) (not_new i (omega arith))) (h.dead i (omega arith)))

  pub swept : (j : ℕ) (c : Chip) → j ≤ g.pages → Sweeping g n v j c → Swept g n v c (sweep g n v j c)
  unfolding sweep
  swept zero c q h = record { done = h; pairs_are = refl; lives = omega arith; alike = same_self g c; frees = omega arith }
  swept (suc j) c q h = go (live (places_of c) (g.pages * v + (g.pages - suc j))) refl (λ d. swept j d (omega arith))
    where
      c' : Chip
      c' = move_to (g.pages * n) c (g.pages * v + (g.pages - suc j)) (next_page g.pages n (ahead g n c))

      go : (t : Bool) → live (places_of c) (g.pages * v + (g.pages - suc j)) ≡ t
          → ((d : Chip) → Sweeping g n v j d → Swept g n v d (sweep g n v j d))
          → Swept g n v c (pick t (sweep g n v j c') (sweep g n v j c))
      go true e ih =
          let m = moved_on j c q h e in
          let w = ih c' m.0 in
          record {
            done = w.done;
            pairs_are = w.pairs_are ∙ m.1.pairs_are;
            lives = omega (arith, w.lives, m.1.lives);
            alike = same_then g c c'
                (sweep g n v j c') m.1.alike w.alike;
            frees = omega (arith, w.frees, m.1.frees, m.2);
          }
      go false e ih = ih c (record {
        good = h.good;
        full = h.full;
        few = h.few;
        dead = λ i w. by_eq i (g.pages - suc j) (λ z. rw z e)
            (λ z. h.dead i (omega arith));
      })

  -- the whole block: all its pages are dead afterwards
  pub emptied : (c : Chip) → Whole g n c → ((i : ℕ) → i < g.pages → c.er (g.pages * v + i) ≡ false)
      → lives_in g.pages v c ≤ count (g.pages * n) c.er → Swept g n v c (sweep g n v g.pages c)
  emptied c h f e = swept g.pages c (omega arith) (record { good = h; full = f; few = e; dead = λ i w. absurd (omega arith) })
