-- The erase of an emptied block. Assumes nothing.
use Rattle.std.specs.Prelude.{◌≡◌, Bool}
use Rattle.std.proofs.Math.Path.{refl, ap, sym}
use Rattle.std.proofs.Common.{subst, ◌∙◌, arith}
use Rattle.std.proofs.Math.Bool.{true, false}
use Prim.Native.Nat.{ℕ, zero, suc, ◌+◌, ◌-◌, ◌*◌, ◌<◌, ◌≤◌}
use Rattle.geometry.specs.declared.Geometry.{Geometry}
use Rattle.geometry.specs.Tests.{pick}
use Rattle.geometry.specs.Geometry.{half, root_most}
use Rattle.geometry.specs.Shape.{Shape}
use Rattle.geometry.specs.Bounds.{four_bytes}
use Rattle.model.specs.Image.{Chip}
use Rattle.model.specs.Tree.{map_of, places_of, find}
use Rattle.model.specs.Next.{mixed}
use Rattle.theory_counts.specs.Cases.{by_eq, true_false}
use Rattle.theory_nodes.specs.Nodes.{fit_of}
use Rattle.theory_trees.specs.Frame.{pairs_same, root_places_same, sound_same}
use Rattle.theory_trees.specs.Like.{root_like_same}
use Rattle.theory_chips.specs.Next.{R2}
use Rattle.theory_chips.specs.Whole.{Whole, sought_map, Same, same_like}
use Rattle.theory_chips.specs.Sweep.{Sweeping}
use Rattle.theory_chips.specs.Erase.{blank_node, er_other, er_own, erase_block, fit_outside, in_b}
use Rattle.theory_chips.proofs.Rooted.{rooted}

module _ (g : Geometry) (shape : Shape g) (n : ℕ) (v : ℕ) (v-in : v < n) (c : Chip) (sw : Sweeping g n v 0 c) where
  abbrev c' : Chip
  c' = erase_block g v c

  r2' : R2 g.pages n c'.er
  r2' = record { mono = mono'; one = one' }
    where
      mono' : (b i j : ℕ) → b < n → i ≤ j → j < g.pages → c'.er (g.pages * b + i) ≡ true
          → c'.er (g.pages * b + j) ≡ true
      mono' b i j p q w h = by_eq b v (λ e. rw e (er_own g shape n v v-in c sw j w)) (λ e. er_other g shape n v v-in c sw b j w e ∙ sw.good.r2.mono b i j p q w
          (sym (er_other g shape n v v-in c sw b i (omega arith) e) ∙ h))

      old_mixed : (b : ℕ) → mixed g.pages c'.er b ≡ true → (b ≡ v → ⊥) × (mixed g.pages c.er b ≡ true)
      old_mixed b h = by_eq b v
          (λ e. absurd (true_false (mixed g.pages c'.er v) (subst (λ b. mixed g.pages c'.er b ≡ true) e h)
          (rw (er_own g shape n v v-in c sw 0 (omega arith)) refl)))
          (λ e. (e, rw (← (er_other g shape n v v-in c sw) b 0 (omega arith) e, ← (er_other g shape n v v-in c sw) b (g.pages - 1) (omega arith) e) h))

      one' : (b d : ℕ) → b < n → d < n → mixed g.pages c'.er b ≡ true → mixed g.pages c'.er d ≡ true → b ≡ d
      one' b d p q h i = sw.good.r2.one b d p q (old_mixed b h).1 (old_mixed d i).1

  keep : (l q : ℕ) → (fit_outside g shape n v v-in c sw) l q → fit_of (g.pages * n) c'.er l q
  unfolding erase_block
  keep zero q h = tt
  keep (suc l) q h = (h.0.0, go (in_b g.pages v q) refl)
    where
      go : (t : Bool) → in_b g.pages v q ≡ t → pick t true (c.er q) ≡ false
      go true e = absurd (h.1 (omega arith) e)
      go false e = h.0.1

  same : (q l : ℕ) → (fit_outside g shape n v v-in c sw) (suc l) q → c'.nodes q (suc l) ≡ c.nodes q (suc l)
  unfolding erase_block
  same q l h = go (in_b g.pages v q) refl
    where
      go : (t : Bool) → in_b g.pages v q ≡ t → pick t (blank_node g (suc l)) (c.nodes q (suc l)) ≡ c.nodes q (suc l)
      go true e = absurd (h.1 (omega arith) e)
      go false e = refl

  pub erased_good : Whole g n c'
  unfolding erase_block
  erased_good = record {
    r2 = r2';
    sound = sound_same four_bytes (λ l. 2 * half g l) (root_most g) c.nodes c'.nodes (fit_outside g shape n v v-in c sw)
        (fit_of (g.pages * n) c'.er) keep same c.level c.root (record { rooted = rooted g shape n v v-in c sw; tied = sw.good.sound.tied });
  }

  pub erased_pairs : map_of c' ≡ map_of c
  unfolding erase_block
  erased_pairs = pairs_same four_bytes (λ l. 2 * half g l) (root_most g) c.nodes c'.nodes (fit_outside g shape n v v-in c sw) (fit_of (g.pages * n) c'.er) keep same
      c.level c.root (rooted g shape n v v-in c sw)

  pub erased_places : places_of c' ≡ places_of c
  unfolding erase_block
  erased_places = root_places_same four_bytes (λ l. 2 * half g l) (root_most g) c.nodes c'.nodes (fit_outside g shape n v v-in c sw)
      (fit_of (g.pages * n) c'.er) keep same
      c.level c.root (rooted g shape n v v-in c sw)

  pub erased_alike : Same g c c'
  unfolding erase_block
  erased_alike = same_like g (g.pages * n) c.er c'.er c.seq c'.seq c.nodes c'.nodes c.level c.root c.root sw.good.sound.rooted
      (rw (same c.root c.level (rooted g shape n v v-in c sw).fits) (root_like_same 0 0 0 (λ l. 2 * half g l) c.nodes c'.nodes (fit_outside g shape n v v-in c sw) same
      c.level four_bytes
      (c.nodes c.root (suc c.level)) (rooted g shape n v v-in c sw).rises))
      (λ k q. sought_map g n c' erased_good k q ∙ ap (find k) erased_pairs ∙ sym (sought_map g n c sw.good k q))
