-- One move of the collector on an abstract chip. Assumes nothing.
use Rattle.std.specs.Prelude.{◌≡◌, List, [], ◌∷◌, true, false, ℕ, suc, ◌*◌, ◌<◌, ◌≤◌, length, eqb}
use Rattle.std.proofs.Math.Path.{refl}
use Rattle.std.proofs.Common.{ap, sym, subst, ◌∙◌, arith, le-leb, eq-eqb, ne_eqb}
use Rattle.geometry.specs.declared.Geometry.{Geometry}
use Rattle.geometry.specs.declared.Entry.{Entry}
use Rattle.geometry.specs.Tests.{pick, bit}
use Rattle.geometry.specs.Geometry.{half, root_most}
use Rattle.geometry.specs.Shape.{Shape, shape_core}
use Rattle.geometry.specs.Bounds.{four_bytes}
use Rattle.model.specs.Count.{count, peak}
use Rattle.model.specs.Image.{Chip, the_root}
use Rattle.model.specs.Tree.{map_of, places_of, live, low_level, following, chosen, find}
use Rattle.model.specs.Next.{first_in, ahead, next_block, next_page, after}
use Rattle.model.specs.Edit.{splice, renamed, same}
use Rattle.model.specs.Collect.{move_key, move_part}
use Rattle.theory_counts.specs.Cases.{true_false}
use Rattle.theory_lists.specs.All.{All, Mem, all_get}
use Rattle.theory_nodes.specs.Nodes.{fit_of, fit_page}
use Rattle.theory_trees.specs.Move.{moved, MoveMade}
use Rattle.theory_trees.specs.Proper.{places_level, root_first, root_fit, Moved}
use Rattle.theory_trees.proofs.Proper.{move_sound}
use Rattle.theory_trees.specs.Path.{same_as, same_root, root_is, on_path_top, made_from}
use Rattle.theory_trees.specs.Like.{Likes, Like, move_root_like}
use Rattle.theory_nodes.specs.Live.{dead_live, within_live, low_is}
use Rattle.theory_chips.specs.Count.{count_gone, count_moved}
use Rattle.theory_chips.specs.Next.{after_false, next_found, next_in, r2_next}
use Rattle.theory_chips.specs.Whole.{some_page, Whole, sought_map, Same, same_like}
use Rattle.theory_chips.specs.Pages.{fit_after}

-- the chip after page p has moved to page m, with the largest number of t pages plus 1
unfoldable pub move_to : ℕ → Chip → ℕ → ℕ → Chip
move_to t c p m = record {
  er = after m c.er;
  seq = λ q. pick (eqb q m) (suc (peak t c.seq)) (c.seq q);
  nodes = λ q j. pick (eqb q m) (move_part c p m j) (c.nodes q j);
  level = c.level;
  root = m;
}

-- what a move does: sound again, the same pairs, p dead, nothing else come alive but the new page, one page fewer
-- erased
pub record MoveStep (g : Geometry) (n : ℕ) (c c' : Chip) (p new : ℕ) : Type 0 where
  pub good : Whole g n c'
  pub pairs_are : map_of c' ≡ map_of c
  pub was : c.er new ≡ true
  pub ers : (q : ℕ) → c.er q ≡ false → c'.er q ≡ false
  pub dead : live (places_of c') p ≡ false
  pub others : (q : ℕ) → (q ≡ new → ⊥) → bit (live (places_of c') q) ≤ bit (live (places_of c) q)
  pub lives : count (g.pages * n) (live (places_of c')) ≤ count (g.pages * n) (live (places_of c))
  pub alike : Same g c c'
  pub frees : count (g.pages * n) c.er ≡ suc (count (g.pages * n) c'.er)

module _ (g : Geometry) (shape : Shape g) (n : ℕ) (c : Chip) (good : Whole g n c)
    (p : ℕ) (alive : live (places_of c) p ≡ true)
    (free : 1 ≤ count (g.pages * n) c.er) where
  abbrev new : ℕ
  new = next_page g.pages n (ahead g n c)

  abbrev c' : Chip
  c' = move_to (g.pages * n) c p new

  found : (next_block g.pages n (ahead g n c) < n) ×
      (first_in g.pages c.er (next_block g.pages n (ahead g n c)) < g.pages) × (c.er new ≡ true)
  found = next_found g.pages n (ahead g n c) (some_page g (shape_core g shape)) good.r2 free

  new_in : new < g.pages * n
  new_in = next_in g.pages n (ahead g n c) (some_page g (shape_core g shape)) good.r2 free

  pub keep : (l b : ℕ) → fit_of (g.pages * n) c.er l b → fit_of (g.pages * n) (after new c.er) l b
  keep = fit_after (g.pages * n) new c.er

  pub not_new : (q l : ℕ) → fit_of (g.pages * n) c.er (suc l) q → q ≡ new → ⊥
  not_new q l h e = true_false (c.er new) found.2 (rw (← e) h.1)

  pub stays : (q l : ℕ) → fit_of (g.pages * n) c.er (suc l) q → c'.nodes q (suc l) ≡ c.nodes q (suc l)
  unfolding move_to
  stays q l h = rw (ne_eqb q new (not_new q l h)) refl

  on_new : (j : ℕ) → c'.nodes new j ≡ move_part c p new j
  unfolding move_to
  on_new j = rw (eq-eqb new new refl) refl

  pub low : Mem (record { page = p; level = low_level (places_of c) p }) (places_of c) ×
      All (λ x. x.page ≡ p → low_level (places_of c) p ≤ x.level)
      (places_of c)
  low = low_is (places_of c) p alive

  abbrev a : ℕ
  a = low_level (places_of c) p

  abbrev k : ℕ
  k = move_key c p

  abbrev es : List Entry
  es = c.nodes c.root (suc c.level)

  abbrev fit : ℕ → ℕ → Type 0
  fit = fit_of (g.pages * n) c.er

  pub k_low : k < four_bytes
  k_low = all_get (λ x. following (c.nodes x.page x.level) 0 < four_bytes) (record { page = p; level = a }) (places_of c)
      (root_first fit (λ l. 2 * half g l) (root_most g) c.nodes c.level c.root four_bytes (omega arith) good.sound.rooted) low.0

  some_root : 1 ≤ c.level → 0 < length es
  some_root i = let z = good.sound.rooted.least i in omega (arith, z)

  pub made : MoveMade c.nodes c'.nodes k a new c.level (chosen k es)
  unfolding move_part
  made = made_from fit (λ l. 2 * half g l) c.nodes k same (λ e. e ∷ []) (renamed a new) (same_as k) (λ j d. a ≤ j → c'.nodes new j ≡ d)
      c.level four_bytes (the_root c) k_low some_root good.sound.rooted.rises
      (λ j b d w. on_new j ∙ rw (le-leb a j w) refl)

  a_in : a ≤ suc c.level
  a_in = (all_get (λ x. (1 ≤ x.level) × (x.level ≤ suc c.level)) (record { page = p; level = a }) (places_of c)
      (places_level c.nodes (suc c.level) (the_root c)) low.0).1

  pub at_root_lem : c'.nodes new (suc c.level) ≡ splice (moved c.nodes k a new c.level) k es
  unfolding move_part
  at_root_lem = on_new (suc c.level) ∙ rw (le-leb a (suc c.level) a_in)
      (on_path_top fit (λ l. 2 * half g l) c.nodes k same (λ e. e ∷ []) (renamed a new) (same_as k) c.level (the_root c)
      ∙ root_is fit (λ l. 2 * half g l) c.nodes k same (λ e. e ∷ []) (renamed a new) (same_as k) c.level four_bytes c.root k_low some_root
      good.sound.rooted.rises
      ∙ same_root c.nodes k (renamed a new) c.level es)

  pub fit_new : (l : ℕ) → fit_of (g.pages * n) (after new c.er) (suc l) new
  fit_new l = (new_in, rw (eq-eqb new new refl) refl)

  the_move : Moved p (low_level (places_of c) p) new four_bytes (half g) (root_most g) c.nodes c'.nodes
      (fit_of (g.pages * n) c.er)
      (fit_of (g.pages * n) (after new c.er)) fit_new keep stays (λ l h. not_new new l h refl) c.level c.root good.sound low.0 low.1
  the_move = move_sound p (low_level (places_of c) p) new four_bytes (half g) (root_most g) c.nodes c'.nodes (fit_of (g.pages * n) c.er)
      (fit_of (g.pages * n) (after new c.er)) fit_new keep stays (λ l h. not_new new l h refl) c.level c.root good.sound low.0
      low.1 made at_root_lem

  pub move_step : MoveStep g n c c' p new
  unfolding move_to
  move_step =
      record {
        good = good';
        pairs_are = the_move.pairs_are;
        was = found.2;
        ers = λ q h. after_false new q c.er h;
        dead = dead_live p (places_of c') the_move.dead;
        others = λ q d. within_live new q (places_of c) (places_of c') the_move.within d;
        lives = count_moved (g.pages * n) p new (low_level (places_of c) p) (places_of c) (places_of c') old_p.0 new_in
            (λ e. true_false (c.er new) found.2 (rw (← e) old_p.1)) low.0 the_move.dead the_move.within;
        alike = alike';
        frees = count_gone (g.pages * n) new c.er new_in found.2;
      }
    where
      good' : Whole g n c'
      good' = record { r2 = r2_next g.pages n (ahead g n c) (some_page g (shape_core g shape)) good.r2 found.0 found.1; sound = the_move.sound }

      alike' : Same g c c'
      alike' = same_like g (g.pages * n) c.er c'.er c.seq c'.seq c.nodes c'.nodes c.level c.root new good.sound.rooted
          (subst (λ m. Likes (Like c.nodes c'.nodes c.level) es m) (sym at_root_lem)
          (move_root_like k a new (λ l. 2 * half g l) c.nodes c'.nodes fit stays c.level four_bytes es k_low
          good.sound.rooted.rises made))
          (λ k q. sought_map g n c' good' k q ∙ ap (find k) the_move.pairs_are ∙ sym (sought_map g n c good k q))

      old_p : (p < g.pages * n) × (c.er p ≡ false)
      old_p = let z = all_get (λ x. (1 ≤ x.level) × fit_of (g.pages * n) c.er x.level x.page)
          (record { page = p; level = low_level (places_of c) p }) (places_of c)
          (root_fit (fit_of (g.pages * n) c.er) (λ l. 2 * half g l) (root_most g) c.nodes c.level c.root four_bytes good.sound.rooted)
          low.0 in
          fit_page (g.pages * n) c.er (low_level (places_of c) p) p z.0 z.1
