-- The lowest live levels after a move, from those before and the path: the new page has a; a page whose lowest live
-- node stands on the path from level a up has died; every other page is as before. Assumes nothing.
use Rattle.std.specs.Prelude.{◌≡◌, refl, List, Bool, true, false, ◌⊎◌, ℕ, zero, suc, ◌*◌, ◌<◌, ◌≤◌, length}
use Rattle.std.proofs.Common.{sym, subst, ◌∙◌, inl, inr, arith}
use Rattle.model.specs.Image.{Nodes}
use Rattle.model.specs.Tree.{Place, places, following, chosen, live, low_level}
use Rattle.model.specs.Edit.{splice}
use Rattle.theory_lists.specs.All.{All, Mem, all_map, all_get}
use Rattle.theory_nodes.specs.Nodes.{the, rooted_with}
use Rattle.theory_trees.proofs.Tied.{tie_all}
use Rattle.theory_trees.specs.Move.{moved, MoveMade, Tie}
use Rattle.theory_trees.specs.Proper.{Proper, places_level, root_fit, Moved}
use Rattle.theory_trees.proofs.Proper.{move_sound}
use Rattle.theory_nodes.specs.Live.{low_is, live_none, mem_live}
use Rattle.theory_nodes.specs.PathPlaces.{spot, path_places, path_levels}
use Rattle.theory_trees.specs.Swap.{Come, Swapped, root_swap}
use Rattle.theory_trees.specs.OnPath.{OnIt}
use Rattle.theory_trees.proofs.OnPath.{root_on}
use Rattle.theory_trees.specs.Lows.{Lowered, low_none}

low_unique : (spots : List Place) (q m : ℕ) → Mem (spot q m) spots → All (λ x. x.page ≡ q → m ≤ x.level) spots
    → low_level spots q ≡ m
low_unique spots q m i h =
    let z = low_is spots q (mem_live (spot q m) spots i) in
    let b = all_get (λ x. x.page ≡ q → m ≤ x.level) (spot q (low_level spots q)) spots h z.0 refl in
    let c = all_get (λ x. x.page ≡ q → low_level spots q ≤ x.level) (spot q m) spots z.1 i refl in
    omega (arith, b, c)

module _ (n a : ℕ) (old path new : List Place) (sw : Swapped n a old path new) where
  swap_new : All (λ x. x.page ≡ n → ⊥) old → Mem (spot n a) new → low_level new n ≡ a
  swap_new unused i = low_unique new n a i (all_map (Come n a old path) (λ x. x.page ≡ n → a ≤ x.level) new at_least sw.come)
    where
      at_least : (x : Place) → Come n a old path x → x.page ≡ n → a ≤ x.level
      at_least x (inl f) j = f.1
      at_least x (inr f) j = absurd (all_get (λ x. x.page ≡ n → ⊥) x old unused f.0 j)

  swap_dead : (q : ℕ) → (q ≡ n → ⊥) → All (OnIt q path) old → low_level new q ≡ 0
  swap_dead q d on = low_none new q (all_map (Come n a old path) (λ x. x.page ≡ q → ⊥) new none sw.come)
    where
      none : (x : Place) → Come n a old path x → x.page ≡ q → ⊥
      none x (inl f) j = d (sym j ∙ f.0)
      none x (inr f) j = f.1 (all_get (OnIt q path) x old on f.0 j)

  -- a page that stays live
  swap_live : (q : ℕ) → (q ≡ n → ⊥) → live old q ≡ true → (Mem (spot q (low_level old q)) path → ⊥)
      → low_level new q ≡ low_level old q
  swap_live q d alive off =
      let z = low_is old q alive in
      low_unique new q (low_level old q) (there (all_get (λ x. Mem x path ⊎ Mem x new) (spot q (low_level old q)) old sw.gone z.0))
      (all_map (Come n a old path) (λ x. x.page ≡ q → low_level old q ≤ x.level) new (above z.1) sw.come)
    where
      there : Mem (spot q (low_level old q)) path ⊎ Mem (spot q (low_level old q)) new → Mem (spot q (low_level old q)) new
      there (inl i) = absurd (off i)
      there (inr i) = i

      above : All (λ x. x.page ≡ q → low_level old q ≤ x.level) old → (x : Place) → Come n a old path x → x.page ≡ q
          → low_level old q ≤ x.level
      above w x (inl f) j = absurd (d (sym j ∙ f.0))
      above w x (inr f) j = all_get (λ x. x.page ≡ q → low_level old q ≤ x.level) x old w f.0 j

  -- a page that was not live
  swap_none : (q : ℕ) → (q ≡ n → ⊥) → live old q ≡ false → low_level new q ≡ low_level old q
  swap_none q d dead =
      let w = live_none q old dead in
      swap_dead q d (all_map (λ x. x.page ≡ q → ⊥) (OnIt q path) old (λ x f j. absurd (f j)) w)
      ∙ sym (low_none old q w)

  swap_stays : (q : ℕ) → (q ≡ n → ⊥) → (Mem (spot q (low_level old q)) path → ⊥) → low_level new q ≡ low_level old q
  swap_stays q d off = go (live old q) refl
    where
      go : (t : Bool) → live old q ≡ t → low_level new q ≡ low_level old q
      go true e = swap_live q d e off
      go false e = swap_none q d e

module _ (p a n top : ℕ) (half most : ℕ → ℕ) (r s : Nodes) (fit fit' : ℕ → ℕ → Type 0)
    (fit_n : (l : ℕ) → fit' (suc l) n)
    (keep : (l b : ℕ) → fit l b → fit' l b) (same : (q l : ℕ) → fit (suc l) q → s q (suc l) ≡ r q (suc l))
    (new-n : (l : ℕ) → fit (suc l) n → ⊥)
    (l p₀ : ℕ) (h : Proper fit (λ l. 2 * half l) most top r l p₀) (m : Mem (spot p a) (places r (suc l) (the p₀)))
    (low : All (λ x. x.page ≡ p → a ≤ x.level) (places r (suc l) (the p₀)))
    (made : MoveMade r s (following (r p a) 0) a n l (chosen (following (r p a) 0) (r p₀ (suc l))))
    (e : s n (suc l) ≡ splice (moved r (following (r p a) 0) a n l) (following (r p a) 0) (r p₀ (suc l)))
    (k_top : 0 < length (r p₀ (suc l)) → following (r p a) 0 < top) where
  abbrev old : List Place
  old = places r (suc l) (the p₀)

  abbrev new : List Place
  new = places s (suc l) (the n)

  abbrev path : List Place
  path = path_places r (following (r p a) 0) a (suc l) (the p₀)

  level_in : (q j : ℕ) → Mem (spot q j) old → (1 ≤ j) × (j ≤ suc l)
  level_in q j i = all_get (λ x. (1 ≤ x.level) × (x.level ≤ suc l)) (spot q j) old (places_level r (suc l) (the p₀)) i

  swapped : Swapped n a old path new
  swapped = root_swap (following (r p a) 0) a n (λ l. 2 * half l) r s fit fit' keep same most top l p₀ h.rooted k_top (level_in p a m).1 made e

  the_moved : Moved p a n top half most r s fit fit' fit_n keep same new-n l p₀ h m low
  the_moved = move_sound p a n top half most r s fit fit' fit_n keep same new-n l p₀ h m low made e

  -- the new page was not live
  unused : All (λ x. x.page ≡ n → ⊥) old
  unused = all_map (λ x. (1 ≤ x.level) × fit x.level x.page) (λ x. x.page ≡ n → ⊥) old (λ x i j. not_n x.level x.page i.0 i.1 j)
      (root_fit fit (λ l. 2 * half l) most r l p₀ top h.rooted)
    where
      not_n : (j q : ℕ) → 1 ≤ j → fit j q → q ≡ n → ⊥
      not_n zero q b f i = omega arith
      not_n (suc j) q b f i = new-n j (subst (fit (suc j)) i f)

  -- the moved page's lowest node is on the path, for the page is dead afterwards
  on_path_lem : Mem (spot p a) path
  on_path_lem = go (all_get (λ x. Mem x path ⊎ Mem x new) (spot p a) old swapped.gone m)
    where
      go : Mem (spot p a) path ⊎ Mem (spot p a) new → Mem (spot p a) path
      go (inl i) = i
      go (inr i) = absurd (all_get (λ x. x.page ≡ p → ⊥) (spot p a) new the_moved.dead i refl)

  -- a page with a level on the path is live, for a dead one has level 0
  alive_on : (q : ℕ) → Mem (spot q (low_level old q)) path → live old q ≡ true
  alive_on q i = go (live old q) refl
    where
      go : (t : Bool) → live old q ≡ t → t ≡ true
      go true e = refl
      go false e =
          let z = low_none old q (live_none q old e) in
          let b = all_get (λ x. (1 ≤ x.level) × (x.level ≤ suc l)) (spot q (low_level old q)) path
          (path_levels r (following (r p a) 0) a (suc l) (the p₀)) i in
          absurd (omega (arith, z, b.0))

  all_on : (q : ℕ) → Mem (spot q (low_level old q)) path → All (OnIt q path) old
  all_on q i =
      let z = low_is old q (alive_on q i) in
      root_on (following (r p a) 0) a q (low_level old q) half r fit (level_in q (low_level old q) z.0).0 most top l p₀
      (rooted_with fit (λ l. 2 * half l) most top r (Tie r q (low_level old q)) l p₀ (λ _. tt) (tie_all r q (low_level old q) old h.tied z.0 z.1)
      h.rooted) k_top (level_in p a m).1 i

  pub lowered : Lowered n a old path new
  lowered = record {
    on_new = swap_new n a old path new swapped unused (all_get (λ x. Mem (spot n x.level) new) (spot p a) path swapped.put on_path_lem);
    died = λ q d i. swap_dead n a old path new swapped q d (all_on q i);
    stays = swap_stays n a old path new swapped;
  }
