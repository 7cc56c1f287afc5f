-- An insertion into the plain tree on bytes (request 12): each page but the last leaves the map, after the last one it
-- has K. Assumes nothing.
use Rattle.std.specs.Prelude.{◌≡◌, Bool, true, false, leb, take, drop}
use Rattle.std.proofs.Math.Path.{subst}
use Rattle.std.proofs.Common.{sym, ◌∙◌, leb-true}
use mathlib.Core.List.{List, [], ◌∷◌}
use Prim.Native.Nat.{ℕ, zero, suc, ◌+◌, ◌-◌, ◌*◌, min, ◌<◌, ◌≤◌}
use native.Mathlib.Omega.{arith}
use Rattle.std.proofs.Math.Nat.{mul-le-mul_left}
use Rattle.std.proofs.Math.ListN.{length, length-take, length-drop}
use Rattle.geometry.specs.declared.Geometry.{Geometry}
use Rattle.geometry.specs.declared.Entry.{Entry}
use Rattle.geometry.specs.Tests.{pick}
use Rattle.geometry.specs.Geometry.{half, plain}
use Rattle.geometry.specs.Shape.{Core, plain_core}
use Rattle.geometry.specs.Bounds.{four_bytes}
use Rattle.model.specs.Count.{count}
use Rattle.model.specs.Image.{Chip, chip_of, pages_of, the_root, max_seq}
use Rattle.model.specs.Tree.{map_of, following}
use Rattle.model.specs.Next.{ahead, nth}
use Rattle.model.specs.Edit.{put, put_in}
use Rattle.model.specs.Plain.{both, renewed, Plan, plain_grows, plain_cuts, plain_high, left_page, right_page, plain_list, plain_needs}
use Rattle.model.specs.Plain.{level_plans, plans_to, crown_plans, insert_plans, plain_insert_stores}
use Rattle.model.specs.Calls.{worn}
use Rattle.theory_counts.specs.Cases.{by_le, by_test}
use Rattle.theory_lists.specs.All.{All, all_append}
use Rattle.theory_nodes.specs.Nodes.{fit_of}
use Rattle.theory_trees.specs.Lengths.{all_take, all_drop, path_all, path_top, path_most}
use Rattle.theory_chips.specs.Whole.{Whole}
use Rattle.theory_chips.specs.Pages.{side_most}
use Rattle.theory_chips.specs.PlainInsertion.{crown_none, planned}
use Rattle.theory_images.specs.Bytes.{Fits}
use Rattle.theory_images.specs.Small.{node_fits}
use Rattle.theory_images.specs.Held.{Held}
use Rattle.theory_images.specs.Lengths.{few_pages}
use Rattle.theory_updates.specs.Contents.{next_fits, put_fits, put_most}
use Rattle.theory_updates.specs.Lists.{not_worn}
use Rattle.plain_updates.specs.Single.{Single, plain_single, plain_pages, Buildable, buildable, all_at}
use Rattle.plain_updates.specs.Laid.{PlainUpdated, Finishes, none_placed}
use Rattle.plain_updates.proofs.Laid.{laid_updated}
use Rattle.plain_updates.specs.Insertion.{count_is, grown_in, high, narrow, needs_low, some_half}

both_fits : (left right m z : ℕ) (c : List Entry) → left < four_bytes → right < four_bytes → z < four_bytes → All Fits c
    → All Fits (both left right m z c)
both_fits left right m z c x y f h = ((f, x), ((next_fits (drop m c) (all_drop Fits m c h), y), tt))

module _ (k : ℕ) (left right half : ℕ → ℕ) where
  renewed_fits : ((l : ℕ) → left l < four_bytes) → ((l : ℕ) → right l < four_bytes) → (l : ℕ) (e : Entry) (c : List Entry)
      → Fits e → All Fits c
      → All Fits (renewed k left right half l e c)
  renewed_fits x y l e c f h = go (leb (length c) (2 * half l))
    where
      low : min e.key k < four_bytes
      low = let z = f.0 in omega (arith, z)

      go : (t : Bool) → All Fits (pick t (record { key = min e.key k; addr = left l } ∷ []) (both (left l) (right l)
          (half l) (min e.key k) c))
      go true = ((low, x l), tt)
      go false = both_fits (left l) (right l) (half l) (min e.key k) c (x l) (y l) low h

  renewed_most : (l : ℕ) (e : Entry) (c : List Entry) → length (renewed k left right half l e c) ≤ 2
  renewed_most l e c = go (leb (length c) (2 * half l))
    where
      go : (t : Bool) → length (pick t (record { key = min e.key k; addr = left l } ∷ []) (both (left l) (right l)
          (half l) (min e.key k) c)) ≤ 2
      go true = omega arith
      go false = omega arith

module _ (g : Geometry) (core : Core g) (single : Single g)
    (n : ℕ) (few : pages_of g n + g.pages < four_bytes) (some_pages : 1 ≤ pages_of g n) (img : List ℕ)
    (held : Held g n img) (k a : ℕ) (k_low : k < four_bytes) (a-low : a < four_bytes) where
  abbrev c : Chip
  c = chip_of g n img

  abbrev whole : Whole g n c
  whole = held.whole

  abbrev cuts : ℕ
  cuts = plain_cuts g c k

  abbrev lists : ℕ → List Entry
  lists = plain_list g n c k a

  abbrev plans : List Plan
  plans = insert_plans g n c k a

  page_low : (i : ℕ) → nth g.pages n (ahead g n c) i < four_bytes
  page_low i = let z = side_most g n c (suc i) in omega (arith, z, few)

  left_low_lem : (l : ℕ) → left_page g n c cuts l < four_bytes
  unfolding left_page
  left_low_lem l = page_low (l - 1 + min (l - 1) cuts)

  right_low : (l : ℕ) → right_page g n c cuts l < four_bytes
  unfolding right_page
  right_low l = page_low (l - 1 + min l cuts)

  lists_fit : (j : ℕ) → All Fits (lists j)
  unfolding plain_list
  lists_fit j = path_all c.nodes k (put_in k a) (renewed k (left_page g n c cuts) (right_page g n c cuts) (half g)) Fits (put_fits k a k_low a-low)
      (renewed_fits k (left_page g n c cuts) (right_page g n c cuts) (half g) left_low_lem right_low) (node_fits g img held.bytes) c.level (the_root c) j

  -- one entry too many at most
  lists_most : (j : ℕ) → 1 ≤ j → j ≤ suc c.level → length (lists j) ≤ 2 * half g j + 1
  unfolding plain_list
  lists_most j b d = by_le j c.level
      (λ q. path_most c.nodes k (put_in k a) (renewed k (left_page g n c cuts) (right_page g n c cuts) (half g)) 1 (put_most k a k_low a-low)
      (renewed_most k (left_page g n c cuts) (right_page g n c cuts) (half g)) (fit_of (pages_of g n) c.er) (λ l. 2 * half g l) c.level four_bytes
      (the_root c) (λ i. let z = whole.sound.rooted.least i in omega (arith, z)) whole.sound.rooted.rises j b q)
      (λ q. subst (λ i. length (lists i) ≤ 2 * half g i + 1) (let e : suc c.level ≡ j = omega (arith, d, q) in
      e) top)
    where
      top : length (lists (suc c.level)) ≤ 2 * half g (suc c.level) + 1
      top =
          let w = path_top c.nodes k (put_in k a) (renewed k (left_page g n c cuts) (right_page g n c cuts) (half g)) 1 (put_most k a k_low a-low)
          (renewed_most k (left_page g n c cuts) (right_page g n c cuts) (half g)) c.level (the_root c) in
          let z = whole.sound.rooted.atmost in
          omega (arith, w, z, narrow g core single n few some_pages img held k a k_low a-low)

  level_built : (l : ℕ) (es : List Entry) → 1 ≤ l → l ≤ g.top → All Fits es → length es ≤ 2 * half g l + 1
      → All (Buildable g) (level_plans g l es)
  unfolding level_plans
  level_built l es b d fit most = by_test (leb (length es) (2 * half g l)) (λ t. rw t (ok es fit (leb-true (length es) (2 * half g l) t), tt))
      (λ t. rw t (
        ok (take (half g l) es) (all_take Fits (half g l) es fit) (let x = length-take (half g l) es in
            omega (arith, x)),
        (
          ok (drop (half g l) es) (all_drop Fits (half g l) es fit)
              (let x = length-drop (half g l) es in let y = some_half g core single n few some_pages img held k a k_low a-low l b d in omega (arith, x, y, most)),
          tt,
        ),
      ))
    where
      ok : (xs : List Entry) → All Fits xs → length xs ≤ 2 * half g l → Buildable g (record { level = l; list = xs })
      ok xs f m = buildable g core single l xs b d f (let x = single.narrow l b d in omega (arith, x, m))

  levels_built : (l : ℕ) → l ≤ suc c.level → All (Buildable g) (plans_to g lists l)
  unfolding plans_to
  levels_built zero h = tt
  levels_built (suc l) h = all_append (Buildable g) (plans_to g lists l) (level_plans g (suc l) (lists (suc l))) (levels_built l (omega (arith, h)))
      (level_built (suc l) (lists (suc l)) (omega arith) (omega (arith, h, high g core single n few some_pages img held k a k_low a-low)) (lists_fit (suc l)) (lists_most (suc l) (omega arith) h))

  module _ (not-high : plain_high g c k ≡ false) where
    crown_built : All (Buildable g) (crown_plans g n c cuts (suc c.level) (lists (suc c.level)))
    unfolding crown_plans
    crown_built = by_test (plain_grows g c k) (λ t. go (grown_in g core single n few some_pages img held k a k_low a-low not-high t) (leb (length (lists (suc c.level))) (2 * half g (suc c.level))))
        (λ t. subst (All (Buildable g)) (sym (crown_none g core n k a k_low c whole (narrow g core single n few some_pages img held k a k_low a-low) (some_half g core single n few some_pages img held k a k_low a-low (suc c.level) (omega arith) (high g core single n few some_pages img held k a k_low a-low))
        (single.two (suc (suc c.level))) t)) tt)
      where
        l : ℕ
        l = suc c.level

        es : List Entry
        es = lists (suc c.level)

        crown : List Entry
        crown = both (left_page g n c cuts l) (right_page g n c cuts l) (half g l) (following es 0) es

        crown_fits : All Fits crown
        crown_fits = both_fits (left_page g n c cuts l) (right_page g n c cuts l) (half g l) (following es 0) es (left_low_lem l) (right_low l)
            (next_fits es (lists_fit l)) (lists_fit l)

        go : suc l ≤ g.top → (t : Bool) → All (Buildable g) (pick t [] (record { level = suc l; list = crown } ∷ []))
        go h true = tt
        go h false = (buildable g core single (suc l) crown (omega arith) h crown_fits (single.two (suc l)), tt)

    plans_built : All (Buildable g) plans
    unfolding insert_plans
    plans_built = all_append (Buildable g) (plans_to g lists (suc c.level)) (crown_plans g n c cuts (suc c.level) (lists (suc c.level)))
        (levels_built (suc c.level) (omega arith)) crown_built

  needs_some : plain_needs g c k ≡ suc (plain_needs g c k - 1)
  unfolding plain_needs
  needs_some = omega arith

  -- the chip after the last of m + 1 pages
  after_last : (m : ℕ) → plain_needs g c k ≡ suc m → plain_needs g c k ≤ count (pages_of g n) c.er
      → Finishes g n c plans (put k a (map_of c)) m
  unfolding plain_needs
  after_last m e room s numbers h = planned g core n k a k_low c whole (narrow g core single n few some_pages img held k a k_low a-low) (some_half g core single n few some_pages img held k a k_low a-low (suc c.level) (omega arith) (high g core single n few some_pages img held k a k_low a-low))
      (single.two (suc (suc c.level))) room s (λ i b. h.placed i (omega (arith, b, e))) h.stays numbers m e

  pub inserted : max_seq g n img ≤ g.worn → plain_high g c k ≡ false → plain_needs g c k ≤ count (pages_of g n) c.er
      → PlainUpdated g n (map_of c) (put k a (map_of c)) img (plain_insert_stores g n img k a)
  unfolding plain_insert_stores
  inserted fresh not-high room =
      let m = plain_needs g c k - 1 in
      let w = core.worn_low in
      let p = mul-le-mul_left (g.top + 1) core.pages_low in
      laid_updated g core n c whole.r2 (max_seq g n img) (map_of c) plans (omega (arith, room, count_is g core single n few some_pages img held k a k_low a-low))
      (let z = needs_low g core single n few some_pages img held k a k_low a-low not-high in omega (arith, w, p, z, count_is g core single n few some_pages img held k a k_low a-low, fresh)) (all_at (Buildable g) plans (plans_built not-high)) (put k a (map_of c)) m
      (count_is g core single n few some_pages img held k a k_low a-low ∙ needs_some) (after_last m needs_some room) img (none_placed g n img plans held)

module _ (n : ℕ) (some : 1 ≤ n) (few : n ≤ 1024) (img : List ℕ) (held : Held plain n img)
    (k a : ℕ) (k_low : k < four_bytes) (a-low : a < four_bytes) where
  pub plain_inserted : worn plain n img ≡ false → plain_high plain (chip_of plain n img) k ≡ false
      → plain_needs plain (chip_of plain n img) k ≤ count (pages_of plain n) (chip_of plain n img).er
      → PlainUpdated plain n (map_of (chip_of plain n img)) (put k a (map_of (chip_of plain n img))) img
      (plain_insert_stores plain n img k a)
  plain_inserted fresh not-high room = inserted plain plain_core plain_single n (few_pages plain plain_core n few) (plain_pages n some) img held k a k_low a-low
      (not_worn plain n img fresh) not-high room
