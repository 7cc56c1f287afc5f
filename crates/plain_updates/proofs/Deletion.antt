-- A deletion from the plain tree on bytes (request 12): each page but the last leaves the map, after the last one it is
-- without K. Assumes nothing.
use Rattle.std.specs.Prelude.{◌≡◌, Bool, eqb, is_none}
use Rattle.std.proofs.Common.{sym, subst}
use mathlib.Core.List.{List, [], ◌∷◌}
use Rattle.std.proofs.Math.Bool.{true, false}
use Prim.Native.Nat.{ℕ, zero, suc, ◌+◌, ◌-◌, ◌*◌, ◌<◌, ◌≤◌}
use native.Mathlib.Omega.{arith}
use Rattle.std.proofs.Math.ListN.{length}
use Rattle.geometry.specs.declared.Geometry.{Geometry}
use Rattle.geometry.specs.declared.Entry.{Entry}
use Rattle.geometry.specs.Tests.{pick}
use Rattle.geometry.specs.Geometry.{half, root_most, plain}
use Rattle.geometry.specs.Shape.{Core, plain_core}
use Rattle.geometry.specs.Bounds.{four_bytes}
use Rattle.model.specs.Count.{count}
use Rattle.model.specs.Image.{Chip, chip_of, pages_of, the_root, max_seq}
use Rattle.model.specs.Tree.{map_of, sought}
use Rattle.model.specs.Edit.{remove, remove_in, Top}
use Rattle.model.specs.Plain.{kept_on, Plan, none_left, emptied, kept_page, plain_less, plain_top, plain_leaves}
use Rattle.model.specs.Plain.{kept_plans, delete_plans, plain_delete_stores}
use Rattle.model.specs.Calls.{worn}
use Rattle.theory_lists.specs.All.{All, all_append}
use Rattle.theory_nodes.specs.Nodes.{fit_of}
use Rattle.theory_trees.specs.Lengths.{path_all, path_top, path_most}
use Rattle.theory_chips.specs.Whole.{Whole}
use Rattle.theory_chips.specs.Pages.{side_most}
use Rattle.theory_chips.specs.Deletion.{collapse_low}
use Rattle.theory_chips.specs.PlainDeletion.{top_stays, by_root, fall_most, planned_last}
use Rattle.theory_images.specs.Bytes.{Fits}
use Rattle.theory_images.specs.Small.{node_fits}
use Rattle.theory_images.specs.Held.{Held}
use Rattle.theory_images.specs.Lengths.{few_pages}
use Rattle.theory_updates.specs.Deletion.{remove_fits, remove_most, kept_fits, kept_most, collapse_all}
use Rattle.theory_updates.specs.Lists.{not_worn}
use Rattle.plain_updates.specs.Single.{Single, plain_single, plain_pages, Buildable, buildable, all_at}
use Rattle.plain_updates.specs.Laid.{PlainUpdated, Finishes, none_placed}
use Rattle.plain_updates.proofs.Laid.{laid_updated}
use Rattle.plain_updates.specs.Deletion.{count_is, high, leaves_low}

module _ (g : Geometry) (core : Core g) (single : Single g)
    (n : ℕ) (few : pages_of g n + g.pages < four_bytes) (some_pages : 1 ≤ pages_of g n) (img : List ℕ)
    (held : Held g n img) (k : ℕ) (k_low : k < four_bytes) (present : is_none (sought (chip_of g n img) k) ≡ false) where
  abbrev c : Chip
  c = chip_of g n img

  abbrev whole : Whole g n c
  whole = held.whole

  abbrev P : ℕ → ℕ
  P = kept_page g n c (emptied c k)

  abbrev lists : ℕ → List Entry
  lists = plain_less g n c k

  abbrev top : Top
  top = plain_top g n c k

  abbrev plans : List Plan
  plans = delete_plans g n c k

  page_low : (l : ℕ) → P l < four_bytes
  unfolding kept_page
  page_low l = let z = side_most g n c (suc (l - 1 - emptied c k)) in omega (arith, z, few)

  all_fit : (q l : ℕ) → All Fits (c.nodes q l)
  all_fit = node_fits g img held.bytes

  lists_fit : (j : ℕ) → All Fits (lists j)
  unfolding plain_less
  lists_fit j = path_all c.nodes k (remove_in k) (kept_on P) Fits (remove_fits k) (λ l. kept_fits (P l) (page_low l) l) all_fit c.level (the_root c) j

  -- no list is longer than it was
  lists_most : (j : ℕ) → 1 ≤ j → j ≤ c.level → length (lists j) ≤ root_most g j
  unfolding plain_less
  lists_most j b d =
      let w = path_most c.nodes k (remove_in k) (kept_on P) 0 (remove_most k) (λ l. kept_most (P l) l) (fit_of (pages_of g n) c.er) (λ l. 2 * half g l)
      c.level four_bytes (the_root c) (λ i. let z = whole.sound.rooted.least i in
      omega (arith, z)) whole.sound.rooted.rises j b d in
      let e = single.narrow j b (omega (arith, d, high g core single n few some_pages img held k k_low present)) in
      omega (arith, w, e)

  root_most_lem : length (lists (suc c.level)) ≤ root_most g (suc c.level)
  unfolding plain_less
  root_most_lem =
      let w = path_top c.nodes k (remove_in k) (kept_on P) 0 (remove_most k) (λ l. kept_most (P l) l) c.level (the_root c) in
      let z = whole.sound.rooted.atmost in
      omega (arith, w, z)

  kept_built : (l : ℕ) → l ≤ c.level → All (Buildable g) (kept_plans lists l)
  unfolding kept_plans
  kept_built zero h = tt
  kept_built (suc l) h = all_append (Buildable g) (kept_plans lists l) (pick (none_left (lists (suc l))) [] (record { level = suc l; list = lists (suc l) } ∷ []))
      (kept_built l (omega (arith, h))) (go (none_left (lists (suc l))))
    where
      go : (t : Bool) → All (Buildable g) (pick t [] (record { level = suc l; list = lists (suc l) } ∷ []))
      go true = tt
      go false = (
        buildable g core single (suc l) (lists (suc l)) (omega arith) (omega (arith, h, high g core single n few some_pages img held k k_low present)) (lists_fit (suc l)) (lists_most (suc l) (omega arith) h),
        tt,
      )

  module _ (free : 1 ≤ count (pages_of g n) c.er) where
    top_most : length top.list ≤ root_most g (suc top.level)
    top_most = by_root g core n k k_low c whole present
        (λ h. subst (λ (x : Top). length x.list ≤ root_most g (suc x.level)) (sym (top_stays g core n k k_low c whole present h)) root_most_lem)
        (fall_most g core n k k_low c whole present free)

    top_built : Buildable g (record { level = suc top.level; list = top.list })
    unfolding plain_top
    top_built =
        let lo = collapse_low c.nodes c.level (lists (suc c.level)) in
        buildable g core single (suc top.level) top.list (omega arith) (omega (arith, lo, high g core single n few some_pages img held k k_low present))
        (collapse_all Fits c.nodes all_fit c.level (lists (suc c.level)) (lists_fit (suc c.level))) top_most

    plans_built : All (Buildable g) plans
    unfolding delete_plans
    plans_built = all_append (Buildable g) (pick (eqb top.level c.level) (kept_plans lists c.level) [])
        (record { level = suc top.level; list = top.list } ∷ []) (go (eqb top.level c.level)) (top_built, tt)
      where
        go : (t : Bool) → All (Buildable g) (pick t (kept_plans lists c.level) [])
        go true = kept_built c.level (omega arith)
        go false = tt

  -- the chip after the last of m + 1 pages
  after_last : (m : ℕ) → length plans ≡ suc m → length plans ≤ count (pages_of g n) c.er → Finishes g n c plans
      (remove k (map_of c)) m
  after_last m e room s numbers h = planned_last g core n k k_low c whole present room s (λ i b. h.placed i (omega (arith, b, e))) h.stays numbers m e

  pub deleted : max_seq g n img ≤ g.worn → plain_leaves c k ≤ count (pages_of g n) c.er
      → PlainUpdated g n (map_of c) (remove k (map_of c)) img (plain_delete_stores g n img k)
  unfolding plain_delete_stores
  deleted fresh room =
      let m = plain_leaves c k - 1 in
      let lo = leaves_low g core single n few some_pages img held k k_low present in
      let w = core.worn_low in
      let last : length plans ≡ suc m = omega (arith, count_is g core single n few some_pages img held k k_low present, lo) in
      let enough : length plans ≤ count (pages_of g n) c.er = omega (arith, room, count_is g core single n few some_pages img held k k_low present) in
      laid_updated g core n c whole.r2 (max_seq g n img) (map_of c) plans enough (omega (arith, w, lo, count_is g core single n few some_pages img held k k_low present, fresh))
      (all_at (Buildable g) plans (plans_built (omega (arith, room, lo)))) (remove k (map_of c)) m last (after_last m last enough) img
      (none_placed g n img plans held)

module _ (n : ℕ) (some : 1 ≤ n) (few : n ≤ 1024) (img : List ℕ) (held : Held plain n img)
    (k : ℕ) (k_low : k < four_bytes)
    (present : is_none (sought (chip_of plain n img) k) ≡ false) where
  pub plain_deleted : worn plain n img ≡ false → plain_leaves (chip_of plain n img) k ≤ count (pages_of plain n)
      (chip_of plain n img).er
      → PlainUpdated plain n (map_of (chip_of plain n img)) (remove k (map_of (chip_of plain n img))) img
      (plain_delete_stores plain n img k)
  plain_deleted fresh room = deleted plain plain_core plain_single n (few_pages plain plain_core n few) (plain_pages n some) img held k k_low present
      (not_worn plain n img fresh) room
