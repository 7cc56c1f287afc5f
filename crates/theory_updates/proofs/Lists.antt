-- The whole lists: collection, then the update's own pages. Assumes nothing.
use Rattle.std.specs.Prelude.{◌≡◌, List, [], ◌∷◌, ◌++◌, false, is_none}
use Rattle.std.proofs.Common.{ap, sym, ◌∙◌}
use Rattle.std.proofs.Math.Path.{subst}
use Prim.Native.Nat.{ℕ, suc, ◌+◌, ◌-◌, ◌*◌, ◌<◌, ◌≤◌}
use native.Mathlib.Omega.{arith}
use Rattle.geometry.specs.declared.Geometry.{Geometry}
use Rattle.geometry.specs.declared.Entry.{Entry}
use Rattle.geometry.specs.Shape.{Shape}
use Rattle.geometry.specs.Bounds.{four_bytes}
use Rattle.model.specs.Count.{count}
use Rattle.model.specs.Image.{pages_of, max_seq, Chip, chip_of}
use Rattle.model.specs.Tree.{places_of, live, find, sought}
use Rattle.model.specs.Stores.{apply_all, programs, erases}
use Rattle.model.specs.Edit.{put, remove}
use Rattle.model.specs.Collect.{collect_stores}
use Rattle.model.specs.Update.{needs, too_high, side_page, own_stores, delete_store, insert_stores, delete_stores}
use Rattle.model.specs.Calls.{worn, roomless, free_pages}
use Rattle.live_beside.specs.Update.{insert_crest, delete_crest}
use Rattle.theory_chips.specs.Whole.{sought_map}
use Rattle.theory_chips.specs.Collect.{collect}
use Rattle.theory_chips.specs.Insertion.{Fuller, needs_is}
use Rattle.theory_updates.specs.Along.{Keeps}
use Rattle.theory_updates.specs.Collector.{Collected, collect_done}
use Rattle.theory_updates.specs.Updated.{Stands, Updated, updated_after, updated_also}
use Rattle.theory_updates.specs.Insertion.{Inserted, own_programs}
use Rattle.theory_updates.proofs.Insertion.{own_updated}
use Rattle.theory_updates.specs.Deletion.{delete_own}
use Rattle.theory_updates.specs.Lists.{m_some, m_top, numbers, one_top, program_most, roomy}

module _ (g : Geometry) (shape : Shape g) (n : ℕ) (few : pages_of g n + g.pages < four_bytes) (base : List Entry)
    (img : List ℕ)
    (keeps : Keeps g n base img) (unworn : max_seq g n img ≤ g.worn) where
  abbrev c : Chip
  c = chip_of g n img

  abbrev t : ℕ
  t = pages_of g n

  -- an insertion
  module _ (some_pages : 1 ≤ t) (k a : ℕ) (k_low : k < four_bytes) (a-low : a < four_bytes) (not-high : too_high g c k
      ≡ false)
      (not-room : roomless g (free_pages g n c) (needs g c k) ≡ false) where
    abbrev m : ℕ
    m = needs g c k

    after_collect : Collected g shape n few base m img
    after_collect = collect_done g shape n few base m img keeps (roomy g shape n few base img keeps unworn m (m_some g shape n few base img keeps unworn some_pages k a k_low a-low not-high not-room) not-room) (numbers g shape n few base img keeps unworn m (m_top g shape n few base img keeps unworn some_pages k a k_low a-low not-high not-room)).0

    abbrev then : List ℕ
    then = apply_all g (collect_stores g n m (suc m) img) img

    same_m : needs g (chip_of g n then) k ≡ m
    same_m = after_collect.alike.needs_is k k_low

    then_low : max_seq g n then + needs g (chip_of g n then) k < 4294967295
    then_low =
        let x = after_collect.runs.grows in
        let y = after_collect.runs.programmed in
        let z = (numbers g shape n few base img keeps unworn m (m_top g shape n few base img keeps unworn some_pages k a k_low a-low not-high not-room)).1 in
        omega (arith, x, y, z, same_m)

    then_space : count t (live (places_of (chip_of g n then))) + (2 * g.pages + needs g (chip_of g n then) k) ≤ suc t
    then_space = let z = after_collect.lives in omega (arith, z, roomy g shape n few base img keeps unworn m (m_some g shape n few base img keeps unworn some_pages k a k_low a-low not-high not-room) not-room, same_m)

    own : Updated g n (Inserted g n (chip_of g n then) (needs g (chip_of g n then) k) k a) base (put k a base) then
        (own_stores g n (max_seq g n then) (chip_of g n then) (needs g (chip_of g n then) k) k a)
        (needs g (chip_of g n then) k) 0
    own = own_updated g shape n few k a k_low a-low base then after_collect.keeps (after_collect.alike.high_is k k_low ∙ not-high)
        (let z = after_collect.room in omega (arith, z, same_m)) then_low then_space

    -- the map is kept by the collection, and numbers are left for the own pages
    pub insert_keeps : Keeps g n base then
    insert_keeps = after_collect.keeps

    pub insert_low : max_seq g n then + m < 4294967295
    insert_low = let z = then_low in omega (arith, z, same_m)

    -- the collection ends because it is done
    pub insert_collected : g.pages + m ≤ count t (chip_of g n then).er
    insert_collected = after_collect.room

    -- the own pages are 1 + splits + grow
    pub insert_own : programs (own_stores g n (max_seq g n then) (chip_of g n then) m k a) ≡ m
    insert_own = subst (λ j. programs (own_stores g n (max_seq g n then) (chip_of g n then) j k a) ≡ j) same_m
        (own_programs g shape n few k a k_low a-low base then after_collect.keeps (after_collect.alike.high_is k k_low ∙ not-high)
        (let z = after_collect.room in omega (arith, z, same_m)) then_low then_space)

    pub insert_programs_only : erases (own_stores g n (max_seq g n then) (chip_of g n then) m k a) ≡ 0
    insert_programs_only = let z = subst (λ j. erases (own_stores g n (max_seq g n then) (chip_of g n then) j k a) ≤ 0) same_m own.wiped in
        omega (arith, z)

    -- the collector leaves the number of nodes and levels as it was
    fuller : (e : Chip) → Fuller g m (chip_of g n then) e → Fuller g m c e
    fuller e f = record {
      nodes_are = (let x = after_collect.alike.level_is in let y = after_collect.alike.nodes_is in
          omega (arith, f.nodes_are, x, y));
      filled = λ h. f.filled (after_collect.alike.filled_is h);
    }

    -- what more is known of the chip at the end: its nodes, and where its root stands
    abbrev Last : Chip → Type 0
    Last e = Fuller g m c e × Stands g n (chip_of g n then) m (insert_crest g (chip_of g n then) (side_page g n (chip_of g n then)) m k a) e

    last_done : Updated g n Last base (put k a base) img (insert_stores g n img k a) (program_most g m) (suc m)
    unfolding insert_stores
    last_done =
        let u = subst (λ j. Updated g n (Inserted g n (chip_of g n then) j k a) base (put k a base) then
        (own_stores g n (max_seq g n then) (chip_of g n then) j k a) j 0) same_m own in
        let w = updated_after g n (Inserted g n (chip_of g n then) m k a) Last (λ e f. (fuller e f.fuller, f.stands))
        base (put k a base) img (collect_stores g n m (suc m) img) (own_stores g n (max_seq g n then) (chip_of g n then) m k a)
        (collect g n m (suc m) c) (suc m * (g.pages - 1)) m (suc m) 0 after_collect.runs u in
        let z : suc m + 0 ≡ suc m = omega arith in
        subst (λ j. Updated g n Last base (put k a base) img (collect_stores g n m (suc m) img ++ own_stores g n (max_seq g n then) (chip_of g n then) m k a)
        (program_most g m) j) z w

    pub insert_updated : Updated g n (Fuller g m c) base (put k a base) img (insert_stores g n img k a) (program_most g m)
        (suc m)
    insert_updated = updated_also g n Last (Fuller g m c) (λ e f. f.0) base (put k a base) img (insert_stores g n img k a) (program_most g m) (suc m) last_done

    -- where the root stands at the end
    pub insert_stands : Stands g n (chip_of g n then) m (insert_crest g (chip_of g n then) (side_page g n (chip_of g n then))
        m k a) (chip_of g n (apply_all g (insert_stores g n img k a) img))
    insert_stands = last_done.also.1

  -- a deletion
  module _ (some_pages : 1 ≤ t) (k : ℕ) (k_low : k < four_bytes) (present : is_none (sought c k) ≡ false) where
    collected_one : Collected g shape n few base 1 img
    collected_one = collect_done g shape n few base 1 img keeps (let z = keeps.r8 in
        omega (arith, z)) (numbers g shape n few base img keeps unworn 1 (one_top g shape n few base img keeps unworn some_pages k k_low present)).0

    abbrev left : List ℕ
    left = apply_all g (collect_stores g n 1 2 img) img

    pub delete_keeps : Keeps g n base left
    delete_keeps = collected_one.keeps

    pub delete_collected : g.pages + 1 ≤ count t (chip_of g n left).er
    delete_collected = collected_one.room

    still : is_none (sought (chip_of g n left) k) ≡ false
    still = ap is_none (sought_map g n (chip_of g n left) collected_one.keeps.held.whole k k_low ∙ ap (find k)
        (collected_one.keeps.map_is ∙ sym keeps.map_is) ∙ sym (sought_map g n c keeps.held.whole k k_low))
        ∙ present

    pub delete_low : max_seq g n left + 1 < 4294967295
    delete_low =
        let x = collected_one.runs.grows in
        let y = collected_one.runs.programmed in
        let z = (numbers g shape n few base img keeps unworn 1 (one_top g shape n few base img keeps unworn some_pages k k_low present)).1 in
        omega (arith, x, y, z)

    pub delete_updated : Updated g n (Stands g n (chip_of g n left) 1
        (delete_crest (chip_of g n left) (side_page g n (chip_of g n left) 1) k)) base (remove k base) img (delete_stores g n img k) (program_most g 1) 2
    unfolding delete_stores
    delete_updated =
        updated_after g n (Stands g n (chip_of g n left) 1
        (delete_crest (chip_of g n left) (side_page g n (chip_of g n left) 1) k))
        (Stands g n (chip_of g n left) 1 (delete_crest (chip_of g n left) (side_page g n (chip_of g n left) 1) k))
        (λ x z. z) base (remove k base) img (collect_stores g n 1 2 img) (delete_store g n (max_seq g n left) (chip_of g n left) k ∷ [])
        (collect g n 1 2 c) (2 * (g.pages - 1)) 1 2 0 collected_one.runs
        (delete_own g shape n few k k_low base left collected_one.keeps still collected_one.room delete_low)
