-- Laws of nodes read by value, in the form in which the code has the premises. Assumes nothing.
use Rattle.std.specs.Prelude.{ℕ, zero, suc, ◌+◌, ◌-◌, ◌*◌, ◌<◌, ◌≤◌, Bool, true, false, ◌≡◌, refl, List, [], ◌∷◌, length, set}
use Rattle.std.proofs.Common.{sym, ◌∙◌, arith}
use Rattle.geometry.specs.declared.Geometry.{Geometry}
use Rattle.geometry.specs.declared.Entry.{Entry}
use Rattle.model.specs.Bytes.{entries_at, node_place, node_count, node_at}
use Rattle.model.specs.Stores.{written}
use Rattle.model.specs.Tree.{halve, place, chosen}
use Rattle.model.specs.Halving.{place_is}
use Rattle.model.specs.Edit.{put_in, remove_in}
use Rattle.chip_read.specs.Chip.{entry_at}
use Rattle.chip_read.specs.Node.{node_read, entries_length, entries_none}
use Rattle.tree_search.specs.Search.{ahead, holds}
use Rattle.tree_search.specs.Places.{held, chosen_read}
use Rattle.theory_lists.specs.Written.{written_none, filled_more}
use Rattle.theory_lists.specs.Places.{tab, insert_at, remove_at, take_written, length_mapped}
use Rattle.tree_node.specs.declared.Node.{Node}
use Rattle.tree_node.specs.Node.{entries}
use Rattle.tree_node.specs.Changes.{no_entry}
use Rattle.tree_load.specs.Load.{Takes}
use Rattle.tree_load.specs.Places.{put_over, put_in_lem, remove_in_lem, remove_out}

-- ---- load
tab_first : (f : ℕ → Entry) (n : ℕ) → tab f (suc n) ≡ f 0 ∷ tab (λ j. f (suc j)) n
unfolding tab
tab_first f zero = refl
tab_first f (suc n) = rw (tab_first f n)

tab_same : (f g : ℕ → Entry) (n : ℕ) → ((j : ℕ) → f j ≡ g j) → tab f n ≡ tab g n
unfolding tab
tab_same f g zero h = refl
tab_same f g (suc n) h = rw (tab_same f g n h, h n)

tab_entries : (img : List ℕ) (at n : ℕ) → tab (λ j. entry_at img (at + 8 * j)) n ≡ entries_at img at n
unfolding tab entries_at entry_at
tab_entries img at zero = refl
tab_entries img at (suc n) =
    let e : at + 8 * 0 ≡ at = omega arith in
    tab_first (λ j. entry_at img (at + 8 * j)) n
    ∙ rw (e, tab_same (λ j. entry_at img (at + 8 * suc j)) (λ j. entry_at img (at + 8 + 8 * j)) n (λ j. shift j), tab_entries img (at + 8) n)
  where
    shift : (j : ℕ) → entry_at img (at + 8 * suc j) ≡ entry_at img (at + 8 + 8 * j)
    shift j = let q : at + 8 * suc j ≡ at + 8 + 8 * j = omega arith in rw q

pub load_start : (z : List Entry) (f : ℕ → Entry) → z ≡ written z 0 f 0
load_start z f = written_none z 0 f

pub load_go : (img : List ℕ) (at : ℕ) (z m : List Entry) (k : ℕ) (x : Entry) → m ≡ written z 0
    (λ j. entry_at img (at + 8 * j)) k → x ≡ entry_at img (at + 8 * k)
    → set m k x ≡ written z 0 (λ j. entry_at img (at + 8 * j)) (k + 1)
load_go img at z m k x e f = rw f (filled_more z (λ j. entry_at img (at + 8 * j)) k m e)

pub loaded : (img : List ℕ) (at n : ℕ) (z : List Entry) (m : Node) (k : ℕ) → m.e ≡ written z 0
    (λ j. entry_at img (at + 8 * j)) k → length z ≡ 256
    → m.count ≡ n → n ≤ 256 → k ≤ n → n ≤ k → entries m ≡ entries_at img at n
unfolding entries
loaded img at n z m k e len c q h g =
    let done : k ≡ n = omega arith in
    rw (c, e, done) (take_written no_entry z (λ j. entry_at img (at + 8 * j)) n (omega arith) ∙ tab_entries img at n)

pub load_is : (g : Geometry) (img : List ℕ) (p l at n : ℕ) (m : Node) → entries m ≡ entries_at img at n
    → at ≡ node_place g p l → n ≡ node_count g img p l → entries m ≡ node_at g img p l
load_is g img p l at n m em ea en = em ∙ node_read g img p l at n ea en

-- ---- the way down
pub takes : (g : Geometry) (img : List ℕ) (p l k at n i : ℕ) (m : Node) (x : Entry) → at ≡ node_place g p l
    → n ≡ node_count g img p l → i ≡ place k (entries_at img at n)
    → x ≡ entry_at img (at + 8 * i) → entries m ≡ entries_at img at n → m.count ≡ n → i ≤ n - 1 → n < 256 → (n ≡ 0 → ⊥)
    → Takes (node_at g img p l) k (record { node = m; at = i; entry = x })
takes g img p l k at n i m x ea en ei ex em cm h few some =
    let q : entries_at img at n ≡ node_at g img p l = node_read g img p l at n ea en in
    record {
      node = em ∙ q;
      at = ei ∙ rw q;
      entry = chosen_read img at n k i x ei h some ex ∙ rw q;
      inside = omega arith;
      few = omega arith;
    }

pub takes_none : (g : Geometry) (img : List ℕ) (p l k at n : ℕ) (m : Node) → at ≡ node_place g p l
    → n ≡ node_count g img p l
    → entries m ≡ entries_at img at n → m.count ≡ n → n ≡ 0
    → Takes (node_at g img p l) k (record { node = m; at = 0; entry = record { key = 0; addr = 0 } })
unfolding place chosen halve
takes_none g img p l k at n m ea en em cm z =
    let q : entries_at img at n ≡ node_at g img p l = node_read g img p l at n ea en in
    let w : node_at g img p l ≡ [] = sym q ∙ entries_none img at n z in
    record {
      node = em ∙ q;
      at = rw w;
      entry = rw w;
      inside = omega arith;
      few = omega arith;
    }

-- ---- put and remove, by where the key stands
module _ (img : List ℕ) (at n k i : ℕ) (m : Node) (b : Bool) (ei : i ≡ ahead k (entries_at img at n))
    (em : entries m ≡ entries_at img at n)
    (eb : b ≡ holds k (entries_at img at n)) where
  abbrev es : List Entry
  es = entries_at img at n

  pub stands_inside : m.count ≡ n → b ≡ true → i < m.count
  stands_inside c q =
      let w = held k es (sym eb ∙ q) in
      let less = (place_is k es w.0).inside in
      rw (c, ei, w.2) (rw entries_length at less)

  pub put_found : (a : ℕ) (r : Node) → entries r ≡ set (entries m) i (record { key = k; addr = a }) → b ≡ true
      → entries r ≡ put_in k a es
  put_found a r f q =
      let w = sym eb ∙ q in
      f ∙ rw (em, ei) (sym (put_over k es (held k es w).0 a w))

  pub put_new : (a : ℕ) (r : Node) → entries r ≡ insert_at i (record { key = k; addr = a }) (entries m) → b ≡ false
      → entries r ≡ put_in k a es
  put_new a r f q = f ∙ rw (em, ei) (sym (put_in_lem k a es (sym eb ∙ q)))

  pub removed_one : (r : Node) → entries r ≡ remove_at i (entries m) → b ≡ true → entries r ≡ remove_in k es
  removed_one r f q =
      let w = sym eb ∙ q in
      f ∙ rw (em, ei) (sym (remove_in_lem k es (held k es w).0 w))

  pub removed_none : b ≡ false → entries m ≡ remove_in k es
  removed_none q = em ∙ sym (remove_out k es (sym eb ∙ q))

pub put_is : (g : Geometry) (img : List ℕ) (p l k a at n : ℕ) (m : Node) → entries m ≡ put_in k a (entries_at img at n)
    → at ≡ node_place g p l → n ≡ node_count g img p l
    → entries m ≡ put_in k a (node_at g img p l)
put_is g img p l k a at n m em ea en = em ∙ rw (node_read g img p l at n ea en)

pub remove_is : (g : Geometry) (img : List ℕ) (p l k at n : ℕ) (m : Node) → entries m ≡ remove_in k (entries_at img at n)
    → at ≡ node_place g p l → n ≡ node_count g img p l
    → entries m ≡ remove_in k (node_at g img p l)
remove_is g img p l k at n m em ea en = em ∙ rw (node_read g img p l at n ea en)

pub ruleset load_laws = (length_mapped, load_start, loaded, load_is, takes, takes_none, stands_inside, put_found, put_new, put_is, removed_one, removed_none, remove_is)
