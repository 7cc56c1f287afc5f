-- Searching the entries of a node, in the form in which the code has the premises. Assumes nothing.
use Rattle.std.specs.Prelude.{ℕ, suc, ◌+◌, ◌-◌, ◌*◌, ◌/◌, ◌<◌, ◌≤◌, Bool, true, false, ◌≡◌, refl, List, eqb, length, Some, None, Option}
use Rattle.std.proofs.Math.Path.{sym, ap}
use Rattle.std.proofs.Common.{◌∙◌, add-one, lt-ltb, le-ltb, ne_eqb}
use native.Mathlib.Omega.{arith}
use Rattle.geometry.specs.declared.Geometry.{Geometry}
use Rattle.geometry.specs.declared.Entry.{Entry}
use Rattle.model.specs.Bytes.{u32_at, entries_at, node_place, node_count, node_at}
use Rattle.model.specs.Tree.{halve, place, chosen, find_in}
use Rattle.model.specs.Halving.{place_is, halve_left, halve_right, halve_done, halve_steps}
use Rattle.chip_read.specs.Chip.{entry_at}
use Rattle.chip_read.specs.Node.{node_read, entries_length, entries_none, key_is, addr_is}
use Rattle.tree_search.specs.Search.{ahead, holds}
use Rattle.tree_search.specs.Places.{ahead_some, holds_some, held, find_by, key_get, chosen_read, chosen_none, chosen_some}

-- the place of the entry that descent takes: lo and hi bound what is left to halve
module _ (img : List ℕ) (at n k : ℕ) where
  pub place_start : place k (entries_at img at n) ≡ halve (n - 0) k (entries_at img at n) 0 n
  unfolding place
  place_start = let q : n - 0 ≡ n = omega arith in rw (entries_length img at n, q)

  module _ (lo hi : ℕ) (inv : place k (entries_at img at n) ≡ halve (hi - lo) k (entries_at img at n) lo hi) where
    one_less : lo + 1 < hi → place k (entries_at img at n) ≡ halve (suc (hi - lo - 1)) k (entries_at img at n) lo hi
    one_less h = let q : hi - lo ≡ suc (hi - lo - 1) = omega arith in
        inv ∙ ap (λ (s : ℕ). halve s k (entries_at img at n) lo hi) q

    pub place_left : (b : ℕ) → b ≡ u32_at img (at + 8 * (lo + (hi - lo) / 2)) → lo + 1 < hi → hi ≤ n → k < b
        → place k (entries_at img at n) ≡ halve (lo + (hi - lo) / 2 - lo) k (entries_at img at n) lo (lo + (hi - lo) / 2)
    place_left b e h m g =
        one_less h
        ∙ halve_left k (entries_at img at n) (hi - lo - 1) lo hi (rw (key_get img at n (lo + (hi - lo) / 2) (omega arith), ← e) g)
        ∙ halve_steps k (entries_at img at n) (hi - lo - 1) (lo + (hi - lo) / 2 - lo) lo (lo + (hi - lo) / 2) (omega arith) (omega arith)

    pub place_right : (b : ℕ) → b ≡ u32_at img (at + 8 * (lo + (hi - lo) / 2)) → lo + 1 < hi → hi ≤ n → b ≤ k
        → place k (entries_at img at n) ≡ halve (hi - (lo + (hi - lo) / 2)) k (entries_at img at n)
        (lo + (hi - lo) / 2) hi
    place_right b e h m g =
        one_less h
        ∙ halve_right k (entries_at img at n) (hi - lo - 1) lo hi (rw (key_get img at n (lo + (hi - lo) / 2) (omega arith), ← e) g)
        ∙ halve_steps k (entries_at img at n) (hi - lo - 1) (hi - (lo + (hi - lo) / 2)) (lo + (hi - lo) / 2) hi (omega arith) (omega arith)

    pub place_end : hi ≤ lo + 1 → lo ≡ place k (entries_at img at n)
    place_end h = sym (inv ∙ halve_done k (entries_at img at n) (hi - lo) lo hi h)

-- where a key stands or enters
module _ (img : List ℕ) (at n k : ℕ) where
  pub ahead_none : n ≡ 0 → 0 ≡ ahead k (entries_at img at n)
  unfolding ahead
  ahead_none z = rw (entries_none img at n z)

  pub holds_none : n ≡ 0 → false ≡ holds k (entries_at img at n)
  unfolding holds
  holds_none z = rw (entries_none img at n z)

  module _ (i b : ℕ) (ei : i ≡ place k (entries_at img at n)) (h : i ≤ n - 1) (some-n : n ≡ 0 → ⊥) (eb : b ≡ u32_at img
      (at + 8 * i)) where
    key_read : (chosen k (entries_at img at n)).key ≡ b
    key_read = ap (λ (x : Entry). x.key) (sym (chosen_read img at n k i (entry_at img (at + 8 * i)) ei h some-n refl))
        ∙ key_is img (at + 8 * i) ∙ sym eb

    full : 0 < length (entries_at img at n)
    full = rw (entries_length img at n) (omega arith)

    pub ahead_after : b < k → i + 1 ≡ ahead k (entries_at img at n)
    ahead_after g = sym (ahead_some k (entries_at img at n) full ∙ rw (key_read, lt-ltb _ _ g, ← ei) (sym (add-one i)))

    pub ahead_here : k ≤ b → i ≡ ahead k (entries_at img at n)
    ahead_here g = sym (ahead_some k (entries_at img at n) full ∙ rw (key_read, le-ltb _ _ g) (sym ei))

    pub holds_is : eqb b k ≡ holds k (entries_at img at n)
    holds_is = sym (holds_some k (entries_at img at n) full ∙ rw key_read)

    pub holds_less : b < k → false ≡ holds k (entries_at img at n)
    holds_less g = sym (ne_eqb b k (λ q. absurd (omega (arith, g, q)))) ∙ holds_is

  -- what stands under a key
  module _ (i : ℕ) (b : Bool) (ei : i ≡ ahead k (entries_at img at n)) (eb : b ≡ holds k (entries_at img at n)) where
    pub find_hit : (a : ℕ) → a ≡ u32_at img (at + 8 * i + 4) → b ≡ true → Some a ≡ find_in k (entries_at img at n)
    find_hit a ea q =
        let w = held k (entries_at img at n) (sym eb ∙ q) in
        let less : place k (entries_at img at n) < n =
        rw entries_length at (place_is k (entries_at img at n) w.0).inside in
        let z = ei ∙ w.2 in
        ap Some (ea ∙ sym (addr_is img (at + 8 * i)) ∙ ap (λ (x : Entry). x.addr)
        (chosen_read img at n k i (entry_at img (at + 8 * i)) z (omega (arith, less, z)) (λ o. absurd (omega (arith, less, o))) refl))
        ∙ sym (find_by k (entries_at img at n) ∙ rw (← eb, q))

    pub find_miss : b ≡ false → None ≡ find_in k (entries_at img at n)
    find_miss q = sym (find_by k (entries_at img at n) ∙ rw (← eb, q))

pub find_node : (g : Geometry) (img : List ℕ) (p l at n k : ℕ) (r : Option ℕ) → n ≡ node_count g img p l
    → at ≡ node_place g p l
    → r ≡ find_in k (entries_at img at n) → r ≡ find_in k (node_at g img p l)
find_node g img p l at n k r en ea er = er ∙ rw (node_read g img p l at n ea en)

pub ruleset search_laws = (place_start, place_left, place_right, place_end, ahead_none, ahead_after, ahead_here, holds_none, holds_is, holds_less, find_hit, find_miss, find_node, chosen_none, chosen_some)
