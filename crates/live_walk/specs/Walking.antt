-- The walk, in the form in which the code has the premises. Assumes nothing.
use Rattle.std.specs.Prelude.{ℕ, zero, suc, ◌+◌, ◌-◌, ◌*◌, ◌<◌, ◌≤◌, not, ◌≡◌, refl, List, [], ◌∷◌, ◌++◌, eqb, length, get_or, set}
use Rattle.std.proofs.Common.{sym, ◌∙◌, length-set, arith, sub-one, ne_eqb}
use Rattle.std.proofs.Math.ListN.{get_or-eq_default}
use Rattle.std.proofs.Math.Seq.{set_out}
use Rattle.std.proofs.Math.Nat.{min-eq_left, min-eq_right}
use Rattle.geometry.specs.declared.Geometry.{Geometry}
use Rattle.geometry.specs.declared.Entry.{Entry}
use Rattle.model.specs.Bytes.{u32_at, node_place, node_count, node_at}
use Rattle.model.specs.Image.{Nodes}
use Rattle.model.specs.Tree.{gather, Place, places}
use Rattle.chip_read.specs.Chip.{entry_at, naming}
use Rattle.chip_read.specs.Node.{node_read, entries_start, entries_turn, entries_past, addr_is}
use Rattle.theory_counts.specs.Tally.{tally_laws}
use Rattle.theory_counts.specs.Blocks.{within_laws}
use Rattle.live_walk.specs.Table.{lower, note_one, note_all, rest, live_in}
use Rattle.live_walk.specs.Lows.{note_length}

pub noted_past : (tbl : List ℕ) (p w : ℕ) → w ≡ p → length tbl ≤ w → 0 ≡ get_or tbl p 0
noted_past tbl p w e h = sym (get_or-eq_default tbl 0 (rw (← e) h))

pub noted_at : (tbl : List ℕ) (p w r : ℕ) → w ≡ p → r ≡ get_or tbl w 0 → r ≡ get_or tbl p 0
noted_at tbl p w r e f = f ∙ rw e

-- one level
pub lower_first : (old l : ℕ) → old ≡ 0 → l ≡ lower old l
unfolding lower
lower_first old l e = sym (rw e refl)

pub lower_new : (old l : ℕ) → (old ≡ 0 → ⊥) → l ≤ old → l ≡ lower old l
unfolding lower
lower_new old l h k = sym (simp (ne_eqb old 0 h) (min-eq_left {n = l} {m = old} k))

pub lower_old : (old l : ℕ) → (old ≡ 0 → ⊥) → old < l → old ≡ lower old l
unfolding lower
lower_old old l h k = sym (simp (ne_eqb old 0 h) (min-eq_right {n = old} {m = l} (omega arith)))

pub note_past : (tbl : List ℕ) (p l w : ℕ) → w ≡ p → length tbl ≤ w → tbl ≡ note_one tbl p l
unfolding note_one
note_past tbl p l w e h = sym (set_out tbl p (lower (get_or tbl p 0) l) (rw (← e) h))

pub note_at : (tbl : List ℕ) (p l w o v n : ℕ) → w ≡ p → o ≡ get_or tbl w 0 → v ≡ lower o l → n ≡ v
    → set tbl w n ≡ note_one tbl p l
unfolding note_one
note_at tbl p l w o v n e eo ev en = rw (en, ev, eo, e)

-- the walk over a node's entries
pub places_named : (r : Nodes) (l : ℕ) (e : Entry) → places r l e ≡ places r l (naming e.addr)
unfolding places
places_named r zero e = refl
places_named r (suc l) e = refl

places_step : (r : Nodes) (l : ℕ) (e : Entry) → (l ≡ 0 → ⊥)
    → places r l e ≡ record { page = e.addr; level = l } ∷ gather (places r (l - 1)) (r e.addr l)
unfolding places
places_step r zero e h = absurd (h refl)
places_step r (suc l) e h = rw sub-one

leaves : (r : Nodes) (es : List Entry) → gather (places r 0) es ≡ []
unfolding gather places
leaves r [] = refl
leaves r (e ∷ es) = leaves r es

pub rest_leaf : (g : Geometry) (img : List ℕ) (l p : ℕ) → l ≡ 1 → places (node_at g img) l
    (naming p) ≡ record { page = p; level = l } ∷ []
rest_leaf g img l p h =
    let f : l - 1 ≡ 0 = omega arith in
    places_step (node_at g img) l (naming p) (omega arith) ∙ rw (f, leaves (node_at g img) (node_at g img p l)) refl

pub rest_start : (g : Geometry) (img : List ℕ) (l p at n : ℕ) → at ≡ node_place g p l → n ≡ node_count g img p l
    → (l ≡ 0 → ⊥)
    → places (node_at g img) l (naming p) ≡ record { page = p; level = l } ∷ rest g img l at n 0
unfolding rest
rest_start g img l p at n ea en h =
    places_step (node_at g img) l (naming p) h ∙ rw (← (node_read g img p l at n ea en), entries_start img at n) refl

pub rest_turn : (g : Geometry) (img : List ℕ) (l at n i : ℕ) → i < n
    → rest g img l at n i ≡ places (node_at g img) (l - 1) (naming (u32_at img (at + 8 * i + 4))) ++ rest g img l at n
    (i + 1)
unfolding rest gather
rest_turn g img l at n i h =
    rw (entries_turn img at n i h, places_named (node_at g img) (l - 1) (entry_at img (at + 8 * i)), addr_is img (at + 8 * i)) refl

pub rest_end : (g : Geometry) (img : List ℕ) (l at n i : ℕ) → n ≤ i → rest g img l at n i ≡ []
unfolding rest gather
rest_end g img l at n i h = rw (entries_past img at n i h) refl

pub note_nil : (tbl : List ℕ) → note_all [] tbl ≡ tbl
unfolding note_all
note_nil tbl = refl

pub note_cons : (x : Place) (xs : List Place) (tbl : List ℕ) → note_all (x ∷ xs) tbl ≡ note_all xs
    (note_one tbl x.page x.level)
unfolding note_all
note_cons x xs tbl = refl

pub note_append : (xs ys : List Place) (tbl : List ℕ) → note_all (xs ++ ys) tbl ≡ note_all ys (note_all xs tbl)
unfolding note_all
note_append [] ys tbl = refl
note_append (x ∷ xs) ys tbl = note_append xs ys (note_one tbl x.page x.level)

-- lengths
pub walk_same : (xs : List Place) (t u : List ℕ) → u ≡ note_all xs t → length u ≡ length t
walk_same xs t u e = rw e (note_length xs t)

pub note_same : (t u : List ℕ) (p l : ℕ) → u ≡ note_one t p l → length u ≡ length t
unfolding note_one
note_same t u p l e = rw e (length-set t p (lower (get_or t p 0) l))

-- counting
pub live_is : (tbl : List ℕ) (p r : ℕ) → r ≡ get_or tbl p 0 → not (eqb r 0) ≡ live_in tbl p
unfolding live_in
live_is tbl p r e = rw e

pub ruleset noted_laws = (noted_past, noted_at, lower_first, lower_new, lower_old, note_past, note_at)

pub ruleset live_laws = (live_is, tally_laws, within_laws)

pub ruleset walk_laws = (noted_laws, walk_same, note_same, live_laws)
