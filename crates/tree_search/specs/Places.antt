-- What the places are good for. Assumes nothing.
use Rattle.std.specs.Prelude.{ℕ, suc, ◌+◌, ◌-◌, ◌*◌, ◌<◌, ◌≤◌, true, ◌≡◌, refl, List, [], ◌∷◌, eqb, ltb, length, None, Some}
use Rattle.std.proofs.lemmas.Bool.{false≢true}
use Rattle.std.proofs.Common.{sym, ap, ◌∙◌, arith, eqb-true, le-ltb}
use Rattle.geometry.specs.declared.Geometry.{Geometry}
use Rattle.geometry.specs.declared.Entry.{Entry}
use Rattle.geometry.specs.Tests.{pick}
use Rattle.model.specs.Bytes.{u32_at, entries_at, node_place, node_count, node_at}
use Rattle.model.specs.Tree.{entry_of, place, chosen, find, find_in}
use Rattle.chip_read.specs.Chip.{entry_at}
use Rattle.chip_read.specs.Node.{node_is, entries_none, entries_at_lem, key_is}
use Rattle.tree_search.specs.Search.{ahead, holds}

-- a node with an entry in it
pub ahead_some : (k : ℕ) (es : List Entry) → 0 < length es → ahead k es ≡ pick (ltb (chosen k es).key k)
    (suc (place k es)) (place k es)
unfolding ahead
ahead_some k [] n = absurd (omega arith)
ahead_some k (e ∷ es) n = refl

pub holds_some : (k : ℕ) (es : List Entry) → 0 < length es → holds k es ≡ eqb (chosen k es).key k
unfolding holds
holds_some k [] n = absurd (omega arith)
holds_some k (e ∷ es) n = refl

-- a node that holds the key has it at the place that descent takes
pub held : (k : ℕ) (es : List Entry) → holds k es ≡ true → (0 < length es) × ((chosen k es).key ≡ k) ×
    (ahead k es ≡ place k es)
unfolding holds ahead
held k [] q = absurd (false≢true q)
held k (e ∷ es) q =
    let w = eqb-true (chosen k (e ∷ es)).key k q in
    (omega arith, w, rw (le-ltb (chosen k (e ∷ es)).key k (omega (arith, w))))

pub find_by : (k : ℕ) (es : List Entry) → find_in k es ≡ pick (holds k es) (Some (chosen k es).addr) None
unfolding find_in find holds
find_by k [] = refl
find_by k (e ∷ es) = refl

-- a key of n entries from byte `at`, read there
pub key_get : (img : List ℕ) (at n i : ℕ) → i < n → (entry_of (entries_at img at n) i).key ≡ u32_at img (at + 8 * i)
key_get img at n i h = ap (λ (x : Entry). x.key) (entries_at_lem img at n i h) ∙ key_is img (at + 8 * i)

-- the entry that descent takes of n from byte `at`, read there
pub chosen_read : (img : List ℕ) (at n k i : ℕ) (e : Entry) → i ≡ place k (entries_at img at n) → i ≤ n - 1 → (n ≡ 0 → ⊥)
    → e ≡ entry_at img (at + 8 * i)
    → e ≡ chosen k (entries_at img at n)
unfolding chosen
chosen_read img at n k i e ei h full ee = ee ∙ sym (entries_at_lem img at n i (omega arith)) ∙ rw ei refl

pub chosen_none : (g : Geometry) (img : List ℕ) (p l n k : ℕ) → n ≡ node_count g img p l → n ≡ 0
    → record { key = 0; addr = 0 } ≡ chosen k (node_at g img p l)
unfolding chosen
chosen_none g img p l n k e z = sym (rw (node_is g img p l, entries_none img (node_place g p l) (node_count g img p l) (sym e ∙ z)) refl)

pub chosen_some : (g : Geometry) (img : List ℕ) (p l at n k i : ℕ) (e : Entry) → n ≡ node_count g img p l
    → at ≡ node_place g p l
    → i ≡ place k (entries_at img at n) → i ≤ n - 1 → (n ≡ 0 → ⊥) → e ≡ entry_at img (at + 8 * i)
    → e ≡ chosen k (node_at g img p l)
chosen_some g img p l at n k i e en ea ei h full ee =
    chosen_read img at n k i e ei h full ee ∙ rw (node_is g img p l, ← en, ← ea) refl
