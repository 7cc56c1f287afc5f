-- The live levels that R5 notes, in the form in which the code has the premises. Assumes nothing.
use Rattle.std.specs.Prelude.{ℕ, ◌+◌, ◌-◌, ◌*◌, ◌<◌, ◌≤◌, ◌≡◌, List, [], ◌∷◌, ◌++◌, length}
use Rattle.std.proofs.Math.Path.{refl, sym}
use Rattle.std.proofs.Common.{ap, ◌∙◌, arith, add-one}
use Rattle.geometry.specs.declared.Geometry.{Geometry}
use Rattle.geometry.specs.Findings.{Finding, Good, Bad}
use Rattle.model.specs.Bytes.{u32_at, node_place, node_count, node_at}
use Rattle.model.specs.Image.{Chip}
use Rattle.model.specs.Tree.{gather, Place, places, places_of}
use Rattle.chip_read.specs.Chip.{entry_at, naming, chip_with}
use Rattle.chip_read.specs.Node.{entries_turn, entries_past, addr_is}
use Rattle.theory_counts.specs.Lowest.{bad_good}
use Rattle.live_walk.specs.Table.{note_one, note_all, rest, Zeros}
use Rattle.live_walk.specs.Lows.{noted_lows}
use Rattle.live_walk.specs.Walking.{places_named, rest_leaf, rest_start, note_nil, note_cons, note_append, note_same}
use Rattle.sound_nodes.specs.Noted.{left, places_at, Noted, Marks}

pub noted_bad : (q : ℕ) (t u : List ℕ) (xs : List Place) → Noted (Bad q) t u xs
noted_bad q t u xs = record { noted = λ e. absurd (bad_good q e) }

module _ (g : Geometry) (img : List ℕ) (l at n : ℕ) where
  left_turn : (i : ℕ) → i < n → left g img l at n i ≡ places_at g img l at i ++ left g img l at n (i + 1)
  unfolding left places_at gather
  left_turn i h = rw (entries_turn img at n i h, places_named (node_at g img) l (entry_at img (at + 8 * i)), addr_is img (at + 8 * i)) refl

  left_past : (i : ℕ) → n ≤ i → left g img l at n i ≡ []
  unfolding left gather
  left_past i h = rw (entries_past img at n i h) refl

  pub left_go : (i : ℕ) (w t u : List ℕ) (v : Finding) → w ≡ note_all (left g img l at n i) t
      → Noted v t u (places_at g img l at i) → v ≡ Good → i < n
      → w ≡ note_all (left g img l at n (i + 1)) u
  left_go i w t u v inv x e h =
      inv ∙ ap (λ (xs : List Place). note_all xs t) (left_turn i h)
      ∙ note_append (places_at g img l at i) (left g img l at n (i + 1)) t
      ∙ ap (λ (y : List ℕ). note_all (left g img l at n (i + 1)) y) (sym (x.noted e))

  pub left_end : (i : ℕ) (t u : List ℕ) (v : Finding) → note_all (left g img l at n 0) t ≡ note_all (left g img l at n i)
      u → n ≤ i → Noted v t u (left g img l at n 0)
  left_end i t u v e h = record {
    noted = λ z. sym (e ∙ ap (λ (xs : List Place). note_all xs u) (left_past i h)
        ∙ note_nil u);
  }

pub left_leaves : (g : Geometry) (img : List ℕ) (l at n : ℕ) (t u : List ℕ) (v : Finding)
    → Noted v t u (left g img 1 at n 0) → l ≡ 1 → Noted v t u (left g img l at n 0)
left_leaves g img l at n t u v x e = rw e x

pub noted_at : (g : Geometry) (img : List ℕ) (l at i a : ℕ) (t u : List ℕ) (v : Finding)
    → a ≡ u32_at img (at + 8 * i + 4) → Noted v t u (places (node_at g img) l (naming a))
    → Noted v t u (places_at g img l at i)
unfolding places_at
noted_at g img l at i a t u v ea x = rw (← ea) x

-- a node
module _ (g : Geometry) (img : List ℕ) (l p : ℕ) where
  pub node_none : (t : List ℕ) (v : Finding) → l ≡ 0 → Noted v t t (places (node_at g img) l (naming p))
  unfolding places note_all
  node_none t v e = rw e (record { noted = λ z. refl })

  pub node_leaf : (t u : List ℕ) (v : Finding) → u ≡ note_one t p l → l ≡ 1
      → Noted v t u (places (node_at g img) l (naming p))
  unfolding note_all
  node_leaf t u v eu e = record { noted = λ z. eu ∙ sym (rw (rest_leaf g img l p e) refl) }

  node_under : (at n : ℕ) → at ≡ node_place g p l → n ≡ node_count g img p l → (l ≡ 0 → ⊥)
      → places (node_at g img) l (naming p) ≡ record { page = p; level = l } ∷ left g img (l - 1) at n 0
  unfolding left rest
  node_under at n ea en h = rest_start g img l p at n ea en h

  pub node_noted : (at n : ℕ) (t u w : List ℕ) (v : Finding) → Noted v u w (left g img (l - 1) at n 0)
      → u ≡ note_one t p l → at ≡ node_place g p l → n ≡ node_count g img p l → (l ≡ 0 → ⊥)
      → Noted v t w (places (node_at g img) l (naming p))
  node_noted at n t u w v x eu ea en h = record {
    noted = λ z. x.noted z ∙ ap (λ (y : List ℕ). note_all (left g img (l - 1) at n 0) y) eu
        ∙ sym (ap (λ (xs : List Place). note_all xs t) (node_under at n ea en h)
        ∙ note_cons (record { page = p; level = l }) (left g img (l - 1) at n 0) t);
  }

-- the root
pub root_noted : (g : Geometry) (img : List ℕ) (l p at n : ℕ) (t u w : List ℕ) (v : Finding)
    → Noted v u w (left g img l at n 0) → u ≡ note_one t p (l + 1)
    → at ≡ node_place g p (l + 1) → n ≡ node_count g img p (l + 1) → Noted v t w (places_of (chip_with g img l p))
root_noted g img l p at n t u w v x eu ea en =
    let e : l + 1 - 1 ≡ l = omega arith in
    rw (← (add-one l)) (node_noted g img (l + 1) p at n t u w v (rw e x) eu ea en (omega arith))

pub root_marks : (c : Chip) (t₀ t u : List ℕ) (v : Finding) → Noted v t u (places_of c) → Zeros t (length t₀)
    → length t ≡ length t₀ → Marks v c u
root_marks c t₀ t u v x z h = record { marks = λ e. rw (x.noted e) (noted_lows c t (rw h z)) }

-- the table stays as long as it was
pub note_kept : (t u : List ℕ) (p l : ℕ) → u ≡ note_one t p l → length u ≡ length t
note_kept t u p l e = note_same t u p l e

pub note_then : (t u w : List ℕ) (p l : ℕ) → u ≡ note_one t p l → length w ≡ length u → length w ≡ length t
note_then t u w p l e f = f ∙ note_same t u p l e

pub same_call : (t₀ t u : List ℕ) → length t ≡ length t₀ → length u ≡ length t → length u ≡ length t₀
same_call t₀ t u e f = f ∙ e

pub ruleset level_laws = (noted_bad, noted_at, left_go, left_end, left_leaves, node_none, node_leaf, node_noted, root_noted, root_marks, note_kept, note_then, same_call)
