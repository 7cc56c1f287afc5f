-- What marks change in a table: the levels of the marked pages alone, and the words with them, so that words which told
-- the levels still do; words past the image's stay. Of a move: the path's pages from level a up die whose level is the
-- path's there, and the new page gets a. Assumes nothing.
use Prim.Native.Nat.{ℕ, zero, suc, ◌+◌, ◌<◌, ◌≤◌}
use Rattle.std.proofs.Common.{arith, ◌∙◌, inl, eqb-true}
use Rattle.std.specs.Prelude.{Bool, ◌≡◌, List, [], ◌∷◌, map, ◌⊎◌, eqb, length, get_or, set}
use Rattle.std.proofs.Math.Bool.{true, false}
use Rattle.std.proofs.Math.Path.{refl, sym, ap}
use Rattle.std.proofs.Math.Logic.{inr}
use Rattle.std.proofs.lemmas.List.{length-map}
use Rattle.std.proofs.Math.Seq.{get_or-set_same, get_or-set_other}
use Rattle.std.proofs.lemmas.Bool.{eqb-false}
use Rattle.geometry.specs.declared.Entry.{Entry}
use Rattle.geometry.specs.Tests.{pick}
use Rattle.model.specs.Image.{Nodes}
use Rattle.model.specs.Tree.{Place}
use Rattle.theory_counts.specs.Cases.{by_eq}
use Rattle.theory_lists.specs.All.{Mem}
use Rattle.theory_nodes.specs.PathPlaces.{spot, path_places, path_few}
use Rattle.live_walk.specs.Table.{live_in}
use Rattle.live_words.specs.Words.{Told, Past}
use Rattle.live_words.specs.Filled.{past_none, past_then}
use Rattle.live_beside.specs.Table.{Table, low_in, mark, unmark}

-- ---- a table after marks
pub record Follows (m : ℕ) (t t' : Table) : Type 0 where
  pub long : length t'.levels ≡ length t.levels
  pub told : Told (live_in t.levels) m t.words → Told (live_in t'.levels) m t'.words
  pub past : Past m t.words t'.words

pub follows_none : (m : ℕ) (t : Table) → Follows m t t
follows_none m t = record { long = refl; told = λ h. h; past = past_none m t.words }

pub follows_then : (m : ℕ) (t u v : Table) → Follows m t u → Follows m u v → Follows m t v
follows_then m t u v a b = record {
  long = b.long ∙ a.long;
  told = λ h. b.told (a.told h);
  past = past_then m t.words u.words v.words a.past b.past;
}

-- ---- one mark
module _ (m q a : ℕ) (t : Table) where
  pub mark_same : q < length t.levels → low_in (mark m q a t) q ≡ a
  unfolding mark
  mark_same h = get_or-set_same t.levels q a 0 h

  pub mark_other : (p : ℕ) → (p ≡ q → ⊥) → low_in (mark m q a t) p ≡ low_in t p
  unfolding mark
  mark_other p d = get_or-set_other t.levels q p a 0 d

-- ---- marks taken off
-- the page p with the level `old` dies if it stands on the path with it, else it keeps its level
abbrev pub Off : List Place → ℕ → ℕ → ℕ → Type 0
Off path p old new = (Mem (spot p old) path × (new ≡ 0)) ⊎ ((Mem (spot p old) path → ⊥) × (new ≡ old))

set_zero : (l : List ℕ) (q : ℕ) → get_or (set l q 0) q 0 ≡ 0
set_zero [] q = refl
set_zero (x ∷ l) zero = refl
set_zero (x ∷ l) (suc q) = set_zero l q

module _ (m q j : ℕ) (t : Table) where
  pub unmark_low : (p : ℕ) → Off (spot q j ∷ []) p (low_in t p) (low_in (unmark m q j t) p)
  unfolding unmark mark
  unmark_low p = go (eqb (low_in t q) j) refl
    where
      page_of_lem : spot q j ≡ spot p (low_in t p) → q ≡ p
      page_of_lem e = ap (λ (z : Place). z.page) e

      not_here : (p ≡ q → ⊥) → Mem (spot p (low_in t p)) (spot q j ∷ []) → ⊥
      not_here d (inl e) = d (sym (page_of_lem e))
      not_here d (inr e) = e

      not_low : (low_in t q ≡ j → ⊥) → Mem (spot p (low_in t p)) (spot q j ∷ []) → ⊥
      not_low d (inl e) = d (ap (λ (x : ℕ). get_or t.levels x 0) (page_of_lem e) ∙ sym (ap (λ (z : Place). z.level) e))
      not_low d (inr e) = e

      here : p ≡ q → low_in t q ≡ j → spot q j ≡ spot p (low_in t p)
      here z e = (let w : j ≡ low_in t p = rw z (sym e) in λ i. spot (sym z i) (w i))

      go : (b : Bool) → eqb (low_in t q) j ≡ b → Off (spot q j ∷ []) p (low_in t p) (low_in (pick b (mark m q 0 t) t) p)
      go true e = by_eq p q
          (λ z. inl (inl (here z (eqb-true (low_in t q) j e)), rw z (set_zero t.levels q)))
          (λ d. inr (not_here d, mark_other m q 0 t p d))
      go false e = inr (not_low (eqb-false (low_in t q) j e), refl)

-- ---- a move
-- the pages whose marks a move may change: the new one, and those of the path from level a up
abbrev pub moved_pages : Nodes → ℕ → ℕ → ℕ → Entry → ℕ → List ℕ
moved_pages r k a l e new = new ∷ map (λ x. x.page) (path_places r k a (suc l) e)

module _ (m : ℕ) (r : Nodes) (k a l : ℕ) (e : Entry) (new : ℕ) (t : Table) where
  -- "a move changes at most height + 1 pages' marks"
  pub few_marks : length (moved_pages r k a l e new) ≤ suc l + 1
  few_marks = omega (arith, path_few r k a (suc l) e, length-map (path_places r k a (suc l) e) (λ (x : Place). x.page))
