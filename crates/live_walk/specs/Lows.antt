-- A table of zeros after all live places are noted tells the lowest live levels. Assumes nothing.
use Rattle.std.specs.Prelude.{ℕ, zero, suc, ◌+◌, ◌*◌, ◌<◌, ◌≤◌, min, Bool, true, false, not, ◌≡◌, refl, List, [], ◌∷◌, eqb, length, get_or}
use Rattle.std.proofs.Common.{sym, ◌∙◌, length-set, get_or-set_same, get_or-set_other, arith, ne_eqb, eqb-true}
use Rattle.std.proofs.lemmas.Bool.{eqb-false, not-true}
use Rattle.geometry.specs.declared.Entry.{Entry}
use Rattle.geometry.specs.Tests.{pick}
use Rattle.model.specs.Count.{count}
use Rattle.model.specs.Image.{Nodes, Chip, the_root}
use Rattle.model.specs.Tree.{gather, Place, places, places_of, live, low_level, live_pages}
use Rattle.model.specs.Next.{in_block}
use Rattle.theory_counts.specs.Tally.{count_same}
use Rattle.theory_lists.specs.All.{All, all_append}
use Rattle.live_walk.specs.Table.{lower, note_one, note_all, Zeros, Marked, live_in}

lower_none : (l : ℕ) → lower 0 l ≡ l
unfolding lower
lower_none l = refl

lower_some : (a l : ℕ) → (a ≡ 0 → ⊥) → lower a l ≡ min l a
unfolding lower
lower_some a l h = simp (ne_eqb a 0 h)

pub note_length : (xs : List Place) (tbl : List ℕ) → length (note_all xs tbl) ≡ length tbl
unfolding note_all note_one
note_length [] tbl = refl
note_length (x ∷ xs) tbl = note_length xs (note_one tbl x.page x.level)
    ∙ length-set tbl x.page (lower (get_or tbl x.page 0) x.level)

-- levels are counted from 1
abbrev pub Level : Place → Type 0
Level x = 1 ≤ x.level

-- what a table that says a of page p says after the places are noted
met : ℕ → List Place → ℕ → ℕ
met a xs p = pick (eqb a 0) (low_level xs p) (pick (live xs p) (min a (low_level xs p)) a)

met_none : (a p : ℕ) (t : Bool) → eqb a 0 ≡ t → a ≡ pick t 0 a
met_none a p true e = eqb-true a 0 e
met_none a p false e = refl

-- page p noted at level l, a before
met_here : (a l ll : ℕ) (v t : Bool) → 1 ≤ l → eqb a 0 ≡ t
    → pick (eqb (lower a l) 0) ll (pick v (min (lower a l) ll) (lower a l)) ≡ pick t (pick v (min l ll) l)
    (min a (pick v (min l ll) l))
met_here a l ll v true h e =
    let z : lower a l ≡ l = rw (eqb-true a 0 e) (lower_none l) in
    simp (z, ne_eqb l 0 (omega arith))
met_here a l ll v false h e =
    let some : a ≡ 0 → ⊥ = eqb-false a 0 e in
    let z : lower a l ≡ min l a = lower_some a l some in
    simp (z, ne_eqb (min l a) 0 (omega arith)) (by_live v)
  where
    by_live : (v : Bool) → pick v (min (min l a) ll) (min l a) ≡ min a (pick v (min l ll) l)
    by_live true = omega arith
    by_live false = omega arith

note_meets : (xs : List Place) (tbl : List ℕ) (p : ℕ) → All Level xs → p < length tbl
    → get_or (note_all xs tbl) p 0 ≡ met (get_or tbl p 0) xs p
unfolding note_all note_one met low_level live
note_meets [] tbl p h k = met_none (get_or tbl p 0) p (eqb (get_or tbl p 0) 0) refl
note_meets (x ∷ xs) tbl p h k =
    by_page (eqb x.page p) refl (note_meets xs (note_one tbl x.page x.level) p h.1
    (rw (length-set tbl x.page (lower (get_or tbl x.page 0) x.level)) k))
  where
    by_page : (t : Bool) → eqb x.page p ≡ t → get_or (note_all xs (note_one tbl x.page x.level)) p 0
        ≡ met (get_or (note_one tbl x.page x.level) p 0) xs p
        → get_or (note_all xs (note_one tbl x.page x.level)) p 0
        ≡ pick (eqb (get_or tbl p 0) 0) (pick t (pick (live xs p) (min x.level (low_level xs p)) x.level)
        (low_level xs p))
        (pick (pick t true (live xs p)) (min (get_or tbl p 0)
        (pick t (pick (live xs p) (min x.level (low_level xs p)) x.level) (low_level xs p))) (get_or tbl p 0))
    by_page true e i =
        let w : x.page ≡ p = eqb-true x.page p e in
        let z : get_or (note_one tbl x.page x.level) p 0 ≡ lower (get_or tbl p 0) x.level =
        rw w (get_or-set_same tbl p (lower (get_or tbl p 0) x.level) 0 k) in
        i ∙ rw z (met_here (get_or tbl p 0) x.level (low_level xs p) (live xs p) (eqb (get_or tbl p 0) 0) h.0 refl)
    by_page false e i =
        i ∙ rw (get_or-set_other tbl x.page p (lower (get_or tbl x.page 0) x.level) 0 (λ z. eqb-false x.page p e (sym z))) refl

-- the levels of a tree's places
gather_levels : (f : Entry → List Place) → ((e : Entry) → All Level (f e)) → (es : List Entry) → All Level (gather f es)
unfolding gather
gather_levels f h [] = tt
gather_levels f h (e ∷ es) = all_append Level (f e) (gather f es) (h e) (gather_levels f h es)

pub place_levels : (r : Nodes) (l : ℕ) (e : Entry) → All Level (places r l e)
unfolding places
place_levels r zero e = tt
place_levels r (suc l) e = (omega arith, gather_levels (places r l) (λ x. place_levels r l x) (r e.addr (suc l)))

-- a table of zeros after all places are noted
pub noted_lows : (c : Chip) (tbl : List ℕ) → Zeros tbl (length tbl) → Marked c (note_all (places_of c) tbl)
unfolding met
noted_lows c tbl z = record {
  lows = λ p h.
      let k : p < length tbl = rw (← (note_length (places_of c) tbl)) h in
      note_meets (places_of c) tbl p (place_levels c.nodes (suc c.level) (the_root c)) k ∙ rw (z.zeros p k) refl;
}

-- live pages have a level
low_live : (xs : List Place) (p : ℕ) → All Level xs → not (eqb (low_level xs p) 0) ≡ live xs p
unfolding low_level live
low_live [] p h = refl
low_live (x ∷ xs) p h = by_page (eqb x.page p) (live xs p) refl (low_live xs p h.1)
  where
    by_page : (t v : Bool) → live xs p ≡ v → not (eqb (low_level xs p) 0) ≡ live xs p
        → not (eqb (pick t (pick v (min x.level (low_level xs p)) x.level) (low_level xs p)) 0) ≡ pick t true v
    by_page true true e i =
        let some : low_level xs p ≡ 0 → ⊥ = eqb-false (low_level xs p) 0 (not-true (eqb (low_level xs p) 0) (i ∙ e)) in
        simp (ne_eqb (min x.level (low_level xs p)) 0 (omega (arith, h.0)))
    by_page true false e i = simp (ne_eqb x.level 0 (omega (arith, h.0)))
    by_page false v e i = i ∙ e

-- what the table says of live pages
module _ (c : Chip) (tbl : List ℕ) (m : Marked c tbl) where
  pub marked_live : (p : ℕ) → p < length tbl → live_in tbl p ≡ live (places_of c) p
  unfolding live_in
  marked_live p h = rw (m.lows p h) (low_live (places_of c) p (place_levels c.nodes (suc c.level) (the_root c)))

  pub marked_pages : (t : ℕ) → t ≤ length tbl → count t (live_in tbl) ≡ live_pages t c
  marked_pages t h = count_same (live_in tbl) (live (places_of c)) t (λ i k. marked_live i (omega arith))

  pub marked_block : (p b : ℕ) → p * b + p ≤ length tbl → in_block p (live_in tbl) b ≡ in_block p (live (places_of c)) b
  marked_block p b h = count_same (λ j. live_in tbl (p * b + j)) (λ j. live (places_of c) (p * b + j)) p (λ j k. marked_live (p * b + j) (omega arith))
