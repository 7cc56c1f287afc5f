-- R7 and R8, in the form in which the code has the premises. Assumes nothing.
use Rattle.std.specs.Prelude.{ℕ, ◌+◌, ◌-◌, ◌*◌, ◌<◌, ◌≤◌, Bool, true, false, ◌≡◌, refl, List}
use Rattle.std.proofs.Math.Path.{sym, ap}
use Rattle.std.proofs.Common.{◌∙◌, arith}
use Rattle.std.proofs.Math.Dec.{leb}
use Rattle.std.proofs.Math.ListN.{length}
use Rattle.std.proofs.Math.Nat.{mul-suc, mul-le-mul_left}
use borrow.Author.Tests.{le-leb, lt-leb}
use Rattle.geometry.specs.declared.Geometry.{Geometry}
use Rattle.geometry.specs.Findings.{Good, Bad}
use Rattle.geometry.specs.Tests.{◌&◌, and_true, and_false}
use Rattle.model.specs.Bytes.{erased}
use Rattle.model.specs.Count.{count, any}
use Rattle.model.specs.Image.{chip_of}
use Rattle.model.specs.Next.{full, in_block}
use Rattle.model.specs.Tree.{places_of, live}
use Rattle.model.specs.Rules.{r7, spare_room, ample, r8}
use Rattle.theory_counts.specs.Least.{any_same}
use Rattle.theory_counts.specs.Lowest.{unless_true, unless_false}
use Rattle.chip_survey.specs.declared.Survey.{Survey}
use Rattle.chip_survey.specs.Survey.{survey_of}
use Rattle.live_walk.specs.Table.{live_in, Marked}
use Rattle.live_walk.specs.Lows.{marked_block, marked_pages}
use Rattle.sound_verdict.specs.Verdict.{clearable, Surveyed}

-- R7
module _ (p : ℕ) (er : ℕ → Bool) (tbl : List ℕ) (free b : ℕ) where
  pub clear_no : (r : Bool) → r ≡ er (p * b + (p - 1)) → r ≡ true → false ≡ clearable p er tbl free b
  unfolding clearable
  clear_no r e q = simp (← e, q, and_false)

  pub clear_is : (r : Bool) (l : ℕ) → r ≡ er (p * b + (p - 1)) → r ≡ false → l ≡ in_block p (live_in tbl) b
      → leb l free ≡ clearable p er tbl free b
  unfolding clearable
  clear_is r l e q el = sym (rw (← e, q, ← el) (and_true (leb l free)))

module _ (g : Geometry) (n : ℕ) (img : List ℕ) (s : Survey) (tbl : List ℕ) (x : Surveyed g n img s (length tbl))
    (m : Marked (chip_of g n img) tbl) where
  abbrev lives : ℕ → Bool
  lives = live (places_of (chip_of g n img))

  abbrev can_clear : ℕ → Bool
  can_clear = clearable g.pages (erased g img) tbl s.erased

  free_is : s.erased ≡ count (g.pages * n) (erased g img)
  unfolding survey_of
  free_is = ap (λ (v : Survey). v.erased) x.survey

  room_is : any n can_clear
      ≡ any n (λ b. full g.pages (erased g img) b & leb (in_block g.pages lives b) s.erased)
  unfolding clearable
  room_is = any_same can_clear (λ b. full g.pages (erased g img) b & leb (in_block g.pages lives b) s.erased) n
      (λ b h. rw (marked_block (chip_of g n img) tbl m g.pages b (room b h)) refl)
    where
      room : (b : ℕ) → b < n → g.pages * b + g.pages ≤ length tbl
      room b h = omega (arith, x.room, mul-suc g.pages b, mul-le-mul_left g.pages h)

  -- a is a block's pages, b the erased ones
  module _ (a b : ℕ) (ea : a ≡ g.pages) (eb : b ≡ s.erased) where
    pub room_many : a ≤ b → Good ≡ r7 g.pages n (chip_of g n img)
    unfolding r7 spare_room
    room_many h = sym (rw (← free_is, le-leb g.pages s.erased (rw (← ea, ← eb) h)) (unless_true 0 Good))

    pub room_some : (r : Bool) → b < a → r ≡ any n can_clear → r ≡ true → Good ≡ r7 g.pages n (chip_of g n img)
    unfolding r7 spare_room
    room_some r h er q =
        sym (rw (← free_is, lt-leb g.pages s.erased (rw (← ea, ← eb) h), ← room_is, ← er, q)
        (unless_true 0 Good))

    pub room_none : (r : Bool) → b < a → r ≡ any n can_clear → r ≡ false → Bad 0 ≡ r7 g.pages n (chip_of g n img)
    unfolding r7 spare_room
    room_none r h er q =
        sym (rw (← free_is, lt-leb g.pages s.erased (rw (← ea, ← eb) h), ← room_is, ← er, q)
        (unless_false 0 Good))

  -- R8: t pages, v of them live, f not; w is a block's pages
  module _ (t v f w : ℕ) (et : t ≡ g.pages * n) (ev : v ≡ count t (live_in tbl)) (ef : f ≡ t - v)
      (ew : w ≡ g.pages) where
    dead_is : f ≡ g.pages * n - count (g.pages * n) lives
    dead_is =
        let a : v ≡ count (g.pages * n) (live_in tbl) = ev ∙ ap (λ m. count m (live_in tbl)) et in
        let b = marked_pages (chip_of g n img) tbl m (g.pages * n) x.room in
        omega (arith, a, b, ef, et)

    pub ample_yes : 2 * w ≤ f → Good ≡ r8 g.pages n (chip_of g n img)
    unfolding r8 ample
    ample_yes h = sym (rw (le-leb (2 * g.pages) (g.pages * n - count (g.pages * n) lives)
        (omega (arith, h, dead_is, ew))) (unless_true 0 Good))

    pub ample_no : f < 2 * w → Bad 0 ≡ r8 g.pages n (chip_of g n img)
    unfolding r8 ample
    ample_no h = sym (rw (lt-leb (2 * g.pages) (g.pages * n - count (g.pages * n) lives)
        (omega (arith, h, dead_is, ew))) (unless_false 0 Good))

pub ruleset room_laws = (clear_no, clear_is, room_many, room_some, room_none, ample_yes, ample_no)
