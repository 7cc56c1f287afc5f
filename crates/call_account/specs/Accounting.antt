-- Laws of the account. Assumes nothing.
use Rattle.std.specs.Prelude.{ℕ, ◌+◌, ◌-◌, ◌*◌, ◌/◌, ◌<◌, ◌≤◌, Bool, true, false, ◌≡◌, List, ltb, leb, length, take, replicate}
use Rattle.std.proofs.Math.Path.{refl, sym}
use Rattle.std.proofs.Common.{ap, ◌∙◌, ext_get_or, mul-le-mul_right, arith}
use Rattle.std.proofs.lemmas.List.{length-replicate, get_or-replicate}
use Rattle.std.proofs.Math.Nat.{zero-add}
use borrow.Author.Tests.{lt-ltb, le-ltb, lt-leb, le-leb, ltb-true, ltb-false}
use Rattle.geometry.specs.declared.Geometry.{Geometry}
use Rattle.geometry.specs.Tests.{pick, ◌&◌, and_true, and_false, and_none}
use Rattle.model.specs.Calls.{gives, roomless}
use Rattle.model.specs.Image.{Chip}
use Rattle.model.specs.Tree.{places_of, live}
use Rattle.model.specs.Stores.{Store, apply_all, programs, erases}
use Rattle.chip_read.specs.Chip.{chip_with}
use Rattle.live_walk.specs.Table.{live_in, note_all, Zeros, Marked}
use Rattle.live_walk.specs.Lows.{marked_live}
use Rattle.live_words.specs.Words.{words_of, filled, all_ones}
use Rattle.live_words.specs.Filled.{filled_alike}
use Rattle.open_record.specs.declared.Opened.{Opened}
use Rattle.open_record.specs.Opened.{opened_in, level_by}
use Rattle.live_beside.specs.Update.{returned, words_by, record_made}
use Rattle.live_beside.specs.Calls.{no_levels}
use Rattle.open_renew.specs.Recording.{record_at}
use Rattle.open_renew.specs.Recorded.{made_at}
use Rattle.tree_root.specs.declared.Own.{Own}
use Rattle.tree_root.specs.Owns.{crest_of}
use Rattle.call_answers.specs.declared.Answer.{Answer}
use Rattle.call_answers.specs.declared.Answer.TheVariants.{Done, Stopped}
use Rattle.call_answers.specs.Answers.{told}
use Rattle.chip_store.specs.declared.Budget.{Budget}
use Rattle.chip_store.specs.Careful.{made_of}
use Rattle.chip_store.specs.Run.{Ran}
use Rattle.call_account.specs.Account.{fresh_of, answer_by, levels_by, left_record, Leaves}

pub answer_stopped : (b : Budget) → b.stopped ≡ true → Stopped b.programmed b.erased ≡ answer_by b
unfolding answer_by
answer_stopped b e = rw e

pub answer_done : (b : Budget) → b.stopped ≡ false → Done 0 b.programmed b.erased ≡ answer_by b
unfolding answer_by
answer_done b e = rw e

pub needed_none : (p k : ℕ) → p ≡ 0 → k ≡ 2 * p - 1 + k
needed_none p k e = omega arith

pub room_one : (g : Geometry) (n e k : ℕ) (lent : List ℕ) → k ≤ 1
    → false ≡ (ltb 1 k & roomless g e k & roomless g (g.pages * n - all_ones g n lent) k)
room_one g n e k lent h = sym (rw (le-ltb 1 k h, and_false, and_false))

module _ (g : Geometry) (n e k w : ℕ) (lent : List ℕ) (ew : w ≡ 2 * g.pages - 1 + k) where
  pub room_erased : w ≤ e → false ≡ (ltb 1 k & roomless g e k & roomless g (g.pages * n - all_ones g n lent) k)
  unfolding roomless
  room_erased h = sym (rw (← ew, le-ltb e w h, and_none, and_false))

  pub room_words : (p l : ℕ) → p ≡ g.pages * n → l ≡ all_ones g n lent → 1 < k → e < w
      → ltb (p - l) w ≡ (ltb 1 k & roomless g e k & roomless g (g.pages * n - all_ones g n lent) k)
  unfolding roomless
  room_words p l ep el s h = sym (rw (← ew, lt-ltb 1 k s, lt-ltb e w h, and_true, and_true, ← el, ← ep))

-- ---- the lent words
pub fill_is : (g : Geometry) (n m : ℕ) (tbl x y : List ℕ) → y ≡ filled (live_in tbl) m x → m ≡ words_of g n
    → y ≡ filled (live_in tbl) (words_of g n) x
fill_is g n m tbl x y e em = e ∙ rw em

words_pages : (p n : ℕ) → p / 32 * n * 32 ≤ p * n
words_pages p n = let h : p / 32 * 32 ≤ p = omega arith in let w = mul-le-mul_right n h in omega (arith, w)

-- a table of every page tells of every word
pub by_table_lem : (g : Geometry) (n : ℕ) (c : Chip) (tbl x : List ℕ) → Marked c tbl → g.pages * n ≤ length tbl
    → filled (live_in tbl) (words_of g n) x ≡ filled (live (places_of c)) (words_of g n) x
by_table_lem g n c tbl x m h =
    let w : g.pages / 32 * n * 32 ≤ g.pages * n = words_pages g.pages n in
    filled_alike (live_in tbl) (live (places_of c)) (words_of g n) (λ p k. marked_live c tbl m p (omega (arith, w, h))) x

pub tell_is : (g : Geometry) (n l : ℕ) (o : Opened) (img x y : List ℕ)
    → y ≡ filled (live (take 8388608 (places_of (chip_with g img l o.root)))) (words_of g n) x
    → l ≡ level_by g o → y ≡ words_by g n o img x
unfolding words_by
tell_is g n l o img x y e el = e ∙ ap (λ (z : ℕ). filled (live (take 8388608 (places_of (chip_with g img z o.root)))) (words_of g n) x) el

-- a table of zeros
zeros_are : (n : ℕ) (tbl : List ℕ) → length tbl ≡ n → Zeros tbl n → tbl ≡ replicate n 0
zeros_are n tbl e z = ext_get_or 0 tbl (replicate n 0) (e ∙ sym (length-replicate n 0)) (λ i h. z.zeros i (rw e at h)
    ∙ sym (get_or-replicate n i 0 0 (rw e at h)))

no_levels_lem : (t tbl : List ℕ) → Zeros tbl (length t) → length tbl ≡ length t → length t ≡ 65536 → tbl ≡ no_levels
unfolding no_levels
no_levels_lem t tbl z e h = zeros_are 65536 tbl (e ∙ h) (rw h at z)

pub levels_is : (g : Geometry) (l : ℕ) (o : Opened) (img t u tbl : List ℕ)
    → tbl ≡ note_all (take 8388608 (places_of (chip_with g img l o.root))) u → l ≡ level_by g o
    → Zeros u (length t) → length u ≡ length t → length t ≡ 65536 → tbl ≡ levels_by g img o
unfolding levels_by
levels_is g l o img t u tbl e el z eu h =
    e ∙ (λ j. note_all (take 8388608 (places_of (chip_with g img (el j) o.root))) (no_levels_lem t u z eu h j))

pub refuses : (g : Geometry) (n : ℕ) (o : Opened) (a : Answer) (img x y : List ℕ) → y ≡ words_by g n o img x
    → returned (told a img) o y ≡ returned (told a img) o (words_by g n o img x)
refuses g n o a img x y e = ap (λ (z : List ℕ). returned (told a img) o z) e

-- ---- the record
module _ (g : Geometry) (n m : ℕ) (own : Own) (o r : Opened) (img : List ℕ) where
  pub left_stopped : r ≡ opened_in g n img → own.budget.stopped ≡ true → r ≡ left_record g n own o m img
  unfolding left_record
  left_stopped e t = e ∙ rw t

  pub left_made : r ≡ record_at g n o m own.page own.level img → own.budget.stopped ≡ false
      → r ≡ left_record g n own o m img
  unfolding left_record
  left_made e t = e ∙ made_at g n o m (crest_of own) img ∙ rw t

  pub left_low_lem : r ≡ record_at g n o m own.page own.level img → own.level < 255 → r.height < 256
  unfolding record_at record_made
  left_low_lem e h = rw (ap (λ (y : Opened). y.height) e) (omega arith)

pub leaves : (g : Geometry) (n m : ℕ) (own : Own) (o t : Opened) (a : Answer) (img mid new : List ℕ)
    → new ≡ words_by g n t img mid → t ≡ left_record g n own o m img
    → a ≡ answer_by own.budget → Leaves g n own o m img (record { answer = a; opened = t }) mid new
leaves g n m own o t a img mid new ew et ea =
    record { answer = ea; opened = et; words = ew ∙ ap (λ (y : Opened). words_by g n y img mid) et }

-- ---- the outcome of a run of all stores from a fresh allowance
module _ (g : Geometry) (ss : List Store) (a : ℕ) (r : Budget) (i o : List ℕ) (run : Ran g ss (fresh_of a) r i o) where
  -- all were made
  abbrev all : Bool
  all = leb (length ss) (length (made_of g ss a i))

  pub halted_is : r.stopped ≡ true → all ≡ false
  halted_is q = lt-leb (length ss) (length (made_of g ss a i)) (ltb-true _ _ (sym run.stopped ∙ q))

  pub whole_is : r.stopped ≡ false → all ≡ true
  whole_is q = le-leb (length ss) (length (made_of g ss a i)) (ltb-false _ _ (sym run.stopped ∙ q))

  pub told_made : told (answer_by r) o ≡ gives (pick all 0 7) 0 (programs (made_of g ss a i)) (erases (made_of g ss a i))
      (apply_all g (made_of g ss a i) i)
  unfolding answer_by
  told_made = go r.stopped refl
    where
      programmed : r.programmed ≡ programs (made_of g ss a i)
      programmed = run.programmed ∙ zero-add (programs (made_of g ss a i))

      erased : r.erased ≡ erases (made_of g ss a i)
      erased = run.erased ∙ zero-add (erases (made_of g ss a i))

      go : (t : Bool) → r.stopped ≡ t → told (pick r.stopped (Stopped r.programmed r.erased)
          (Done 0 r.programmed r.erased)) o
          ≡ gives (pick all 0 7) 0 (programs (made_of g ss a i)) (erases (made_of g ss a i))
          (apply_all g (made_of g ss a i) i)
      go true e = rw (halted_is e, e, programmed, erased, run.image)
      go false e = rw (whole_is e, e, programmed, erased, run.image)

pub ruleset account_laws = (answer_stopped, answer_done, needed_none, room_one, room_erased, room_words, fill_is, tell_is, levels_is, refuses, left_stopped, left_made, left_low_lem, leaves)
