-- A call with lent words, judged first, in the form in which the code has the premises: `rest` is what a sound image
-- gives. Assumes nothing.
use Rattle.std.specs.Prelude.{ℕ, ◌*◌, ◌<◌, ◌≤◌, Bool, ◌≡◌, leb, length}
use Rattle.std.proofs.Math.Bool.{true, false}
use Rattle.std.proofs.Math.Path.{refl, sym}
use Rattle.std.proofs.Common.{◌∙◌, arith}
use mathlib.Core.List.{List}
use borrow.Author.Tests.{lt-leb, le-leb}
use Rattle.geometry.specs.declared.Geometry.{Geometry}
use Rattle.geometry.specs.Findings.{broken_at}
use Rattle.geometry.specs.Shape.{Known, is_small, is_large}
use Rattle.geometry.proofs.Shape.{shape}
use Rattle.geometry.specs.Tests.{pick}
use Rattle.model.specs.Image.{chip_of, blocks_of, good_length}
use Rattle.model.specs.Tree.{places_of, live}
use Rattle.model.specs.Rules.{verdict}
use Rattle.model.specs.Calls.{Outcome, refused, damaged, by_verdict, judged, judged_call, insert, delete}
use Rattle.chip_read.specs.Chip.{good_blocks}
use Rattle.chip_read.specs.Blocks.{some_blocks, good_most}
use Rattle.call_judged.specs.Judging.{judged_length, judged_blocks}
use Rattle.live_walk.specs.Table.{live_in, Marked}
use Rattle.live_words.specs.Words.{block_words, words_of, filled}
use Rattle.live_words.specs.Filled.{filled_told}
use Rattle.live_words.specs.Live.{reply, leaves_words, with_words, insert_live, delete_live}
use Rattle.live_beside.specs.Table.{table_in, Right}
use Rattle.call_account.specs.Accounting.{by_table_lem}

module _ (g : Geometry) (img old : List ℕ) (rest : Outcome) (n : ℕ) (en : n ≡ good_blocks g img) where
  -- LENGTH, for the image
  pub lent_length : n ≡ 0 → reply (refused 1 img) old ≡ with_words g img old (judged_call g img rest)
  unfolding with_words leaves_words
  lent_length z = sym (rw (← (judged_length g img (refused 1 img) (damaged img) rest n en z)) (same (leb (words_of g (blocks_of g img)) (length old))))
    where
      same : (t : Bool) → pick t (reply (refused 1 img) old) (reply (refused 1 img) old) ≡ reply (refused 1 img) old
      same true = refl
      same false = refl

  module _ (some : n ≡ 0 → ⊥) where
    -- LENGTH, for the words
    pub lent_short : length old < words_of g n → reply (refused 1 img) old ≡ with_words g img old (judged_call g img rest)
    unfolding with_words
    lent_short h = sym (rw (← (some_blocks g img n en some), lt-leb (words_of g n) (length old) h))

    -- DAMAGED
    pub lent_broken : (rule page : ℕ) → words_of g n ≤ length old → verdict g n img ≡ broken_at rule page
        → reply (damaged img rule page) old ≡ with_words g img old (judged_call g img rest)
    unfolding with_words by_verdict leaves_words
    lent_broken rule page h e =
        let o : damaged img rule page ≡ judged_call g img rest =
        judged_blocks g img (refused 1 img) (damaged img) rest n en _ some (sym (rw e)) in
        sym (rw (← o, ← (some_blocks g img n en some), le-leb (words_of g n) (length old) h))

-- what the code asks of a geometry
pub known_pages : (g : Geometry) → Known g → g.pages ≤ 64
known_pages g known = (shape g known).pages_high

pub known_top : (g : Geometry) → Known g → g.top < 256
known_top g known = let h = (shape g known).top_high in omega (arith, h)

-- words enough
pub lent_enough : (g : Geometry) (n m : ℕ) (old : List ℕ) → m ≤ length old → m ≡ words_of g n → words_of g n ≤ length old
lent_enough g n m old h e = rw (← e) h

-- a block's words have a bit for each of its pages, and no more
pub whole : (g : Geometry) → Known g → g.pages ≡ 32 * block_words g
whole _ is_small = refl
whole _ is_large = refl

-- ---- words enough for every image: the outcome is that of the call without words
words_most : (g : Geometry) (n : ℕ) → Known g → n ≤ 1024 → words_of g n ≤ 2048
words_most _ n is_small h = omega arith
words_most _ n is_large h = omega arith

module _ (g : Geometry) (known : Known g) (img old : List ℕ) (room : 2048 ≤ length old) where
  lent_outcome : (rest : Outcome) → (with_words g img old (judged_call g img rest)).outcome ≡ judged_call g img rest
  unfolding with_words judged
  lent_outcome rest = go (good_length g img) refl
    where
      same : (t : Bool) (y : List ℕ) → (pick t (reply (refused 1 img) y) (reply (refused 1 img) old)).outcome ≡ refused 1
          img
      same true y = refl
      same false y = refl

      go : (t : Bool) → good_length g img ≡ t → (with_words g img old (judged_call g img rest)).outcome ≡ judged_call g img
          rest
      go true e =
          let h : words_of g (blocks_of g img) ≤ length old =
          (let w = words_most g (blocks_of g img) known (good_most g img e) in omega (arith, w, room)) in
          rw (le-leb (words_of g (blocks_of g img)) (length old) h)
      go false e = rw e (same (leb (words_of g (blocks_of g img)) (length old)) _)

  pub insert_outcome : (k a x : ℕ) → (insert_live g img old k a x).outcome ≡ insert g img k a x
  unfolding insert_live insert
  insert_outcome k a x = lent_outcome _

  pub delete_outcome : (k x : ℕ) → (delete_live g img old k x).outcome ≡ delete g img k x
  unfolding delete_live delete
  delete_outcome k x = lent_outcome _

-- the table and the words as the judge and the first filling leave them
pub right : (g : Geometry) (n : ℕ) (img tbl old words : List ℕ) → Marked (chip_of g n img) tbl
    → g.pages * n ≤ length tbl
    → words ≡ filled (live_in tbl) (words_of g n) old → words_of g n ≤ length old → Right g n img (table_in tbl words)
right g n img tbl old words marked room e h =
    let f : words ≡ filled (live (places_of (chip_of g n img))) (words_of g n) old =
    e ∙ by_table_lem g n (chip_of g n img) tbl old marked room in
    record {
      room = room;
      marked = marked;
      told = rw f (filled_told (live (places_of (chip_of g n img))) (words_of g n) old h);
    }
