-- Each page's lowest live level, 0 for none, with the lent words of request 7; and what a move changes in them.
-- Definitions alone; assumes nothing.
use Rattle.std.specs.Prelude.{ℕ, zero, suc, ◌/◌, ◌≤◌, List, eqb, leb, ltb, length, get_or, set}
use Rattle.geometry.specs.declared.Geometry.{Geometry}
use Rattle.geometry.specs.declared.Entry.{Entry}
use Rattle.geometry.specs.Tests.{pick}
use Rattle.model.specs.Image.{Nodes, chip_of, pages_of}
use Rattle.model.specs.Tree.{chosen, places_of, live}
use Rattle.live_walk.specs.Table.{Marked, live_in}
use Rattle.live_words.specs.Words.{word, words_of, Told}

pub record Table : Type 0 where
  pub levels : List ℕ
  pub words : List ℕ

abbrev pub table_in : List ℕ → List ℕ → Table
table_in levels words = record { levels = levels; words = words }

-- the level noted for a page
abbrev pub low_in : Table → ℕ → ℕ
low_in t q = get_or t.levels q 0

-- page q gets the level a; its word, where it is one of the image's m words, is worked out anew from the levels
unfoldable pub mark : ℕ → ℕ → ℕ → Table → Table
mark m q a t = table_in (set t.levels q a)
    (pick (ltb (q / 32) m) (set t.words (q / 32) (word (live_in (set t.levels q a)) (q / 32))) t.words)

-- page q dies if its lowest live level is j
unfoldable pub unmark : ℕ → ℕ → ℕ → Table → Table
unmark m q j t = pick (eqb (low_in t q) j) (mark m q 0 t) t

-- the pages of K's path from the node at level suc l that e names down to level a: each dies whose lowest live node
-- stands on the path
unfoldable pub off_path : ℕ → Nodes → ℕ → ℕ → ℕ → Entry → Table → Table
off_path m r k a zero e t = pick (leb a 1) (unmark m e.addr 1 t) t
off_path m r k a (suc l) e t =
    pick (leb a (suc (suc l))) (off_path m r k a l (chosen k (r e.addr (suc (suc l)))) (unmark m e.addr (suc (suc l)) t)) t

-- a move changes the marks of at most height + 1 pages: those of the path from level a up, and the new page
unfoldable pub table_moved : ℕ → Nodes → ℕ → ℕ → ℕ → Entry → ℕ → Table → Table
table_moved m r k a l e new t = mark m new a (off_path m r k a l e t)

-- a table is the one worked out afresh from the image of n blocks
pub record Right (g : Geometry) (n : ℕ) (img : List ℕ) (t : Table) : Type 0 where
  pub room : pages_of g n ≤ length t.levels
  pub marked : Marked (chip_of g n img) t.levels
  pub told : Told (live (places_of (chip_of g n img))) (words_of g n) t.words
