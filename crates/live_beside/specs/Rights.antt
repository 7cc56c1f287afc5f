-- A right table stays right by marks, where its new levels are those of the new image. Assumes nothing.
use Rattle.std.specs.Prelude.{ℕ, ◌*◌, ◌/◌, ◌≤◌, List}
use Rattle.std.proofs.Common.{arith, mul_assoc, mul-le-mul_right, sym}
use Rattle.geometry.specs.declared.Geometry.{Geometry}
use Rattle.model.specs.Image.{chip_of, pages_of}
use Rattle.model.specs.Tree.{places_of, live}
use Rattle.live_walk.specs.Table.{Marked, live_in}
use Rattle.live_walk.specs.Lows.{marked_live}
use Rattle.live_words.specs.Words.{words_of, Told}
use Rattle.live_words.specs.Filled.{told_alike}
use Rattle.live_beside.specs.Table.{Table, Right}
use Rattle.live_beside.specs.Marks.{Follows}

-- the words of n blocks tell of their pages alone
pub words_in : (g : Geometry) (n : ℕ) → 32 * words_of g n ≤ pages_of g n
words_in g n =
    let e = mul_assoc 32 (g.pages / 32) n in
    let z = mul-le-mul_right n (let w : 32 * (g.pages / 32) ≤ g.pages = omega arith in w) in
    omega (arith, e, z)

-- the words of a right table tell what its levels do
pub levels_told : (g : Geometry) (n : ℕ) (img : List ℕ) (t : Table) → Right g n img t → Told (live_in t.levels)
    (words_of g n) t.words
levels_told g n img t h = told_alike (live (places_of (chip_of g n img))) (live_in t.levels) (words_of g n)
    (λ p b. sym (marked_live (chip_of g n img) t.levels h.marked p (omega (arith, b, words_in g n, h.room)))) t.words h.told

pub right_follows : (g : Geometry) (n : ℕ) (img img' : List ℕ) (t t' : Table) → Right g n img t
    → Follows (words_of g n) t t'
    → Marked (chip_of g n img') t'.levels → Right g n img' t'
right_follows g n img img' t t' h f marks = record {
  room = omega (arith, h.room, f.long);
  marked = marks;
  told = told_alike (live_in t'.levels) (live (places_of (chip_of g n img'))) (words_of g n)
      (λ p b. marked_live (chip_of g n img') t'.levels marks p (omega (arith, b, words_in g n, h.room, f.long))) t'.words
      (f.told (levels_told g n img t h));
}
