-- "after each move the table equals the one worked out afresh from the image", its words with it. Assumes nothing.
use Rattle.std.specs.Prelude.{ℕ, ◌+◌, ◌<◌, ◌≤◌, true, ◌≡◌, List, length}
use Rattle.std.proofs.Common.{arith, sym, subst, ◌∙◌, inl, inr}
use Rattle.geometry.specs.declared.Geometry.{Geometry}
use Rattle.geometry.specs.Shape.{Shape, shape_core}
use Rattle.geometry.specs.Bounds.{four_bytes}
use Rattle.model.specs.Bytes.{node_at}
use Rattle.model.specs.Count.{count}
use Rattle.model.specs.Image.{Chip, chip_of, pages_of, max_seq, the_root}
use Rattle.model.specs.Tree.{places_of, live, low_level}
use Rattle.model.specs.Next.{ahead, next_page}
use Rattle.model.specs.Stores.{apply_store}
use Rattle.model.specs.Collect.{move_key, move_store}
use Rattle.theory_counts.specs.Cases.{by_eq}
use Rattle.theory_trees.specs.Lows.{Lowered}
use Rattle.theory_chips.specs.Next.{next_in}
use Rattle.theory_chips.specs.Whole.{some_page}
use Rattle.theory_chips.specs.Lows.{move_path, low_moved}
use Rattle.theory_images.specs.Held.{Held}
use Rattle.live_walk.specs.Table.{Marked}
use Rattle.live_words.specs.Words.{words_of}
use Rattle.live_beside.specs.Table.{Table, low_in, table_moved, Right}
use Rattle.live_beside.specs.Marks.{Off}
use Rattle.live_beside.proofs.Marks.{moved_new, moved_low, moved_follows}
use Rattle.live_beside.specs.Rights.{right_follows}
use Rattle.theory_updates.specs.Move.{move_chip}

-- the table that a move of page q to page new leaves
abbrev after_move : ℕ → Chip → ℕ → ℕ → Table → Table
after_move m c q new t = table_moved m c.nodes (move_key c q) (low_level (places_of c) q) c.level (the_root c) new t

-- on any two chips whose lowest live levels are those before and after the move
module _ (c c' : Chip) (q new m : ℕ) (lows : Lowered new (low_level (places_of c) q) (places_of c) (move_path c q)
    (places_of c')) (t : Table)
    (marks : Marked c t.levels) (inside : new < length t.levels) where
  level_moved : (p : ℕ) → p < length t.levels → low_in (after_move m c q new t) p ≡ low_level (places_of c') p
  level_moved p h = by_eq p new
      (λ z. rw z (moved_new m c.nodes (move_key c q) (low_level (places_of c) q) c.level (the_root c) new t inside
      ∙ sym lows.on_new))
      (λ d. go d (subst (λ x. Off (move_path c q) p x (low_in (after_move m c q new t) p)) (marks.lows p h)
      (moved_low m c.nodes (move_key c q) (low_level (places_of c) q) c.level (the_root c) new t p d)))
    where
      go : (p ≡ new → ⊥) → Off (move_path c q) p (low_level (places_of c) p) (low_in (after_move m c q new t) p)
          → low_in (after_move m c q new t) p ≡ low_level (places_of c') p
      go d (inl i) = i.1 ∙ sym (lows.died p d i.0)
      go d (inr i) = i.1 ∙ sym (lows.stays p d i.0)

  marks_moved : Marked c' (after_move m c q new t).levels
  marks_moved = record {
    lows = λ p h. level_moved p (omega (
      arith,
      h,
      (moved_follows m c.nodes (move_key c q) (low_level (places_of c) q) c.level (the_root c) new t).long,
    ));
  }

module _ (g : Geometry) (shape : Shape g) (n : ℕ) (few : pages_of g n + g.pages < four_bytes) (img : List ℕ)
    (held : Held g n img) (q : ℕ)
    (alive : live (places_of (chip_of g n img)) q ≡ true) (free : 1 ≤ count (pages_of g n) (chip_of g n img).er)
    (low : max_seq g n img + 1 < 4294967295) where
  abbrev c : Chip
  c = chip_of g n img

  abbrev new : ℕ
  new = next_page g.pages n (ahead g n c)

  lows : Lowered new (low_level (places_of c) q) (places_of c) (move_path c q)
      (places_of (chip_of g n (apply_store g (move_store g n q img) img)))
  lows = subst (λ (d : Chip). Lowered new (low_level (places_of c) q) (places_of c) (move_path c q) (places_of d))
      (sym (move_chip g shape n few img held q free alive (omega arith))) (low_moved g shape n c held.whole q alive free)

  new_in : new < pages_of g n
  new_in = next_in g.pages n (ahead g n c) (some_page g (shape_core g shape)) held.whole.r2 free

  pub table_moved_lem : (t : Table) → Right g n img t
      → Right g n (apply_store g (move_store g n q img) img)
      (table_moved (words_of g n) (node_at g img) (move_key (chip_of g n img) q) (low_level (places_of (chip_of g n img)) q) (chip_of g n img).level
      (the_root (chip_of g n img)) (next_page g.pages n (ahead g n (chip_of g n img))) t)
  table_moved_lem t h = right_follows g n img (apply_store g (move_store g n q img) img) t (after_move (words_of g n) c q new t) h
      (moved_follows (words_of g n) c.nodes (move_key c q) (low_level (places_of c) q) c.level (the_root c) new t)
      (marks_moved c (chip_of g n (apply_store g (move_store g n q img) img)) q new (words_of g n) lows t h.marked (omega (arith, new_in, h.room)))
