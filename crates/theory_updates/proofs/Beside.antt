-- What is kept beside the image is what the image says, before and after a move; the move's store is the model's.
-- Assumes nothing.
use Rattle.std.specs.Prelude.{◌≡◌, refl, List, [], Bool, true, eqb, leb}
use Rattle.std.proofs.Math.Path.{ap, sym, subst}
use Rattle.std.proofs.Common.{◌∙◌, arith}
use Rattle.std.proofs.Math.Logic.{inr}
use Prim.Native.Nat.{ℕ, suc, ◌+◌, ◌-◌, ◌<◌, ◌≤◌, min}
use borrow.Author.Tests.{eq-eqb, ne_eqb}
use Rattle.geometry.specs.declared.Geometry.{Geometry}
use Rattle.geometry.specs.Tests.{pick}
use Rattle.geometry.specs.Shape.{Shape, shape_core}
use Rattle.geometry.specs.Bounds.{four_bytes}
use Rattle.model.specs.Bytes.{erased, node_at}
use Rattle.model.specs.Count.{count, peak, arg}
use Rattle.model.specs.Image.{pages_of, seq_of, max_seq, Chip, chip_of}
use Rattle.model.specs.Tree.{places_of, live, following}
use Rattle.model.specs.Next.{Ahead, ahead, next_page, after, onward}
use Rattle.model.specs.Page.{built}
use Rattle.model.specs.Stores.{program, apply_store}
use Rattle.model.specs.Edit.{on_path, renamed, same}
use Rattle.model.specs.Collect.{move_part, move_store}
use Rattle.theory_chips.specs.Count.{count_gone}
use Rattle.theory_chips.specs.Next.{next_found, next_in}
use Rattle.theory_chips.specs.Whole.{some_page}
use Rattle.theory_chips.specs.Moves.{move_to}
use Rattle.theory_images.specs.Views.{peak_le, arg_new}
use Rattle.theory_images.specs.Held.{Held}
use Rattle.chip_read.specs.Chip.{naming}
use Rattle.live_words.specs.Words.{words_of}
use Rattle.open_record.specs.declared.Opened.{Opened}
use Rattle.live_beside.specs.Table.{table_moved, Right}
use Rattle.live_beside.specs.Beside.{Beside, next_after, move_part_by, move_store_by, beside_moved}
use Rattle.theory_updates.specs.Move.{move_chip, move_max}
use Rattle.theory_updates.specs.TableMoved.{table_moved_lem}
use Rattle.theory_updates.specs.Beside.{Tracks, low_in_lem, next_least, next_of}

-- the store that moves page q
pub store_same : (g : Geometry) → Shape g → (n : ℕ) (o : Opened) (img : List ℕ) (h : Beside) (q : ℕ) → Held g n img
    → q < pages_of g n
    → 1 ≤ count (pages_of g n) (chip_of g n img).er → Tracks g n o img h → move_store_by g h q img ≡ move_store g n q img
unfolding move_store_by move_part_by move_store move_part
store_same g shape n o img h q held q-in free t =
    let a = low_in_lem g n img h.table q q-in t.right in
    let x = next_of g shape n o img h held t free in
    λ i. program (x i) (built g (suc (t.most_is i)) (suc (t.level_is i)) (λ j. pick (leb (a i) j)
    (on_path (node_at g img) (following (node_at g img q (a i)) 0) same (renamed (a i) (x i)) (t.level_is i) (naming (t.root_is i)) j) []))

module _ (g : Geometry) (shape : Shape g) (n : ℕ) (few : pages_of g n + g.pages < four_bytes) (img : List ℕ)
    (held : Held g n img) (q : ℕ)
    (q-in : q < pages_of g n) (free : 1 ≤ count (pages_of g n) (chip_of g n img).er)
    (alive : live (places_of (chip_of g n img)) q ≡ true)
    (low : suc (max_seq g n img) < 4294967295) where
  abbrev c : Chip
  c = chip_of g n img

  abbrev N : ℕ
  N = next_page g.pages n (ahead g n c)

  abbrev then : List ℕ
  then = apply_store g (move_store g n q img) img

  chip_is : chip_of g n then ≡ move_to (pages_of g n) c q N
  chip_is = move_chip g shape n few img held q free alive low

  er_is : erased g then ≡ after N (erased g img)
  unfolding move_to
  er_is = ap (λ (d : Chip). d.er) chip_is

  -- the page just programmed has the largest number
  ahead_is : ahead g n (chip_of g n then) ≡ onward N (ahead g n c)
  unfolding move_to
  ahead_is = ap (ahead g n) chip_is ∙ (λ i. record { er = after N c.er; last = last_is i })
    where
      last_is : arg (pages_of g n) (λ j. pick (eqb j N) (suc (peak (pages_of g n) c.seq)) (c.seq j)) ≡ N
      last_is = arg_new (pages_of g n) (λ j. pick (eqb j N) (suc (peak (pages_of g n) c.seq)) (c.seq j)) N
          (next_in g.pages n (ahead g n c) (some_page g (shape_core g shape)) held.whole.r2 free)
          (λ j p d. let y = peak_le (pages_of g n) c.seq j p in rw (ne_eqb j N d, eq-eqb N N refl) (omega (arith, y)))

  next_moved : next_after g.pages n (erased g then) N ≡ min (pages_of g n)
      (next_page g.pages n (ahead g n (chip_of g n then)))
  next_moved = ap (λ (f : ℕ → Bool). next_after g.pages n f N) er_is
      ∙ next_least g.pages n (ahead g n c) (some_page g (shape_core g shape)) held.whole.r2 free
      ∙ sym (ap (λ (w : Ahead). min (pages_of g n) (next_page g.pages n w)) ahead_is)

  -- one page fewer is erased
  frees : count (pages_of g n) c.er ≡ suc (count (pages_of g n) (chip_of g n then).er)
  frees = let z = count_gone (pages_of g n) N c.er (next_in g.pages n (ahead g n c) (some_page g (shape_core g shape)) held.whole.r2 free)
      (next_found g.pages n (ahead g n c) (some_page g (shape_core g shape)) held.whole.r2 free).2 in
      let e = ap (count (pages_of g n)) er_is in omega (arith, z, e)

  -- the root's page has the largest number
  number_is_lem : seq_of g then N ≡ suc (max_seq g n img)
  unfolding move_to max_seq
  number_is_lem = ap (λ (d : Chip). d.seq N) chip_is
      ∙ ap (λ (t : Bool). pick t (suc (peak (pages_of g n) c.seq)) (c.seq N)) (eq-eqb N N refl)

  -- what is kept after the move is what the image then says
  pub beside_moved_lem : (o : Opened) (h : Beside) → Tracks g n o img h → Tracks g n o then (beside_moved g n h q img then)
  unfolding beside_moved move_to
  beside_moved_lem o h t =
      let x = next_of g shape n o img h held t free in
      let a = low_in_lem g n img h.table q q-in t.right in
      record {
        root_is = x ∙ sym (ap (λ (d : Chip). d.root) chip_is);
        most_is = ap suc t.most_is ∙ sym (move_max g shape n few img held q free alive low);
        level_is = t.level_is ∙ sym (ap (λ (d : Chip). d.level) chip_is);
        next_is = ap (next_after g.pages n (erased g then)) x ∙ next_moved;
        right = subst (Right g n then) (sym (λ i. table_moved (words_of g n) (node_at g img) (following (node_at g img q (a i)) 0) (a i) (t.level_is i)
            (naming (t.root_is i)) (x i) h.table))
            (table_moved_lem g shape n few img held q alive free (let z : max_seq g n img + 1 < 4294967295 =
            omega (arith, low) in z) h.table t.right);
        sum_is = let z = t.sum_is in omega (arith, z, frees);
        grown = let z = t.grown in omega (arith, z);
        height_is = t.height_is;
        crest = inr (ap (seq_of g then) x ∙ number_is_lem ∙ ap suc (sym t.most_is));
      }
