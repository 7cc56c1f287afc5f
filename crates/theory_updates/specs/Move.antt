-- The store that moves a page: it can be built, and the chip after it is the abstract one. Assumes nothing.
use Rattle.std.specs.Prelude.{◌≡◌, Bool, true, false, eqb, leb}
use Rattle.std.proofs.Math.Path.{refl}
use Rattle.std.proofs.Common.{ap, sym, subst, ◌∙◌}
use mathlib.Core.List.{List, [], ◌∷◌}
use Prim.Native.Nat.{ℕ, suc, ◌+◌, ◌-◌, ◌*◌, ◌<◌, ◌≤◌}
use native.Mathlib.Omega.{arith}
use Rattle.std.proofs.Math.ListN.{length}
use Rattle.geometry.specs.declared.Geometry.{Geometry}
use Rattle.geometry.specs.declared.Entry.{Entry}
use Rattle.geometry.specs.Tests.{pick}
use Rattle.geometry.specs.Geometry.{slots_of, half, root_most, in_table}
use Rattle.geometry.specs.Shape.{Shape, shape_core}
use Rattle.geometry.specs.Bounds.{four_bytes}
use Rattle.model.specs.Count.{count, peak}
use Rattle.model.specs.Image.{pages_of, max_seq, Chip, chip_of, the_root}
use Rattle.model.specs.Tree.{map_of, places_of, live, low_level}
use Rattle.model.specs.Next.{ahead, next_page, after}
use Rattle.model.specs.Stores.{Store, apply_store}
use Rattle.model.specs.Edit.{on_path, renamed, same}
use Rattle.model.specs.Collect.{move_key, move_part, move_store}
use Rattle.theory_lists.specs.All.{All}
use Rattle.theory_nodes.specs.Nodes.{fit_of}
use Rattle.theory_trees.specs.Lengths.{path_all, path_top, path_most, path_none}
use Rattle.theory_chips.specs.Next.{next_in}
use Rattle.theory_chips.specs.Whole.{some_page, Whole}
use Rattle.theory_chips.specs.Moves.{move_to, MoveStep, move_step}
use Rattle.theory_images.specs.Bytes.{Fits}
use Rattle.theory_images.specs.Views.{rooted}
use Rattle.theory_images.specs.Built.{Parts, built_view}
use Rattle.theory_images.specs.Small.{node_fits}
use Rattle.theory_images.specs.Held.{Held, height_most}
use Rattle.model.specs.Legal.{Legal}
use Rattle.theory_images.specs.Writes.{next_store, put_legal}
use Rattle.theory_images.proofs.Writes.{put_max, root_chip, root_held}
use Rattle.theory_updates.specs.Table.{off_table, parts_most}

module _ (g : Geometry) (shape : Shape g) (n : ℕ) (few : pages_of g n + g.pages < four_bytes) (img : List ℕ)
    (held : Held g n img) (p : ℕ)
    (free : 1 ≤ count (pages_of g n) (chip_of g n img).er) where
  abbrev t : ℕ
  t = pages_of g n

  abbrev c : Chip
  c = chip_of g n img

  abbrev N : ℕ
  N = next_page g.pages n (ahead g n c)

  N-in : N < t
  N-in = next_in g.pages n (ahead g n c) (some_page g (shape_core g shape)) held.whole.r2 free

  high : suc c.level ≤ g.top
  high = height_most g (shape_core g shape) n img (omega (arith, N-in)) held

  abbrev a : ℕ
  a = low_level (places_of c) p

  abbrev path : ℕ → List Entry
  path j = on_path c.nodes (move_key c p) same (renamed a N) c.level (the_root c) j

  named_fits : (l : ℕ) (e : Entry) (d : List Entry) → Fits e → All Fits d → All Fits (renamed a N l e d)
  named_fits l e d f h = go (leb a l)
    where
      go : (b : Bool) → All Fits (pick b (record { key = e.key; addr = N } ∷ []) (e ∷ []))
      go true = ((f.0, omega (arith, N-in, few)), tt)
      go false = (f, tt)

  named_one : (l : ℕ) (e : Entry) (d : List Entry) → length (renamed a N l e d) ≤ 1
  named_one l e d = go (leb a l)
    where
      go : (b : Bool) → length (pick b (record { key = e.key; addr = N } ∷ []) (e ∷ [])) ≤ 1
      go true = omega arith
      go false = omega arith

  -- a test that shuts levels off keeps what holds of an empty list
  shut : (Q : List Entry → Type 0) (b : Bool) (es : List Entry) → Q [] → Q es → Q (pick b es [])
  shut Q true es x y = y
  shut Q false es x y = x

  none : (j : ℕ) → (1 ≤ j → suc c.level < j) → move_part c p N j ≡ []
  unfolding move_part
  none j h = shut (λ (x : List Entry). x ≡ []) (leb a j) (path j) refl (path_none c.nodes (move_key c p) same (renamed a N) c.level
      (the_root c) j h)

  pub move_parts : Parts g (move_part c p N)
  unfolding move_part
  move_parts = parts_most g shape (suc c.level) (move_part c p N) (omega arith) high
      (λ l _ _. shut (λ (x : List Entry). All Fits x) (leb a l) (path l) tt (path_all c.nodes (move_key c p) same (renamed a N) Fits
      (λ es h. h) named_fits (node_fits g img held.bytes) c.level (the_root c) l))
      (λ l i q. shut (λ (x : List Entry). length x ≤ slots_of g l) (leb a l) (path l) (omega arith)
      (let w = path_most c.nodes (move_key c p) same (renamed a N) 0 (λ es. omega arith) named_one (fit_of t c.er) (λ l. 2 * half g l)
      c.level four_bytes (the_root c) some_root held.whole.sound.rooted.rises l i (omega (arith, q)) in let e =
      shape.even l in
      omega (arith, w, e)))
      (shut (λ (x : List Entry). length x ≤ root_most g (suc c.level)) (leb a (suc c.level)) (path (suc c.level)) (omega arith)
      (let w = path_top c.nodes (move_key c p) same (renamed a N) 0 (λ es. omega arith) named_one c.level (the_root c) in
      omega (arith, w, held.whole.sound.rooted.atmost)))
      (λ l q. none l (λ _. q))
    where
      some_root : 1 ≤ c.level → 0 < length (c.nodes c.root (suc c.level))
      some_root i = let z = held.whole.sound.rooted.least i in omega (arith, z)

  move_table : (l : ℕ) → pick (in_table g l) (move_part c p N l) [] ≡ move_part c p N l
  move_table l = go (in_table g l) refl
    where
      go : (b : Bool) → in_table g l ≡ b → pick b (move_part c p N l) [] ≡ move_part c p N l
      go true e = refl
      go false e = sym (none l (off_table g shape l (suc c.level) high e))

  moved_chip : rooted c N (built_view g (suc (max_seq g n img)) (suc c.level) (move_part c p N)) ≡ move_to t c p N
  unfolding rooted move_to max_seq
  moved_chip = let d : suc c.level - 1 ≡ c.level = omega arith in
      λ i. record {
        er = after N c.er;
        seq = λ q. pick (eqb q N) (suc (peak t c.seq)) (c.seq q);
        nodes = λ q j. pick (eqb q N) (move_table j i) (c.nodes q j);
        level = d i;
        root = N;
      }

  abbrev st : Store
  st = move_store g n p img

  store_is : move_store g n p img ≡ next_store g n (suc c.level) (move_part c p N) img
  unfolding move_store next_store
  store_is = refl

  module _ (alive : live (places_of c) p ≡ true) (low : suc (max_seq g n img) < 4294967295) where
    pub move_chip : chip_of g n (apply_store g st img) ≡ move_to t c p N
    move_chip = rw store_is (root_chip g (shape_core g shape) n img held free (move_part c p N) move_parts low (suc c.level) high (omega arith) ∙ moved_chip)

    step : MoveStep g n c (move_to t c p N) p N
    step = move_step g shape n c held.whole p alive free

    pub move_held : Held g n (apply_store g st img)
    move_held = rw store_is (root_held g (shape_core g shape) n img held free (move_part c p N) move_parts low (suc c.level) high (omega arith)
        (subst (Whole g n) (sym moved_chip) step.good))

    pub move_map : map_of (chip_of g n (apply_store g st img)) ≡ map_of c
    move_map = ap map_of move_chip ∙ step.pairs_are

    pub move_max : max_seq g n (apply_store g st img) ≡ suc (max_seq g n img)
    move_max = rw store_is (put_max g (shape_core g shape) n img held free (move_part c p N) move_parts low (suc c.level) high)

    pub move_legal : Legal g n img st
    move_legal = rw store_is (put_legal g (shape_core g shape) n img held free (move_part c p N) move_parts low (suc c.level) high)
