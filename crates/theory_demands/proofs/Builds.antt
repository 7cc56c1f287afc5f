-- The bad builds that document 01 names, excluded on a formatted image: no single answer fits, and a finished insertion
-- has written. An update that has room finishes if its allowance is large enough. Assumes nothing.
use Rattle.std.specs.Prelude.{◌≡◌, true, ltb, Option, Some, is_none}
use Rattle.std.proofs.Math.Path.{refl, ap}
use Rattle.std.proofs.Common.{sym, subst, ◌∙◌, arith}
use mathlib.Core.List.{List, [], ◌∷◌}
use Rattle.std.proofs.Math.Bool.{false}
use Prim.Native.Nat.{ℕ, suc, ◌+◌, ◌-◌, ◌*◌, ◌<◌, ◌≤◌}
use Rattle.std.proofs.Math.ListN.{length}
use Rattle.std.proofs.Math.Dec.{eqb}
use borrow.Author.Tests.{lt-ltb, le-ltb, le-leb, ne_eqb}
use Rattle.geometry.specs.declared.Geometry.{Geometry}
use Rattle.geometry.specs.declared.Entry.{Entry}
use Rattle.geometry.specs.Tests.{◌&◌, bit, and_true, and_false}
use Rattle.geometry.specs.Geometry.{half, root_slots}
use Rattle.geometry.specs.Shape.{Shape, shape_core}
use Rattle.geometry.specs.Bounds.{four_bytes}
use Rattle.model.specs.Bytes.{byte_at}
use Rattle.model.specs.Image.{blocks_of, good_length, pages_of, max_seq, Chip, chip_of}
use Rattle.model.specs.Tree.{live_pages, chosen, find, sought}
use Rattle.model.specs.Stores.{Store, program, erase, programs, erases}
use Rattle.model.specs.Edit.{put}
use Rattle.model.specs.Update.{root_node, root_gains, fills, needs, too_high, insert_stores, delete_stores}
use Rattle.model.specs.Calls.{Outcome, made, answered, lookup, worn, roomless, free_pages, insert, delete, format}
use Rattle.theory_counts.specs.Tally.{bit_most}
use Rattle.theory_trees.specs.Splits.{splits_le}
use Rattle.theory_chips.specs.Next.{block_in}
use Rattle.theory_images.specs.Lengths.{Blocks, good_blocks_lem}
use Rattle.theory_updates.specs.Format.{formatted_max, formatted_level, formatted_root, formatted_lives}
use Rattle.theory_demands.specs.Words.{Ready, map_at, Holds, programmed_most, erased_most, Began}
use Rattle.theory_demands.specs.Maps.{find_put}
use Rattle.theory_demands.specs.Calls.{insert_is, made_began}
use Rattle.theory_demands.proofs.Calls.{delete_is}
use Rattle.theory_demands.specs.Proofs.{found}
use Rattle.theory_demands.proofs.Proofs.{insert_kept, delete_kept}
use Rattle.theory_demands.specs.Demands.{lookup_answers}
use Rattle.theory_demands.proofs.Demands.{insert_done}
use Rattle.theory_demands.specs.Builds.{format_holds, new_blocks, new_is, new_ready, stores_most}

stores_length : (ss : List Store) → length ss ≡ programs ss + erases ss
unfolding programs erases
stores_length [] = refl
stores_length (program p bs ∷ ss) = omega (arith, stores_length ss)
stores_length (erase b ∷ ss) = omega (arith, stores_length ss)

module _ (g : Geometry) (shape : Shape g) (img : List ℕ) (ready : Ready g img) (k : ℕ) (k_low : k < four_bytes) where
  abbrev n : ℕ
  n = blocks_of g img

  abbrev c : Chip
  c = chip_of g n img

  enough : (ss : List Store) (al : ℕ) → programs ss ≤ programmed_most g → erases ss ≤ erased_most g → stores_most g ≤ al
      → (made g ss al img).answer ≡ 0
  unfolding made
  enough ss al p e h = rw (le-leb (length ss) al (omega (arith, stores_length ss, p, e, h))) refl

  -- with room and enough stores allowed an insertion is DONE; ROOM looks at live pages alone, so dead ones are used
  -- again
  pub insert_finishes : (a al : ℕ) → a < four_bytes → stores_most g ≤ al → worn g n img ≡ false → too_high g c k ≡ false
      → roomless g (free_pages g n c) (needs g c k) ≡ false → (insert g img k a al).answer ≡ 0
  insert_finishes a al a-low h x y z =
      let ss = insert_stores g n img k a in
      let e : insert g img k a al ≡ made g ss al img = insert_is g img k a al ready ∙ rw (x, y, z) refl in
      let kept = insert_kept g shape img ready k k_low a al a-low (subst Began (sym e) (made_began g ss al img)) in
      ap (λ (o : Outcome). o.answer) e ∙ enough ss al kept.programmed kept.wiped h

  -- a deletion needs no room: by R8 it is DONE
  pub delete_finishes : (al : ℕ) → stores_most g ≤ al → worn g n img ≡ false → is_none (find k (map_at g img)) ≡ false
      → (delete g img k al).answer ≡ 0
  delete_finishes al h x y =
      let ss = delete_stores g n img k in
      let y' : is_none (sought c k) ≡ false = ap is_none (found g shape img ready k k_low) ∙ y in
      let e : delete g img k al ≡ made g ss al img = delete_is g img k 0 al ready ∙ rw (x, y') refl in
      let kept = delete_kept g shape img ready k k_low al (subst Began (sym e) (made_began g ss al img)) in
      ap (λ (o : Outcome). o.answer) e ∙ enough ss al kept.programmed kept.wiped h

module _ (g : Geometry) (shape : Shape g) (some-worn : 1 ≤ g.worn) (img : List ℕ)
    (length_good : good_length g img ≡ true)
    (bytes : (i : ℕ) → byte_at img i < 256) where
  abbrev new : List ℕ
  new = (format g img).image

  abbrev b : ℕ
  b = blocks_of g img

  abbrev good : Blocks g img
  good = good_blocks_lem g img length_good

  module _ (k a al : ℕ) (k_low : k < four_bytes) (a-low : a < four_bytes) (allowed : stores_most g ≤ al) where
    abbrev fresh : Chip
    fresh = chip_of g b new

    level_is : fresh.level ≡ 0
    level_is = ap (λ (x : List ℕ). (chip_of g b x).level) (new_is g shape some-worn img length_good bytes)
        ∙ formatted_level g (shape_core g shape) b good.least img good.image bytes

    root_is : root_node fresh ≡ []
    root_is = ap (λ (x : List ℕ). root_node (chip_of g b x)) (new_is g shape some-worn img length_good bytes)
        ∙ formatted_root g (shape_core g shape) b good.least img good.image bytes

    lives_are : live_pages (pages_of g b) fresh ≤ 1
    lives_are = let e = ap (λ (x : List ℕ). live_pages (pages_of g b) (chip_of g b x)) (new_is g shape some-worn img length_good bytes) in let z =
        formatted_lives g (shape_core g shape) b good.least img
        good.image bytes in omega (arith, e, z)

    not_worn_new : worn g b new ≡ false
    unfolding worn
    not_worn_new = let e = ap (max_seq g b) (new_is g shape some-worn img length_good bytes) in let z =
        formatted_max g (shape_core g shape) b good.least img good.image bytes in le-ltb g.worn
        (max_seq g b new) (omega (arith, e, z, some-worn))

    not_high_new : too_high g fresh k ≡ false
    unfolding too_high
    not_high_new = let t = shape.top_low in rw (
      ne_eqb (suc fresh.level) g.top (λ z. omega (arith, z, level_is, t)),
      and_false
          (eqb (length (root_node fresh)) (root_slots g (suc fresh.level))),
      and_false (root_gains g fresh k),
    ) refl

    needs_one : needs g fresh k ≡ 1
    unfolding needs fills
    needs_one =
        let s = splits_le k a 0 (λ l. 0) (half g) fresh.nodes (λ l q. Unit {0}) (is_none (sought fresh k)) fresh.level
        (chosen k (root_node fresh)) in
        let t = shape.top_low in
        let one : suc fresh.level ≡ 1 = omega (arith, level_is) in
        let r = ap (root_slots g) one in
        let dd = shape.double 1 (omega arith) (omega (arith, t)) in
        let ss = shape.some 1 (omega arith) (omega (arith, t)) in
        let l = ap length root_is in
        let f : eqb (length (root_node fresh) + bit (root_gains g fresh k)) (root_slots g (suc fresh.level)) ≡ false =
        ne_eqb
        (length (root_node fresh) + bit (root_gains g fresh k)) (root_slots g (suc fresh.level))
        (λ z. let y = bit_most (root_gains g fresh k) in omega (arith, z, y, l, r, dd, ss)) in
        let h : (ltb (suc fresh.level) g.top & eqb (length (root_node fresh) + bit (root_gains g fresh k))
        (root_slots g (suc fresh.level))) ≡ false =
        rw (lt-ltb (suc fresh.level) g.top (omega (arith, one, t)), f, and_true false) refl in
        let z = ap bit h in
        omega (arith, s, level_is, z)

    has_room : roomless g (free_pages g b fresh) (needs g fresh k) ≡ false
    unfolding roomless
    has_room =
        let w = block_in g.pages 2 b good.least in
        let p = shape.pages_low in
        le-ltb (free_pages g b fresh) (2 * g.pages - 1 + needs g fresh k) (omega (arith, w, p, lives_are, needs_one))

    -- an insertion is DONE
    pub first_insert : (insert g new k a al).answer ≡ 0
    first_insert = insert_finishes g shape new (new_ready g shape some-worn img length_good bytes) k k_low a al a-low allowed
        (subst (λ m. worn g m new ≡ false) (sym (new_blocks g shape some-worn img length_good bytes)) not_worn_new)
        (subst (λ m. too_high g (chip_of g m new) k ≡ false) (sym (new_blocks g shape some-worn img length_good bytes)) not_high_new)
        (subst (λ m. roomless g (free_pages g m (chip_of g m new)) (needs g (chip_of g m new) k) ≡ false) (sym (new_blocks g shape some-worn img length_good bytes)) has_room)

    -- and has written: the map is the one pair, and a lookup finds it
    pub first_map : Holds g (record { key = k; addr = a } ∷ []) (insert g new k a al).image
    first_map = subst (λ (m : List Entry). Holds g (put k a m) (insert g new k a al).image) (format_holds g shape some-worn img length_good bytes).map_is
        (insert_done g shape new (new_ready g shape some-worn img length_good bytes) k k_low a al a-low first_insert)

    pub second_lookup : lookup g (insert g new k a al).image k ≡ answered (Some a) (insert g new k a al).image
    second_lookup = lookup_answers g shape (insert g new k a al).image first_map.ready k k_low
        ∙ ap (λ (o : Option ℕ). answered o (insert g new k a al).image) (ap (find k) first_map.map_is
        ∙ find_put k a [])
