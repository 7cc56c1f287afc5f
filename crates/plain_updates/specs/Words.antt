-- The plain tree's calls (request 12) in the demands' words: Ready, map_at, Holds, Kept, Began (crate theory_demands). The
-- definitions `plain_insert`, `plain_delete`, `lookup` and `format` with the geometry `plain`; k, the key, and a, the
-- address, are below 2^32; al is the store allowance. Assumes nothing.
use Rattle.std.specs.Prelude.{◌≡◌, List, [], ◌∷◌, true, false, ℕ, suc, ◌<◌, ◌≤◌, length, Option, is_none}
use Rattle.std.proofs.Math.Path.{refl, ap, sym}
use Rattle.std.proofs.Common.{subst, ◌∙◌, inl, arith, take_all}
use Rattle.geometry.specs.declared.Entry.{Entry}
use Rattle.geometry.specs.Geometry.{plain}
use Rattle.geometry.specs.Shape.{plain_core}
use Rattle.geometry.specs.Bounds.{four_bytes}
use Rattle.model.specs.Bytes.{byte_at}
use Rattle.model.specs.Image.{blocks_of, good_length, Chip, chip_of}
use Rattle.model.specs.Tree.{map_of, find, sought}
use Rattle.model.specs.Rules.{verdict}
use Rattle.model.specs.Stores.{Store, apply_all, erases}
use Rattle.model.specs.Update.{format_stores}
use Rattle.model.specs.Calls.{Outcome, made, answered, lookup, worn, format}
use Rattle.model.specs.Plain.{plain_high, plain_insert_stores, plain_needs, plain_roomless, plain_insert_rest, plain_insert}
use Rattle.model.specs.Plain.{plain_delete_stores, plain_leaves, plain_delete_rest, plain_delete}
use Rattle.theory_lists.specs.All.{All}
use Rattle.theory_chips.specs.Whole.{sought_map}
use Rattle.theory_images.specs.Held.{Held, plain_held, held_plain}
use Rattle.theory_images.specs.Lengths.{Blocks, good_blocks_lem, blocks_same, length_same, length_all}
use Rattle.theory_updates.specs.Format.{formatted_keeps}
use Rattle.theory_demands.specs.Words.{Ready, map_at, Holds, Began}
use Rattle.theory_demands.specs.Tests.{Test, tested, Untouched, Unmet, tested_untouched, tested_passed}
use Rattle.theory_demands.specs.Calls.{judged_ready, judged_untouched, made_untouched, made_all, made_counts}
use Rattle.theory_demands.specs.Refusals.{format_image}
use Rattle.plain_updates.specs.Laid.{PlainKeeps}
use Rattle.plain_updates.specs.Insertion.{plain_insert_erases, plain_present_programs}

-- ---- the calls opened
module _ (img : List ℕ) (k a al : ℕ) where
  abbrev n : ℕ
  n = blocks_of plain img

  abbrev c : Chip
  c = chip_of plain n img

  abbrev ins : Outcome
  ins = made plain (plain_insert_stores plain n img k a) al img

  abbrev del : Outcome
  del = made plain (plain_delete_stores plain n img k) al img

  -- WORN, HEIGHT, ROOM
  abbrev pub plain_insert_tests : List Test
  plain_insert_tests =
      record { met = worn plain n img; number = 3 }
      ∷ record { met = plain_high plain c k; number = 5 }
      ∷ record { met = plain_roomless plain n c (plain_needs plain c k); number = 6 }
      ∷ []

  -- WORN, ABSENT, ROOM
  abbrev pub plain_delete_tests : List Test
  plain_delete_tests =
      record { met = worn plain n img; number = 3 }
      ∷ record { met = is_none (sought c k); number = 4 }
      ∷ record { met = plain_roomless plain n c (plain_leaves c k); number = 6 }
      ∷ []

  pub plain_insert_rest_lem : plain_insert_rest plain n img k a al ≡ tested img plain_insert_tests ins
  unfolding plain_insert_rest
  plain_insert_rest_lem = refl

  pub plain_delete_rest_lem : plain_delete_rest plain n img k al ≡ tested img plain_delete_tests del
  unfolding plain_delete_rest
  plain_delete_rest_lem = refl

  -- ---- answers 1 to 6 leave the image, every image
  pub plain_insert_refused : Untouched img (plain_insert plain img k a al)
  unfolding plain_insert
  plain_insert_refused = judged_untouched plain img (plain_insert_rest plain n img k a al) (subst (Untouched img) (sym plain_insert_rest_lem)
      (tested_untouched img plain_insert_tests ins (made_untouched plain (plain_insert_stores plain n img k a) al img)))

  pub plain_delete_refused : Untouched img (plain_delete plain img k al)
  unfolding plain_delete
  plain_delete_refused = judged_untouched plain img (plain_delete_rest plain n img k al) (subst (Untouched img) (sym plain_delete_rest_lem)
      (tested_untouched img plain_delete_tests del (made_untouched plain (plain_delete_stores plain n img k) al img)))

  module _ (ready : Ready plain img) where
    pub plain_insert_is : plain_insert plain img k a al ≡ tested img plain_insert_tests ins
    unfolding plain_insert
    plain_insert_is = judged_ready plain img (plain_insert_rest plain n img k a al) ready ∙ plain_insert_rest_lem

    pub plain_delete_is : plain_delete plain img k al ≡ tested img plain_delete_tests del
    unfolding plain_delete
    plain_delete_is = judged_ready plain img (plain_delete_rest plain n img k al) ready ∙ plain_delete_rest_lem

    -- a call that has begun has met none of its tests
    pub plain_insert_passed : Began (plain_insert plain img k a al) → All Unmet plain_insert_tests ×
        (plain_insert plain img k a al ≡ ins)
    plain_insert_passed b =
        let p = tested_passed img plain_insert_tests ins ((omega arith, omega arith), ((omega arith, omega arith), ((omega arith, omega arith), tt)))
        (subst Began plain_insert_is b) in
        (p.0, plain_insert_is ∙ p.1)

    pub plain_delete_passed : Began (plain_delete plain img k al) → All Unmet plain_delete_tests ×
        (plain_delete plain img k al ≡ del)
    plain_delete_passed b =
        let p = tested_passed img plain_delete_tests del ((omega arith, omega arith), ((omega arith, omega arith), ((omega arith, omega arith), tt)))
        (subst Began plain_delete_is b) in
        (p.0, plain_delete_is ∙ p.1)

-- ---- a sound image of n blocks, and one of the same length
module _ (img : List ℕ) (length_good : good_length plain img ≡ true) where
  pub keeps_holds : (map : List Entry) (x : List ℕ) → length x ≡ length img → PlainKeeps plain (blocks_of plain img) map x
      → Holds plain map x
  keeps_holds map x e h =
      let b = blocks_same plain img x e in
      record {
        ready = record {
          length_good = length_same plain img x e ∙ length_good;
          is_sound_lem = ap (λ m. verdict plain m x) b ∙ held_plain plain plain_core (blocks_of plain img) x refl h.held;
          bytes = h.held.bytes;
        };
        map_is = ap (λ m. map_of (chip_of plain m x)) b ∙ h.map_is;
      }

-- a formatted image: sound, its map empty
pub plain_format_holds : (img : List ℕ) → good_length plain img ≡ true → ((i : ℕ) → byte_at img i < 256)
    → Holds plain [] (format plain img).image
plain_format_holds img good bytes =
    let b = good_blocks_lem plain img good in
    let w = formatted_keeps plain plain_core (blocks_of plain img) b.least img b.image bytes in
    subst (Holds plain []) (sym (format_image plain img good)) (keeps_holds img good [] (apply_all plain (format_stores plain (blocks_of plain img)) img)
    (length_all plain (format_stores plain (blocks_of plain img)) img) (record { held = w.held; map_is = w.map_is }))

module _ (img : List ℕ) (ready : Ready plain img) where
  abbrev m : ℕ
  m = blocks_of plain img

  abbrev d : Chip
  d = chip_of plain m img

  pub blocks : Blocks plain img
  blocks = good_blocks_lem plain img ready.length_good

  pub some_blocks : 1 ≤ m
  some_blocks = let z = blocks.least in omega (arith, z)

  pub ready_held : Held plain m img
  ready_held = plain_held plain plain_core m img some_blocks blocks.image ready.bytes ready.is_sound_lem

  module _ (k : ℕ) (k_low : k < four_bytes) where
    pub plain_found : sought d k ≡ find k (map_at plain img)
    plain_found = sought_map plain m d ready_held.whole k k_low

    -- lookup answers as the map does
    pub plain_reads : lookup plain img k ≡ answered (find k (map_at plain img)) img
    unfolding lookup
    plain_reads = judged_ready plain img (answered (sought d k) img) ready
        ∙ ap (λ (o : Option ℕ). answered o img) plain_found

    -- ---- insert
    module _ (a al : ℕ) (a-low : a < four_bytes) where
      abbrev ss : List Store
      ss = plain_insert_stores plain m img k a

      -- an insert of a present key that answers 0 programs exactly as many pages as the height, and erases none
      pub plain_present : is_none (find k (map_at plain img)) ≡ false → (plain_insert plain img k a al).answer ≡ 0
          → ((plain_insert plain img k a al).programmed ≡ suc d.level) × ((plain_insert plain img k a al).erased ≡ 0)
      unfolding made
      plain_present there h =
          let p = (plain_insert_passed img k a al ready (inl h)).1 in
          let z = sym (ap (λ (o : Outcome). o.answer) p) ∙ h in (
            ap (λ (o : Outcome). o.programmed) p ∙ made_counts plain ss al img z
                ∙ plain_present_programs m some_blocks blocks.most img ready_held k a k_low a-low (ap is_none plain_found ∙ there),
            ap (λ (o : Outcome). o.erased) p ∙ ap erases (take_all al ss (made_all plain ss al img z))
                ∙ plain_insert_erases m some_blocks blocks.most img ready_held k a k_low a-low,
          )
