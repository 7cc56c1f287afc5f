-- Request 4 of the call: "any one flipped bit in the 256 bytes or the 3 code bytes is put right; any two flipped data
-- bits under an intact code are told as beyond repair". On each geometry, for every half that has a fitting code; on a
-- sound image every half of every page has one (`sound_fits`). Assumes nothing.
use Rattle.std.specs.Prelude.{◌≡◌, List, Bool, ℕ, zero, suc, ◌+◌, ◌-◌, ◌*◌, ◌<◌, ◌≤◌, length, replicate}
use Rattle.std.proofs.Math.Path.{refl}
use Rattle.std.proofs.Common.{sym, ◌∙◌, inr, zero-add, arith}
use Rattle.std.proofs.Math.Bool.{true, false}
use Rattle.std.proofs.Math.Decide.{ℕ_discrete}
use Rattle.std.proofs.lemmas.List.{get_or-replicate}
use borrow.Author.Tests.{ltb-true}
use Rattle.geometry.specs.declared.Geometry.{Geometry}
use Rattle.geometry.specs.declared.Patrol.{Patrol}
use Rattle.geometry.specs.declared.Patrol.TheVariants.{Clean, DataMended, CodeMended, Beyond}
use Rattle.geometry.specs.Geometry.{page_bytes, halves, code_place, page_base}
use Rattle.geometry.specs.Shape.{Shape, base_apart}
use Rattle.geometry.specs.Tests.{pick, and_left, and_right}
use Rattle.model.specs.Bytes.{byte_at, blank}
use Rattle.model.specs.Codes.{fits, codes_fit, flip_bit, found}
use Rattle.model.specs.Image.{blocks_of, good_length, pages_of}
use Rattle.model.specs.Calls.{Outcome, gives, finding_of, bit_of, is_half, patrolled, patrol}
use Rattle.model.specs.Examples.{erased_fits}
use Rattle.theory_codes.specs.Flips.{flip_length}
use Rattle.theory_codes.specs.Repairs.{after, clean, data_bit, two_data_bits, code_bit}
use Rattle.theory_codes.specs.Written.{fits_same}
use Rattle.theory_images.specs.Bytes.{blank_get}
use Rattle.theory_images.specs.Page.{tail_from, view_from}
use Rattle.theory_images.specs.Lengths.{good_blocks_lem, blocks_same, length_same}
use Rattle.theory_demands.specs.Words.{Ready}
use Rattle.theory_demands.specs.Bridges.{ready_keeps}

-- DONE: what was found (0 clean, 1 a data bit mended, 2 the code mended, 3 beyond repair), the bit, and the image
-- afterwards
abbrev pub finds : ℕ → ℕ → List ℕ → Outcome
finds what bit img = gives 0 what bit 0 img

tells : (img : List ℕ) (at c : ℕ) (p : Patrol) (o : List ℕ) → (found img at c ≡ p) × (after img at c ≡ o)
    → patrolled img at c ≡ finds (finding_of p) (bit_of p) o
unfolding patrolled
tells img at c p o h = λ k. gives 0 (finding_of (h.0 k)) (bit_of (h.0 k)) 0 (h.1 k)

codes_each : (g : Geometry) (img : List ℕ) (b m k : ℕ) → codes_fit g img b m ≡ true → k < m
    → fits img (b + 256 * k) (b + code_place g k) ≡ true
unfolding codes_fit
codes_each g img b zero k e h = absurd (omega arith)
codes_each g img b (suc m) k e h = elim (ℕ_discrete k m) [
  | yes q ↦ rw q (and_right _ _ e)
  | no q ↦ codes_each g img b m k (and_left _ _ e) (omega arith)
]

module _ (g : Geometry) (shape : Shape g) (img : List ℕ) (page half : ℕ) (asked : is_half g img page half ≡ true) where
  -- the first byte of the half, and of its code
  abbrev pub from : ℕ
  from = page_base g page + 256 * half

  abbrev pub code : ℕ
  code = page_base g page + code_place g half

  good : good_length g img ≡ true
  unfolding is_half
  good = and_left _ _ (and_left _ _ asked)

  page_low : page < pages_of g (blocks_of g img)
  unfolding is_half
  page_low = ltb-true page _ (and_right _ _ (and_left _ _ asked))

  half_low : half < halves g
  unfolding is_half
  half_low = ltb-true half _ (and_right _ _ asked)

  page_in_lem : page_base g page + page_bytes g ≤ length img
  page_in_lem = rw (good_blocks_lem g img good).image (base_apart g page (pages_of g (blocks_of g img)) page_low)

  code_in : code + 3 ≤ length img
  code_in = omega (arith, page_in_lem, half_low, shape.code_room)

  apart : from + 256 ≤ code
  apart = omega (arith, half_low)

  -- the call on an image of the same length
  called : (other : List ℕ) → length other ≡ length img → patrol g other page half ≡ patrolled other from code
  unfolding patrol is_half
  called other e = rw (length_same g img other e, blocks_same g img other e) (rw asked refl)

  module _ (ok : fits img from code ≡ true) where
    pub clean_half : patrol g img page half ≡ finds 0 0 img
    clean_half = called img refl ∙ tells img from code Clean img (clean img from code ok)

    -- one flipped data bit
    pub data_bit_mended : (n : ℕ) → n < 2048 → patrol g (flip_bit img from n) page half ≡ finds 1 n img
    data_bit_mended n h = called (flip_bit img from n) (flip_length img from n)
        ∙ tells (flip_bit img from n) from code (DataMended n) img (data_bit img from code ok (omega (arith, code_in, apart)) (inr apart) n h)

    -- one flipped bit of the code
    pub code_bit_mended : ((i : ℕ) → byte_at img i < 256) → (j : ℕ) → j < 24 → patrol g (flip_bit img code j) page half
        ≡ finds 2 j img
    code_bit_mended bytes j h = called (flip_bit img code j) (flip_length img code j)
        ∙ tells (flip_bit img code j) from code (CodeMended j) img (code_bit img from code ok code_in (inr apart) bytes j h)

    -- two flipped data bits
    pub two_bits_told : (n m : ℕ) → n < 2048 → m < 2048 → (n ≡ m → ⊥)
        → patrol g (flip_bit (flip_bit img from n) from m) page half ≡ finds 3 0 (flip_bit (flip_bit img from n) from m)
    two_bits_told n m h k o = called (flip_bit (flip_bit img from n) from m) (flip_length (flip_bit img from n) from m
        ∙ flip_length img from n)
        ∙ tells (flip_bit (flip_bit img from n) from m) from code Beyond (flip_bit (flip_bit img from n) from m)
        (two_data_bits img from code ok (omega (arith, code_in, apart)) (inr apart) n m h k o)

  -- an erased page
  bare_fits : ((k : ℕ) → k < page_bytes g → byte_at img (page_base g page + k) ≡ 255) → fits img from code ≡ true
  bare_fits h =
      let room = shape.code_room in
      let low = half_low in
      let bare : (i : ℕ) → i < 259 → byte_at (replicate 259 255) i ≡ 255 = λ i l. get_or-replicate {A = ℕ} 259 i 255 0 l in
      let here : (o at : ℕ) → at ≡ page_base g page + o → o < page_bytes g → byte_at img at ≡ 255 =
      λ o at e l. rw e (h o l) in
      fits_same (replicate 259 255) img 0 from 256 code
      (λ i l. here (256 * half + i) (from + i) (omega arith) (omega (arith, l, low))
      ∙ sym (rw zero-add (bare i (omega (arith, l)))))
      (here (code_place g half) code refl (omega (arith, low, room)) ∙ sym (bare 256 (omega arith)))
      (here (code_place g half + 1) (code + 1) (omega arith) (omega (arith, low, room)) ∙ sym (bare 257 (omega arith)))
      (here (code_place g half + 2) (code + 2) (omega arith) (omega (arith, low, room)) ∙ sym (bare 258 (omega arith)))
      ∙ erased_fits

  -- on a sound image every code fits
  pub sound_fits : Ready g img → fits img from code ≡ true
  unfolding view_from tail_from
  sound_fits ready = go (blank img (page_base g page) (page_bytes g)) refl ((ready_keeps g shape img ready).held.r1 page page_low).rest
    where
      go : (b : Bool) → blank img (page_base g page) (page_bytes g) ≡ b → pick b true (tail_from g img (page_base g page))
          ≡ true → fits img from code ≡ true
      go true e t = bare_fits (λ k q. blank_get img _ _ (page_base g page + k) e (omega arith) (omega (arith, q)))
      go false e t = codes_each g img (page_base g page) (halves g) half (and_right _ _ t) half_low
