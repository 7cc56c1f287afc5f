-- Request 8, "Open once, call often", about the definitions of crate open_record: what opening gives, when a record is
-- STALE, and that lookup and listing with the record that opening gives are the old calls. g is one of the two chips
-- where `Known g` is asked. Assumes nothing.
use Rattle.std.specs.Prelude.{◌≡◌, List, Bool, ℕ, take, Err}
use Rattle.std.proofs.Math.Path.{refl}
use Rattle.std.proofs.Common.{ap, ◌∙◌, take_all, lt-ltb, eq-eqb}
use Rattle.std.proofs.Math.Bool.{true, false, not}
use Rattle.geometry.specs.declared.Geometry.{Geometry}
use Rattle.geometry.specs.declared.Entry.{Entry}
use Rattle.geometry.specs.Findings.{Verdict, Sound, broken_at}
use Rattle.geometry.specs.Shape.{Known, Shape, shape_core}
use Rattle.geometry.proofs.Shape.{shape}
use Rattle.geometry.specs.Tests.{pick, and_both}
use Rattle.model.specs.Bytes.{seq_at, height_at}
use Rattle.model.specs.Image.{pages_of, blocks_of, good_length, seq_of, height_of, root_of, Chip, chip_of}
use Rattle.model.specs.Tree.{sought}
use Rattle.model.specs.Rules.{verdict}
use Rattle.model.specs.Calls.{gives, refused, damaged, by_verdict, judged, answered, lookup}
use Rattle.model.specs.Listing.{ranged_of, lists, lists_none, listing}
use Rattle.theory_images.proofs.Few.{known_few}
use Rattle.theory_images.specs.Few.{few_ranged}
use Rattle.open_record.specs.declared.Opened.{Opened}
use Rattle.open_record.specs.Opened.{opened_in, no_record, opened, opening, standing, opened_call, chip_by, lookup_with, pairs_most, list_with}
use Rattle.theory_updates.specs.Level.{chip_right}
use Rattle.theory_demands.specs.Words.{Ready}
use Rattle.theory_demands.specs.Bridges.{some_pages, ready_keeps}

-- ---- "an opening call that judges it and hands back a small record"; "A refused opening gives zeros"
module _ (g : Geometry) (img : List ℕ) where
  pub opening_bad_length : good_length g img ≡ false → (opening g img ≡ refused 1 img) × (opened g img ≡ no_record)
  unfolding opening opened judged
  opening_bad_length e = (rw e refl, rw e refl)

  pub opening_not_sound : (rule page : ℕ) → good_length g img ≡ true → verdict g (blocks_of g img) img ≡ broken_at rule page
      → (opening g img ≡ damaged img rule page) × (opened g img ≡ no_record)
  unfolding opening opened judged by_verdict
  opening_not_sound rule page e d = (rw (e, d) refl, rw (e, d) refl)

  pub opening_done : Ready g img → opening g img ≡ gives 0 0 0 0 img
  unfolding opening judged by_verdict
  opening_done r = rw (r.length_good, r.is_sound_lem) refl

  -- it writes nothing
  pub opening_reads : (opening g img).image ≡ img
  unfolding opening judged by_verdict
  opening_reads = go (good_length g img) (verdict g (blocks_of g img) img)
    where
      go : (x : Bool) (v : Verdict) → (pick x (by_verdict v (damaged img) (gives 0 0 0 0 img)) (refused 1 img)).image
          ≡ img
      go true Sound = refl
      go true (Err b) = refl
      go false v = refl

  -- the record of a sound image is read off the image
  pub opened_ready : Ready g img → opened g img ≡ opened_in g (blocks_of g img) img
  unfolding opened judged by_verdict
  opened_ready r = rw (r.length_good, r.is_sound_lem) refl

-- ---- STALE: "If the named page isn't programmed with that sequence number and height, the answer is 8 STALE, right
-- after LENGTH, nothing written"
module _ (g : Geometry) (img : List ℕ) (o : Opened) where
  pub lookup_length : (k : ℕ) → good_length g img ≡ false → lookup_with g img o k ≡ refused 1 img
  unfolding lookup_with opened_call
  lookup_length k e = rw e refl

  pub lookup_stale : (k : ℕ) → good_length g img ≡ true → standing g (blocks_of g img) img o ≡ false
      → lookup_with g img o k ≡ refused 8 img
  unfolding lookup_with opened_call
  lookup_stale k e s = rw (e, s) refl

  pub list_length : (low high : ℕ) (buffer : List ℕ) → good_length g img ≡ false → list_with g img o low high buffer
      ≡ lists_none 1 0 0 buffer
  unfolding list_with opened_call
  list_length low high buffer e = rw e refl

  pub list_stale : (low high : ℕ) (buffer : List ℕ) → good_length g img ≡ true → standing g (blocks_of g img) img o
      ≡ false
      → list_with g img o low high buffer ≡ lists_none 8 0 0 buffer
  unfolding list_with opened_call
  list_stale low high buffer e s = rw (e, s) refl

-- ---- on a sound image
module _ (g : Geometry) (shape : Shape g) (img : List ℕ) (ready : Ready g img) where
  abbrev n : ℕ
  n = blocks_of g img

  -- the record of a sound image is not STALE
  standing_in : standing g n img (opened_in g n img) ≡ true
  unfolding standing opened_in seq_of height_of
  standing_in =
      let fits = (ready_keeps g shape img ready).held.whole.sound.rooted.fits in
      and_both _ _ (and_both _ _ (and_both _ _ (lt-ltb (root_of g n img) (pages_of g n) fits.0) (ap not fits.1))
      (rw fits.1 (eq-eqb (seq_at g img (root_of g n img)) (seq_at g img (root_of g n img)) refl)))
      (rw fits.1 (eq-eqb (height_at g img (root_of g n img)) (height_at g img (root_of g n img)) refl))

  pub standing_opened : standing g n img (opened g img) ≡ true
  standing_opened = ap (standing g n img) (opened_ready g img ready) ∙ standing_in

  -- what is seen by the record is what the rules see
  pub chip_opened : chip_by g img (opened g img) ≡ chip_of g n img
  chip_opened = ap (chip_by g img) (opened_ready g img ready)
      ∙ chip_right g (shape_core g shape) n img (ready_keeps g shape img ready).held

  -- "answers and bytes equal the old calls'"
  pub lookup_same : (k : ℕ) → lookup_with g img (opened g img) k ≡ lookup g img k
  unfolding lookup_with opened_call lookup judged by_verdict
  lookup_same k = rw (ready.length_good, ready.is_sound_lem, standing_opened)
      (ap (λ (c : Chip). answered (sought c k) img) chip_opened)

-- a listing stops at no pair of a sound image
pub list_same : (g : Geometry) → Known g → (img : List ℕ) → Ready g img → (low high : ℕ) (buffer : List ℕ)
    → list_with g img (opened g img) low high buffer ≡ listing g img low high buffer
unfolding list_with opened_call listing judged by_verdict
list_same g known img ready low high buffer =
    let s = shape g known in
    let n = blocks_of g img in
    let few = few_ranged g s (known_few g known) n img (some_pages g s img ready) (ready_keeps g s img ready).held low high in
    rw (ready.length_good, ready.is_sound_lem, standing_opened g s img ready)
    (ap (λ (c : Chip). lists (take pairs_most (ranged_of c low high)) buffer) (chip_opened g s img ready)
    ∙ ap (λ (es : List Entry). lists es buffer) (take_all pairs_most (ranged_of (chip_of g n img) low high) few))
