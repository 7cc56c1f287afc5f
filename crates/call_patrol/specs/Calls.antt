-- The patrol of a half of a page, in the form in which the code has the premises. Assumes nothing.
use Rattle.std.specs.Prelude.{◌≡◌, Bool, List, ℕ, ◌+◌, ◌*◌, ◌/◌, ◌<◌, ◌≤◌, length}
use Rattle.std.proofs.Math.Path.{refl, ap}
use Rattle.std.proofs.Common.{◌∙◌, mul_comm, mul_assoc, div-add-mod', arith}
use Rattle.std.proofs.Math.Bool.{true, false}
use Rattle.std.proofs.Math.Dec.{ltb}
use borrow.Author.Tests.{lt-ltb, le-ltb}
use Rattle.geometry.specs.declared.Geometry.{Geometry}
use Rattle.geometry.specs.declared.Patrol.{Patrol}
use Rattle.geometry.specs.Geometry.{page_bytes, halves, code_place, page_base}
use Rattle.geometry.specs.Shape.{base_apart}
use Rattle.geometry.specs.Tests.{◌&◌, and_true, and_false, and_none}
use Rattle.model.specs.Codes.{found, mended}
use Rattle.model.specs.Image.{block_bytes, blocks_of, good_length, pages_of}
use Rattle.model.specs.Calls.{gives, finding_of, bit_of, is_half, patrolled, patrol}
use Rattle.call_answers.specs.Answers.{told}
use Rattle.call_answers.specs.declared.Answer.TheVariants.{Done, Length}
use Rattle.chip_read.specs.Chip.{good_blocks}

-- a page of an image lies inside it
blocks_in : (g : Geometry) (img : List ℕ) → page_base g (g.pages * blocks_of g img) ≤ length img
unfolding page_base blocks_of
blocks_in g img =
    let e : g.pages * (length img / block_bytes g) * page_bytes g ≡ length img / block_bytes g * block_bytes g
    = ap (λ (x : ℕ). x * page_bytes g) (mul_comm g.pages (length img / block_bytes g))
    ∙ mul_assoc (length img / block_bytes g) g.pages (page_bytes g) in
    omega (arith, e, div-add-mod' (length img) (block_bytes g))

-- n: the blocks, t: the pages, a: the halves of a page
module _ (g : Geometry) (img : List ℕ) (page half n t : ℕ) (en : n ≡ good_blocks g img) (et : t ≡ g.pages * n) where
  no_half : (b : Bool) → good_length g img ≡ b → t ≤ page → is_half g img page half ≡ false
  unfolding is_half good_blocks
  no_half true e h =
      let m : n ≡ blocks_of g img = en ∙ rw e refl in
      rw (e, and_true, le-ltb page (g.pages * blocks_of g img) (rw (← m, ← et) h)) (and_false _)
  no_half false e h = rw (e, and_false) (and_false _)

  pub no_page : t ≤ page → told Length img ≡ patrol g img page half
  unfolding patrol
  no_page h = rw (no_half (good_length g img) refl h) refl

  some_blocks : (b : Bool) → good_length g img ≡ b → page < t → (good_length g img ≡ true) × (n ≡ blocks_of g img)
  unfolding good_blocks
  some_blocks true e h = (e, en ∙ rw e refl)
  some_blocks false e h =
      let z : n ≡ 0 = en ∙ rw e refl in
      let w : t ≡ 0 = et ∙ rw z (omega arith) in
      absurd (omega (arith, w, h))

  pub half_in : (a b i : ℕ) → a ≡ halves g → b ≡ page_base g page → i < a → page < t → b + 256 * i + 256 ≤ length img
  half_in a b i ea eb hi hp =
      let m = (some_blocks (good_length g img) refl hp).1 in
      let w : page < g.pages * blocks_of g img = rw (← m, ← et) hp in
      let x = base_apart g page (g.pages * blocks_of g img) w in
      let y = blocks_in g img in
      omega (arith, x, y, ea, eb, hi)

  pub patrol_is : (a b c i x y : ℕ) (p : Patrol) (o : List ℕ) → a ≡ halves g → b ≡ page_base g page → i ≡ half
      → c ≡ code_place g i
      → p ≡ found img (b + 256 * i) (b + c) → o ≡ mended img (b + 256 * i) (b + c) (found img (b + 256 * i) (b + c))
      → x ≡ finding_of p → y ≡ bit_of p
      → page < t → i < a → told (Done x y 0) o ≡ patrol g img page half
  unfolding patrol is_half patrolled
  patrol_is a b c i x y p o ea eb ei ec ep eo ex ey hp hi =
      let s = some_blocks (good_length g img) refl hp in
      let u : page < g.pages * blocks_of g img = rw (← s.1, ← et) hp in
      let v : half < halves g = rw (← ei, ← ea) hi in
      rw (s.0, and_true, lt-ltb page (g.pages * blocks_of g img) u, and_true, lt-ltb half (halves g) v, ← ei, ← eb, ← ec)
      (λ k. gives 0 ((ex ∙ ap finding_of ep) k) ((ey ∙ ap bit_of ep) k) 0 (eo k))

-- a half that no page has
module _ (g : Geometry) (img : List ℕ) (page half : ℕ) where
  pub past_half : (a i : ℕ) → a ≡ halves g → i ≡ half → a ≤ i → told Length img ≡ patrol g img page half
  unfolding patrol is_half
  past_half a i ea ei h = rw (le-ltb half (halves g) (rw (← ei, ← ea) h), and_none (good_length g img & ltb page (pages_of g (blocks_of g img)))) refl

pub ruleset call_laws = (no_page, half_in, patrol_is, past_half)
