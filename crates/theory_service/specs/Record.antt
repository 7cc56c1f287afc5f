-- The record of request 8 in its 24 bytes: what is put is read, a record that is put back leaves the bytes, the bytes
-- after it stay; and the record that opening gives fits them. Assumes nothing.
use Rattle.std.specs.Prelude.{◌≡◌, refl, List, [], ◌∷◌, Bool, ℕ, ◌+◌, ◌*◌, ◌/◌, ◌%◌, ◌<◌, ◌≤◌, length}
use Rattle.std.proofs.Common.{subst, sym, ◌∙◌, inr, mul-le-mul_left}
use Rattle.std.proofs.Math.Bool.{true, false}
use native.Mathlib.Omega.{arith}
use Rattle.std.proofs.lemmas.List.{set-get_or}
use Rattle.geometry.specs.declared.Geometry.{Geometry}
use Rattle.geometry.specs.Geometry.{page_base}
use Rattle.geometry.specs.Shape.{Known}
use Rattle.geometry.proofs.Shape.{shape}
use Rattle.geometry.specs.Tests.{pick}
use Rattle.geometry.specs.Bounds.{four_bytes}
use Rattle.model.specs.Bytes.{byte_at, u32_at, erased, seq_at, height_at}
use Rattle.model.specs.Page.{put_u32}
use Rattle.model.specs.Image.{pages_of, blocks_of, chip_of, seq_of, height_of, max_seq, root_of}
use Rattle.theory_counts.specs.Peak.{peak_at}
use Rattle.theory_counts.specs.Tally.{count_most}
use Rattle.theory_images.specs.Bytes.{length_word, word_off}
use Rattle.theory_images.specs.Small.{Small, u32_fits}
use Rattle.open_record.specs.declared.Opened.{Opened}
use Rattle.open_record.specs.Opened.{opened_in, opened}
use Rattle.theory_demands.specs.Words.{Ready}
use Rattle.theory_demands.specs.Bridges.{blocks, ready_keeps}
use Rattle.theory_demands.specs.Opened.{opened_ready}
use Rattle.camera.specs.Camera.{put_numbers, record_in, record_numbers, put_record}
use Rattle.theory_service.specs.Left.{number_read}

-- six numbers of 32 bits
pub record Fits (o : Opened) : Type 0 where
  pub root_low : o.root < four_bytes
  pub number_low : o.number < four_bytes
  pub most_low : o.most < four_bytes
  pub height_low : o.height < four_bytes
  pub next_low : o.next < four_bytes
  pub erased_low : o.erased < four_bytes

-- what is put is read
pub record_read : (o : Opened) (bytes : List ℕ) → 24 ≤ length bytes → Fits o → record_in (put_record o bytes) ≡ o
unfolding record_in put_record
record_read o bytes room fits =
    let read = number_read bytes (record_numbers o) 0 in
    let a = read 0 room (omega arith) fits.root_low in
    let b = read 1 room (omega arith) fits.number_low in
    let c = read 2 room (omega arith) fits.most_low in
    let d = read 3 room (omega arith) fits.height_low in
    let e = read 4 room (omega arith) fits.next_low in
    let f = read 5 room (omega arith) fits.erased_low in
    rw (a, b, c, d, e, f)

-- the bytes of a number
second : (p q r t : ℕ) → p < 256 → q < 256 → (p + 256 * q + 65536 * r + 16777216 * t) / 256 % 256 ≡ q
second p q r t hp hq =
    let e : (p + 256 * q + 65536 * r + 16777216 * t) / 256 ≡ q + 256 * r + 65536 * t = omega (arith, hp) in
    rw e (omega (arith, hq))

third : (p q r t : ℕ) → p < 256 → q < 256 → r < 256 → (p + 256 * q + 65536 * r + 16777216 * t) / 65536 % 256 ≡ r
third p q r t hp hq hr =
    let e : (p + 256 * q + 65536 * r + 16777216 * t) / 65536 ≡ r + 256 * t = omega (arith, hp, hq) in
    rw e (omega (arith, hr))

fourth : (p q r t : ℕ) → p < 256 → q < 256 → r < 256 → t < 256 → (p + 256 * q + 65536 * r + 16777216 * t) / 16777216 %
    256 ≡ t
fourth p q r t hp hq hr ht =
    let e : (p + 256 * q + 65536 * r + 16777216 * t) / 16777216 ≡ t = omega (arith, hp, hq, hr) in
    rw e (omega (arith, ht))

-- a number that is put back where it was read leaves the bytes
put_back : (b : List ℕ) (i : ℕ) → Small b → put_u32 b i (u32_at b i) ≡ b
unfolding put_u32 u32_at
put_back b i s =
    let p = byte_at b i in
    let q = byte_at b (i + 1) in
    let r = byte_at b (i + 2) in
    let t = byte_at b (i + 3) in
    let v = p + 256 * q + 65536 * r + 16777216 * t in
    let a : v % 256 ≡ p = omega (arith, s i) in
    let c : v / 256 % 256 ≡ q = second p q r t (s i) (s (i + 1)) in
    let d : v / 65536 % 256 ≡ r = third p q r t (s i) (s (i + 1)) (s (i + 2)) in
    let e : v / 16777216 % 256 ≡ t = fourth p q r t (s i) (s (i + 1)) (s (i + 2)) (s (i + 3)) in
    rw (a, set-get_or b i 0, c, set-get_or b (i + 1) 0, d, set-get_or b (i + 2) 0, e) (set-get_or b (i + 3) 0)

pub record_back : (bytes : List ℕ) → Small bytes → put_record (record_in bytes) bytes ≡ bytes
unfolding record_in put_record put_numbers
record_back bytes s =
    rw (put_back bytes 0 s, put_back bytes 4 s, put_back bytes 8 s, put_back bytes 12 s, put_back bytes 16 s) (put_back bytes 20 s)

-- "Bytes after the 24 stay"
length_numbers : (b vs : List ℕ) (at : ℕ) → length (put_numbers b at vs) ≡ length b
unfolding put_numbers
length_numbers b [] at = refl
length_numbers b (v ∷ vs) at = length_numbers (put_u32 b at v) vs (at + 4) ∙ length_word b at v

numbers_past : (b vs : List ℕ) (at i : ℕ) → at + 4 * length vs ≤ i → byte_at (put_numbers b at vs) i ≡ byte_at b i
unfolding put_numbers
numbers_past b [] at i h = refl
numbers_past b (v ∷ vs) at i h = numbers_past (put_u32 b at v) vs (at + 4) i (omega (arith, h))
    ∙ word_off b at v i (inr (omega (arith, h)))

module _ (o : Opened) (bytes : List ℕ) where
  pub record_long : length (put_record o bytes) ≡ length bytes
  unfolding put_record
  record_long = length_numbers bytes (record_numbers o) 0

  pub record_past : (i : ℕ) → 24 ≤ i → byte_at (put_record o bytes) i ≡ byte_at bytes i
  unfolding put_record
  record_past i h = numbers_past bytes (record_numbers o) 0 i h

-- ---- the record that opening gives for a sound image
module _ (g : Geometry) (img : List ℕ) (s : Small img) where
  seq_fits : (q : ℕ) → seq_of g img q < four_bytes
  unfolding seq_of seq_at
  seq_fits q = go (erased g img q)
    where
      go : (t : Bool) → pick t 0 (u32_at img (page_base g q + g.main)) < four_bytes
      go true = omega arith
      go false = u32_fits img (page_base g q + g.main) s

  height_fits : (q : ℕ) → height_of g img q < four_bytes
  unfolding height_of height_at
  height_fits q = go (erased g img q)
    where
      go : (t : Bool) → pick t 0 (byte_at img (page_base g q + g.main + 4)) < four_bytes
      go true = omega arith
      go false = omega (arith, s (page_base g q + g.main + 4))

  most_fits : (n : ℕ) → 0 < pages_of g n → max_seq g n img < four_bytes
  unfolding max_seq
  most_fits n h = rw (peak_at (seq_of g img) (pages_of g n) h) (seq_fits _)

pub opened_fits : (g : Geometry) → Known g → (img : List ℕ) → Ready g img → Fits (opened g img)
unfolding opened_in
opened_fits g known img ready =
    let n = blocks_of g img in
    let sh = shape g known in
    let few : pages_of g n < four_bytes = (let a = mul-le-mul_left g.pages (blocks g sh img ready).most in let b =
    sh.pages_high in omega (arith, a, b)) in
    let root = (ready_keeps g sh img ready).held.whole.sound.rooted.fits.0 in
    subst Fits (sym (opened_ready g img ready)) (record {
      root_low = omega (arith, root, few);
      number_low = seq_fits g img ready.bytes (root_of g n img);
      most_low = most_fits g img ready.bytes n (omega (arith, root));
      height_low = height_fits g img ready.bytes (root_of g n img);
      next_low = omega (arith, few);
      erased_low = (let w = count_most (chip_of g n img).er (pages_of g n) in omega (arith, w, few));
    })
