-- The blank image, all 255, has a good length and is not sound: no page carries a root. Assumes nothing.
use Rattle.std.specs.Prelude.{◌≡◌, refl, true, ℕ, ◌+◌, ◌*◌, ◌/◌, ◌%◌, ◌<◌, ◌≤◌, eqb, leb, Err}
use Rattle.std.proofs.Math.Path.{ap}
use Rattle.std.proofs.Common.{arith}
use Rattle.std.proofs.Math.Decide.{dec_lt}
use Rattle.std.proofs.lemmas.List.{length-replicate, get_or-replicate}
use Rattle.std.proofs.Math.ListN.{get_or-eq_default}
use Rattle.geometry.specs.declared.Geometry.{Geometry}
use Rattle.geometry.specs.Findings.{Verdict, Sound}
use Rattle.geometry.specs.Geometry.{small, plain, page_base}
use Rattle.geometry.specs.Tests.{◌&◌}
use Rattle.geometry.specs.Shape.{Core, shape_core, plain_core}
use Rattle.geometry.proofs.Shape.{small_shape}
use Rattle.model.specs.Bytes.{byte_at}
use Rattle.model.specs.Image.{block_bytes, blocks_of, good_length, pages_of}
use Rattle.model.specs.Rules.{verdict}
use Rattle.model.specs.Calls.{Outcome}
use Rattle.log_lines.specs.Replay.{blank_image}
use Rattle.theory_chips.specs.Next.{block_in}
use Rattle.theory_chips.specs.Whole.{some_page}
use Rattle.theory_images.specs.Views.{View, no_view, top_of, root_at, root_in, peak_least}
use Rattle.theory_images.specs.Page.{views, view_erased, view_max}
use Rattle.theory_images.specs.Lengths.{Blocks, good_blocks_lem}
use Rattle.theory_images.specs.Held.{Held}
use Rattle.theory_demands.specs.Words.{Ready}
use Rattle.theory_demands.specs.Bridges.{ready_keeps}
use Rattle.theory_demands.specs.Refusals.{Refuses}
use Rattle.plain_updates.specs.Words.{ready_held}
use Rattle.theory_same_map.specs.Numbers.{largest_on, page_end}

pub small_good : good_length small (blank_image small) ≡ true
unfolding good_length blocks_of page_base ◌&◌
small_good = ap (λ l. eqb (l % block_bytes small) 0 & leb 3 (l / block_bytes small) & leb (l / block_bytes small) 1024)
    (length-replicate {A = ℕ} (3 * block_bytes small) 255)

pub plain_good : good_length plain (blank_image plain) ≡ true
unfolding good_length blocks_of page_base ◌&◌
plain_good = ap (λ l. eqb (l % block_bytes plain) 0 & leb 3 (l / block_bytes plain) & leb (l / block_bytes plain) 1024)
    (length-replicate {A = ℕ} (3 * block_bytes plain) 255)

module _ (g : Geometry) where
  pub blank_bytes : (i : ℕ) → byte_at (blank_image g) i < 256
  blank_bytes i =
      let l = length-replicate {A = ℕ} (3 * block_bytes g) 255 in
      elim (dec_lt i (3 * block_bytes g)) [
        | yes h ↦ (let e = get_or-replicate {A = ℕ} (3 * block_bytes g) i 255 0 h in omega (arith, e))
        | no h ↦ (let e = get_or-eq_default (blank_image g) 0 {n = i} (omega (arith, l, h)) in omega (arith, e))
      ]

  module _ (core : Core g) (good : good_length g (blank_image g) ≡ true) where
    abbrev n : ℕ
    n = blocks_of g (blank_image g)

    abbrev t : ℕ
    t = pages_of g n

    blocks : Blocks g (blank_image g)
    blocks = good_blocks_lem g (blank_image g) good

    no_view_lem : (q : ℕ) → q < t → views g (blank_image g) q ≡ no_view g
    no_view_lem q h = view_erased g core (blank_image g) (page_base g q) (λ k p.
        let w = page_end g q t h in
        let z = blocks.image in
        let l = length-replicate {A = ℕ} (3 * block_bytes g) 255 in
        get_or-replicate {A = ℕ} (3 * block_bytes g) (page_base g q + k) 255 0 (omega (arith, w, z, l, p)))

    -- it has no number
    pub blank_numbers : largest_on g (blank_image g) ≤ 0
    unfolding top_of
    blank_numbers =
        let z = peak_least t (λ q. (views g (blank_image g) q).seq) 0 (λ q h. let e =
        ap (λ (v : View). v.seq) (no_view_lem q h) in omega (arith, e)) in
        let y = view_max g n (blank_image g) in
        omega (arith, z, y)

    blank_unheld : Held g n (blank_image g) → ⊥
    blank_unheld held =
        let some : 1 ≤ t = (let w = block_in g.pages 2 n blocks.least in let z = some_page g core in
        omega (arith, w, z)) in
        let e = ap (λ (v : View). v.height) (no_view_lem (root_at t (views g (blank_image g))) (root_in t (views g (blank_image g)) some)) in
        let r = held.r4 in
        omega (arith, e, r)

    -- a call that judges its image first refuses it by 2
    blank_refused : (Ready g (blank_image g) → Held g n (blank_image g)) → (o : Outcome) → Refuses g (blank_image g) o
        → (o.answer ≡ 2) × (o.address ≡ 0) × (o.image ≡ blank_image g)
    blank_refused held o r = go (verdict g n (blank_image g)) refl
      where
        go : (v : Verdict) → verdict g n (blank_image g) ≡ v → (o.answer ≡ 2) × (o.address ≡ 0) ×
            (o.image ≡ blank_image g)
        go Sound e = absurd (blank_unheld (held (record { length_good = good; is_sound_lem = e; bytes = blank_bytes })))
        go (Err b) e = let d = r.not_sound b.rule b.page good e in
            (ap (λ (x : Outcome). x.answer) d, ap (λ (x : Outcome). x.address) d, ap (λ (x : Outcome). x.image) d)

pub small_refused : (o : Outcome) → Refuses small (blank_image small) o → (o.answer ≡ 2) × (o.address ≡ 0) ×
    (o.image ≡ blank_image small)
small_refused = blank_refused small (shape_core small small_shape) small_good (λ r. (ready_keeps small small_shape (blank_image small) r).held)

pub plain_refused : (o : Outcome) → Refuses plain (blank_image plain) o → (o.answer ≡ 2) × (o.address ≡ 0) ×
    (o.image ≡ blank_image plain)
plain_refused = blank_refused plain plain_core plain_good (λ r. ready_held (blank_image plain) r)
