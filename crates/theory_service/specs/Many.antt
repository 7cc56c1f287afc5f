-- Request 10 of the C calls on the small chip: mutree_format, then n calls of mutree_insert, each of a key that
-- mutree_lookup does not find and each answered DONE, with nothing else between. Every image of bytes, every key,
-- address, allowance, lent words (DONE says that they were enough) and result buffer. Assumes nothing.
use Rattle.std.specs.Prelude.{◌≡◌, refl, List, [], ◌∷◌, map, Bool, true, false, ℕ, suc, ◌+◌, ◌-◌, ◌*◌, ◌<◌, ◌≤◌, length, None, Option, Some}
use Rattle.std.proofs.Common.{ap, subst, ◌∙◌, inl, arith}
use Rattle.std.proofs.Math.Path.{sym}
use Rattle.geometry.specs.Geometry.{small}
use Rattle.geometry.proofs.Shape.{small_shape}
use Rattle.geometry.specs.Tests.{pick}
use Rattle.geometry.specs.Bounds.{four_bytes}
use Rattle.model.specs.Bytes.{byte_at}
use Rattle.model.specs.Image.{blocks_of, good_length}
use Rattle.model.specs.Tree.{find}
use Rattle.model.specs.Update.{insert_stores, format_stores}
use Rattle.model.specs.Stores.{Store, apply_all, programs}
use Rattle.model.specs.Calls.{Outcome, gives, refused, answered, format, lookup, insert, chosen_call, format_of, lookup_of}
use Rattle.theory_demands.specs.Words.{Ready, map_at}
use Rattle.theory_demands.specs.Calls.{made_counts}
use Rattle.theory_demands.specs.Demands.{lookup_answers, insert_made_lem}
use Rattle.theory_demands.proofs.Demands.{insert_done, insert_bounds}
use Rattle.theory_demands.specs.Builds.{format_holds}
use Rattle.theory_demands.specs.Inserts.{Item, moves, Finished, beyond, splits_and_growths}
use Rattle.theory_demands.proofs.Many.{many_inserts, many_inserts_are}
use Rattle.theory_demands.proofs.Live.{insert_live_lem}
use Rattle.theory_counts.specs.Least.{by_lt}
use Rattle.live_words.specs.Words.{words_of}
use Rattle.live_words.specs.Live.{Reply, insert_live, insert_live_of}
use Rattle.camera.specs.Camera.{Left}
use Rattle.theory_service.specs.Left.{formats, looks_up, inserts, programmed_in, Told, told, told_number}

-- a call of mutree_insert, with the words and the result buffer that it is lent
pub record Call : Type 0 where
  pub key : ℕ
  pub address : ℕ
  pub allowance : ℕ
  pub live : List ℕ
  pub result : List ℕ

abbrev pub leaves : List ℕ → Call → Left
leaves image x = inserts 0 image x.live x.key x.address x.allowance x.result

-- one after the other: mutree_lookup answers ABSENT (4) before, and mutree_insert DONE (0)
unfoldable pub Done : List Call → List ℕ → Type 0
Done [] image = Unit {0}
Done (x ∷ xs) image = (x.key < four_bytes) × (x.address < four_bytes) × ((looks_up 0 image x.key x.result).answer ≡ 4) ×
    ((leaves image x).answer ≡ 0) × Done xs (leaves image x).image

-- X: the pages that the calls report, less one for each call, the collector's moves left out
unfoldable pub beyond_one : List Call → List ℕ → ℕ
beyond_one [] image = 0
beyond_one (x ∷ xs) image = programmed_in (leaves image x).result - moves small image x.key - 1 + beyond_one xs (leaves image x).image

-- the call's arguments
abbrev pub item : Call → Item
item x = record { key = x.key; addr = x.address; allowance = x.allowance }

-- what a result's third number and a lookup's answer say
absent_by : (image : List ℕ) (o : Option ℕ) → (answered o image).answer ≡ 4 → o ≡ None
unfolding answered
absent_by image None e = refl
absent_by image (Some a) e = absurd (omega (arith, e))

module _ (image : List ℕ) (ready : Ready small image)
    (x : Call) (k_low : x.key < four_bytes) (a-low : x.address < four_bytes) where
  absent : (looks_up 0 image x.key x.result).answer ≡ 4 → find x.key (map_at small image) ≡ None
  unfolding chosen_call lookup_of
  absent e =
      let t = told (lookup small image x.key) image x.result (λ z. absurd (omega (arith, z, e))) in
      absent_by image (find x.key (map_at small image))
      (sym (ap (λ (o : Outcome). o.answer) (lookup_answers small small_shape image ready x.key k_low))
      ∙ sym t.answer_is ∙ e)

  module _ (e : (leaves image x).answer ≡ 0) where
    abbrev outcome : Outcome
    outcome = insert small image x.key x.address x.allowance

    abbrev stores : List Store
    stores = insert_stores small (blocks_of small image) image x.key x.address

    abbrev replied : Reply
    replied = insert_live small image x.live x.key x.address x.allowance

    tells_replied : Told replied.outcome x.result (leaves image x)
    unfolding chosen_call insert_live_of
    tells_replied = told replied.outcome image x.result (λ z. absurd (omega (arith, z, e)))

    -- too few words would have given 1
    enough : replied.outcome ≡ outcome
    enough =
        let h = insert_live_lem small image x.live x.key x.address x.allowance in
        let q = sym tells_replied.answer_is ∙ e in
        by_lt (length x.live) (words_of small (blocks_of small image))
        (λ s. let z = ap (λ (r : Reply). r.outcome.answer) (h.words_short s) in
        absurd (omega (arith, z, q))) h.outcome_is

    tells : Told outcome x.result (leaves image x)
    tells = subst (λ (o : Outcome). Told o x.result (leaves image x)) enough tells_replied

    done : outcome.answer ≡ 0
    done = sym tells.answer_is ∙ e

    -- a finished insert reports the pages of all its stores
    counted : outcome.programmed ≡ programs stores
    counted =
        let w = insert_made_lem small small_shape image ready x.key k_low x.address x.allowance (inl done) in
        ap (λ (o : Outcome). o.programmed) w ∙ made_counts small stores x.allowance image (sym (ap (λ (o : Outcome). o.answer) w) ∙ done)

    reported : programmed_in (leaves image x).result ≡ programs stores
    reported =
        let b = insert_bounds small small_shape image ready x.key k_low x.address x.allowance a-low (inl done) in
        ap programmed_in tells.result_is ∙ told_number outcome x.result tells.room 2 (omega arith) (omega (arith, counted, b.1)) ∙ counted

-- the calls as insertions
finished : (xs : List Call) (image : List ℕ) → Ready small image → Done xs image → Finished small (map item xs) image
unfolding Done Finished
finished [] image ready d = tt
finished (x ∷ xs) image ready d =
    let t = tells image ready x d.0 d.1 d.3 in
    let e = done image ready x d.0 d.1 d.3 in
    let next = insert_done small small_shape image ready x.key d.0 x.address x.allowance d.1 e in
    (d.0, d.1, absent image ready x d.0 d.1 d.2, e, finished xs _ next.ready (subst (Done xs) t.image_is d.4))

counts_are : (xs : List Call) (image : List ℕ) → Ready small image → Done xs image → beyond_one xs image ≡ beyond small
    (map item xs) image
unfolding Done beyond_one beyond
counts_are [] image ready d = refl
counts_are (x ∷ xs) image ready d =
    let t = tells image ready x d.0 d.1 d.3 in
    let e = done image ready x d.0 d.1 d.3 in
    let next = insert_done small small_shape image ready x.key d.0 x.address x.allowance d.1 e in
    let rest = counts_are xs _ next.ready (subst (Done xs) t.image_is d.4) in
    let own = reported image ready x d.0 d.1 d.3 in
    rw t.image_is (omega (arith, own, rest))

as_many : (xs : List Call) → length (map item xs) ≡ length xs
as_many [] = refl
as_many (x ∷ xs) = ap suc (as_many xs)

-- mutree_format answers 0 for a good length only, with a whole result buffer
good_format : (image : List ℕ) → (format small image).answer ≡ 0 → good_length small image ≡ true
unfolding format
good_format image q = go (good_length small image) q
  where
    go : (b : Bool) → (pick {A = Outcome} b (gives 0 0 1 (blocks_of small image)
        (apply_all small (format_stores small (blocks_of small image)) image)) (refused 1 image)).answer ≡ 0 → b ≡ true
    go true h = refl
    go false h = absurd (omega (arith, h))

formatted : (image result : List ℕ) → (formats 0 image result).answer ≡ 0
    → (good_length small image ≡ true) × ((formats 0 image result).image ≡ (format small image).image)
unfolding chosen_call format_of
formatted image result e =
    let t = told (format small image) image result (λ z. absurd (omega (arith, z, e))) in
    (good_format image (sym t.answer_is ∙ e), t.image_is)

module _ (image result : List ℕ) (bytes : (i : ℕ) → byte_at image i < 256) (e : (formats 0 image result).answer
    ≡ 0) (xs : List Call)
    (d : Done xs (formats 0 image result).image) where
  abbrev new : List ℕ
  new = (formats 0 image result).image

  ready : Ready small new
  ready = let f = formatted image result e in
      subst (Ready small) (sym f.1) (format_holds small small_shape (omega arith) image f.0 bytes).ready

  -- 1,024 X is at most 75 n
  pub many_calls : 1024 * beyond_one xs new ≤ 75 * length xs
  many_calls =
      let f = formatted image result e in
      let w = subst (Finished small (map item xs)) f.1 (finished xs new ready d) in
      let z = many_inserts image f.0 bytes (map item xs) w in
      let c = counts_are xs new ready d ∙ ap (beyond small (map item xs)) f.1 in
      omega (arith, z, c, as_many xs)

  -- X is the splits and growths together
  pub many_calls_are : beyond_one xs new ≡ splits_and_growths small (map item xs) new
  many_calls_are =
      let f = formatted image result e in
      let w = subst (Finished small (map item xs)) f.1 (finished xs new ready d) in
      counts_are xs new ready d ∙ ap (beyond small (map item xs)) f.1
      ∙ many_inserts_are image f.0 bytes (map item xs) w
      ∙ ap (splits_and_growths small (map item xs)) (sym f.1)
