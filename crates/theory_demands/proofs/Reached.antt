-- Images reached from format by insertions and deletions, with the record that opening gives or without one, each with
-- any allowance, so stopped and refused ones too: they are sound by R1 to R8, so T − L is at least twice a block's
-- pages. Assumes nothing.
use Rattle.std.specs.Prelude.{◌≡◌, true, ℕ, ◌-◌, ◌*◌, ◌<◌, ◌≤◌, length}
use Rattle.std.proofs.Common.{sym, subst}
use mathlib.Core.List.{List, [], ◌∷◌}
use Rattle.geometry.specs.declared.Geometry.{Geometry}
use Rattle.geometry.specs.Shape.{Known}
use Rattle.geometry.proofs.Shape.{shape}
use Rattle.model.specs.Bytes.{byte_at}
use Rattle.model.specs.Image.{blocks_of, good_length, chip_of}
use Rattle.model.specs.Calls.{free_pages, format}
use Rattle.theory_counts.specs.Cases.{by_le}
use Rattle.theory_lists.specs.All.{All}
use Rattle.live_words.specs.Words.{words_of}
use Rattle.open_record.specs.Opened.{opened}
use Rattle.live_beside.specs.Update.{Returned}
use Rattle.theory_demands.specs.Words.{Ready}
use Rattle.theory_demands.specs.Builds.{format_holds}
use Rattle.theory_demands.proofs.Stays.{insert_ready, delete_ready}
use Rattle.theory_demands.specs.OpenedCalls.{insert_few_words, delete_few_words}
use Rattle.theory_demands.proofs.OpenedCalls.{insert_same, delete_same}
use Rattle.theory_demands.specs.Reached.{Call, Low, outcome, put, put_opened, reached, sound_room, take, take_opened}

module _ (g : Geometry) (known : Known g) where
  -- a call on a sound image leaves a sound image; with too few words it leaves the image as it was
  pub call_ready : (img : List ℕ) (x : Call) → Low x → Ready g img → Ready g (outcome g img x).image
  call_ready img (put k a al) low h = insert_ready g (shape g known) img h k a al low.0 low.1
  call_ready img (take k al) low h = delete_ready g (shape g known) img h k al low
  call_ready img (put_opened words k a al) low h = by_le (words_of g (blocks_of g img)) (length words)
      (λ q. subst (λ (r : Returned). Ready g r.outcome.image) (sym (insert_same g known img h words q k a al low.0 low.1))
      (insert_ready g (shape g known) img h k a al low.0 low.1))
      (λ q. subst (λ (r : Returned). Ready g r.outcome.image) (sym (insert_few_words g img words (opened g img) k a al q)) h)
  call_ready img (take_opened words k al) low h = by_le (words_of g (blocks_of g img)) (length words)
      (λ q. subst (λ (r : Returned). Ready g r.outcome.image) (sym (delete_same g known img h words q k al low))
      (delete_ready g (shape g known) img h k al low))
      (λ q. subst (λ (r : Returned). Ready g r.outcome.image) (sym (delete_few_words g img words (opened g img) k al q)) h)

  pub calls_ready : (xs : List Call) (img : List ℕ) → All Low xs → Ready g img → Ready g (reached g xs img)
  unfolding reached
  calls_ready [] img low h = h
  calls_ready (x ∷ xs) img low h = calls_ready xs (outcome g img x).image low.1 (call_ready img x low.0 h)

  -- from format: sound, and T − L at least two blocks' pages
  module _ (some-worn : 1 ≤ g.worn) (img : List ℕ) (length_good : good_length g img ≡ true) (bytes : (i : ℕ)
      → byte_at img i < 256)
      (xs : List Call) (low : All Low xs) where
    abbrev after : List ℕ
    after = reached g xs (format g img).image

    pub reached_ready : Ready g after
    reached_ready = calls_ready xs (format g img).image low (format_holds g (shape g known) some-worn img length_good bytes).ready

    pub reached_room : 2 * g.pages ≤ free_pages g (blocks_of g after) (chip_of g (blocks_of g after) after)
    reached_room = sound_room g (shape g known) after reached_ready
