-- Request 8, "Open once, call often": a sound image is opened, and each call takes the record and the words that the
-- call before it returned. Every outcome is that of the old call on the image as it then stands, and the record stays
-- what opening would give. Assumes nothing.
use Rattle.std.specs.Prelude.{◌≡◌, refl, ℕ, ◌<◌, ◌≤◌}
use Rattle.std.proofs.Math.Path.{subst}
use Rattle.std.proofs.Common.{sym}
use mathlib.Core.List.{List, [], ◌∷◌}
use Rattle.std.proofs.Math.ListN.{length}
use Rattle.geometry.specs.declared.Geometry.{Geometry}
use Rattle.geometry.specs.Bounds.{four_bytes}
use Rattle.model.specs.Image.{blocks_of}
use Rattle.model.specs.Calls.{Outcome, insert, delete}
use Rattle.live_words.specs.Words.{words_of}
use Rattle.open_record.specs.Opened.{opened, opening}
use Rattle.live_beside.specs.Update.{Returned, returned}
use Rattle.live_beside.specs.Calls.{insert_with, delete_with}
use Rattle.theory_demands.specs.Words.{Ready}
use Rattle.theory_demands.specs.Opened.{opening_done}

-- an update with its arguments
pub data Update : Type 0 where
  put : ℕ → ℕ → ℕ → Update
  take : ℕ → ℕ → Update

-- keys and addresses below 2^32
abbrev pub Low : Update → Type 0
Low (put k a allowance) = (k < four_bytes) × (a < four_bytes)
Low (take k allowance) = k < four_bytes

-- the old call
abbrev pub old : Geometry → List ℕ → Update → Outcome
old g img (put k a allowance) = insert g img k a allowance
old g img (take k allowance) = delete g img k allowance

-- the call with what the one before it left: its image, its record, its words
abbrev pub again : Geometry → Returned → Update → Returned
again g r (put k a allowance) = insert_with g r.outcome.image r.words r.opened k a allowance
again g r (take k allowance) = delete_with g r.outcome.image r.words r.opened k allowance

-- opening, then the calls; `words` are the lent ones
abbrev pub opened_first : Geometry → List ℕ → List ℕ → Returned
opened_first g img words = returned (opening g img) (opened g img) words

unfoldable pub often : Geometry → List Update → Returned → Returned
often g [] r = r
often g (x ∷ xs) r = often g xs (again g r x)

-- the old calls, one after the other
unfoldable pub olden : Geometry → List Update → List ℕ → List ℕ
olden g [] img = img
olden g (x ∷ xs) img = olden g xs (old g img x).image

-- between two calls: a sound image, the record that opening gives for it, and words enough
pub record Open (g : Geometry) (r : Returned) : Type 0 where
  pub ready : Ready g r.outcome.image
  pub record_is : r.opened ≡ opened g r.outcome.image
  pub enough : words_of g (blocks_of g r.outcome.image) ≤ length r.words

-- so it is after opening
pub open_first : (g : Geometry) (img words : List ℕ) → Ready g img → words_of g (blocks_of g img) ≤ length words
    → Open g (opened_first g img words)
open_first g img words r room = subst (λ (o : Outcome). Open g (returned o (opened g img) words)) (sym (opening_done g img r))
    (record { ready = r; record_is = refl; enough = room })
