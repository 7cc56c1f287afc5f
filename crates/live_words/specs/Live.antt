-- Request 7: insert and delete with the lent words. The outcome is that of the call without them; the words are worked
-- out from the image that the call leaves. Definitions alone; assumes nothing.
use Rattle.std.specs.Prelude.{ℕ, Bool, true, List, eqb, leb, length}
use Rattle.geometry.specs.declared.Geometry.{Geometry}
use Rattle.geometry.specs.Geometry.{chosen_of}
use Rattle.geometry.specs.Tests.{pick}
use Rattle.model.specs.Image.{chip_of, blocks_of}
use Rattle.model.specs.Tree.{places_of, live}
use Rattle.model.specs.Calls.{Outcome, refused, chosen_call, insert, delete}
use Rattle.live_words.specs.Words.{words_of, filled}

-- what a call leaves: its outcome and the lent words
pub record Reply : Type 0 where
  pub outcome : Outcome
  pub words : List ℕ

abbrev pub reply : Outcome → List ℕ → Reply
reply outcome words = record { outcome = outcome; words = words }

-- the words of an image of n blocks, "worked out afresh from the image"
unfoldable pub live_words : Geometry → ℕ → List ℕ → List ℕ → List ℕ
live_words g n img old = filled (live (places_of (chip_of g n img))) (words_of g n) old

-- LENGTH and DAMAGED, "which leave it"
unfoldable pub leaves_words : ℕ → Bool
leaves_words answer = pick (eqb answer 1) true (eqb answer 2)

-- "right after every answer but LENGTH, DAMAGED"; "Fewer than B words give LENGTH"
unfoldable pub with_words : Geometry → List ℕ → List ℕ → Outcome → Reply
with_words g img old o = pick (leb (words_of g (blocks_of g img)) (length old))
    (reply o (pick (leaves_words o.answer) old (live_words g (blocks_of g img) o.image old)))
    (reply (refused 1 img) old)

unfoldable pub insert_live : Geometry → List ℕ → List ℕ → ℕ → ℕ → ℕ → Reply
insert_live g img old k a allowance = with_words g img old (insert g img k a allowance)

unfoldable pub delete_live : Geometry → List ℕ → List ℕ → ℕ → ℕ → Reply
delete_live g img old k allowance = with_words g img old (delete g img k allowance)

-- by the geometry's number; another gives LENGTH
unfoldable pub insert_live_of : ℕ → List ℕ → List ℕ → ℕ → ℕ → ℕ → Reply
insert_live_of kind img old k a allowance =
    chosen_call (chosen_of kind) (λ g. insert_live g img old k a allowance) (reply (refused 1 img) old)

unfoldable pub delete_live_of : ℕ → List ℕ → List ℕ → ℕ → ℕ → Reply
delete_live_of kind img old k allowance =
    chosen_call (chosen_of kind) (λ g. delete_live g img old k allowance) (reply (refused 1 img) old)
