-- Request 8: insert and delete with the record, on every image with every record. Definitions alone; assumes nothing.
use Rattle.std.specs.Prelude.{ℕ, List, leb, length, replicate}
use Rattle.geometry.specs.declared.Geometry.{Geometry}
use Rattle.geometry.specs.Geometry.{chosen_of}
use Rattle.geometry.specs.Tests.{pick, ◌&◌}
use Rattle.model.specs.Image.{blocks_of, good_length}
use Rattle.model.specs.Calls.{refused, chosen_call}
use Rattle.live_walk.specs.Table.{note_all}
use Rattle.live_words.specs.Words.{words_of}
use Rattle.open_record.specs.declared.Opened.{Opened}
use Rattle.open_record.specs.Opened.{standing}
use Rattle.live_beside.specs.Table.{table_in}
use Rattle.live_beside.specs.Beside.{Held, holding}
use Rattle.live_beside.specs.Update.{Returned, returned, places_by, words_by, insert_by, delete_by}

-- levels of 65,536 pages, none noted
unfoldable pub no_levels : List ℕ
no_levels = replicate 65536 0

-- what the record says, with the table worked out from its root
abbrev pub held_by : Geometry → ℕ → Opened → List ℕ → List ℕ → Held
held_by g n o img old = holding o (table_in (note_all (places_by g img o) no_levels) (words_by g n o img old))

-- LENGTH: a bad length, or "Fewer than B words"; then STALE. "both return the record as given", and leave the words
unfoldable pub update_with : Geometry → List ℕ → List ℕ → Opened → Returned → Returned
update_with g img old o rest = pick (good_length g img & leb (words_of g (blocks_of g img)) (length old))
    (pick (standing g (blocks_of g img) img o) rest (returned (refused 8 img) o old)) (returned (refused 1 img) o old)

unfoldable pub insert_with : Geometry → List ℕ → List ℕ → Opened → ℕ → ℕ → ℕ → Returned
insert_with g img old o k a allowance =
    update_with g img old o (insert_by g (blocks_of g img) (held_by g (blocks_of g img) o img old) img k a allowance)

unfoldable pub delete_with : Geometry → List ℕ → List ℕ → Opened → ℕ → ℕ → Returned
delete_with g img old o k allowance =
    update_with g img old o (delete_by g (blocks_of g img) (held_by g (blocks_of g img) o img old) img k allowance)

-- by the geometry's number; another gives LENGTH
unfoldable pub insert_with_of : ℕ → List ℕ → List ℕ → Opened → ℕ → ℕ → ℕ → Returned
insert_with_of kind img old o k a allowance =
    chosen_call (chosen_of kind) (λ g. insert_with g img old o k a allowance) (returned (refused 1 img) o old)

unfoldable pub delete_with_of : ℕ → List ℕ → List ℕ → Opened → ℕ → ℕ → Returned
delete_with_of kind img old o k allowance =
    chosen_call (chosen_of kind) (λ g. delete_with g img old o k allowance) (returned (refused 1 img) o old)
