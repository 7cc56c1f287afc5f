-- Insert and delete as one: what an update asks before its stores, the stores, and what they leave. Definitions alone;
-- assumes nothing.
use Rattle.std.specs.Prelude.{ℕ, ◌+◌, ◌<◌, List, [], ◌∷◌, ◌++◌, ltb, is_none}
use Rattle.geometry.specs.declared.Geometry.{Geometry}
use Rattle.geometry.specs.Tests.{pick}
use Rattle.geometry.specs.Bounds.{four_bytes}
use Rattle.model.specs.Tree.{sought}
use Rattle.model.specs.Update.{needs, too_high}
use Rattle.model.specs.Stores.{Store}
use Rattle.call_answers.specs.declared.Answer.TheVariants.{Height, Absent}
use Rattle.call_answers.specs.Answers.{told}
use Rattle.live_walk.specs.Table.{live_in}
use Rattle.live_words.specs.Words.{words_of, filled}
use Rattle.live_words.specs.Live.{Reply, reply, insert_live, delete_live}
use Rattle.open_record.specs.declared.Opened.{Opened}
use Rattle.open_record.specs.Opened.{chip_by}
use Rattle.live_beside.specs.Table.{table_in}
use Rattle.live_beside.specs.Beside.{Held, holding, page_by}
use Rattle.live_beside.specs.Collect.{Run, collect_by}
use Rattle.live_beside.specs.Update.{Crest, Returned, returned, made_by, own_by, crest_by, delete_store_at, delete_crest}
use Rattle.live_beside.specs.Update.{roomless_by, refused_by}
use Rattle.live_beside.specs.Calls.{insert_with, delete_with}
use Rattle.call_update.specs.declared.Asks.{Asks}
use Rattle.call_update.specs.declared.Update.{Update}
use Rattle.call_update.specs.declared.Update.TheVariants.{Insert, Delete}

-- ---- what an insert and a delete differ in
-- key and address are of 32 bits
unfoldable pub Small : Update → Type 0
Small (Insert k a) = (k < four_bytes) × (a < four_bytes)
Small (Delete k) = k < four_bytes

-- HEIGHT and k pages, or ABSENT and one page
unfoldable pub asks_of : Update → Geometry → List ℕ → Opened → Asks
asks_of (Insert k a) g i o =
    record { refused = too_high g (chip_by g i o) k; answer = Height; pages = needs g (chip_by g i o) k }
asks_of (Delete k) g i o = record { refused = is_none (sought (chip_by g i o) k); answer = Absent; pages = 1 }

-- the own stores, m of them, on an image by its record
unfoldable pub own_for : Update → Geometry → ℕ → ℕ → Opened → List ℕ → List Store
own_for (Insert k a) g n m o i = own_by g n i o m k a
own_for (Delete k) g n m o i = delete_store_at g o.most (chip_by g i o) (page_by g n i o 0) k ∷ []

-- where the root then stands
unfoldable pub crest_for : Update → Geometry → ℕ → ℕ → Opened → List ℕ → Crest
crest_for (Insert k a) g n m o i = crest_by g n i o m k a
crest_for (Delete k) g n m o i = delete_crest (chip_by g i o) (page_by g n i o 0) k

-- judged first, and with the record
unfoldable pub update_live : Update → Geometry → List ℕ → List ℕ → ℕ → Reply
update_live (Insert k a) g img old x = insert_live g img old k a x
update_live (Delete k) g img old x = delete_live g img old k x

unfoldable pub update_opened : Update → Geometry → List ℕ → List ℕ → Opened → ℕ → Returned
update_opened (Insert k a) g img old o x = insert_with g img old o k a x
update_opened (Delete k) g img old o x = delete_with g img old o k x

-- ---- the frame of both
-- collection for m pages
abbrev pub run_for : Geometry → ℕ → ℕ → Held → List ℕ → Run Held
run_for g n m h i = collect_by g n m (m + 1) h i

-- then the own stores on the image that it leaves, and where the root then stands
abbrev pub stores_for : Update → Geometry → ℕ → ℕ → Held → List ℕ → List Store
stores_for u g n m h i =
    (run_for g n m h i).stores ++ own_for u g n m (run_for g n m h i).kept.at (run_for g n m h i).image

abbrev pub crest_on : Update → Geometry → ℕ → ℕ → Held → List ℕ → Crest
crest_on u g n m h i = crest_for u g n m (run_for g n m h i).kept.at (run_for g n m h i).image

-- what they leave
unfoldable pub made_for : Update → Geometry → ℕ → ℕ → Held → List ℕ → ℕ → Returned
made_for u g n m h i x =
    made_by g n (stores_for u g n m h i) (run_for g n m h i).kept.at m (crest_on u g n m h i) x i h.table.words

-- ROOM, else this
unfoldable pub planned_for : Update → Geometry → ℕ → ℕ → Held → List ℕ → ℕ → Returned
planned_for u g n m h i x = pick (roomless_by g n h m) (refused_by 6 h i) (made_for u g n m h i x)

-- WORN, then what the update asks, else this: `insert_by` and `delete_by`, as Updates.antt shows
unfoldable pub update_by : Update → Geometry → ℕ → Held → List ℕ → ℕ → Returned
update_by u g n h i x =
    pick (ltb g.worn h.at.most) (refused_by 3 h i) (
    pick (asks_of u g i h.at).refused (returned (told (asks_of u g i h.at).answer i) h.at h.table.words)
    (planned_for u g n (asks_of u g i h.at).pages h i x))

-- the record with a table's levels and words; and the words filled by the levels
abbrev pub held_in : Opened → List ℕ → List ℕ → Held
held_in o levels words = holding o (table_in levels words)

abbrev pub filled_by : Geometry → ℕ → List ℕ → List ℕ → List ℕ
filled_by g n levels old = filled (live_in levels) (words_of g n) old

-- the outcome and the words of what is left
abbrev pub replied : Returned → Reply
replied x = reply x.outcome x.words
