-- Insert and delete by the record and the table, on every image: the outcome, the record and the words that are left.
-- Definitions alone; assumes nothing.
use Rattle.std.specs.Prelude.{ℕ, zero, suc, ◌+◌, ◌-◌, ◌%◌, min, Bool, List, [], ◌∷◌, ◌++◌, leb, ltb, length, take, is_none}
use Rattle.geometry.specs.declared.Geometry.{Geometry}
use Rattle.geometry.specs.Tests.{pick, ◌&◌}
use Rattle.geometry.specs.Bounds.{four_bytes}
use Rattle.model.specs.Bytes.{erased}
use Rattle.model.specs.Image.{Chip, pages_of}
use Rattle.model.specs.Tree.{sought, Place, places_of, live}
use Rattle.model.specs.Page.{built}
use Rattle.model.specs.Stores.{Store, program, apply_all, programs, erases}
use Rattle.model.specs.Update.{needs, too_high, insert_list, insert_part, side_stores, crown_store, crown_height, delete_top, delete_part}
use Rattle.model.specs.Calls.{Outcome, gives, refused, roomless}
use Rattle.chip_store.specs.Careful.{made_of}
use Rattle.live_words.specs.Words.{words_of, filled, all_ones}
use Rattle.open_record.specs.declared.Opened.{Opened}
use Rattle.open_record.specs.Opened.{opened_in, chip_by}
use Rattle.live_beside.specs.Table.{Table}
use Rattle.live_beside.specs.Beside.{Held, next_after, page_by}
use Rattle.live_beside.specs.Collect.{collect_by}

-- what a call with the record leaves: its outcome, the record that it returns, and the lent words
pub record Returned : Type 0 where
  pub outcome : Outcome
  pub opened : Opened
  pub words : List ℕ

abbrev pub returned : Outcome → Opened → List ℕ → Returned
returned outcome o words = record { outcome = outcome; opened = o; words = words }

-- ---- the words by a record
-- the nodes of the largest tree, doubled: a walk stops there, so that it ends soon on a damaged image too
abbrev pub places_most : ℕ
places_most = 8388608

abbrev pub places_by : Geometry → List ℕ → Opened → List Place
places_by g img o = take places_most (places_of (chip_by g img o))

unfoldable pub words_by : Geometry → ℕ → Opened → List ℕ → List ℕ → List ℕ
words_by g n o img old = filled (live (places_by g img o)) (words_of g n) old

-- ---- stores made
-- where the root stands: its page, and the levels below it
pub record Crest : Type 0 where
  pub page : ℕ
  pub level : ℕ

-- the record after m own pages, the root at t; o the record before them, then the image after them
unfoldable pub record_made : Geometry → ℕ → Opened → ℕ → Crest → List ℕ → Opened
record_made g n o m t then = record {
  root = t.page;
  number = (o.most + m) % four_bytes;
  most = (o.most + m) % four_bytes;
  height = suc t.level;
  next = min (pages_of g n) (next_after g.pages n (erased g then) t.page);
  erased = o.erased - m;
}

-- the stores made under an allowance, m of them own pages after the record o: where all are, the record goes on from o;
-- else it is taken anew from the image that is left. The words are those of the record
unfoldable pub made_by : Geometry → ℕ → List Store → Opened → ℕ → Crest → ℕ → List ℕ → List ℕ → Returned
made_by g n ss o m t allowance img old =
    let made = made_of g ss allowance img in
    let all = leb (length ss) (length made) in
    let then = apply_all g made img in
    let left = pick all (record_made g n o m t then) (opened_in g n then) in
    returned (gives (pick all 0 7) 0 (programs made) (erases made) then) left (words_by g n left then old)

-- ---- insert
-- the page of the other half of level l, and N's for l = m, by the pages to come
abbrev pub side_by : (ℕ → ℕ) → ℕ → ℕ
side_by page zero = page 0
side_by page (suc l) = page l

-- an insert's own m stores: `own_stores` of the model, with the page of each level given
unfoldable pub own_stores_at : Geometry → ℕ → Chip → (ℕ → ℕ) → ℕ → ℕ → ℕ → List Store
own_stores_at g seq c side m k a =
    side_stores g seq k side (insert_list g c k a (side m) side) c.level
    ++ (crown_store g seq k side (suc c.level) (insert_list g c k a (side m) side (suc c.level))
    ++ (program (side m)
    (built g (seq + m) (crown_height g (suc c.level) (insert_list g c k a (side m) side (suc c.level)))
    (insert_part g c k a (side m) side)) ∷ []))

-- where the root stands after them
abbrev pub insert_crest : Geometry → Chip → (ℕ → ℕ) → ℕ → ℕ → ℕ → Crest
insert_crest g c side m k a = record {
  page = side m;
  level = crown_height g (suc c.level) (insert_list g c k a (side m) side (suc c.level)) - 1;
}

-- the pages of the levels by the record o
abbrev pub sides_by : Geometry → ℕ → List ℕ → Opened → ℕ → ℕ
sides_by g n img o = side_by (page_by g n img o)

-- own stores and crest on an image, by its record
abbrev pub own_by : Geometry → ℕ → List ℕ → Opened → ℕ → ℕ → ℕ → List Store
own_by g n img o m k a = own_stores_at g o.most (chip_by g img o) (sides_by g n img o) m k a

abbrev pub crest_by : Geometry → ℕ → List ℕ → Opened → ℕ → ℕ → ℕ → Crest
crest_by g n img o m k a = insert_crest g (chip_by g img o) (sides_by g n img o) m k a

-- collection for m pages, then the own stores on the image that it leaves
unfoldable pub insert_made : Geometry → ℕ → Held → List ℕ → ℕ → ℕ → ℕ → Returned
insert_made g n h img k a allowance =
    let m = needs g (chip_by g img h.at) k in
    let r = collect_by g n m (suc m) h img in
    made_by g n (r.stores ++ own_by g n r.image r.kept.at m k a) r.kept.at m (crest_by g n r.image r.kept.at m k a) allowance img
    h.table.words

-- T − L by the words
abbrev pub free_by : Geometry → ℕ → Table → ℕ
free_by g n t = pages_of g n - all_ones g n t.words

-- ROOM: by R8 not for one page, and not where the erased pages alone are enough, so that L need not be known then
abbrev pub roomless_by : Geometry → ℕ → Held → ℕ → Bool
roomless_by g n h k = ltb 1 k & roomless g h.at.erased k & roomless g (free_by g n h.table) k

abbrev pub refused_by : ℕ → Held → List ℕ → Returned
refused_by answer h img = returned (refused answer img) h.at h.table.words

unfoldable pub insert_by : Geometry → ℕ → Held → List ℕ → ℕ → ℕ → ℕ → Returned
insert_by g n h img k a allowance =
    pick (ltb g.worn h.at.most) (refused_by 3 h img) (
    pick (too_high g (chip_by g img h.at) k) (refused_by 5 h img) (
    pick (roomless_by g n h (needs g (chip_by g img h.at) k)) (refused_by 6 h img)
    (insert_made g n h img k a allowance)))

-- ---- delete
unfoldable pub delete_store_at : Geometry → ℕ → Chip → ℕ → ℕ → Store
delete_store_at g seq c page k = program page (built g (suc seq) (suc (delete_top c k page).level) (delete_part c k page))

abbrev pub delete_crest : Chip → ℕ → ℕ → Crest
delete_crest c page k = record { page = page; level = (delete_top c k page).level }

unfoldable pub delete_made : Geometry → ℕ → Held → List ℕ → ℕ → ℕ → Returned
delete_made g n h img k allowance =
    let r = collect_by g n 1 2 h img in
    let o = r.kept.at in
    let page = page_by g n r.image o 0 in
    made_by g n (r.stores ++ (delete_store_at g o.most (chip_by g r.image o) page k ∷ [])) o 1 (delete_crest (chip_by g r.image o) page k)
    allowance img h.table.words

unfoldable pub delete_by : Geometry → ℕ → Held → List ℕ → ℕ → ℕ → Returned
delete_by g n h img k allowance =
    pick (ltb g.worn h.at.most) (refused_by 3 h img) (
    pick (is_none (sought (chip_by g img h.at) k)) (refused_by 4 h img)
    (delete_made g n h img k allowance))
