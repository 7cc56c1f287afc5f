-- A call of the camera service: the number returned, the image, the lent words, the record's bytes and the result
-- buffer afterwards; a listing has its lent pairs, and an export its lent text, where the other calls have the image.
-- Definitions alone; assumes nothing.
use Rattle.std.specs.Prelude.{List, [], ◌∷◌, ℕ, ◌+◌, ltb, length}
use Rattle.geometry.specs.Tests.{pick}
use Rattle.model.specs.Page.{put_u32}
use Rattle.model.specs.Bytes.{u32_at}
use Rattle.model.specs.Calls.{Outcome, refused}
use Rattle.model.specs.Listing.{as_outcome}
use Rattle.call_answers.specs.declared.Answer.{Answer}
use Rattle.call_answers.specs.declared.Row.{Row}
use Rattle.call_answers.specs.Answers.{row_of, told_by}
use Rattle.live_words.specs.Live.{Reply}
use Rattle.open_record.specs.declared.Opened.{Opened}
use Rattle.open_record.specs.Opened.{opened_of, opening_of, lookup_with_of, list_with_of}
use Rattle.live_beside.specs.Update.{Returned}
use Rattle.live_beside.specs.Calls.{insert_with_of, delete_with_of}

pub record Left : Type 0 where
  pub answer : ℕ
  pub image : List ℕ
  pub result : List ℕ

-- numbers of "32 bits each, least byte first", one after the other from a place on; bytes after them stay
unfoldable pub put_numbers : List ℕ → ℕ → List ℕ → List ℕ
put_numbers buf at [] = buf
put_numbers buf at (v ∷ vs) = put_numbers (put_u32 buf at v) (at + 4) vs

-- "answer, address, programmed, erased", and request 5's "two new numbers last": rule and page
abbrev pub numbers_of : Outcome → List ℕ
numbers_of o = o.answer ∷ o.address ∷ o.programmed ∷ o.erased ∷ o.rule ∷ o.page ∷ []

-- a row's numbers in a buffer, and an answer's
unfoldable pub report_row : Row → List ℕ → List ℕ
report_row w buf = put_numbers buf 0 (numbers_of (told_by w []))

abbrev pub report_of : Answer → List ℕ → List ℕ
report_of a buf = report_row (row_of a) buf

-- "The C result buffer becomes 24 bytes"; "a buffer shorter than 24 now gives 1", and nothing changes
unfoldable pub returned : Outcome → List ℕ → List ℕ → Left
returned o img buf = pick (ltb (length buf) 24)
    (record { answer = 1; image = img; result = buf })
    (record { answer = o.answer; image = o.image; result = put_numbers buf 0 (numbers_of o) })

-- the lent words after a call with them
unfoldable pub words_left : Reply → List ℕ → List ℕ → List ℕ
words_left r old buf = pick (ltb (length buf) 24) old r.words

-- ---- request 8: the record in 24 bytes
-- "root page, its sequence number, the largest one on the image, height, next page, erased pages", each of 32 bits,
-- least byte first
unfoldable pub record_in : List ℕ → Opened
record_in bytes = record {
  root = u32_at bytes 0;
  number = u32_at bytes 4;
  most = u32_at bytes 8;
  height = u32_at bytes 12;
  next = u32_at bytes 16;
  erased = u32_at bytes 20;
}

abbrev pub record_numbers : Opened → List ℕ
record_numbers o = o.root ∷ o.number ∷ o.most ∷ o.height ∷ o.next ∷ o.erased ∷ []

unfoldable pub put_record : Opened → List ℕ → List ℕ
put_record o bytes = put_numbers bytes 0 (record_numbers o)

-- a record of fewer than 24 bytes gives LENGTH, in a call of any kind
unfoldable pub with_record : {A : Type 0} → List ℕ → A → (Opened → A) → A
with_record bytes short call = pick (ltb (length bytes) 24) short (call (record_in bytes))

-- opening: its outcome, and the record's bytes
unfoldable pub open_bytes : ℕ → List ℕ → List ℕ → Outcome
open_bytes kind img bytes = with_record bytes (refused 1 img) (λ o. opening_of kind img)

unfoldable pub open_record : ℕ → List ℕ → List ℕ → List ℕ
open_record kind img bytes = with_record bytes bytes (λ o. put_record (opened_of kind img) bytes)

unfoldable pub lookup_bytes : ℕ → List ℕ → List ℕ → ℕ → Outcome
lookup_bytes kind img bytes k = with_record bytes (refused 1 img) (λ o. lookup_with_of kind img o k)

unfoldable pub list_bytes : ℕ → List ℕ → List ℕ → ℕ → ℕ → List ℕ → Outcome
list_bytes kind img bytes low high pairs =
    with_record bytes (refused 1 pairs) (λ o. as_outcome (list_with_of kind img o low high pairs))

-- an update: its outcome, the record's bytes, and the lent words
pub record Reopened : Type 0 where
  pub outcome : Outcome
  pub bytes : List ℕ
  pub words : List ℕ

abbrev pub reopened : Outcome → List ℕ → List ℕ → Reopened
reopened outcome bytes words = record { outcome = outcome; bytes = bytes; words = words }

abbrev pub packed : List ℕ → Returned → Reopened
packed bytes r = reopened r.outcome (put_record r.opened bytes) r.words

unfoldable pub insert_bytes : ℕ → List ℕ → List ℕ → List ℕ → ℕ → ℕ → ℕ → Reopened
insert_bytes kind img old bytes k a allowance = with_record bytes (reopened (refused 1 img) bytes old)
    (λ o. packed bytes (insert_with_of kind img old o k a allowance))

unfoldable pub delete_bytes : ℕ → List ℕ → List ℕ → List ℕ → ℕ → ℕ → Reopened
delete_bytes kind img old bytes k allowance = with_record bytes (reopened (refused 1 img) bytes old)
    (λ o. packed bytes (delete_with_of kind img old o k allowance))

-- a buffer beside the image after a call: as it was where the result buffer is too short
unfoldable pub kept : List ℕ → List ℕ → List ℕ → List ℕ
kept buf old new = pick (ltb (length buf) 24) old new
