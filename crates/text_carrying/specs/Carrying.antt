-- Request 13 of document 02, "Carry an index across": the text of a map, a text read line by line, and the calls export
-- and import on every image. Definitions alone; assumes nothing.
use Rattle.std.specs.Prelude.{ℕ, suc, ◌+◌, ◌%◌, Bool, List, [], ◌∷◌, ◌++◌, eqb, leb, ltb, length, drop, None, Option, Some}
use Rattle.geometry.specs.declared.Geometry.{Geometry}
use Rattle.geometry.specs.declared.Entry.{Entry}
use Rattle.geometry.specs.Geometry.{chosen_of}
use Rattle.geometry.specs.Tests.{pick, bit}
use Rattle.geometry.specs.Bounds.{four_bytes}
use Rattle.model.specs.Image.{blocks_of, good_length, chip_of}
use Rattle.model.specs.Tree.{map_of}
use Rattle.model.specs.Calls.{Outcome, gives, refused, damaged, judged, chosen_call, format, insert}
use Rattle.text_lines.specs.Lines.{lines, fields}
use Rattle.text_decimals.specs.Decimals.{largest, number_of, decimal}

-- ---- the text of a map: "one line for each record, key, tab, address, rising keys, decimal without leading zeros,
-- each line ended by byte 10"
abbrev pub record_text : Entry → List ℕ
record_text e = decimal e.key ++ (9 ∷ decimal e.addr)

unfoldable pub text_of : List Entry → List ℕ
text_of [] = []
text_of (e ∷ es) = (record_text e ++ (10 ∷ [])) ++ text_of es

-- ---- a text read: a line's record, if it fits the form
unfoldable pub pair : Option ℕ → Option ℕ → Option Entry
pair None a = None
pair (Some k) None = None
pair (Some k) (Some a) = Some (record { key = k; addr = a })

unfoldable pub record_of : List (List ℕ) → Option Entry
record_of [] = None
record_of (k ∷ []) = None
record_of (k ∷ a ∷ []) = pair (number_of k) (number_of a)
record_of (k ∷ a ∷ x ∷ xs) = None

-- a text is read as its records, or refused "with its line number (the lowest if several)"
pub data Reading : Type 0 where
  records : List Entry → Reading
  bad : ℕ → Reading

unfoldable pub with : Entry → Reading → Reading
with e (records es) = records (e ∷ es)
with e (bad line) = bad line

-- "at most 4,096; more is refused at line 4,097"
abbrev pub most_records : ℕ
most_records = 4096

-- a line after i others, whose key must not be below low; then the lines after it
unfoldable pub read_line : ℕ → ℕ → Option Entry → (ℕ → Reading) → Reading
read_line i low None after = bad (suc i)
read_line i low (Some e) after = pick (ltb i most_records) (pick (leb low e.key) (with e (after (suc e.key))) (bad (suc i))) (bad (suc i))

-- "so is a last line without byte 10"
unfoldable pub read_rest : ℕ → List ℕ → Reading
read_rest i [] = records []
read_rest i (b ∷ bs) = bad (suc i)

-- "A line that doesn't fit the form, a number above 4,294,967,295 or a key not above the one before is refused"
unfoldable pub read_lines : ℕ → ℕ → List (List ℕ) → List ℕ → Reading
read_lines i low [] rest = read_rest i rest
read_lines i low (l ∷ ls) rest = read_line i low (record_of (fields l)) (λ above. read_lines (suc i) above ls rest)

abbrev pub read_text : List ℕ → Reading
read_text text = read_lines 0 0 (lines text).ended (lines text).rest

-- ---- the calls. Their outcomes have other numbers where those of document 01 have the address and the counts
-- "32 bits each": a count as the result buffer has it
abbrev pub word : ℕ → ℕ
word n = n % four_bytes

-- export: records, bytes of the whole text, bytes written; the lent text where the others have the image. All of the
-- text or none of it is written: a text of length 0 asks how long it is
abbrev pub fits : List ℕ → List ℕ → Bool
fits text buffer = leb (length text) (length buffer)

unfoldable pub exports : List Entry → List ℕ → Outcome
exports es buffer =
    gives 0 (length es) (word (length (text_of es))) (pick (fits (text_of es) buffer) (word (length (text_of es))) 0)
    (pick (fits (text_of es) buffer) (text_of es ++ drop (length (text_of es)) buffer) buffer)

unfoldable pub exporting : Geometry → List ℕ → List ℕ → Outcome
exporting g img buffer = judged g img (refused 1 buffer) (damaged buffer) (exports (map_of (chip_of g (blocks_of g img) img)) buffer)

unfoldable pub export_of : ℕ → List ℕ → List ℕ → Outcome
export_of kind img buffer = chosen_call (chosen_of kind) (λ g. exporting g img buffer) (refused 1 buffer)

-- import: records stored, pages programmed and blocks erased by format and the inserts.
-- An insert after others: one record more if it is done, its own answer and counts added
unfoldable pub counted : Outcome → Outcome → Outcome
counted s o = record {
  answer = o.answer;
  address = word (s.address + bit (eqb o.answer 0));
  programmed = word (s.programmed + o.programmed);
  erased = word (s.erased + o.erased);
  rule = o.rule;
  page = o.page;
  image = o.image;
}

-- "An insert that is refused halfway gives that answer and the records stored so far": then no other is made
unfoldable pub store_one : Geometry → Outcome → Entry → Outcome
store_one g s e = pick (eqb s.answer 0) (counted s (insert g s.image e.key e.addr largest)) s

unfoldable pub store_all : Geometry → Outcome → List Entry → Outcome
store_all g s [] = s
store_all g s (e ∷ es) = store_all g (store_one g s e) es

-- 9 is TEXT: the line instead of the records, "before any store". Else "formats the image and inserts"
unfoldable pub import_read : Geometry → List ℕ → Reading → Outcome
import_read g img (bad line) = gives 9 line 0 0 img
import_read g img (records es) = store_all g (format g img) es

-- "refused, after LENGTH"
unfoldable pub importing : Geometry → List ℕ → List ℕ → Outcome
importing g img text = pick (good_length g img) (import_read g img (read_text text)) (refused 1 img)

unfoldable pub import_of : ℕ → List ℕ → List ℕ → Outcome
import_of kind img text = chosen_call (chosen_of kind) (λ g. importing g img text) (refused 1 img)
