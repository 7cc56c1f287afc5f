-- Request 13 of the C calls mutree_export and mutree_import, for every image of bytes, every text and buffers: what
-- they refuse, what an import leaves, and that export of what a finished import made is the same text, byte for byte.
-- `text_of`, `read_text` and `exports` are of crate text_carrying. Assumes nothing.
use Rattle.std.specs.Prelude.{◌≡◌, List, ◌++◌, true, false, ℕ, ◌+◌, ◌<◌, ◌≤◌, length, take, drop, Option, Some}
use Rattle.std.proofs.Math.Path.{ap}
use Rattle.std.proofs.Common.{sym, subst, ◌∙◌, arith}
use Rattle.geometry.specs.declared.Geometry.{Geometry}
use Rattle.geometry.specs.declared.Entry.{Entry}
use Rattle.geometry.specs.Findings.{broken_at}
use Rattle.geometry.specs.Geometry.{chosen_of}
use Rattle.geometry.specs.Shape.{Known, chosen_known}
use Rattle.geometry.specs.Bounds.{four_bytes}
use Rattle.model.specs.Bytes.{byte_at}
use Rattle.model.specs.Image.{blocks_of, good_length}
use Rattle.model.specs.Rules.{verdict}
use Rattle.model.specs.Calls.{Outcome, gives, refused, damaged, chosen_call}
use Rattle.text_carrying.specs.Carrying.{records, bad, read_text, exports, exporting, export_of, importing, import_of}
use Rattle.text_carrying.specs.Back.{text_short, text_of_read, read_rises, read_few}
use Rattle.theory_demands.specs.Words.{Ready, map_at, Holds}
use Rattle.theory_demands.specs.Stored.{Stored}
use Rattle.theory_demands.specs.Carrying.{export_bad_length, export_not_sound, export_exports, import_bad_length, import_bad_text, import_finished}
use Rattle.theory_demands.proofs.Carrying.{import_stored, carried_call}
use Rattle.camera.specs.Camera.{Left, returned}
use Rattle.theory_service.specs.Left.{on, other_unknown, number_in, short, whole, told_whole, told_short, told_number}

-- mutree_export and mutree_import; what an export leaves has the lent text where the other calls have the image
abbrev pub exports_text : ℕ → List ℕ → List ℕ → List ℕ → Left
exports_text kind image text result = returned (export_of kind image text) text result

abbrev pub imports_text : ℕ → List ℕ → List ℕ → List ℕ → Left
imports_text kind image text result = returned (import_of kind image text) image result

-- the numbers of their results: records (of an import the records stored, or with 9 the line), then bytes of the text
-- and bytes written
abbrev pub records_in : List ℕ → ℕ
records_in result = number_in 1 result

abbrev pub bytes_in : List ℕ → ℕ
bytes_in result = number_in 2 result

abbrev pub written_bytes_in : List ℕ → ℕ
written_bytes_in result = number_in 3 result

-- a result buffer that is too short gives 1, and nothing changes
pub export_short : (kind : ℕ) (image text result : List ℕ) → length result < 24 → exports_text kind image text result
    ≡ short text result
export_short kind image text result h = told_short (export_of kind image text) text result h

pub import_short : (kind : ℕ) (image text result : List ℕ) → length result < 24 → imports_text kind image text result
    ≡ short image result
import_short kind image text result h = told_short (import_of kind image text) image result h

-- a number that is no geometry's
pub export_no_geometry : (kind : ℕ) → 2 ≤ kind → (image text result : List ℕ) → 24 ≤ length result
    → exports_text kind image text result ≡ whole (refused 1 text) result
unfolding export_of chosen_call
export_no_geometry kind h image text result room = told_whole (export_of kind image text) text result room
    ∙ ap (λ (c : Option Geometry). whole (chosen_call c (λ g. exporting g image text) (refused 1 text)) result) (other_unknown kind h)

pub import_no_geometry : (kind : ℕ) → 2 ≤ kind → (image text result : List ℕ) → 24 ≤ length result
    → imports_text kind image text result ≡ whole (refused 1 image) result
unfolding import_of chosen_call
import_no_geometry kind h image text result room = told_whole (import_of kind image text) image result room
    ∙ ap (λ (c : Option Geometry). whole (chosen_call c (λ g. importing g image text) (refused 1 image)) result) (other_unknown kind h)

module _ (kind : ℕ) (g : Geometry) (is : chosen_of kind ≡ Some g) where
  known : Known g
  known = chosen_known kind g is

  -- ---- export
  module _ (image text result : List ℕ) (room : 24 ≤ length result) where
    pub export_call : exports_text kind image text result ≡ whole (exporting g image text) result
    unfolding export_of
    export_call = told_whole (export_of kind image text) text result room ∙ ap (λ (o : Outcome). whole o result)
        (on kind g is (λ x. exporting x image text) (refused 1 text))

    pub export_length : good_length g image ≡ false → exports_text kind image text result ≡ whole (refused 1 text) result
    export_length e = export_call ∙ ap (λ (o : Outcome). whole o result) (export_bad_length g image text e)

    pub export_damaged : (rule page : ℕ) → good_length g image ≡ true → verdict g (blocks_of g image) image ≡ broken_at rule
        page
        → exports_text kind image text result ≡ whole (damaged text rule page) result
    export_damaged rule page e d = export_call
        ∙ ap (λ (o : Outcome). whole o result) (export_not_sound g image text rule page e d)

    -- a sound image: the text of its map, all of it or none
    pub export_sound : Ready g image → exports_text kind image text result ≡ whole (exports (map_at g image) text) result
    export_sound ready = export_call ∙ ap (λ (o : Outcome). whole o result) (export_exports g image text ready)

  -- ---- import
  module _ (image text result : List ℕ) (room : 24 ≤ length result) where
    pub import_call : imports_text kind image text result ≡ whole (importing g image text) result
    unfolding import_of
    import_call = told_whole (import_of kind image text) image result room ∙ ap (λ (o : Outcome). whole o result)
        (on kind g is (λ x. importing x image text) (refused 1 image))

    pub import_length : good_length g image ≡ false → imports_text kind image text result ≡ whole (refused 1 image) result
    import_length e = import_call ∙ ap (λ (o : Outcome). whole o result) (import_bad_length g image text e)

    -- "refused, after LENGTH, with its line number": 9 and the line; the image is untouched
    pub import_line : (line : ℕ) → good_length g image ≡ true → read_text text ≡ bad line
        → imports_text kind image text result ≡ whole (gives 9 line 0 0 image) result
    import_line line e b = import_call ∙ ap (λ (o : Outcome). whole o result) (import_bad_text g image text line e b)

    -- a text that is read
    module _ (bytes : (i : ℕ) → byte_at image i < 256) (good : good_length g image ≡ true) (es : List Entry)
        (read : read_text text ≡ records es) where
      stored : Stored g es (importing g image text)
      stored = import_stored g known image text good bytes es read

      -- the image is sound and holds the first records of the text, as many as the result says: all of them with 0
      pub import_records : records_in (imports_text kind image text result).result ≡ (importing g image text).address
      import_records = ap (λ (l : Left). records_in l.result) import_call
          ∙ told_number (importing g image text) result room 1 (omega arith) (let s = stored.some in let f =
          read_few text es read in omega (arith, s, f))

      pub import_holds : Holds g (take (records_in (imports_text kind image text result).result) es)
          (imports_text kind image text result).image
      import_holds = subst (λ (m : ℕ). Holds g (take m es) (imports_text kind image text result).image) (sym import_records)
          (subst (λ (l : Left). Holds g (take (importing g image text).address es) l.image) (sym import_call) stored.holds)

      pub import_all : (imports_text kind image text result).answer ≡ 0
          → records_in (imports_text kind image text result).result ≡ length es
      import_all h = import_records ∙ stored.whole (sym (ap (λ (l : Left). l.answer) import_call) ∙ h)

  -- ---- "Export of what a finished import made is the same text": into a buffer that takes it, byte for byte, and its
  -- length is told
  module _ (image text result : List ℕ) (room : 24 ≤ length result)
      (bytes : (i : ℕ) → byte_at image i < 256) (done : (imports_text kind image text result).answer ≡ 0)
      (buffer other : List ℕ) (other-room : 24 ≤ length other) (takes : length text ≤ length buffer) where
    finished : (importing g image text).answer ≡ 0
    finished = sym (ap (λ (l : Left). l.answer) (import_call image text result room)) ∙ done

    -- the text was read as records
    pub was_read : (es : List Entry) × (good_length g image ≡ true) × (read_text text ≡ records es)
    was_read = import_finished g image text finished

    pub round_trip : exports_text kind (imports_text kind image text result).image buffer other
        ≡ whole (gives 0 (length was_read.0) (length text) (length text) (text ++ drop (length text) buffer)) other
    round_trip = ap (λ (l : Left). exports_text kind l.image buffer other) (import_call image text result room)
        ∙ export_call (importing g image text).image buffer other other-room
        ∙ ap (λ (o : Outcome). whole o other) (carried_call g known image text was_read.1 bytes was_read.0 was_read.2 buffer finished takes)

    -- the lent text begins with the text, and what is beyond stays
    pub round_trip_text : (exports_text kind (imports_text kind image text result).image buffer other).image
        ≡ text ++ drop (length text) buffer
    round_trip_text = ap (λ (l : Left). l.image) round_trip

    text_low : length text < four_bytes
    text_low =
        let s = text_short 0 was_read.0 (read_rises text was_read.0 was_read.2) in
        let f = read_few text was_read.0 was_read.2 in
        let q = ap length (text_of_read text was_read.0 was_read.2) in
        omega (arith, s, f, q)

    pub round_trip_bytes : bytes_in (exports_text kind (imports_text kind image text result).image buffer other).result
        ≡ length text
    round_trip_bytes = ap (λ (l : Left). bytes_in l.result) round_trip
        ∙ told_number (gives 0 (length was_read.0) (length text) (length text) (text ++ drop (length text) buffer)) other other-room 2 (omega arith) text_low

    pub round_trip_written : written_bytes_in (exports_text kind (imports_text kind image text result).image buffer
        other).result ≡ length text
    round_trip_written = ap (λ (l : Left). written_bytes_in l.result) round_trip
        ∙ told_number (gives 0 (length was_read.0) (length text) (length text) (text ++ drop (length text) buffer)) other other-room 3 (omega arith) text_low
