-- Request 13, "Carry an index across", about the definitions `importing` and `exporting` of crate text_carrying: what they
-- give for every image and text, and on images of bytes. `text_of`, `read_text`, `exports` are of that crate; Ready,
-- map_at, Holds are the words of the demands, `Stored` and `sum_of` stand in Stored and Sums. `Known g`: the small chip
-- or the large one. Assumes nothing.
use Rattle.std.specs.Prelude.{◌≡◌, List, ◌++◌, Bool, true, false, ℕ, ◌+◌, ◌<◌, ◌≤◌, length, drop}
use Rattle.std.proofs.Math.Path.{refl}
use Rattle.std.proofs.Common.{arith, le-leb}
use Rattle.std.proofs.lemmas.Bool.{lt-leb}
use Rattle.geometry.specs.declared.Geometry.{Geometry}
use Rattle.geometry.specs.declared.Entry.{Entry}
use Rattle.geometry.specs.Findings.{broken_at}
use Rattle.geometry.specs.Tests.{pick}
use Rattle.model.specs.Image.{blocks_of, good_length}
use Rattle.model.specs.Rules.{verdict}
use Rattle.model.specs.Calls.{gives, refused, damaged, by_verdict, judged}
use Rattle.text_carrying.specs.Carrying.{text_of, Reading, records, bad, read_text, word, exports, exporting, import_read, importing}
use Rattle.theory_demands.specs.Words.{Ready, map_at}

-- ---- export, for every image: LENGTH and DAMAGED come first, write nothing and count nothing
module _ (g : Geometry) (img buffer : List ℕ) where
  pub export_bad_length : good_length g img ≡ false → exporting g img buffer ≡ refused 1 buffer
  unfolding exporting judged
  export_bad_length e = rw e refl

  pub export_not_sound : (rule page : ℕ) → good_length g img ≡ true → verdict g (blocks_of g img) img ≡ broken_at rule page
      → exporting g img buffer ≡ damaged buffer rule page
  unfolding exporting judged by_verdict
  export_not_sound rule page e d = rw (e, d) refl

  -- a sound image: the text of its map
  pub export_exports : Ready g img → exporting g img buffer ≡ exports (map_at g img) buffer
  unfolding exporting judged by_verdict
  export_exports ready = rw (ready.length_good, ready.is_sound_lem) refl

-- the lent text takes the whole text, and its bytes beyond stay; a shorter one is left as it is, and the text's length
-- is told
module _ (es : List Entry) (buffer : List ℕ) where
  pub exports_all : length (text_of es) ≤ length buffer
      → exports es buffer ≡ gives 0 (length es) (word (length (text_of es))) (word (length (text_of es)))
      (text_of es ++ drop (length (text_of es)) buffer)
  unfolding exports
  exports_all h = rw (le-leb (length (text_of es)) (length buffer) h) refl

  pub exports_none : length buffer < length (text_of es) → exports es buffer ≡ gives 0 (length es)
      (word (length (text_of es))) 0 buffer
  unfolding exports
  exports_none h = rw (lt-leb (length (text_of es)) (length buffer) h) refl

-- ---- import, for every image: "refused, after LENGTH, with its line number .. before any store"
module _ (g : Geometry) (img text : List ℕ) where
  pub import_bad_length : good_length g img ≡ false → importing g img text ≡ refused 1 img
  unfolding importing
  import_bad_length e = rw e refl

  pub import_bad_text : (line : ℕ) → good_length g img ≡ true → read_text text ≡ bad line
      → importing g img text ≡ gives 9 line 0 0 img
  unfolding importing import_read
  import_bad_text line e b = rw (e, b) refl

-- ---- a text that is read, on an image of bytes of one of the two chips

-- a finished import had a good length and a text that is read
pub import_finished : (g : Geometry) (img text : List ℕ) → (importing g img text).answer ≡ 0
    → (es : List Entry) × (good_length g img ≡ true) × (read_text text ≡ records es)
unfolding importing import_read
import_finished g img text h = go (good_length g img) refl (read_text text) refl h
  where
    go : (t : Bool) → good_length g img ≡ t → (r : Reading) → read_text text ≡ r → (pick t (import_read g img r)
        (refused 1 img)).answer ≡ 0
        → (es : List Entry) × (good_length g img ≡ true) × (read_text text ≡ records es)
    go true e (records es) f z = (es, e, f)
    go true e (bad line) f z = absurd (omega (arith, z))
    go false e r f z = absurd (omega (arith, z))
