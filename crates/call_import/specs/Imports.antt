-- Laws by which the import's code is proved. Assumes nothing.
use Rattle.std.specs.Prelude.{ℕ, ◌+◌, ◌<◌, ◌≤◌, ◌≡◌, List, eqb, length}
use Rattle.std.proofs.Math.Path.{refl, sym, ap}
use Rattle.std.proofs.Common.{◌∙◌}
use borrow.Author.Tests.{lt-ltb, le-ltb, eq-eqb, ne_eqb}
use Rattle.geometry.specs.declared.Geometry.{Geometry}
use Rattle.geometry.specs.declared.Entry.{Entry}
use Rattle.geometry.specs.Tests.{bit}
use Rattle.geometry.specs.Shape.{Known, page_most}
use Rattle.model.specs.Calls.{Outcome, format, insert}
use Rattle.call_answers.specs.declared.Answer.{Answer}
use Rattle.call_answers.specs.declared.Answer.TheVariants.{Length}
use Rattle.call_answers.specs.declared.Row.{Row}
use Rattle.call_answers.specs.Answers.{plain, row_of, told_by, told}
use Rattle.chip_read.specs.Chip.{good_blocks}
use Rattle.chip_read.specs.Blocks.{none_good, some_good}
use Rattle.live_words.specs.Live.{Reply, reply, insert_live}
use Rattle.call_account.specs.Lent.{insert_outcome}
use Rattle.text_carrying.specs.Carrying.{word, counted, store_one, read_text, import_read, importing}
use Rattle.text_reader.specs.declared.Spot.{Spot}
use Rattle.call_import.specs.Importer.{counted_row, begun}

pub one_record : (n : ℕ) → n ≡ 0 → 1 ≡ bit (eqb n 0)
one_record n h = rw (eq-eqb n 0 h) refl

pub no_record_lem : (n : ℕ) → (n ≡ 0 → ⊥) → 0 ≡ bit (eqb n 0)
no_record_lem n h = rw (ne_eqb n 0 h) refl

pub row_counted : (s w : Row) (x a p e : ℕ) → x ≡ bit (eqb w.answer 0) → a ≡ word (s.address + x)
    → p ≡ word (s.programmed + w.programmed)
    → e ≡ word (s.erased + w.erased)
    → record { answer = w.answer; address = a; programmed = p; erased = e; rule = w.rule; page = w.page }
    ≡ counted_row s w
row_counted s w x a p e ex ea ep ee = λ i. record {
  answer = w.answer;
  address = (ea ∙ ap (λ (m : ℕ). word (s.address + m)) ex) i;
  programmed = ep i;
  erased = ee i;
  rule = w.rule;
  page = w.page;
}

module _ (g : Geometry) (img : List ℕ) (s : Row) (e : Entry) where
  pub store_refused : (s.answer ≡ 0 → ⊥) → told_by s img ≡ store_one g (told_by s img) e
  unfolding store_one
  store_refused h = rw (ne_eqb s.answer 0 h) refl

  pub store_done : (out lent left : List ℕ) (a : Answer) (w r : Row) → s.answer ≡ 0
      → reply (told a out) left ≡ insert_live g img lent e.key e.addr 4294967295 → Known g
      → 2048 ≤ length lent → w ≡ row_of a → r ≡ counted_row s w → told_by r out ≡ store_one g (told_by s img) e
  unfolding store_one counted
  store_done out lent left a w r z h known room ew er =
      let o : told a out ≡ insert g img e.key e.addr 4294967295 =
      ap (λ (x : Reply). x.outcome) h ∙ insert_outcome g known img lent room e.key e.addr 4294967295 in
      ap (λ (x : Row). told_by x out) (er ∙ ap (counted_row s) ew) ∙ ap (counted (told_by s img)) o
      ∙ rw (eq-eqb s.answer 0 z) refl

module _ (g : Geometry) (img : List ℕ) (t : Spot) (end : ℕ) where
  pub begun_bad : (r : Row) → (t.bad ≡ 0 → ⊥) → r ≡ plain 9 t.bad 0 0 → told_by r img ≡ begun g img t end
  unfolding begun
  begun_bad r h e = ap (λ (x : Row). told_by x img) e ∙ rw (ne_eqb t.bad 0 h) refl

  pub begun_more : (r : Row) → t.bad ≡ 0 → t.at < end → r ≡ plain 9 4097 0 0 → told_by r img ≡ begun g img t end
  unfolding begun
  begun_more r h k e = ap (λ (x : Row). told_by x img) e ∙ rw (eq-eqb t.bad 0 h, lt-ltb t.at end k) refl

  pub begun_format : (out : List ℕ) (a : Answer) (r : Row) → t.bad ≡ 0 → end ≤ t.at → told a out ≡ format g img
      → r ≡ row_of a → told_by r out ≡ begun g img t end
  unfolding begun
  begun_format out a r h k f e = ap (λ (x : Row). told_by x out) e ∙ f
      ∙ rw (eq-eqb t.bad 0 h, le-ltb t.at end k) refl

-- ---- LENGTH first
module _ (g : Geometry) (img text : List ℕ) (n : ℕ) (en : n ≡ good_blocks g img) where
  pub import_length : (r : Row) → n ≡ 0 → r ≡ row_of Length → told_by r img ≡ importing g img text
  unfolding importing
  import_length r z e = ap (λ (x : Row). told_by x img) e ∙ sym (simp (none_good g img n en z))

  pub import_blocks : (o : Outcome) → (n ≡ 0 → ⊥) → o ≡ import_read g img (read_text text) → o ≡ importing g img text
  unfolding importing
  import_blocks o h e = e ∙ sym (simp (some_good g img n en h))

pub ruleset importer_laws = (page_most, one_record, no_record_lem, row_counted, store_refused, store_done, begun_bad, begun_more, begun_format, import_length, import_blocks)
