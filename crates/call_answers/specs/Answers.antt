-- Document 01's table of answers, with request 5's rule and page, and the outcome that an answer and an image tell.
-- Assumes nothing.
use Rattle.std.specs.Prelude.{◌≡◌, refl, List, [], ◌∷◌, ℕ, get_or}
use Rattle.std.proofs.Common.{ap, sym, ◌∙◌}
use Rattle.model.specs.Calls.{Outcome}
use Rattle.call_answers.specs.declared.Answer.{Answer}
use Rattle.call_answers.specs.declared.Answer.TheVariants.{Done, Length, Damaged, Worn, Absent, Height, Room, Stopped, Stale}
use Rattle.call_answers.specs.declared.Row.{Row}

-- an answer that is not DAMAGED: "the two new numbers last and 0 in other answers"
abbrev pub plain : ℕ → ℕ → ℕ → ℕ → Row
plain answer address programmed erased =
    record { answer = answer; address = address; programmed = programmed; erased = erased; rule = 0; page = 0 }

-- the table "Answer numbers", with request 8's STALE: an answer's six numbers
abbrev pub row_of : Answer → Row
row_of (Done a p e) = plain 0 a p e
row_of Length = plain 1 0 0 0
row_of (Damaged r q) = record { answer = 2; address = 0; programmed = 0; erased = 0; rule = r; page = q }
row_of Worn = plain 3 0 0 0
row_of Absent = plain 4 0 0 0
row_of Height = plain 5 0 0 0
row_of Room = plain 6 0 0 0
row_of (Stopped p e) = plain 7 0 p e
row_of Stale = plain 8 0 0 0

-- the row of an answer that is known to be x: the one law by which the code has the table
pub row_is : (a x : Answer) (w : Row) → a ≡ x → w ≡ row_of x → w ≡ row_of a
row_is a x w e f = f ∙ ap row_of (sym e)

-- what a row and the image afterwards say together
abbrev pub told_by : Row → List ℕ → Outcome
told_by w img = record {
  answer = w.answer;
  address = w.address;
  programmed = w.programmed;
  erased = w.erased;
  rule = w.rule;
  page = w.page;
  image = img;
}

abbrev pub told : Answer → List ℕ → Outcome
told a img = told_by (row_of a) img

-- an answer is settled by its row: the number is its place in the table
rebuilt : Outcome → Answer
rebuilt o = get_or (Done o.address o.programmed o.erased ∷ Length ∷ Damaged o.rule o.page ∷ Worn ∷ Absent ∷ Height ∷ Room
    ∷ Stopped o.programmed o.erased ∷ Stale ∷ []) o.answer Length

same : (x : Answer) (img : List ℕ) → rebuilt (told x img) ≡ x
unfolding rebuilt
same (Done a p e) img = refl
same Length img = refl
same (Damaged r q) img = refl
same Worn img = refl
same Absent img = refl
same Height img = refl
same Room img = refl
same (Stopped p e) img = refl
same Stale img = refl

-- no second answer fits an outcome, and no second image
pub one_answer : (x y : Answer) (i o : List ℕ) → told x i ≡ told y o → x ≡ y
one_answer x y i o h = sym (same x i) ∙ ap rebuilt h ∙ same y o

pub one_image : (x y : Answer) (i o : List ℕ) → told x i ≡ told y o → i ≡ o
one_image x y i o h = ap (λ (t : Outcome). t.image) h

pub ruleset answers_laws = (row_is)
