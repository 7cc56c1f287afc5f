-- A geometry by its number: the calls with a record. Assumes nothing.
use Rattle.std.specs.Prelude.{◌≡◌, List, ℕ, None, Option, Some}
use Rattle.std.proofs.Common.{sym, ◌∙◌}
use Rattle.std.proofs.Math.Path.{ap}
use Rattle.geometry.specs.declared.Geometry.{Geometry}
use Rattle.geometry.specs.Geometry.{chosen_of}
use Rattle.model.specs.Calls.{Outcome, refused, chosen_call}
use Rattle.model.specs.Listing.{lists_none, as_outcome}
use Rattle.call_answers.specs.declared.Answer.{Answer}
use Rattle.call_answers.specs.declared.Answer.TheVariants.{Length}
use Rattle.call_answers.specs.Answers.{told}
use Rattle.open_record.specs.declared.Opened.{Opened}
use Rattle.open_record.specs.Opened.{no_record, opened, opening, lookup_with, list_with, opened_of, opening_of, lookup_with_of, list_with_of}
use Rattle.live_beside.specs.Update.{Returned, returned}
use Rattle.live_beside.specs.Calls.{insert_with, delete_with, insert_with_of, delete_with_of}
use Rattle.index.specs.ByNumber.{called, unknown, of_known, of_pages}

module _ (kind : ℕ) (c : Option Geometry) (ec : c ≡ chosen_of kind) (g : Geometry) (e : c ≡ Some g) where
  pub of_opening : (img : List ℕ) (o : Outcome) → o ≡ opening g img → o ≡ opening_of kind img
  unfolding opening_of
  of_opening img o h = called kind c ec g e (λ x. opening x img) (refused 1 img) o h

  pub of_opened : (img : List ℕ) (o : Opened) → o ≡ opened g img → o ≡ opened_of kind img
  unfolding opened_of
  of_opened img o h = called kind c ec g e (λ x. opened x img) no_record o h

  pub of_lookup_with : (img : List ℕ) (r : Opened) (k : ℕ) (o : Outcome) → o ≡ lookup_with g img r k
      → o ≡ lookup_with_of kind img r k
  unfolding lookup_with_of
  of_lookup_with img r k o h = called kind c ec g e (λ x. lookup_with x img r k) (refused 1 img) o h

  pub of_list_with : (img : List ℕ) (r : Opened) (low high : ℕ) (b : List ℕ) (o : Outcome)
      → o ≡ as_outcome (list_with g img r low high b)
      → o ≡ as_outcome (list_with_of kind img r low high b)
  unfolding list_with_of chosen_call
  of_list_with img r low high b o h = h ∙ ap (λ (x : Option Geometry). as_outcome (chosen_call x (λ y. list_with y img r low high b) (lists_none 1 0 0 b))) (sym e ∙ ec)

  pub of_insert_with : (img old : List ℕ) (o : Opened) (k a al : ℕ) (r : Returned) → r ≡ insert_with g img old o k a al
      → r ≡ insert_with_of kind img old o k a al
  unfolding insert_with_of
  of_insert_with img old o k a al r h = called kind c ec g e (λ x. insert_with x img old o k a al) (returned (refused 1 img) o old) r h

  pub of_delete_with : (img old : List ℕ) (o : Opened) (k al : ℕ) (r : Returned) → r ≡ delete_with g img old o k al
      → r ≡ delete_with_of kind img old o k al
  unfolding delete_with_of
  of_delete_with img old o k al r h = called kind c ec g e (λ x. delete_with x img old o k al) (returned (refused 1 img) o old) r h

-- no such geometry
module _ (kind : ℕ) (c : Option Geometry) (ec : c ≡ chosen_of kind) (e : c ≡ None) (img : List ℕ) where
  pub no_opening : (a : Answer) → a ≡ Length → told a img ≡ opening_of kind img
  unfolding opening_of
  no_opening a f = ap (λ (x : Answer). told x img) f ∙ unknown kind c ec e img (λ x. opening x img) (refused 1 img)

  pub no_opened : (o : Opened) → o ≡ no_record → o ≡ opened_of kind img
  unfolding opened_of
  no_opened o f = f ∙ unknown kind c ec e img (λ x. opened x img) no_record

  pub no_lookup_with : (r : Opened) (k : ℕ) → told Length img ≡ lookup_with_of kind img r k
  unfolding lookup_with_of
  no_lookup_with r k = unknown kind c ec e img (λ x. lookup_with x img r k) (refused 1 img)

  pub no_list_with : (r : Opened) (low high : ℕ) (b : List ℕ)
      → told Length b ≡ as_outcome (list_with_of kind img r low high b)
  unfolding list_with_of chosen_call
  no_list_with r low high b = ap (λ (x : Option Geometry). as_outcome (chosen_call x (λ y. list_with y img r low high b) (lists_none 1 0 0 b))) (sym e ∙ ec)

  pub no_insert_with : (old : List ℕ) (o : Opened) (k a al : ℕ) → returned (told Length img) o old ≡ insert_with_of kind
      img old o k a al
  unfolding insert_with_of
  no_insert_with old o k a al = unknown kind c ec e img (λ x. insert_with x img old o k a al) (returned (refused 1 img) o old)

  pub no_delete_with : (old : List ℕ) (o : Opened) (k al : ℕ) → returned (told Length img) o old ≡ delete_with_of kind img
      old o k al
  unfolding delete_with_of
  no_delete_with old o k al = unknown kind c ec e img (λ x. delete_with x img old o k al) (returned (refused 1 img) o old)

pub ruleset opened_laws = (of_known, of_pages, of_opening, of_opened, of_lookup_with, of_list_with, of_insert_with, of_delete_with, no_opening, no_opened, no_lookup_with, no_list_with, no_insert_with, no_delete_with)
