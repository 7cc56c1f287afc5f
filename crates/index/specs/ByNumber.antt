-- A geometry by its number: the calls, and what they ask of a geometry. Assumes nothing.
use Rattle.std.specs.Prelude.{◌≡◌, List, ℕ, ◌≤◌, None, Option, Some}
use Rattle.std.proofs.Common.{sym, ◌∙◌}
use Rattle.std.proofs.Math.Path.{ap}
use Rattle.geometry.specs.declared.Geometry.{Geometry}
use Rattle.geometry.specs.Geometry.{chosen_of, page_bytes}
use Rattle.geometry.specs.Shape.{Known, page_most, chosen_known}
use Rattle.geometry.proofs.Shape.{shape}
use Rattle.geometry.specs.Bounds.{longest_page}
use Rattle.model.specs.Calls.{Outcome, refused, chosen_call, format, lookup, patrol, format_of, lookup_of, patrol_of}
use Rattle.model.specs.Listing.{lists_none, listing, list_of, as_outcome}
use Rattle.call_answers.specs.declared.Answer.TheVariants.{Length}
use Rattle.call_answers.specs.declared.Row.{Row}
use Rattle.call_answers.specs.Answers.{row_of, told_by, told}
use Rattle.live_words.specs.Live.{Reply, reply, insert_live, delete_live, insert_live_of, delete_live_of}
use Rattle.text_carrying.specs.Carrying.{exporting, export_of, importing, import_of}

module _ (kind : ℕ) (c : Option Geometry) (ec : c ≡ chosen_of kind) (g : Geometry) (e : c ≡ Some g) where
  pub of_known : Known g
  of_known = chosen_known kind g (sym ec ∙ e)

  pub of_pages : g.pages ≤ 64
  of_pages = (shape g of_known).pages_high

  pub of_page : page_bytes g ≤ longest_page
  of_page = page_most g of_known

  -- a call of any kind
  pub called : {A : Type 0} (call : Geometry → A) (other o : A) → o ≡ call g → o ≡ chosen_call (chosen_of kind) call other
  unfolding chosen_call
  called call other o h = h ∙ ap (λ (x : Option Geometry). chosen_call x call other) (sym e ∙ ec)

  pub of_format : (img : List ℕ) (o : Outcome) → o ≡ format g img → o ≡ format_of kind img
  unfolding format_of
  of_format img o h = called (λ x. format x img) (refused 1 img) o h

  pub of_lookup : (img : List ℕ) (k : ℕ) (o : Outcome) → o ≡ lookup g img k → o ≡ lookup_of kind img k
  unfolding lookup_of
  of_lookup img k o h = called (λ x. lookup x img k) (refused 1 img) o h

  pub of_list_lem : (img : List ℕ) (low high : ℕ) (b : List ℕ) (o : Outcome) → o ≡ as_outcome (listing g img low high b)
      → o ≡ as_outcome (list_of kind img low high b)
  unfolding list_of chosen_call
  of_list_lem img low high b o h = h ∙ ap (λ (x : Option Geometry). as_outcome (chosen_call x (λ y. listing y img low high b) (lists_none 1 0 0 b))) (sym e ∙ ec)

  pub of_insert : (img old : List ℕ) (k a al : ℕ) (r : Reply) → r ≡ insert_live g img old k a al
      → r ≡ insert_live_of kind img old k a al
  unfolding insert_live_of
  of_insert img old k a al r h = called (λ x. insert_live x img old k a al) (reply (refused 1 img) old) r h

  pub of_delete : (img old : List ℕ) (k al : ℕ) (r : Reply) → r ≡ delete_live g img old k al
      → r ≡ delete_live_of kind img old k al
  unfolding delete_live_of
  of_delete img old k al r h = called (λ x. delete_live x img old k al) (reply (refused 1 img) old) r h

  pub of_patrol : (img : List ℕ) (page half : ℕ) (o : Outcome) → o ≡ patrol g img page half
      → o ≡ patrol_of kind img page half
  unfolding patrol_of
  of_patrol img page half o h = called (λ x. patrol x img page half) (refused 1 img) o h

  pub of_export : (img b : List ℕ) (o : Outcome) → o ≡ exporting g img b → o ≡ export_of kind img b
  unfolding export_of
  of_export img b o h = called (λ x. exporting x img b) (refused 1 b) o h

  pub of_import : (img text : List ℕ) (o : Outcome) → o ≡ importing g img text → o ≡ import_of kind img text
  unfolding import_of
  of_import img text o h = called (λ x. importing x img text) (refused 1 img) o h

-- no such geometry. A `let .. else` leaves that the choice is no Of, whatever geometry
module _ (kind : ℕ) (c : Option Geometry) (ec : c ≡ chosen_of kind) (e : c ≡ None) (img : List ℕ) where
  pub unknown : {A : Type 0} (call : Geometry → A) (other : A) → other ≡ chosen_call (chosen_of kind) call other
  unfolding chosen_call
  unknown call other = ap (λ (x : Option Geometry). chosen_call x call other) (sym e ∙ ec)

  pub no_format : told Length img ≡ format_of kind img
  unfolding format_of
  no_format = unknown (λ x. format x img) (refused 1 img)

  pub no_lookup : (k : ℕ) → told Length img ≡ lookup_of kind img k
  unfolding lookup_of
  no_lookup k = unknown (λ x. lookup x img k) (refused 1 img)

  pub no_list : (low high : ℕ) (b : List ℕ) → told Length b ≡ as_outcome (list_of kind img low high b)
  unfolding list_of chosen_call
  no_list low high b = ap (λ (x : Option Geometry). as_outcome (chosen_call x (λ y. listing y img low high b) (lists_none 1 0 0 b))) (sym e ∙ ec)

  pub no_insert : (old : List ℕ) (k a al : ℕ) → reply (told Length img) old ≡ insert_live_of kind img old k a al
  unfolding insert_live_of
  no_insert old k a al = unknown (λ x. insert_live x img old k a al) (reply (refused 1 img) old)

  pub no_delete : (old : List ℕ) (k al : ℕ) → reply (told Length img) old ≡ delete_live_of kind img old k al
  unfolding delete_live_of
  no_delete old k al = unknown (λ x. delete_live x img old k al) (reply (refused 1 img) old)

  pub no_patrol : (page half : ℕ) → told Length img ≡ patrol_of kind img page half
  unfolding patrol_of
  no_patrol page half = unknown (λ x. patrol x img page half) (refused 1 img)

  pub no_export : (b : List ℕ) (w : Row) → w ≡ row_of Length → told_by w b ≡ export_of kind img b
  unfolding export_of
  no_export b w f = ap (λ (x : Row). told_by x b) f ∙ unknown (λ x. exporting x img b) (refused 1 b)

  pub no_import : (text : List ℕ) (w : Row) → w ≡ row_of Length → told_by w img ≡ import_of kind img text
  unfolding import_of
  no_import text w f = ap (λ (x : Row). told_by x img) f ∙ unknown (λ x. importing x img text) (refused 1 img)

pub ruleset index_laws = (of_export, of_import, no_export, no_import, of_known, of_pages, of_page, of_format, of_lookup, of_list_lem, of_insert, of_delete, of_patrol, no_format, no_lookup, no_list, no_insert, no_delete, no_patrol)
