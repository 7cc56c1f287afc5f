-- Request 8, "Open once, call often", of the C calls with a record, for every image of bytes, number of a chip, record,
-- lent words and result buffer: what they leave where they refuse, and that on a sound image with the record of opening
-- they are the calls without one. `record_in` reads a record's bytes. Assumes nothing.
use Rattle.std.specs.Prelude.{◌≡◌, refl, List, true, false, ℕ, ◌<◌, ◌≤◌, Option, Some}
use Rattle.std.proofs.Math.Path.{ap, sym}
use Rattle.std.proofs.Common.{subst, ◌∙◌, lt-ltb, le-ltb}
use Rattle.std.proofs.Math.ListN.{length}
use Rattle.geometry.specs.declared.Geometry.{Geometry}
use Rattle.geometry.specs.Findings.{broken_at}
use Rattle.geometry.specs.Geometry.{chosen_of}
use Rattle.geometry.specs.Shape.{Known, chosen_known}
use Rattle.geometry.proofs.Shape.{shape}
use Rattle.geometry.specs.Bounds.{four_bytes}
use Rattle.model.specs.Image.{blocks_of, good_length}
use Rattle.model.specs.Rules.{verdict}
use Rattle.model.specs.Calls.{Outcome, gives, refused, damaged, lookup, insert, delete, chosen_call, lookup_of}
use Rattle.model.specs.Listing.{listing, lists_none, list_of, as_outcome}
use Rattle.theory_counts.specs.Least.{by_lt}
use Rattle.theory_images.specs.Small.{Small}
use Rattle.theory_images.specs.Lengths.{blocks_same}
use Rattle.live_words.specs.Words.{words_of}
use Rattle.live_words.specs.Live.{Reply, reply, insert_live, delete_live, insert_live_of, delete_live_of}
use Rattle.open_record.specs.declared.Opened.{Opened}
use Rattle.open_record.specs.Opened.{no_record, opened, opening, opened_of, opening_of, standing, lookup_with, list_with, lookup_with_of, list_with_of}
use Rattle.live_beside.specs.Update as update
use Rattle.live_beside.specs.Update.{Returned}
use Rattle.live_beside.specs.Calls.{insert_with, delete_with, insert_with_of, delete_with_of}
use Rattle.theory_demands.specs.Words.{Ready}
use Rattle.theory_demands.specs.Calls.{judged_ready}
use Rattle.theory_demands.proofs.Stays.{insert_ready, delete_ready}
use Rattle.theory_demands.specs.Stays.{insert_long, delete_long}
use Rattle.theory_demands.proofs.Live.{insert_live_lem, delete_live_lem}
use Rattle.theory_demands.specs.Opened.{opening_bad_length, opening_not_sound, opening_done, lookup_length, lookup_stale, list_length, list_stale, lookup_same, list_same}
use Rattle.theory_demands.specs.OpenedCalls.{insert_length, insert_few_words, delete_length, delete_few_words}
use Rattle.theory_demands.proofs.OpenedCalls.{insert_stale, delete_stale, insert_same, delete_same}
use Rattle.camera.specs.Camera.{Left, returned, record_in, put_record, with_record, open_bytes, open_record, lookup_bytes, list_bytes, Reopened, reopened, packed, insert_bytes, delete_bytes, kept, words_left}
use Rattle.theory_service.specs.Left.{looks_up, inserts, deletes, insert_words, delete_words, Enough, lists_pairs, other_unknown, on, short, whole, told_whole, told_short, words_whole, words_kept}
use Rattle.theory_service.specs.Record.{record_read, record_back, record_long, opened_fits}

-- ---- what the calls leave, by their contracts in crates/camera/src/lib.rt
-- mutree_open, and the record's bytes afterwards
abbrev pub opens : ℕ → List ℕ → List ℕ → List ℕ → Left
opens kind image bytes result = returned (open_bytes kind image bytes) image result

abbrev pub opens_record : ℕ → List ℕ → List ℕ → List ℕ → List ℕ
opens_record kind image bytes result = kept result bytes (open_record kind image bytes)

-- mutree_lookup_opened, mutree_list_opened
abbrev pub looks_up_opened : ℕ → List ℕ → List ℕ → ℕ → List ℕ → Left
looks_up_opened kind image bytes key result = returned (lookup_bytes kind image bytes key) image result

abbrev pub lists_opened : ℕ → List ℕ → List ℕ → ℕ → ℕ → List ℕ → List ℕ → Left
lists_opened kind image bytes low high pairs result = returned (list_bytes kind image bytes low high pairs) pairs result

-- mutree_insert_opened and mutree_delete_opened: what is left, of the record's bytes and of the lent words too
pub record Leaves : Type 0 where
  pub left : Left
  pub bytes : List ℕ
  pub words : List ℕ

abbrev pub leaves : Left → List ℕ → List ℕ → Leaves
leaves left bytes words = record { left = left; bytes = bytes; words = words }

abbrev pub updated : List ℕ → List ℕ → List ℕ → List ℕ → Reopened → Leaves
updated image bytes live result r = leaves (returned r.outcome image result) (kept result bytes r.bytes) (kept result live r.words)

abbrev pub inserts_opened : ℕ → List ℕ → List ℕ → List ℕ → ℕ → ℕ → ℕ → List ℕ → Leaves
inserts_opened kind image bytes live key address allowance result =
    updated image bytes live result (insert_bytes kind image live bytes key address allowance)

abbrev pub deletes_opened : ℕ → List ℕ → List ℕ → List ℕ → ℕ → ℕ → List ℕ → Leaves
deletes_opened kind image bytes live key allowance result =
    updated image bytes live result (delete_bytes kind image live bytes key allowance)

-- ---- a record of 24 bytes or more is read, a shorter one is not
with_few : {A : Type 0} (bytes : List ℕ) (few : A) (call : Opened → A) → length bytes < 24
    → with_record bytes few call ≡ few
unfolding with_record
with_few bytes few call h = rw (lt-ltb _ _ h)

with_all : {A : Type 0} (bytes : List ℕ) (few : A) (call : Opened → A) → 24 ≤ length bytes
    → with_record bytes few call ≡ call (record_in bytes)
unfolding with_record
with_all bytes few call h = rw (le-ltb _ _ h)

kept_new : (result old new : List ℕ) → 24 ≤ length result → kept result old new ≡ new
unfolding kept
kept_new result old new h = rw (le-ltb _ _ h)

kept_old : (result old new : List ℕ) → length result < 24 → kept result old new ≡ old
unfolding kept
kept_old result old new h = rw (lt-ltb _ _ h)

nowhere : {A : Type 0} (kind : ℕ) (call : Geometry → A) (other : A) → 2 ≤ kind → chosen_call (chosen_of kind) call other
    ≡ other
unfolding chosen_call
nowhere kind call other h = ap (λ (c : Option Geometry). chosen_call c call other) (other_unknown kind h)

-- ---- opening
module _ (kind : ℕ) (image bytes result : List ℕ) where
  -- a result buffer that is too short gives 1 and leaves both buffers
  pub open_short : length result < 24 → (opens kind image bytes result ≡ short image result) ×
      (opens_record kind image bytes result ≡ bytes)
  open_short h = (told_short (open_bytes kind image bytes) image result h, kept_old result bytes (open_record kind image bytes) h)

  module _ (room : 24 ≤ length result) where
    abbrev Opens : Outcome → List ℕ → Type 0
    Opens o b = (opens kind image bytes result ≡ whole o result) × (opens_record kind image bytes result ≡ b)

    opens_by : (o : Outcome) (b : List ℕ) → open_bytes kind image bytes ≡ o → open_record kind image bytes ≡ b → Opens o b
    opens_by o b eo eb = (
      told_whole (open_bytes kind image bytes) image result room ∙ ap (λ (x : Outcome). whole x result) eo,
      kept_new result bytes (open_record kind image bytes) room ∙ eb,
    )

    -- a record that is too short: LENGTH, "record untouched, result written"
    pub open_few : length bytes < 24 → Opens (refused 1 image) bytes
    unfolding open_bytes open_record
    open_few h = opens_by (refused 1 image) bytes (with_few bytes (refused 1 image) _ h) (with_few bytes bytes _ h)

    module _ (all : 24 ≤ length bytes) where
      -- "A refused opening gives zeros": no geometry, a bad length, an image that is not sound
      pub open_nowhere : 2 ≤ kind → Opens (refused 1 image) (put_record no_record bytes)
      unfolding open_bytes open_record opening_of opened_of
      open_nowhere h = opens_by (refused 1 image) (put_record no_record bytes)
          (with_all bytes (refused 1 image) _ all ∙ nowhere kind (λ g. opening g image) (refused 1 image) h)
          (with_all bytes bytes _ all ∙ ap (λ (o : Opened). put_record o bytes) (nowhere kind (λ g. opened g image) no_record h))

      module _ (g : Geometry) (is : chosen_of kind ≡ Some g) where
        opens_on : (o : Outcome) (r : Opened) → opening g image ≡ o → opened g image ≡ r → Opens o (put_record r bytes)
        unfolding open_bytes open_record opening_of opened_of
        opens_on o r eo er = opens_by o (put_record r bytes)
            (with_all bytes (refused 1 image) _ all ∙ on kind g is (λ g. opening g image) (refused 1 image) ∙ eo)
            (with_all bytes bytes _ all ∙ ap (λ (x : Opened). put_record x bytes) (on kind g is (λ g. opened g image) no_record ∙ er))

        pub open_bad_length : good_length g image ≡ false → Opens (refused 1 image) (put_record no_record bytes)
        open_bad_length e = opens_on (refused 1 image) no_record (opening_bad_length g image e).0 (opening_bad_length g image e).1

        pub open_not_sound : (rule page : ℕ) → good_length g image ≡ true → verdict g (blocks_of g image) image
            ≡ broken_at rule page
            → Opens (damaged image rule page) (put_record no_record bytes)
        open_not_sound rule page e d =
            let w = opening_not_sound g image rule page e d in
            opens_on (damaged image rule page) no_record w.0 w.1

        -- a sound image: DONE, and the bytes are read as the record that opening gives
        pub open_call : Ready g image → (opens kind image bytes result ≡ whole (gives 0 0 0 0 image) result) ×
            (record_in (opens_record kind image bytes result) ≡ opened g image)
        open_call ready =
            let w = opens_on (gives 0 0 0 0 image) (opened g image) (opening_done g image ready) refl in
            (w.0, ap record_in w.1 ∙ record_read (opened g image) bytes all (opened_fits g (chosen_known kind g is) image ready))

-- ---- lookup and listing with a record
module _ (kind : ℕ) (image bytes result : List ℕ) where
  module _ (key : ℕ) where
    pub lookup_opened_short : length result < 24 → looks_up_opened kind image bytes key result ≡ short image result
    lookup_opened_short h = told_short (lookup_bytes kind image bytes key) image result h

    pub lookup_opened_few : 24 ≤ length result → length bytes < 24 → looks_up_opened kind image bytes key result
        ≡ whole (refused 1 image) result
    unfolding lookup_bytes
    lookup_opened_few room h =
        told_whole (lookup_bytes kind image bytes key) image result room
        ∙ ap (λ (x : Outcome). whole x result) (with_few bytes (refused 1 image) _ h)

    pub lookup_opened_nowhere : 24 ≤ length result → 2 ≤ kind → looks_up_opened kind image bytes key result
        ≡ whole (refused 1 image) result
    unfolding lookup_bytes lookup_with_of
    lookup_opened_nowhere room h = by_lt (length bytes) 24 (λ few. lookup_opened_few room few)
        (λ all. told_whole (lookup_bytes kind image bytes key) image result room
        ∙ ap (λ (x : Outcome). whole x result)
        (with_all bytes (refused 1 image) _ all ∙ nowhere kind (λ g. lookup_with g image (record_in bytes) key) (refused 1 image) h))

    module _ (g : Geometry) (is : chosen_of kind ≡ Some g) (all : 24 ≤ length bytes) where
      looks_on : lookup_bytes kind image bytes key ≡ lookup_with g image (record_in bytes) key
      unfolding lookup_bytes lookup_with_of
      looks_on = with_all bytes (refused 1 image) _ all
          ∙ on kind g is (λ g. lookup_with g image (record_in bytes) key) (refused 1 image)

      -- LENGTH; then STALE, "right after" it
      pub lookup_opened_length : 24 ≤ length result → good_length g image ≡ false
          → looks_up_opened kind image bytes key result ≡ whole (refused 1 image) result
      lookup_opened_length room e = told_whole (lookup_bytes kind image bytes key) image result room
          ∙ ap (λ (x : Outcome). whole x result) (looks_on ∙ lookup_length g image (record_in bytes) key e)

      pub lookup_opened_stale : 24 ≤ length result → good_length g image ≡ true → standing g (blocks_of g image) image
          (record_in bytes) ≡ false
          → looks_up_opened kind image bytes key result ≡ whole (refused 8 image) result
      lookup_opened_stale room e s = told_whole (lookup_bytes kind image bytes key) image result room
          ∙ ap (λ (x : Outcome). whole x result) (looks_on ∙ lookup_stale g image (record_in bytes) key e s)

      -- "answers and bytes equal the old calls'"
      pub lookup_opened_call : Ready g image → record_in bytes ≡ opened g image
          → looks_up_opened kind image bytes key result ≡ looks_up kind image key result
      unfolding lookup_of
      lookup_opened_call ready e = ap (λ (x : Outcome). returned x image result)
          (looks_on ∙ ap (λ (o : Opened). lookup_with g image o key) e
          ∙ lookup_same g (shape g (chosen_known kind g is)) image ready key
          ∙ sym (on kind g is (λ g. lookup g image key) (refused 1 image)))

  module _ (low high : ℕ) (pairs : List ℕ) where
    pub list_opened_short : length result < 24 → lists_opened kind image bytes low high pairs result ≡ short pairs result
    list_opened_short h = told_short (list_bytes kind image bytes low high pairs) pairs result h

    pub list_opened_few : 24 ≤ length result → length bytes < 24 → lists_opened kind image bytes low high pairs result
        ≡ whole (refused 1 pairs) result
    unfolding list_bytes
    list_opened_few room h =
        told_whole (list_bytes kind image bytes low high pairs) pairs result room
        ∙ ap (λ (x : Outcome). whole x result) (with_few bytes (refused 1 pairs) _ h)

    pub list_opened_nowhere : 24 ≤ length result → 2 ≤ kind → lists_opened kind image bytes low high pairs result
        ≡ whole (refused 1 pairs) result
    unfolding list_bytes list_with_of
    list_opened_nowhere room h = by_lt (length bytes) 24 (λ few. list_opened_few room few)
        (λ all. told_whole (list_bytes kind image bytes low high pairs) pairs result room
        ∙ ap (λ (x : Outcome). whole x result)
        (with_all bytes (refused 1 pairs) _ all ∙ ap as_outcome
        (nowhere kind (λ g. list_with g image (record_in bytes) low high pairs) (lists_none 1 0 0 pairs) h)))

    module _ (g : Geometry) (is : chosen_of kind ≡ Some g) (all : 24 ≤ length bytes) where
      lists_on : list_bytes kind image bytes low high pairs ≡ as_outcome (list_with g image (record_in bytes) low high
          pairs)
      unfolding list_bytes list_with_of
      lists_on = with_all bytes (refused 1 pairs) _ all
          ∙ ap as_outcome (on kind g is (λ g. list_with g image (record_in bytes) low high pairs) (lists_none 1 0 0 pairs))

      pub list_opened_length : 24 ≤ length result → good_length g image ≡ false → lists_opened kind image bytes low high
          pairs result ≡ whole (refused 1 pairs) result
      list_opened_length room e = told_whole (list_bytes kind image bytes low high pairs) pairs result room
          ∙ ap (λ (x : Outcome). whole x result) (lists_on
          ∙ ap as_outcome (list_length g image (record_in bytes) low high pairs e))

      pub list_opened_stale : 24 ≤ length result → good_length g image ≡ true → standing g (blocks_of g image) image
          (record_in bytes) ≡ false
          → lists_opened kind image bytes low high pairs result ≡ whole (refused 8 pairs) result
      list_opened_stale room e s = told_whole (list_bytes kind image bytes low high pairs) pairs result room
          ∙ ap (λ (x : Outcome). whole x result) (lists_on
          ∙ ap as_outcome (list_stale g image (record_in bytes) low high pairs e s))

      pub list_opened_call : Ready g image → record_in bytes ≡ opened g image
          → lists_opened kind image bytes low high pairs result ≡ lists_pairs kind image low high pairs result
      unfolding list_of
      list_opened_call ready e = ap (λ (x : Outcome). returned x pairs result)
          (lists_on ∙ ap (λ (o : Opened). as_outcome (list_with g image o low high pairs)) e
          ∙ ap as_outcome (list_same g (chosen_known kind g is) image ready low high pairs
          ∙ sym (on kind g is (λ g. listing g image low high pairs) (lists_none 1 0 0 pairs))))

-- ---- insert and delete with a record, where they refuse: nothing is touched but the result buffer
pub record Refuses (kind : ℕ) (image bytes live result : List ℕ) (l : Leaves) : Type 0 where
  -- a result buffer that is too short gives 1 and leaves it too
  pub short_result : length result < 24 → l ≡ leaves (short image result) bytes live
  -- a record that is too short, a number that is no geometry's, a bad length, "Fewer than B words": LENGTH
  pub short_record : 24 ≤ length result → length bytes < 24 → l ≡ leaves (whole (refused 1 image) result) bytes live
  pub no_geometry : 24 ≤ length result → Small bytes → 2 ≤ kind → l ≡ leaves (whole (refused 1 image) result) bytes live
  pub bad_length : (g : Geometry) → chosen_of kind ≡ Some g → 24 ≤ length result → Small bytes → good_length g image ≡ false
      → l ≡ leaves (whole (refused 1 image) result) bytes live
  pub few_words : (g : Geometry) → chosen_of kind ≡ Some g → 24 ≤ length result → Small bytes → length live < words_of g
      (blocks_of g image)
      → l ≡ leaves (whole (refused 1 image) result) bytes live
  -- "If the named page isn't programmed with that sequence number and height, the answer is 8 STALE"
  pub stale : (g : Geometry) → chosen_of kind ≡ Some g → 24 ≤ length result → 24 ≤ length bytes → Small bytes
      → good_length g image ≡ true → Enough image live g
      → standing g (blocks_of g image) image (record_in bytes) ≡ false → l ≡ leaves (whole (refused 8 image) result) bytes
      live

-- a call of either kind
module _ (image bytes live result : List ℕ) (call : Opened → Returned) where
  abbrev by : Reopened
  by = with_record bytes (reopened (refused 1 image) bytes live) (λ o. packed bytes (call o))

  abbrev after : Leaves
  after = updated image bytes live result by

  after_short : length result < 24 → after ≡ leaves (short image result) bytes live
  after_short h = (λ i. leaves (told_short by.outcome image result h i) (kept_old result bytes by.bytes h i) (kept_old result live by.words h i))

  after_by : 24 ≤ length result → (o : Outcome) (b w : List ℕ) → by ≡ reopened o b w
      → after ≡ leaves (whole o result) b w
  after_by room o b w e = (λ i. leaves
      ((told_whole by.outcome image result room ∙ ap (λ (r : Reopened). whole r.outcome result) e) i)
      ((kept_new result bytes by.bytes room ∙ ap (λ (r : Reopened). r.bytes) e) i)
      ((kept_new result live by.words room ∙ ap (λ (r : Reopened). r.words) e) i))

  after_few : 24 ≤ length result → length bytes < 24 → after ≡ leaves (whole (refused 1 image) result) bytes live
  after_few room h = after_by room (refused 1 image) bytes live (with_few bytes (reopened (refused 1 image) bytes live) _ h)

  -- "both return the record as given"
  after_refused : (answer : ℕ) → 24 ≤ length result → 24 ≤ length bytes → Small bytes
      → call (record_in bytes) ≡ update.returned (refused answer image) (record_in bytes) live
      → after ≡ leaves (whole (refused answer image) result) bytes live
  after_refused answer room all small e = after_by room (refused answer image) bytes live
      (with_all bytes (reopened (refused 1 image) bytes live) _ all ∙ ap (packed bytes) e
      ∙ ap (λ (b : List ℕ). reopened (refused answer image) b live) (record_back bytes small))

  -- LENGTH, whatever the record's length
  after_length : 24 ≤ length result → Small bytes → call (record_in bytes) ≡ update.returned (refused 1 image)
      (record_in bytes) live
      → after ≡ leaves (whole (refused 1 image) result) bytes live
  after_length room small e = by_lt (length bytes) 24 (λ h. after_few room h) (λ all. after_refused 1 room all small e)

-- by the number of a geometry
module _ (kind : ℕ) (image bytes live result : List ℕ) (call : Geometry → Opened → Returned) where
  abbrev chosen_by : Opened → Returned
  chosen_by o = chosen_call (chosen_of kind) (λ g. call g o) (update.returned (refused 1 image) o live)

  abbrev Gives : Geometry → ℕ → Type 0
  Gives g answer = call g (record_in bytes) ≡ update.returned (refused answer image) (record_in bytes) live

  refuses_call : ((g : Geometry) → good_length g image ≡ false → Gives g 1)
      → ((g : Geometry) → length live < words_of g (blocks_of g image) → Gives g 1)
      → ((g : Geometry) → good_length g image ≡ true → Enough image live g → standing g (blocks_of g image) image
      (record_in bytes) ≡ false → Gives g 8)
      → Refuses kind image bytes live result (after image bytes live result chosen_by)
  refuses_call bad few stale = record {
    short_result = after_short image bytes live result chosen_by;
    short_record = after_few image bytes live result chosen_by;
    no_geometry = λ room small h. after_length image bytes live result chosen_by room small (nowhere kind (λ g. call g (record_in bytes)) _ h);
    bad_length = λ g is room small e. after_length image bytes live result chosen_by room small (there g is ∙ bad g e);
    few_words = λ g is room small h. after_length image bytes live result chosen_by room small (there g is ∙ few g h);
    stale = λ g is room all small e h s. after_refused image bytes live result chosen_by 8 room all small (there g is
        ∙ stale g e h s);
  }
    where
      there : (g : Geometry) → chosen_of kind ≡ Some g → chosen_by (record_in bytes) ≡ call g (record_in bytes)
      there g is = on kind g is (λ x. call x (record_in bytes)) (update.returned (refused 1 image) (record_in bytes) live)

module _ (kind : ℕ) (image bytes live result : List ℕ) (key : ℕ) where
  pub insert_opened_refuses : (address allowance : ℕ) → Refuses kind image bytes live result
      (inserts_opened kind image bytes live key address allowance result)
  unfolding insert_bytes insert_with_of
  insert_opened_refuses address allowance =
      refuses_call kind image bytes live result (λ g o. insert_with g image live o key address allowance)
      (λ g. insert_length g image live (record_in bytes) key address allowance) (λ g. insert_few_words g image live (record_in bytes) key address allowance)
      (λ g. insert_stale g image live (record_in bytes) key address allowance)

  pub delete_opened_refuses : (allowance : ℕ) → Refuses kind image bytes live result
      (deletes_opened kind image bytes live key allowance result)
  unfolding delete_bytes delete_with_of
  delete_opened_refuses allowance = refuses_call kind image bytes live result (λ g o. delete_with g image live o key allowance)
      (λ g. delete_length g image live (record_in bytes) key allowance) (λ g. delete_few_words g image live (record_in bytes) key allowance)
      (λ g. delete_stale g image live (record_in bytes) key allowance)

-- ---- between two calls: a sound image, the bytes of the record that opening gives for it, and words enough
pub record Session (g : Geometry) (image bytes live : List ℕ) : Type 0 where
  pub ready : Ready g image
  pub room : 24 ≤ length bytes
  pub record_is : record_in bytes ≡ opened g image
  pub enough : Enough image live g

-- what a call leaves is what the call without a record leaves, and the session goes on
pub record Same (g : Geometry) (l : Leaves) (left : Left) (words : List ℕ) : Type 0 where
  pub left_is : l.left ≡ left
  pub words_are : l.words ≡ words
  pub session : Session g l.left.image l.bytes l.words

-- opening a sound image begins one
pub open_session : (kind : ℕ) (g : Geometry) → chosen_of kind ≡ Some g → (image bytes live result : List ℕ)
    → 24 ≤ length result → 24 ≤ length bytes → Ready g image
    → Enough image live g → Session g image (opens_record kind image bytes result) live
unfolding open_record opened_of
open_session kind g is image bytes live result room all ready enough = record {
  ready = ready;
  room = subst (λ (b : List ℕ). 24 ≤ length b) (sym at) (subst (λ (m : ℕ). 24 ≤ m) (sym (record_long (opened g image) bytes)) all);
  record_is = (open_call kind image bytes result room all g is ready).1;
  enough = enough;
}
  where
    at : opens_record kind image bytes result ≡ put_record (opened g image) bytes
    at = kept_new result bytes (open_record kind image bytes) room ∙ with_all bytes bytes _ all
        ∙ ap (λ (o : Opened). put_record o bytes) (on kind g is (λ g. opened g image) no_record)

-- a call that gives an outcome o, the record of its image, and words of the same length
module _ (g : Geometry) (known : Known g) (image bytes live result : List ℕ) (s : Session g image bytes live)
    (call : Opened → Returned) (o : Outcome) (ws : List ℕ)
    (e : call (opened g image) ≡ update.returned o (opened g o.image) ws) (ready : Ready g o.image)
    (long : length o.image ≡ length image)
    (same : length ws ≡ length live) where
  by_is : by image bytes live result call ≡ reopened o (put_record (opened g o.image) bytes) ws
  by_is = with_all bytes (reopened (refused 1 image) bytes live) _ s.room
      ∙ ap (λ (x : Opened). packed bytes (call x)) s.record_is ∙ ap (packed bytes) e

  session_after : 24 ≤ length result → Session g o.image (put_record (opened g o.image) bytes) ws
  session_after room = record {
    ready = ready;
    room = subst (λ (m : ℕ). 24 ≤ m) (sym (record_long (opened g o.image) bytes)) s.room;
    record_is = record_read (opened g o.image) bytes s.room (opened_fits g known o.image ready);
    enough = subst (λ (m : ℕ). words_of g (blocks_of g o.image) ≤ m) (sym same)
        (subst (λ (b : ℕ). words_of g b ≤ length live) (sym (blocks_same g image o.image long)) s.enough);
  }

  same_call : (r : Reply) → r.outcome ≡ o → r.words ≡ ws
      → Same g (after image bytes live result call) (returned r.outcome image result) (words_left r live result)
  same_call r ro rw = record {
    left_is = ap (λ (x : Outcome). returned x image result) (ap (λ (x : Reopened). x.outcome) by_is ∙ sym ro);
    words_are = by_lt (length result) 24
        (λ h. kept_old result live (by image bytes live result call).words h ∙ sym (words_kept r live result h))
        (λ room. kept_new result live (by image bytes live result call).words room ∙ ap (λ (x : Reopened). x.words)
        by_is ∙ sym (words_whole r live result room ∙ rw));
    session = by_lt (length result) 24
        (λ h. subst On (sym (after_short image bytes live result call h)) s)
        (λ room. subst On (sym (after_by image bytes live result call room o (put_record (opened g o.image) bytes) ws by_is)) (session_after room));
  }
    where
      On : Leaves → Type 0
      On l = Session g l.left.image l.bytes l.words

module _ (kind : ℕ) (g : Geometry) (is : chosen_of kind ≡ Some g) (image bytes live result : List ℕ)
    (s : Session g image bytes live) (key : ℕ) (key_low : key < four_bytes) where
  -- "answers and bytes equal the old calls', and the record returned is what opening would then give", for every answer
  -- and allowance
  pub insert_opened_call : (address allowance : ℕ) → address < four_bytes
      → Same g (inserts_opened kind image bytes live key address allowance result)
      (inserts kind image live key address allowance result)
      (insert_words kind image live key address allowance result)
  unfolding insert_bytes insert_with_of insert_live_of insert
  insert_opened_call address allowance low =
      let known = chosen_known kind g is in
      let lent = insert_live_lem g image live key address allowance in
      let here = on kind g is (λ g. insert_live g image live key address allowance) (reply (refused 1 image) live) in
      let long = ap (λ (v : Outcome). length v.image) (judged_ready g image _ s.ready)
      ∙ insert_long g (blocks_of g image) image key address allowance in
      same_call g known image bytes live result s (chosen_by kind image bytes live result
      (λ x o. insert_with x image live o key address allowance)) (insert g image key address allowance)
      (insert_live g image live key address allowance).words
      (on kind g is (λ x. insert_with x image live (opened g image) key address allowance) (update.returned (refused 1 image) (opened g image) live)
      ∙ insert_same g known image s.ready live s.enough key address allowance key_low low)
      (insert_ready g (shape g known) image s.ready key address allowance key_low low) long lent.words_past.long
      (insert_live_of kind image live key address allowance) (ap (λ (r : Reply). r.outcome) here ∙ lent.outcome_is
      s.enough) (ap (λ (r : Reply). r.words) here)

  pub delete_opened_call : (allowance : ℕ)
      → Same g (deletes_opened kind image bytes live key allowance result) (deletes kind image live key allowance result)
      (delete_words kind image live key allowance result)
  unfolding delete_bytes delete_with_of delete_live_of delete
  delete_opened_call allowance =
      let known = chosen_known kind g is in
      let lent = delete_live_lem g image live key allowance in
      let here = on kind g is (λ g. delete_live g image live key allowance) (reply (refused 1 image) live) in
      let long = ap (λ (v : Outcome). length v.image) (judged_ready g image _ s.ready)
      ∙ delete_long g (blocks_of g image) image key allowance in
      same_call g known image bytes live result s (chosen_by kind image bytes live result
      (λ x o. delete_with x image live o key allowance)) (delete g image key allowance) (delete_live g image live key allowance).words
      (on kind g is (λ x. delete_with x image live (opened g image) key allowance) (update.returned (refused 1 image) (opened g image) live)
      ∙ delete_same g known image s.ready live s.enough key allowance key_low)
      (delete_ready g (shape g known) image s.ready key allowance key_low) long lent.words_past.long
      (delete_live_of kind image live key allowance) (ap (λ (r : Reply). r.outcome) here
      ∙ lent.outcome_is s.enough) (ap (λ (r : Reply). r.words) here)
