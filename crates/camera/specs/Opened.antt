-- What the C calls with a record leave, in the form in which the code has the premises. Assumes nothing.
use Rattle.std.specs.Prelude.{◌≡◌, List, ℕ, ◌≤◌, ◌<◌, length}
use Rattle.std.proofs.Math.Path.{refl, ap}
use Rattle.std.proofs.Common.{◌∙◌, lt-ltb, le-ltb}
use Rattle.model.specs.Bytes.{u32_at}
use Rattle.model.specs.Calls.{Outcome, refused}
use Rattle.model.specs.Listing.{as_outcome}
use Rattle.call_answers.specs.declared.Answer.{Answer}
use Rattle.call_answers.specs.declared.Answer.TheVariants.{Length}
use Rattle.call_answers.specs.Answers.{row_of, told}
use Rattle.open_record.specs.declared.Opened.{Opened}
use Rattle.open_record.specs.Opened.{opened_of, opening_of, lookup_with_of, list_with_of}
use Rattle.live_beside.specs.Update.{Returned, returned}
use Rattle.live_beside.specs.Calls.{insert_with_of, delete_with_of}
use Rattle.camera.specs.Camera.{put_numbers, record_in, record_numbers, put_record, with_record, open_bytes, open_record, lookup_bytes, list_bytes, Reopened, reopened, packed, insert_bytes, delete_bytes, kept}
use Rattle.camera.specs.Camera as camera
use Rattle.camera.specs.Results.{made_answer, made_image, made_result, camera_laws}

-- ---- the record
pub record_is : (bytes : List ℕ) (a b c d e f : ℕ) → a ≡ u32_at bytes 0 → b ≡ u32_at bytes 4 → c ≡ u32_at bytes 8
    → d ≡ u32_at bytes 12 → e ≡ u32_at bytes 16
    → f ≡ u32_at bytes 20 → ◌≡◌ {A = Opened} (record {
      root = a;
      number = b;
      most = c;
      height = d;
      next = e;
      erased = f;
    }) (record_in bytes)
unfolding record_in
record_is bytes a b c d e f ea eb ec ed ee ef = rw (ea, eb, ec, ed, ee, ef)

pub put_is : (o : Opened) (b d : List ℕ) → d ≡ put_numbers b 0 (record_numbers o) → d ≡ put_record o b
unfolding put_record
put_is o b d e = e

-- ---- a call of any kind
module _ {A : Type 0} (bytes : List ℕ) (short : A) (call : Opened → A) where
  few : length bytes < 24 → short ≡ with_record bytes short call
  unfolding with_record
  few h = rw (lt-ltb _ _ h)

  enough : 24 ≤ length bytes → (o : Opened) (r : A) → o ≡ record_in bytes → r ≡ call o → r ≡ with_record bytes short call
  unfolding with_record
  enough h o r eo er = rw (le-ltb _ _ h) (er ∙ ap call eo)

module _ (kind : ℕ) (img bytes : List ℕ) where
  pub open_few : length bytes < 24 → told Length img ≡ open_bytes kind img bytes
  unfolding open_bytes
  open_few h = few bytes (refused 1 img) _ h

  pub record_few : length bytes < 24 → bytes ≡ open_record kind img bytes
  unfolding open_record
  record_few h = few bytes bytes _ h

  pub open_told : (a : Answer) → told a img ≡ opening_of kind img → 24 ≤ length bytes
      → told a img ≡ open_bytes kind img bytes
  unfolding open_bytes
  open_told a e h = enough bytes (refused 1 img) (λ o. opening_of kind img) h (record_in bytes) (told a img) refl e

  pub record_put : (o : Opened) (d : List ℕ) → o ≡ opened_of kind img → d ≡ put_record o bytes → 24 ≤ length bytes
      → d ≡ open_record kind img bytes
  unfolding open_record
  record_put o d e f h =
      enough bytes bytes (λ o. put_record (opened_of kind img) bytes) h (record_in bytes) d refl (f
      ∙ ap (λ (x : Opened). put_record x bytes) e)

  module _ (k : ℕ) where
    pub lookup_few : length bytes < 24 → told Length img ≡ lookup_bytes kind img bytes k
    unfolding lookup_bytes
    lookup_few h = few bytes (refused 1 img) _ h

    pub lookup_told : (o : Opened) (a : Answer) → o ≡ record_in bytes → told a img ≡ lookup_with_of kind img o k
        → 24 ≤ length bytes
        → told a img ≡ lookup_bytes kind img bytes k
    unfolding lookup_bytes
    lookup_told o a eo e h = enough bytes (refused 1 img) (λ o. lookup_with_of kind img o k) h o (told a img) eo e

  module _ (low high : ℕ) (pairs : List ℕ) where
    pub list_few : length bytes < 24 → told Length pairs ≡ list_bytes kind img bytes low high pairs
    unfolding list_bytes
    list_few h = few bytes (refused 1 pairs) _ h

    pub list_told : (o : Opened) (r : Outcome) → o ≡ record_in bytes
        → r ≡ as_outcome (list_with_of kind img o low high pairs) → 24 ≤ length bytes
        → r ≡ list_bytes kind img bytes low high pairs
    unfolding list_bytes
    list_told o r eo e h = enough bytes (refused 1 pairs) (λ o. as_outcome (list_with_of kind img o low high pairs)) h o r eo e

  -- an update
  module _ (old : List ℕ) (call : Opened → Returned) where
    update_few : length bytes < 24 → reopened (told Length img) bytes old ≡ with_record bytes
        (reopened (refused 1 img) bytes old) (λ o. packed bytes (call o))
    update_few h = few bytes (reopened (refused 1 img) bytes old) (λ o. packed bytes (call o)) h

    update_told : (o left : Opened) (x : Answer) (out ws d : List ℕ) → o ≡ record_in bytes
        → returned (told x out) left ws ≡ call o → d ≡ put_record left bytes
        → 24 ≤ length bytes → reopened (told x out) d ws ≡ with_record bytes (reopened (refused 1 img) bytes old)
        (λ o. packed bytes (call o))
    update_told o left x out ws d eo e ed h =
        ap (λ (y : List ℕ). reopened (told x out) y ws) ed
        ∙ enough bytes (reopened (refused 1 img) bytes old) (λ o. packed bytes (call o)) h o
        (packed bytes (returned (told x out) left ws)) eo (ap (packed bytes) e)

  module _ (old : List ℕ) (k a al : ℕ) where
    pub insert_few : length bytes < 24 → reopened (told Length img) bytes old ≡ insert_bytes kind img old bytes k a al
    unfolding insert_bytes
    insert_few h = update_few old (λ o. insert_with_of kind img old o k a al) h

    pub insert_told : (o left : Opened) (x : Answer) (out ws d : List ℕ) → o ≡ record_in bytes
        → returned (told x out) left ws ≡ insert_with_of kind img old o k a al → d ≡ put_record left bytes
        → 24 ≤ length bytes
        → reopened (told x out) d ws ≡ insert_bytes kind img old bytes k a al
    unfolding insert_bytes
    insert_told o left x out ws d eo e ed h =
        update_told old (λ o. insert_with_of kind img old o k a al) o left x out ws d eo e ed h

  module _ (old : List ℕ) (k al : ℕ) where
    pub delete_few : length bytes < 24 → reopened (told Length img) bytes old ≡ delete_bytes kind img old bytes k al
    unfolding delete_bytes
    delete_few h = update_few old (λ o. delete_with_of kind img old o k al) h

    pub delete_told : (o left : Opened) (x : Answer) (out ws d : List ℕ) → o ≡ record_in bytes
        → returned (told x out) left ws ≡ delete_with_of kind img old o k al → d ≡ put_record left bytes
        → 24 ≤ length bytes
        → reopened (told x out) d ws ≡ delete_bytes kind img old bytes k al
    unfolding delete_bytes
    delete_told o left x out ws d eo e ed h =
        update_told old (λ o. delete_with_of kind img old o k al) o left x out ws d eo e ed h

-- ---- what is left beside the image
module _ (buf old new : List ℕ) where
  pub kept_short : length buf < 24 → old ≡ kept buf old new
  unfolding kept
  kept_short h = rw (lt-ltb _ _ h)

  pub kept_new : (d : List ℕ) → d ≡ new → 24 ≤ length buf → d ≡ kept buf old new
  unfolding kept
  kept_new d e h = rw (le-ltb _ _ h) e

module _ (r : Reopened) (img out bytes words buf : List ℕ) (a : Answer) (e : reopened (told a out) bytes words
    ≡ r) (h : 24 ≤ length buf) where
  pub update_answer : (n : ℕ) → n ≡ (row_of a).answer → n ≡ (camera.returned r.outcome img buf).answer
  update_answer n f = made_answer r.outcome img out buf a (ap (λ (x : Reopened). x.outcome) e) h n f

  pub update_image : out ≡ (camera.returned r.outcome img buf).image
  update_image = made_image r.outcome img out buf a (ap (λ (x : Reopened). x.outcome) e) h

  pub update_bytes : (old : List ℕ) → bytes ≡ kept buf old r.bytes
  update_bytes old = kept_new buf old r.bytes bytes (ap (λ (x : Reopened). x.bytes) e) h

  pub update_words : (old : List ℕ) → words ≡ kept buf old r.words
  update_words old = kept_new buf old r.words words (ap (λ (x : Reopened). x.words) e) h

  pub update_result : (b : List ℕ) → b ≡ camera.report_of a buf → b ≡ (camera.returned r.outcome img buf).result
  update_result b f = made_result r.outcome img out buf a (ap (λ (x : Reopened). x.outcome) e) h b f

-- of the record's bytes and the calls on them
pub ruleset bytes_laws = (record_is, put_is, open_few, record_few, open_told, record_put, lookup_few, lookup_told, list_few, list_told, insert_few, insert_told, delete_few, delete_told)

-- of the C calls
pub ruleset call_laws = (camera_laws, kept_short, kept_new, update_answer, update_image, update_bytes, update_words, update_result)
