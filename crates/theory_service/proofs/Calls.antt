-- The demands of the C calls, for every image of bytes, lent words, every result buffer, and keys, addresses and
-- allowances of 32 bits. `Left` has what a call leaves; Ready, map_at, Holds, OneOf are the words of the demands.
-- Assumes nothing.
use Rattle.std.specs.Prelude.{◌≡◌, List, [], ◌∷◌, Bool, ◌⊎◌, ℕ, zero, suc, ◌<◌, ◌≤◌, ltb, length, take, None, Option, Some}
use Rattle.std.proofs.Math.Path.{refl, ap}
use Rattle.std.proofs.Common.{sym, subst, ◌∙◌, arith}
use Rattle.std.proofs.Math.Bool.{true, false}
use Rattle.geometry.specs.declared.Entry.{Entry}
use Rattle.geometry.specs.declared.Geometry.{Geometry}
use Rattle.geometry.specs.Findings.{Sound, broken_at}
use Rattle.geometry.specs.Tests.{pick}
use Rattle.geometry.specs.Geometry.{chosen_of}
use Rattle.geometry.specs.Shape.{Known, is_small, is_large, Shape, shape_core, chosen_known}
use Rattle.geometry.proofs.Shape.{shape}
use Rattle.geometry.specs.Bounds.{four_bytes}
use Rattle.model.specs.Image.{blocks_of, pages_of, good_length}
use Rattle.model.specs.Tree.{find}
use Rattle.model.specs.Rules.{verdict}
use Rattle.model.specs.Edit.{put, remove}
use Rattle.model.specs.Stores.{Store, program, erase, programs, erases}
use Rattle.model.specs.Update.{insert_stores, delete_stores}
use Rattle.model.specs.Calls.{Outcome, refused, damaged, made, answered, lookup, insert, delete, chosen_call, lookup_of}
use Rattle.theory_demands.specs.Words.{Ready, map_at, Holds, programmed_most, erased_most, Began, OneOf}
use Rattle.theory_demands.specs.Refusals.{Refuses, lookup_refuses, insert_refuses}
use Rattle.theory_demands.proofs.Refusals.{delete_refuses}
use Rattle.theory_demands.specs.Demands.{lookup_reads, insert_refused, lookup_answers, insert_answers, insert_made_lem}
use Rattle.theory_demands.proofs.Demands.{delete_refused, delete_answers, insert_done, delete_done, insert_stopped, delete_stopped, delete_made_lem, insert_bounds, delete_bounds}
use Rattle.theory_demands.specs.Named.{first_broken_lem}
use Rattle.theory_demands.proofs.Inside.{page_inside}
use Rattle.theory_demands.specs.Live.{Lent}
use Rattle.theory_demands.proofs.Live.{insert_live_lem, delete_live_lem}
use Rattle.theory_counts.specs.Least.{by_lt}
use Rattle.theory_images.specs.Lengths.{good_blocks_lem, few_pages}
use Rattle.live_words.specs.Words.{words_of}
use Rattle.live_words.specs.Live.{Reply, reply, insert_live, delete_live, insert_live_of, delete_live_of}
use Rattle.camera.specs.Camera.{Left, returned}
use Rattle.theory_service.specs.Left.{looks_up, inserts, deletes, Enough, other_unknown, on, outcome_chosen, answer_in, programmed_in, erased_in, rule_in, page_in, short, whole, told_whole, told_short, told_number}

-- ---- Demand 1: a result buffer that is too short gives 1, and nothing changes. Else a number that is no geometry's or
-- a bad length gives 1, an image that is not sound 2 with the verdict's rule and page, and nothing else gives these,
-- where the lent words are `enough` (a lookup is lent none; too few give 1: Words). Answers 1 to 6 leave the image
pub record Refused (kind : ℕ) (image result : List ℕ) (enough : Geometry → Type 0) (l : Left) : Type 0 where
  pub short_buffer : length result < 24 → l ≡ short image result
  pub no_geometry : 24 ≤ length result → 2 ≤ kind → l ≡ whole (refused 1 image) result
  pub bad_length : (g : Geometry) → chosen_of kind ≡ Some g → 24 ≤ length result → good_length g image ≡ false
      → l ≡ whole (refused 1 image) result
  pub not_sound : (g : Geometry) → chosen_of kind ≡ Some g → enough g → 24 ≤ length result → good_length g image ≡ true
      → (rule page : ℕ) → verdict g (blocks_of g image) image ≡ broken_at rule page
      → l ≡ whole (damaged image rule page) result
  pub neither : (g : Geometry) → chosen_of kind ≡ Some g → enough g → 24 ≤ length result → good_length g image ≡ true
      → verdict g (blocks_of g image) image ≡ Sound → 1 ≤ l.answer → 3 ≤ l.answer
  pub untouched : 1 ≤ l.answer → l.answer ≤ 6 → l.image ≡ image

module _ (image result : List ℕ) (o : Outcome) where
  untouched_call : (1 ≤ o.answer → o.answer ≤ 6 → o.image ≡ image) → 1 ≤ (returned o image result).answer
      → (returned o image result).answer ≤ 6
      → (returned o image result).image ≡ image
  unfolding returned
  untouched_call same = go (ltb (length result) 24)
    where
      go : (t : Bool) → 1 ≤ (pick {A = Left} t (short image result) (whole o result)).answer → (pick {A = Left} t
          (short image result) (whole o result)).answer ≤ 6
          → (pick {A = Left} t (short image result) (whole o result)).image ≡ image
      go true p q = refl
      go false p q = same p q

-- a call on any geometry that refuses as it should, and leaves the image where it refuses
module _ (kind : ℕ) (image result : List ℕ) (enough : Geometry → Type 0) (call : Geometry → Outcome)
    (bad : (g : Geometry) → good_length g image ≡ false → call g ≡ refused 1 image) (refuses : (g : Geometry) → enough g
    → Refuses g image (call g))
    (same : (g : Geometry) → 1 ≤ (call g).answer → (call g).answer ≤ 6 → (call g).image ≡ image) where
  abbrev chosen : Outcome
  chosen = chosen_call (chosen_of kind) call (refused 1 image)

  stays : (c : Option Geometry) → 1 ≤ (chosen_call c call (refused 1 image)).answer → (chosen_call c call
      (refused 1 image)).answer ≤ 6
      → (chosen_call c call (refused 1 image)).image ≡ image
  unfolding chosen_call
  stays (Some g) p q = same g p q
  stays None p q = refl

  nowhere : 2 ≤ kind → chosen ≡ refused 1 image
  unfolding chosen_call
  nowhere h = ap (λ (c : Option Geometry). chosen_call c call (refused 1 image)) (other_unknown kind h)

  at : (g : Geometry) → chosen_of kind ≡ Some g → chosen ≡ call g
  at g is = on kind g is call (refused 1 image)

  leaves : 24 ≤ length result → (o : Outcome) → chosen ≡ o → returned chosen image result ≡ whole o result
  leaves room o e = told_whole chosen image result room ∙ ap (λ (x : Outcome). whole x result) e

  refused_call : Refused kind image result enough (returned chosen image result)
  refused_call = record {
    short_buffer = λ s. told_short chosen image result s;
    no_geometry = λ r h. leaves r (refused 1 image) (nowhere h);
    bad_length = λ g is r e. leaves r (refused 1 image) (at g is ∙ bad g e);
    not_sound = λ g is w r e rule page d. leaves r (damaged image rule page) (at g is
        ∙ (refuses g w).not_sound rule page e d);
    neither = λ g is w r e d. subst (λ (l : Left). 1 ≤ l.answer → 3 ≤ l.answer) (sym (leaves r (call g) (at g is)))
        ((refuses g w).neither e d);
    untouched = untouched_call image result chosen (stays (chosen_of kind));
  }

-- a call with lent words refuses as the call without them, and gives 1 for a bad length and leaves the image whatever
-- the words
module _ (g : Geometry) (image live : List ℕ) (o : Outcome) (r : Reply) (lent : Lent g image live o r) where
  lent_bad : Refuses g image o → good_length g image ≡ false → r.outcome ≡ refused 1 image
  lent_bad h e = by_lt (length live) (words_of g (blocks_of g image)) (λ s. ap (λ (x : Reply). x.outcome) (lent.words_short s))
      (λ w. lent.outcome_is w ∙ h.bad_length e)

  lent_refuses : Refuses g image o → Enough image live g → Refuses g image r.outcome
  lent_refuses h w = subst (Refuses g image) (sym (lent.outcome_is w)) h

  lent_same : (1 ≤ o.answer → o.answer ≤ 6 → o.image ≡ image) → 1 ≤ r.outcome.answer → r.outcome.answer ≤ 6
      → r.outcome.image ≡ image
  lent_same h = by_lt (length live) (words_of g (blocks_of g image)) (λ s p q. ap (λ (x : Reply). x.outcome.image) (lent.words_short s))
      (λ w. subst (λ (x : Outcome). 1 ≤ x.answer → x.answer ≤ 6 → x.image ≡ image) (sym (lent.outcome_is w)) h)

module _ (kind : ℕ) (image live result : List ℕ) (o : Geometry → Outcome) (call : Geometry → Reply)
    (lent : (g : Geometry) → Lent g image live (o g) (call g)) where
  lent_refused_call : ((g : Geometry) → Refuses g image (o g)) → ((g : Geometry) → 1 ≤ (o g).answer → (o g).answer ≤ 6
      → (o g).image ≡ image)
      → Refused kind image result (Enough image live)
      (returned (chosen_call (chosen_of kind) call (reply (refused 1 image) live)).outcome image result)
  lent_refused_call refuses same = rw (outcome_chosen (chosen_of kind) call (refused 1 image) live)
      (refused_call kind image result (Enough image live) (λ g. (call g).outcome)
      (λ g. lent_bad g image live (o g) (call g) (lent g) (refuses g))
      (λ g. lent_refuses g image live (o g) (call g) (lent g) (refuses g))
      (λ g. lent_same g image live (o g) (call g) (lent g) (same g)))

  -- with enough words the outcome is that of the call without them
  lent_outcome : (g : Geometry) → chosen_of kind ≡ Some g → Enough image live g → (chosen_call (chosen_of kind) call
      (reply (refused 1 image) live)).outcome ≡ o g
  lent_outcome g is w = ap (λ (x : Reply). x.outcome) (on kind g is call (reply (refused 1 image) live))
      ∙ (lent g).outcome_is w

module _ (kind : ℕ) (image result : List ℕ) (key : ℕ) where
  pub lookup_refused_call : Refused kind image result (λ g. Unit {0}) (looks_up kind image key result)
  unfolding lookup_of
  lookup_refused_call = refused_call kind image result (λ g. Unit {0}) (λ g. lookup g image key)
      (λ g. (lookup_refuses g image key).bad_length) (λ g w. lookup_refuses g image key) (λ g p q. lookup_reads g image key)

  pub insert_refused_call : (live : List ℕ) (address allowance : ℕ)
      → Refused kind image result (Enough image live) (inserts kind image live key address allowance result)
  unfolding insert_live_of
  insert_refused_call live address allowance =
      lent_refused_call kind image live result (λ g. insert g image key address allowance)
      (λ g. insert_live g image live key address allowance) (λ g. insert_live_lem g image live key address allowance)
      (λ g. insert_refuses g image key address allowance) (λ g. insert_refused g image key address allowance)

  pub delete_refused_call : (live : List ℕ) (allowance : ℕ) → Refused kind image result (Enough image live)
      (deletes kind image live key allowance result)
  unfolding delete_live_of
  delete_refused_call live allowance = lent_refused_call kind image live result (λ g. delete g image key allowance)
      (λ g. delete_live g image live key allowance) (λ g. delete_live_lem g image live key allowance)
      (λ g. delete_refuses g image key allowance) (λ g. delete_refused g image key allowance)

-- ---- Request 5: what is read in the result buffer of a call on an image that is not sound: 2, the first broken rule
-- and its page
module _ (kind : ℕ) (g : Geometry) (is : chosen_of kind ≡ Some g) (image result : List ℕ) (room : 24 ≤ length result)
    (good : good_length g image ≡ true)
    (rule page : ℕ) (broken : verdict g (blocks_of g image) image ≡ broken_at rule page) where
  formed_by : Shape g
  formed_by = shape g (chosen_known kind g is)

  -- a page of the image
  pub page_in_lem : page < pages_of g (blocks_of g image)
  page_in_lem = page_inside g formed_by image good rule page broken

  page_low : page < four_bytes
  page_low = omega (arith, few_pages g (shape_core g formed_by) (blocks_of g image) (good_blocks_lem g image good).most, page_in_lem)

  pub damaged_call : (enough : Geometry → Type 0) → enough g → (l : Left) → Refused kind image result enough l
      → (l.answer ≡ 2) × (l.image ≡ image) × (answer_in l.result ≡ 2) × (rule_in l.result ≡ rule) ×
      (page_in l.result ≡ page)
  damaged_call enough w l h =
      let o = damaged image rule page in
      let e = h.not_sound g is w room good rule page broken in
      let low = (first_broken_lem g (blocks_of g image) image rule page broken).most in (
        ap (λ (x : Left). x.answer) e,
        ap (λ (x : Left). x.image) e,
        ap (λ (x : Left). answer_in x.result) e ∙ told_number o result room 0 (omega arith) (omega arith),
        ap (λ (x : Left). rule_in x.result) e ∙ told_number o result room 4 (omega arith) (omega (arith, low)),
        ap (λ (x : Left). page_in x.result) e ∙ told_number o result room 5 (omega arith) (omega (arith, page_low)),
      )

-- ---- Demands 2 and 3: on a sound image, with a result buffer of 24 bytes or more
-- the answer of an update, its image, and the counts of its stores, as many as are allowed
pub record Updates (g : Geometry) (old new : List Entry) (answers : List ℕ) (stores : List Store)
    (allowance : ℕ) (l : Left) : Type 0 where
  pub answer : OneOf l.answer answers
  pub finished : l.answer ≡ 0 → Holds g new l.image
  pub stopped : l.answer ≡ 7 → Holds g old l.image
  pub programmed : (l.answer ≡ 0) ⊎ (l.answer ≡ 7) → programmed_in l.result ≡ programs (take allowance stores)
  pub erased : (l.answer ≡ 0) ⊎ (l.answer ≡ 7) → erased_in l.result ≡ erases (take allowance stores)

programs_fewer : (j : ℕ) (ss : List Store) → programs (take j ss) ≤ programs ss
unfolding programs
programs_fewer zero ss = omega arith
programs_fewer (suc j) [] = omega arith
programs_fewer (suc j) (program p bs ∷ ss) = omega (arith, programs_fewer j ss)
programs_fewer (suc j) (erase b ∷ ss) = programs_fewer j ss

erases_fewer : (j : ℕ) (ss : List Store) → erases (take j ss) ≤ erases ss
unfolding erases
erases_fewer zero ss = omega arith
erases_fewer (suc j) [] = omega arith
erases_fewer (suc j) (program p bs ∷ ss) = erases_fewer j ss
erases_fewer (suc j) (erase b ∷ ss) = omega (arith, erases_fewer j ss)

-- the counts fit into 32 bits
most_low : (g : Geometry) → Known g → programmed_most g < four_bytes
most_low _ is_small = omega arith
most_low _ is_large = omega arith

-- the counts of an outcome that is made of a list of stores
module _ (g : Geometry) (known : Known g) (image result : List ℕ) (room : 24 ≤ length result) (stores : List Store)
    (allowance : ℕ) (o : Outcome)
    (is : o ≡ made g stores allowance image) (few : (programs stores ≤ programmed_most g) ×
    (erases stores ≤ erased_most g)) where
  made_programmed : programmed_in (returned o image result).result ≡ programs (take allowance stores)
  unfolding made
  made_programmed =
      let q = ap (λ (x : Outcome). x.programmed) is in
      ap (λ (l : Left). programmed_in l.result) (told_whole o image result room)
      ∙ told_number o result room 2 (omega arith) (omega (arith, q, programs_fewer allowance stores, few.0, most_low g known)) ∙ q

  made_erased : erased_in (returned o image result).result ≡ erases (take allowance stores)
  unfolding made
  made_erased =
      let q = ap (λ (x : Outcome). x.erased) is in
      ap (λ (l : Left). erased_in l.result) (told_whole o image result room)
      ∙ told_number o result room 3 (omega arith) (omega (arith, q, erases_fewer allowance stores, few.1, (shape g known).top_high)) ∙ q

module _ (kind : ℕ) (g : Geometry) (is : chosen_of kind ≡ Some g) (image result : List ℕ) (ready : Ready g image)
    (room : 24 ≤ length result)
    (key : ℕ) (key_low : key < four_bytes) where
  abbrev n : ℕ
  n = blocks_of g image

  known : Known g
  known = chosen_known kind g is

  formed : Shape g
  formed = shape g known

  -- mutree_lookup: 0 and the address that the map has for the key, or 4
  pub lookup_call : looks_up kind image key result ≡ whole (answered (find key (map_at g image)) image) result
  unfolding lookup_of
  lookup_call = ap (λ (o : Outcome). returned o image result) (on kind g is (λ x. lookup x image key) (refused 1 image))
      ∙ told_whole (lookup g image key) image result room
      ∙ ap (λ (o : Outcome). whole o result) (lookup_answers g formed image ready key key_low)

  -- an update by its number
  module _ (old new : List Entry) (answers : List ℕ) (stores : List Store) (allowance : ℕ) (o : Outcome)
      (one : OneOf o.answer answers)
      (done : o.answer ≡ 0 → Holds g new o.image) (stops : o.answer ≡ 7 → Holds g old o.image)
      (made_is : Began o → o ≡ made g stores allowance image)
      (few : Began o → (programs stores ≤ programmed_most g) × (erases stores ≤ erased_most g)) where
    on_geometry : Updates g old new answers stores allowance (returned o image result)
    on_geometry =
        let t = told_whole o image result room in
        let same = ap (λ (l : Left). l.answer) t in
        let left = ap (λ (l : Left). l.image) t in
        record {
          answer = subst (λ x. OneOf x answers) (sym same) one;
          finished = λ e. subst (Holds g new) (sym left) (done (sym same ∙ e));
          stopped = λ e. subst (Holds g old) (sym left) (stops (sym same ∙ e));
          programmed = λ b. let h = subst (λ x. (x ≡ 0) ⊎ (x ≡ 7)) same b in
              made_programmed g known image result room stores allowance o (made_is h) (few h);
          erased = λ b. let h = subst (λ x. (x ≡ 0) ⊎ (x ≡ 7)) same b in
              made_erased g known image result room stores allowance o (made_is h) (few h);
        }

    update_call : (x : Outcome) → x ≡ o → Updates g old new answers stores allowance (returned x image result)
    update_call x e = subst (λ (y : Outcome). Updates g old new answers stores allowance (returned y image result)) (sym e) on_geometry

  -- with enough words
  module _ (live : List ℕ) (enough : Enough image live g) where
    -- mutree_insert
    pub insert_call : (address allowance : ℕ) → address < four_bytes → Updates g (map_at g image)
        (put key address (map_at g image))
        (0 ∷ 3 ∷ 5 ∷ 6 ∷ 7 ∷ []) (insert_stores g n image key address) allowance (inserts kind image live key address allowance result)
    unfolding insert_live_of
    insert_call address allowance low = update_call (map_at g image) (put key address (map_at g image)) (0 ∷ 3 ∷ 5 ∷ 6 ∷ 7 ∷ [])
        (insert_stores g n image key address) allowance (insert g image key address allowance)
        (insert_answers g formed image ready key key_low address allowance)
        (insert_done g formed image ready key key_low address allowance low)
        (insert_stopped g formed image ready key key_low address allowance low)
        (insert_made_lem g formed image ready key key_low address allowance)
        (λ b. let h = insert_bounds g formed image ready key key_low address allowance low b in (h.1, h.2))
        (insert_live_of kind image live key address allowance).outcome
        (lent_outcome kind image live result (λ x. insert x image key address allowance) (λ x. insert_live x image live key address allowance)
        (λ x. insert_live_lem x image live key address allowance) g is enough)

    -- mutree_delete
    pub delete_call : (allowance : ℕ) → Updates g (map_at g image) (remove key (map_at g image)) (0 ∷ 3 ∷ 4 ∷ 7 ∷ [])
        (delete_stores g n image key) allowance (deletes kind image live key allowance result)
    unfolding delete_live_of
    delete_call allowance = update_call (map_at g image) (remove key (map_at g image)) (0 ∷ 3 ∷ 4 ∷ 7 ∷ [])
        (delete_stores g n image key) allowance (delete g image key allowance)
        (delete_answers g formed image ready key key_low allowance) (delete_done g formed image ready key key_low allowance)
        (delete_stopped g formed image ready key key_low allowance) (delete_made_lem g formed image ready key key_low allowance)
        (delete_bounds g formed image ready key key_low allowance) (delete_live_of kind image live key allowance).outcome
        (lent_outcome kind image live result (λ x. delete x image key allowance) (λ x. delete_live x image live key allowance)
        (λ x. delete_live_lem x image live key allowance) g is enough)
