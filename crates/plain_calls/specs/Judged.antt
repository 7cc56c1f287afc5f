-- The plain tree's calls, in the form in which the code has the premises. Assumes nothing.
use Rattle.std.specs.Prelude.{ℕ, suc, ◌+◌, ◌-◌, ◌<◌, ◌≤◌, Bool, true, false, ◌≡◌, refl, List, eqb, leb, ltb, is_none}
use Rattle.std.proofs.Math.Path.{sym, ap}
use Rattle.std.proofs.Common.{subst, ◌∙◌, arith, add-one, Fits}
use borrow.Author.Tests.{lt-ltb, le-ltb, lt-leb, le-leb, eq-eqb, ne_eqb}
use Rattle.std.specs.Int.{w8}
use Rattle.geometry.specs.declared.Geometry.{Geometry}
use Rattle.geometry.specs.Findings.{Sound, broken_at}
use Rattle.geometry.specs.Geometry.{plain, page_bytes}
use Rattle.geometry.specs.Shape.{plain_core}
use Rattle.geometry.specs.Tests.{pick, bit, ◌&◌, and_true, and_false}
use Rattle.geometry.specs.Bounds.{four_bytes, longest_page}
use Rattle.model.specs.Bytes.{byte_at, node_at, erased}
use Rattle.model.specs.Count.{count}
use Rattle.model.specs.Image.{Chip, chip_of, pages_of, max_seq}
use Rattle.model.specs.Tree.{leaf, find_in, sought}
use Rattle.model.specs.Calls.{Outcome, refused, damaged, judged_call, worn, format, lookup}
use Rattle.model.specs.Stores.{Store}
use Rattle.model.specs.Plain.{plain_cuts, plain_grows, plain_high, plain_needs, plain_roomless, plain_insert_rest, plain_insert}
use Rattle.model.specs.Plain.{plain_shrinks, plain_leaves, plain_delete_rest, plain_delete}
use Rattle.call_answers.specs.declared.Answer.{Answer}
use Rattle.call_answers.specs.declared.Answer.TheVariants.{Length, Damaged, Worn, Absent, Height, Room}
use Rattle.call_answers.specs.Answers.{told}
use Rattle.chip_read.specs.Chip.{chip_with, good_blocks}
use Rattle.chip_read.specs.Blocks.{some_good, some_blocks}
use Rattle.chip_store.specs.declared.Budget.{Budget}
use Rattle.chip_store.specs.Run.{Ran}
use Rattle.chip_survey.specs.declared.Survey.{Survey}
use Rattle.chip_survey.specs.Survey.{survey_of}
use Rattle.chip_survey.specs.Pass.{chip_is}
use Rattle.sound_verdict.specs.declared.Judgement.{Judgement}
use Rattle.sound_verdict.specs.Verdict.{Judged}
use Rattle.call_judged.specs.Judging.{judged_broken, judged_rest, judged_length, judged_blocks}
use Rattle.open_record.specs.declared.Opened.{Opened}
use Rattle.open_record.specs.Opened.{opened_in}
use Rattle.live_beside.specs.Beside.{page_by}
use Rattle.call_account.specs.Account.{fresh_of, answer_by}
use Rattle.call_account.specs.Accounting.{told_made}
use Rattle.tree_plan.specs.declared.Run.{Run}
use Rattle.tree_plan.specs.Plan.{Counts}
use Rattle.theory_images.specs.Held.{Held, height_most}
use Rattle.plain_levels.specs.Levels.{insert_stores_at, delete_stores_at, pages_by, made_with, plain_insert_by, plain_delete_by}
use Rattle.plain_updates.specs.Single.{plain_pages}
use Rattle.plain_updates.specs.Words.{ready_held}
use Rattle.plain_updates.proofs.By.{plain_insert_by_lem, plain_delete_by_lem}
use Rattle.plain_calls.specs.declared.Loss.{Loss}
use Rattle.plain_calls.specs.Counts.{Cuts, Sheds}

-- ---- the plain tree's numbers
pub plain_block : (g : Geometry) → g ≡ plain → g.pages ≤ 64
plain_block g e = rw e (omega arith)

pub plain_page : (g : Geometry) → g ≡ plain → page_bytes g ≤ longest_page
plain_page g e = rw e (omega arith)

pub plain_format : (g : Geometry) (r : Outcome) (img : List ℕ) → r ≡ format g img → g ≡ plain → r ≡ format plain img
plain_format g r img h e = rw e at h

pub plain_lookup : (g : Geometry) (r : Outcome) (img : List ℕ) (k : ℕ) → r ≡ lookup g img k → g ≡ plain
    → r ≡ lookup plain img k
plain_lookup g r img k h e = rw e at h

-- ---- what an update counts
pub cuts_are : (g : Geometry) (img : List ℕ) (l p k : ℕ) (t : Bool) (r : Run) → Counts g img k t
    (l + 1) (record { key = 0; addr = p }) r
    → t ≡ is_none (find_in k (leaf (node_at g img) k l (record { key = 0; addr = p }))) → Cuts g (chip_with g img l p) k r
unfolding plain_cuts plain_grows
cuts_are g img l p k t r c e =
    let s : l + 1 ≡ suc l = add-one l in
    record {
      cuts = rw (e, s) at c.count;
      grows = rw (e, s) at c.more;
      few = omega (arith, c.few);
    }

module _ (g : Geometry) (l h m : ℕ) (t : Bool) (eh : h ≡ l) (em : m ≡ g.top) where
  pub high_low : (h + 1 ≡ m → ⊥) → false ≡ (eqb (suc l) g.top & t)
  high_low q = sym (rw (← eh, ← em, ← add-one h, ne_eqb (h + 1) m q) (and_false t))

  pub high_top : h + 1 ≡ m → t ≡ (eqb (suc l) g.top & t)
  high_top q = sym (rw (← eh, ← em, ← add-one h, eq-eqb (h + 1) m q) (and_true t))

module _ (l v n : ℕ) where
  pub left_leaf : l ≡ 0 → 1 ≡ suc (pick (leb 1 l & eqb n 1) 0 (l - v))
  left_leaf h = sym (rw (h, lt-leb 1 0 (omega arith), and_false) (omega arith))

  module _ (h : l ≡ 0 → ⊥) where
    above : leb 1 l ≡ true
    above = le-leb 1 l (omega arith)

    pub left_one : n ≡ 1 → 1 ≡ suc (pick (leb 1 l & eqb n 1) 0 (l - v))
    left_one e = sym (rw (above, and_true, eq-eqb n 1 e))

    pub left_more : (n ≡ 1 → ⊥) → l - v + 1 ≡ suc (pick (leb 1 l & eqb n 1) 0 (l - v))
    left_more e = sym (rw (above, and_true, ne_eqb n 1 e) (omega arith))

pub room_test : (e p q : ℕ) → p ≡ q → ltb e p ≡ ltb e q
room_test e p q h = rw h

-- ---- the stores, from a fresh allowance
made_with_lem : (g : Geometry) (x : ℕ) (b r : Budget) (w : Answer) (i out : List ℕ) (ss ts : List Store)
    → Ran g ss b r i out → ss ≡ ts
    → b ≡ fresh_of x → w ≡ answer_by r → told w out ≡ made_with g ts x i
unfolding made_with
made_with_lem g x b r w i out ss ts run e eb ew =
    ap (λ (y : Answer). told y out) ew ∙ told_made g ss x r i out (subst (λ (y : Budget). Ran g ss y r i out) eb run)
    ∙ ap (λ (y : List Store). made_with g y x i) e

module _ (g : Geometry) (n k x : ℕ) (s : Survey) (o : Opened) (b r : Budget) (w : Answer) (i out : List ℕ) where
  pub insert_made_lem : (a v : ℕ) → Ran g (insert_stores_at g (chip_with g i s.level o.root) k a (page_by g n i o)
      o.most v) b r i out → o ≡ opened_in g n i
      → s ≡ survey_of g n i → b ≡ fresh_of x → w ≡ answer_by r
      → told w out ≡ made_with g (insert_stores_at g (chip_of g n i) k a (pages_by g n i) (max_seq g n i) v) x i
  unfolding survey_of opened_in
  insert_made_lem a v run eo es eb ew = made_with_lem g x b r w i out _ _ run
      (λ z. insert_stores_at g (chip_with g i (es z).level (eo z).root) k a (page_by g n i (eo z)) (eo z).most v) eb ew

  pub delete_made_lem : (v : ℕ) → Ran g (delete_stores_at g (chip_with g i s.level o.root) k (page_by g n i o)
      o.most v) b r i out → o ≡ opened_in g n i
      → s ≡ survey_of g n i → b ≡ fresh_of x → w ≡ answer_by r
      → told w out ≡ made_with g (delete_stores_at g (chip_of g n i) k (pages_by g n i) (max_seq g n i) v) x i
  unfolding survey_of opened_in
  delete_made_lem v run eo es eb ew = made_with_lem g x b r w i out _ _ run
      (λ z. delete_stores_at g (chip_with g i (es z).level (eo z).root) k (page_by g n i (eo z)) (eo z).most v) eb ew

-- ---- the answers of a judged image
counted_from_one : (l m n : ℕ) → suc (l + m + n) ≡ suc l + m + n
counted_from_one l m n = omega arith

module _ (g : Geometry) (n : ℕ) (s : Survey) (i : List ℕ) (es : s ≡ survey_of g n i) where
  most_is : s.most ≡ max_seq g n i
  unfolding survey_of
  most_is = ap (λ (y : Survey). y.most) es

  erased_is : s.erased ≡ count (pages_of g n) (erased g i)
  unfolding survey_of
  erased_is = ap (λ (y : Survey). y.erased) es

  level_is : s.level ≡ (chip_of g n i).level
  level_is = ap (λ (c : Chip). c.level) (chip_is g n i s es)

  is_worn : g.worn < s.most → worn g n i ≡ true
  unfolding worn
  is_worn h = lt-ltb g.worn (max_seq g n i) (rw most_is at h)

  not_worn : s.most ≤ g.worn → worn g n i ≡ false
  unfolding worn
  not_worn h = le-ltb g.worn (max_seq g n i) (rw most_is at h)

  module _ (k a x : ℕ) where
    pub insert_worn : g.worn < s.most → told Worn i ≡ plain_insert_by g n i k a x
    unfolding plain_insert_by
    insert_worn h = sym (rw (is_worn h))

    module _ (r : Run) (c : Cuts g (chip_with g i s.level s.root) k r) (fresh : s.most ≤ g.worn) (t : Bool)
        (et : t ≡ (eqb (suc s.level) g.top & r.gains)) where
      counted : Cuts g (chip_of g n i) k r
      counted = rw (chip_is g n i s es) at c

      high_same : plain_high g (chip_of g n i) k ≡ t
      unfolding plain_high
      high_same = sym (et ∙ rw (level_is, counted.grows))

      pub insert_high : t ≡ true → told Height i ≡ plain_insert_by g n i k a x
      unfolding plain_insert_by
      insert_high q = sym (rw (not_worn fresh, high_same, q))

      module _ (low : t ≡ false) (v : Bool) (ev : v ≡ ltb s.erased (suc (s.level + r.splits + bit r.gains)))
        where
          room_same : plain_roomless g n (chip_of g n i) (plain_needs g (chip_of g n i) k) ≡ v
          unfolding plain_needs
          room_same = sym (ev ∙ rw (erased_is, level_is, counted.cuts, counted.grows, counted_from_one))

          pub insert_room : v ≡ true → told Room i ≡ plain_insert_by g n i k a x
          unfolding plain_insert_by
          insert_room q = sym (rw (not_worn fresh, high_same, low, room_same, q))

          pub insert_stores_lem : (w : Outcome) → w ≡ made_with g (insert_stores_at g (chip_of g n i) k a (pages_by g n i)
              (max_seq g n i) r.splits) x i → v ≡ false
              → w ≡ plain_insert_by g n i k a x
          unfolding plain_insert_by
          insert_stores_lem w e q = e ∙ sym (rw (not_worn fresh, high_same, low, room_same, q, ← counted.cuts))

  module _ (k x : ℕ) where
    pub delete_worn : g.worn < s.most → told Worn i ≡ plain_delete_by g n i k x
    unfolding plain_delete_by
    delete_worn h = sym (rw (is_worn h))

    pub delete_absent : true ≡ is_none (sought (chip_with g i s.level s.root) k) → s.most ≤ g.worn
        → told Absent i ≡ plain_delete_by g n i k x
    unfolding plain_delete_by
    delete_absent q fresh =
        let missing : true ≡ is_none (sought (chip_of g n i) k) =
        subst (λ (y : Chip). true ≡ is_none (sought y k)) (chip_is g n i s es) q in
        sym (rw (not_worn fresh, ← missing))

    pub delete_missing : (r : Loss) → Sheds (chip_with g i s.level s.root) k true r → s.most ≤ g.worn
        → told Absent i ≡ plain_delete_by g n i k x
    delete_missing r c fresh = delete_absent c.absent fresh

    module _ (r : Loss) (c : Sheds (chip_with g i s.level s.root) k false r) (fresh : s.most ≤ g.worn) where
      shed : Sheds (chip_of g n i) k false r
      shed = rw (chip_is g n i s es) at c

      module _ (v : Bool)
          (ev : v ≡ ltb s.erased (suc (pick (leb 1 s.level & eqb r.left 1) 0 (s.level - r.emptied)))) where
        left_same : plain_roomless g n (chip_of g n i) (plain_leaves (chip_of g n i) k) ≡ v
        unfolding plain_leaves plain_shrinks
        left_same = sym (ev ∙ rw (erased_is, level_is, shed.left, shed.emptied))

        pub delete_room : v ≡ true → told Room i ≡ plain_delete_by g n i k x
        unfolding plain_delete_by
        delete_room q = sym (rw (not_worn fresh, ← shed.absent, left_same, q))

        pub delete_stores_lem : (w : Outcome) → w ≡ made_with g (delete_stores_at g (chip_of g n i) k (pages_by g n i)
            (max_seq g n i) r.emptied) x i → v ≡ false
            → w ≡ plain_delete_by g n i k x
        unfolding plain_delete_by
        delete_stores_lem w e q = e ∙ sym (rw (not_worn fresh, ← shed.absent, left_same, q, ← shed.emptied))

-- no more levels are emptied than there are
pub sheds_few : (c : Chip) (k : ℕ) (a : Bool) (r : Loss) → Sheds c k a r → r.emptied ≤ c.level
sheds_few c k a r w = w.few

-- ---- LENGTH and DAMAGED, and then the rest
module _ (img : List ℕ) (n : ℕ) (g : Geometry) (eg : g ≡ plain) (en : n ≡ good_blocks g img) where
  blocks : n ≡ good_blocks plain img
  blocks = rw eg at en

  call_length : (rest : Outcome) → n ≡ 0 → told Length img ≡ judged_call plain img rest
  call_length rest z = judged_length plain img (refused 1 img) (damaged img) rest n blocks z

  pub insert_length : (k a x : ℕ) → n ≡ 0 → told Length img ≡ plain_insert plain img k a x
  unfolding plain_insert
  insert_length k a x z = call_length _ z

  pub delete_length : (k x : ℕ) → n ≡ 0 → told Length img ≡ plain_delete plain img k x
  unfolding plain_delete
  delete_length k x z = call_length _ z

  module _ (some : n ≡ 0 → ⊥) (j : Judgement) (t u : List ℕ) (d : Judged g n img j t u) where
    judgement : Judged plain n img j t u
    judgement = rw eg at d

    call_broken : (rest : Outcome) (rule page : ℕ) → j.verdict ≡ broken_at rule page → told (Damaged rule page) img
        ≡ judged_call plain img rest
    call_broken rest rule page e = judged_blocks plain img (refused 1 img) (damaged img) rest n blocks _ some
        (judged_broken plain n img (damaged img) rest j t u judgement _ rule page e refl)

    pub insert_broken : (k a x rule page : ℕ) → j.verdict ≡ broken_at rule page → told (Damaged rule page) img
        ≡ plain_insert plain img k a x
    unfolding plain_insert
    insert_broken k a x rule page e = call_broken _ rule page e

    pub delete_broken : (k x rule page : ℕ) → j.verdict ≡ broken_at rule page → told (Damaged rule page) img
        ≡ plain_delete plain img k x
    unfolding plain_delete
    delete_broken k x rule page e = call_broken _ rule page e

    module _ (e : j.verdict ≡ Sound) (bytes : (i : ℕ) → Fits w8 (byte_at img i)) where
      held : Held plain n img
      held = rw (sym (some_blocks plain img n blocks some)) at (ready_held img (record {
        length_good = some_good plain img n blocks some;
        is_sound_lem = rw (some_blocks plain img n blocks some) at (sym judgement.verdict ∙ e);
        bytes = λ i. (bytes i).fits;
      }))

      call_sound : (rest w : Outcome) → w ≡ rest → w ≡ judged_call plain img rest
      call_sound rest w h = judged_blocks plain img (refused 1 img) (damaged img) rest n blocks w some
          (judged_rest plain n img (damaged img) rest j t u judgement w h e)

      pub sound_low : j.survey.level ≤ 100
      unfolding survey_of
      sound_low =
          let w = height_most plain plain_core n img (plain_pages n (omega arith)) held in
          let l = ap (λ (y : Survey). y.level) judgement.survey in
          omega (arith, w, l)

      module _ (few : n ≤ 1024) (k x : ℕ) (k_low : k < four_bytes) where
        pub insert_sound : (a : ℕ) (w : Outcome) → a < four_bytes → w ≡ plain_insert_by g n img k a x
            → w ≡ plain_insert plain img k a x
        unfolding plain_insert
        insert_sound a w a-low h = call_sound _ w (rw eg at h
            ∙ plain_insert_by_lem n (omega arith) few img held k x k_low a a-low
            ∙ ap (λ m. plain_insert_rest plain m img k a x) (some_blocks plain img n blocks some))

        pub delete_sound : (w : Outcome) → w ≡ plain_delete_by g n img k x → w ≡ plain_delete plain img k x
        unfolding plain_delete
        delete_sound w h = call_sound _ w (rw eg at h ∙ plain_delete_by_lem n (omega arith) few img held k x k_low
            ∙ ap (λ m. plain_delete_rest plain m img k x) (some_blocks plain img n blocks some))

pub ruleset count_laws = (cuts_are, high_low, high_top, left_leaf, left_one, left_more, room_test)

pub ruleset made_laws = (insert_made_lem, delete_made_lem)

pub ruleset rest_laws = (insert_worn, insert_high, insert_room, insert_stores_lem, delete_worn, delete_absent, delete_missing, delete_room, delete_stores_lem, sheds_few)

pub ruleset call_laws = (plain_block, plain_page, plain_format, plain_lookup, insert_length, delete_length, insert_broken, delete_broken, sound_low, insert_sound, delete_sound)
