-- An update judged first, in the form in which the code has the premises. Assumes nothing.
use Rattle.std.specs.Prelude.{ℕ, ◌-◌, ◌*◌, ◌<◌, ◌≤◌, Bool, true, false, ◌≡◌, refl, List, ltb, length}
use Rattle.std.proofs.Math.Path.{sym}
use Rattle.std.proofs.Common.{ap, ◌∙◌, add-one, lt-ltb, le-ltb, Fits}
use Rattle.std.specs.Int.{w8}
use Rattle.geometry.specs.declared.Geometry.{Geometry}
use Rattle.geometry.specs.Findings.{Sound, broken_at}
use Rattle.geometry.specs.Tests.{◌&◌}
use Rattle.geometry.specs.Shape.{Known}
use Rattle.geometry.proofs.Shape.{shape}
use Rattle.model.specs.Bytes.{byte_at}
use Rattle.model.specs.Image.{blocks_of}
use Rattle.model.specs.Update.{needs}
use Rattle.model.specs.Calls.{Outcome, roomless, judged_call, insert_rest, insert, delete_rest, delete}
use Rattle.call_answers.specs.declared.Answer.{Answer}
use Rattle.call_answers.specs.declared.Answer.TheVariants.{Length, Damaged, Worn, Room}
use Rattle.call_answers.specs.Answers.{told}
use Rattle.chip_read.specs.Chip.{good_blocks}
use Rattle.chip_read.specs.Blocks.{some_good, some_blocks}
use Rattle.live_walk.specs.Table.{live_in}
use Rattle.sound_verdict.specs.declared.Judgement.{Judgement}
use Rattle.sound_verdict.specs.Verdict.{Roomy, Judged}
use Rattle.sound_verdict.specs.InOrder.{roomy_few, roomy_many}
use Rattle.call_judged.specs.Judging.{judged_marked, judged_room}
use Rattle.live_words.specs.Words.{words_of, all_ones, Past}
use Rattle.live_words.specs.Filled.{filled_past}
use Rattle.live_words.specs.Live.{Reply, reply, with_words, insert_live, delete_live}
use Rattle.open_record.specs.declared.Opened.{Opened}
use Rattle.open_record.specs.Opened.{opened_in, chip_by}
use Rattle.open_renew.specs.Recorded.{height_low}
use Rattle.live_beside.specs.Beside.{Held}
use Rattle.live_beside.specs.Update.{Returned, returned, insert_made, insert_by, delete_made, delete_by}
use Rattle.call_account.specs.Lent.{known_pages, lent_enough, whole, lent_length, lent_short, lent_broken, right}
use Rattle.call_account.specs.Low.{known_sized}
use Rattle.theory_updates.specs.CollectBy.{Tells}
use Rattle.theory_demands.specs.Live.{insert_replies}
use Rattle.theory_demands.proofs.Live.{delete_replies}
use Rattle.call_update.specs.declared.Asks.{Asks}
use Rattle.call_update.specs.declared.Update.{Update}
use Rattle.call_update.specs.declared.Update.TheVariants.{Insert, Delete}
use Rattle.call_update.specs.Update.{asks_of, own_for, crest_for, made_for, planned_for, update_by, replied}
use Rattle.call_update.specs.Update.{update_live, held_in, filled_by, Small}

-- ---- the frame is the insert and the delete
pub insert_is : (g : Geometry) (n k a x : ℕ) (h : Held) (i : List ℕ)
    → update_by (Insert k a) g n h i x ≡ insert_by g n h i k a x
unfolding update_by asks_of planned_for made_for own_for crest_for insert_by insert_made
insert_is g n k a x h i = rw (add-one (needs g (chip_by g i h.at) k)) refl

pub delete_is : (g : Geometry) (n k x : ℕ) (h : Held) (i : List ℕ)
    → update_by (Delete k) g n h i x ≡ delete_by g n h i k x
unfolding update_by asks_of planned_for made_for own_for crest_for delete_by delete_made ◌&◌
delete_is g n k x h i = refl

-- ---- the answers
module _ (u : Update) (g : Geometry) (n x : ℕ) (s : Opened) (i tbl ws : List ℕ) where
  abbrev t : Held
  t = held_in s tbl ws

  pub rest_worn : (r : Returned) → r ≡ returned (told Worn i) s ws → g.worn < s.most → r ≡ update_by u g n t i x
  unfolding update_by
  rest_worn r e h = e ∙ sym (rw (lt-ltb g.worn s.most h))

  module _ (q : Asks) (eq : q ≡ asks_of u g i s) (h : s.most ≤ g.worn) where
    pub rest_refused : (r : Returned) → r ≡ returned (told q.answer i) s ws → q.refused ≡ true
        → r ≡ update_by u g n t i x
    unfolding update_by
    rest_refused r er e = er ∙ sym (rw (le-ltb g.worn s.most h, ← eq, e))

    module _ (taken : q.refused ≡ false) where
      pub rest_planned : (r : Returned) → r ≡ planned_for u g n q.pages t i x → r ≡ update_by u g n t i x
      unfolding update_by
      rest_planned r e = e ∙ sym (rw (le-ltb g.worn s.most h, ← eq, taken))

      module _ (v : Bool)
          (ev : v ≡ (ltb 1 q.pages & roomless g s.erased q.pages
          & roomless g (g.pages * n - all_ones g n ws) q.pages)) where
        pub rest_room : v ≡ true → returned (told Room i) s ws ≡ update_by u g n t i x
        unfolding planned_for
        rest_room e = rest_planned _ (sym (rw (← ev, e)))

        pub rest_made : (r : Returned) → r ≡ made_for u g n q.pages t i x → v ≡ false → r ≡ update_by u g n t i x
        unfolding planned_for
        rest_made r er e = rest_planned r (er ∙ sym (rw (← ev, e)))

-- ---- judged first
pub judged_is : (u : Update) (g : Geometry) (n x : ℕ) (c : Answer) (t o : Opened) (i out tbl old words new : List ℕ)
    → returned (told c out) t new ≡ update_by u g n (held_in o tbl words) i x → o ≡ opened_in g n i
    → words ≡ filled_by g n tbl old
    → reply (told c out) new ≡ replied (update_by u g n (held_in (opened_in g n i) tbl (filled_by g n tbl old)) i x)
judged_is u g n x c t o i out tbl old words new e eo ew =
    ap replied (e ∙ (λ z. update_by u g n (held_in (eo z) tbl (ew z)) i x))

-- the outcome on a sound image
unfoldable rest_for : Update → Geometry → List ℕ → ℕ → Outcome
rest_for (Insert k a) g img x = insert_rest g (blocks_of g img) img k a x
rest_for (Delete k) g img x = delete_rest g (blocks_of g img) img k x

live_is : (u : Update) (g : Geometry) (img old : List ℕ) (x : ℕ)
    → with_words g img old (judged_call g img (rest_for u g img x)) ≡ update_live u g img old x
unfolding rest_for update_live insert_live insert delete_live delete
live_is (Insert k a) g img old x = refl
live_is (Delete k) g img old x = refl

module _ (u : Update) (g : Geometry) (img old : List ℕ) (x n : ℕ) (en : n ≡ good_blocks g img) where
  pub update_length : n ≡ 0 → reply (told Length img) old ≡ update_live u g img old x
  update_length z = lent_length g img old _ n en z ∙ live_is u g img old x

  module _ (some : n ≡ 0 → ⊥) where
    pub update_short : (m : ℕ) → length old < m → m ≡ words_of g n
        → reply (told Length img) old ≡ update_live u g img old x
    update_short m h em = lent_short g img old _ n en some (rw (← em) h) ∙ live_is u g img old x

    module _ (room : words_of g n ≤ length old) (j : Judgement) (t tbl : List ℕ) (d : Judged g n img j t tbl) where
      pub update_broken : (rule page : ℕ) → j.verdict ≡ broken_at rule page
          → reply (told (Damaged rule page) img) old ≡ update_live u g img old x
      update_broken rule page e = lent_broken g img old _ n en some rule page room (sym d.verdict ∙ e)
          ∙ live_is u g img old x

      pub update_sound : (r : Reply)
          → r ≡ replied (update_by u g n (held_in (opened_in g n img) tbl (filled_by g n tbl old)) img x)
          → j.verdict ≡ Sound → Known g → Roomy g n (length t) → ((i : ℕ) → Fits w8 (byte_at img i)) → Small u
          → r ≡ update_live u g img old x
      unfolding update_live Small
      update_sound r e es known long bytes small = e ∙ replies u small
        where
          held : Held
          held = held_in (opened_in g n img) tbl (filled_by g n tbl old)

          tells : Tells g n img held
          tells = record {
            at_is = refl;
            right = right g n img tbl old (filled_by g n tbl old) (judged_marked g n img j t tbl d es)
                (judged_room g n img j t tbl d long) refl room;
          }

          past : Past (words_of g n) old (filled_by g n tbl old)
          past = filled_past (live_in tbl) (words_of g n) old

          replies : (v : Update) → Small v → replied (update_by v g n held img x) ≡ update_live v g img old x
          replies (Insert k a) low = ap replied (insert_is g n k a x held img)
              ∙ insert_replies g (shape g known) (whole g known) n img (some_good g img n en some)
              (some_blocks g img n en some) (λ i. (bytes i).fits) (sym d.verdict ∙ es) held tells
              known old past k a x low.0 low.1
          replies (Delete k) low = ap replied (delete_is g n k x held img)
              ∙ delete_replies g (shape g known) (whole g known) n img (some_good g img n en some)
              (some_blocks g img n en some) (λ i. (bytes i).fits) (sym d.verdict ∙ es) held tells
              known old past k x low

pub ruleset judged_laws = (judged_is, update_length, update_short, update_broken, update_sound)

pub ruleset known_laws = (known_sized, known_pages, lent_enough, height_low, roomy_few, roomy_many)

pub ruleset rest_laws = (rest_worn, rest_refused, rest_planned, rest_room, rest_made)

pub ruleset update_laws = (known_laws, rest_laws, judged_laws)
