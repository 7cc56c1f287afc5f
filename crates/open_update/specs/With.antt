-- An update with the record, in the form in which the code has the premises. Assumes nothing.
use Rattle.std.specs.Prelude.{ℕ, ◌+◌, ◌-◌, ◌*◌, ◌<◌, ◌≤◌, Bool, true, false, not, ◌≡◌, ltb, length}
use Rattle.std.proofs.Math.Path.{refl, sym, ap}
use Rattle.std.proofs.Common.{◌∙◌, arith, add-one, le-leb, le-ltb, Fits}
use mathlib.Core.List.{List, [], ◌++◌}
use Rattle.std.proofs.lemmas.Bool.{lt-leb, not-false}
use Rattle.std.specs.Int.{w8}
use Rattle.geometry.specs.declared.Geometry.{Geometry}
use Rattle.geometry.specs.Tests.{◌&◌, and_false, and_none}
use Rattle.model.specs.Bytes.{byte_at}
use Rattle.model.specs.Image.{blocks_of}
use Rattle.model.specs.Calls.{roomless}
use Rattle.call_answers.specs.declared.Answer.TheVariants.{Length, Room, Stale}
use Rattle.call_answers.specs.Answers.{told}
use Rattle.chip_read.specs.Chip.{good_blocks}
use Rattle.chip_read.specs.Blocks.{some_blocks}
use Rattle.theory_counts.specs.Cases.{by_le}
use Rattle.chip_store.specs.declared.Budget.{Budget}
use Rattle.chip_store.specs.Runs.{ran_none}
use Rattle.live_words.specs.Words.{words_of, all_ones}
use Rattle.live_words.specs.Filled.{past_none}
use Rattle.open_record.specs.declared.Opened.{Opened}
use Rattle.open_record.specs.Opened.{standing}
use Rattle.open_renew.specs.Recorded.{standing_low}
use Rattle.live_beside.specs.Table.{Table, table_in}
use Rattle.live_beside.specs.Beside.{Held, holding}
use Rattle.live_beside.specs.Collect.{Run, still, collect_by}
use Rattle.live_beside.specs.Update.{Crest, Returned, returned, words_by, made_by, roomless_by}
use Rattle.live_beside.specs.Calls.{held_by, update_with, insert_with, delete_with}
use Rattle.tree_root.specs.declared.Own.{Own}
use Rattle.tree_root.specs.Owns.{Owns}
use Rattle.call_account.specs.declared.Renewed.{Renewed}
use Rattle.call_account.specs.Account.{Sized, fresh_of, levels_by, held_of, Leaves}
use Rattle.call_account.specs.Rest.{makes_both, finished, made_words}
use Rattle.call_account.specs.Low.{known_sized}
use Rattle.call_account.specs.Opened.{opened_length, opened_short, opened_stale, opened_rest, told_past, held_told}
use Rattle.call_account.specs.Opened.{held_is}
use Rattle.call_update.specs.declared.Update.{Update}
use Rattle.call_update.specs.declared.Update.TheVariants.{Insert, Delete}
use Rattle.call_update.specs.Update.{own_for, crest_for, made_for, planned_for, update_by, update_opened, held_in}
use Rattle.call_update.specs.Stores.{crest_level, crest_page}
use Rattle.call_update.specs.Updates.{insert_is, delete_is, rest_laws}
use Rattle.open_update.specs.Direct.{direct_for, plenty_for}

-- ---- without collection
module _ (u : Update) (g : Geometry) (n m : ℕ) (o : Opened) (i out : List ℕ) (b : Budget) (own : Own)
    (w : Owns g (own_for u g n m o i) (crest_for u g n m o i) b own i out) where
  pub own_level : o.height < 256 → Sized g n → own.level < 255
  own_level low sized = rw (ap (λ (t : Crest). t.level) w.crest) (crest_level u g n m o i low sized)

  pub own_page : m ≤ 256 → Sized g n → own.page < 4294967295
  own_page few sized = rw (ap (λ (t : Crest). t.page) w.crest) (crest_page u g n m o i few sized)

  pub direct_is : (x : ℕ) (ws new : List ℕ) (r : Renewed) → Leaves g n own o m out r ws new → b ≡ fresh_of x
      → o.height < 256
      → Sized g n → m ≤ 256 → returned (told r.answer out) r.opened new ≡ direct_for u g n m o i ws x
  unfolding direct_for
  direct_is x ws new r l eb low sized few =
      finished g n m (own_for u g n m o i) o (crest_for u g n m o i) x (record { own = own; opened = o }) i out ws ws new
      (makes_both g n x [] (own_for u g n m o i) o (crest_for u g n m o i) b b i i ws ws eb (ran_none g b i)
      (past_none (words_of g n) ws)
      o own out refl w (crest_level u g n m o i low sized) (crest_page u g n m o i few sized)) r l

module _ (u : Update) (g : Geometry) (n m x : ℕ) (o : Opened) (i : List ℕ) (h : g.pages + m ≤ o.erased) where
  stands_still : (t : Table) → collect_by g n m (m + 1) (holding o t) i ≡ still (holding o t) i
  unfolding collect_by
  stands_still t = ap (λ (c : ℕ). collect_by g n m c (holding o t) i) (add-one m)
      ∙ rw (le-ltb o.erased (g.pages + m) h)

  no_collection : (tbl ws : List ℕ) → made_for u g n m (held_in o tbl ws) i x ≡ direct_for u g n m o i ws x
  unfolding made_for direct_for
  no_collection tbl ws = λ z.
      let run : Run Held = stands_still (table_in tbl ws) z in
      made_by g n (run.stores ++ own_for u g n m run.kept.at run.image) run.kept.at m
      (crest_for u g n m run.kept.at run.image) x i ws

  direct_words : (ws : List ℕ) → direct_for u g n m o i (words_by g n o i ws) x ≡ direct_for u g n m o i ws x
  unfolding direct_for
  direct_words ws =
      made_words g n m x (own_for u g n m o i) o (crest_for u g n m o i) i ws (words_by g n o i ws) (told_past g n o i ws)

-- ---- plenty of erased pages
module _ (g : Geometry) (m : ℕ) where
  pub plenty_one : (w : ℕ) → w ≡ g.pages + m → m ≤ 1 → w ≡ plenty_for g m
  unfolding plenty_for
  plenty_one w e h = e ∙ sym (rw (le-leb m 1 h))

  pub plenty_more : (w : ℕ) → w ≡ 2 * g.pages - 1 + m → 1 < m → w ≡ plenty_for g m
  unfolding plenty_for
  plenty_more w e h = e ∙ sym (rw (lt-leb m 1 h))

  plenty_enough : g.pages + m ≤ plenty_for g m
  plenty_enough = by_le m 1 (λ h. rw (← plenty_one _ refl h) (omega arith))
      (λ h. rw (← plenty_more _ refl h) (omega arith))

plenty_room : (g : Geometry) (n m : ℕ) (h : Held) → plenty_for g m ≤ h.at.erased → roomless_by g n h m ≡ false
unfolding roomless
plenty_room g n m h some = by_le m 1 (λ few. rw (le-ltb 1 m few, and_false, and_false))
    (λ more. rw (
      le-ltb h.at.erased (2 * g.pages - 1 + m) (rw (← plenty_more g m _ refl more) at some),
      and_none,
      and_false,
    ))

-- ---- the stores, with collection or without
module _ (u : Update) (g : Geometry) (n m x : ℕ) (o : Opened) (i ws : List ℕ) (r : Returned) where
  abbrev levels : List ℕ
  levels = levels_by g i o

  pub roomy_direct : (w : ℕ) → r ≡ direct_for u g n m o i ws x → w ≡ g.pages + m → w ≤ o.erased
      → r ≡ made_for u g n m (held_in o levels ws) i x
  roomy_direct w e ew h = e ∙ sym (no_collection u g n m x o i (rw (← ew) h) levels ws)

  pub collected_is : (tbl : List ℕ) → r ≡ made_for u g n m (held_in o tbl ws) i x → tbl ≡ levels
      → r ≡ made_for u g n m (held_in o levels ws) i x
  collected_is tbl e et = e ∙ ap (λ (y : List ℕ). made_for u g n m (held_in o y ws) i x) et

  pub planned_direct : (w : ℕ) → r ≡ direct_for u g n m o i ws x → w ≡ plenty_for g m → w ≤ o.erased
      → r ≡ planned_for u g n m (held_of g n o i ws) i x
  unfolding planned_for
  planned_direct w e ew h =
      let some : plenty_for g m ≤ o.erased = rw (← ew) h in
      let enough : g.pages + m ≤ o.erased = let y = plenty_enough g m in omega (arith, y, some) in
      e
      ∙ sym (direct_words u g n m x o i enough ws)
      ∙ sym (no_collection u g n m x o i enough levels (words_by g n o i ws))
      ∙ sym (rw (plenty_room g n m (held_of g n o i ws) some))

-- ---- ROOM by the words that were told
module _ (u : Update) (g : Geometry) (n m x : ℕ) (o : Opened) (i ws mid : List ℕ) (em : mid ≡ words_by g n o i ws)
    (v : Bool)
    (ev : v ≡ (ltb 1 m & roomless g o.erased m & roomless g (g.pages * n - all_ones g n mid) m)) where
  abbrev now_held : Held
  now_held = held_in o (levels_by g i o) mid

  planned_held : planned_for u g n m now_held i x ≡ planned_for u g n m (held_of g n o i ws) i x
  planned_held = ap (λ (h : Held). planned_for u g n m h i x) (held_told g n o i ws mid em)

  pub told_room : v ≡ true → returned (told Room i) o mid ≡ planned_for u g n m (held_of g n o i ws) i x
  unfolding planned_for
  told_room e = sym (rw (← ev, e)) ∙ planned_held

  pub told_made : (r : Returned) → r ≡ made_for u g n m now_held i x → v ≡ false
      → r ≡ planned_for u g n m (held_of g n o i ws) i x
  unfolding planned_for
  told_made r er e = er ∙ sym (rw (← ev, e)) ∙ planned_held

-- ---- LENGTH and STALE
abbrev rest_of : Update → Geometry → List ℕ → List ℕ → Opened → ℕ → Returned
rest_of u g img old o x = update_by u g (blocks_of g img) (held_by g (blocks_of g img) o img old) img x

with_is : (u : Update) (g : Geometry) (img old : List ℕ) (o : Opened) (x : ℕ)
    → update_with g img old o (rest_of u g img old o x) ≡ update_opened u g img old o x
unfolding update_opened insert_with delete_with
with_is (Insert k a) g img old o x = ap (update_with g img old o)
    (insert_is g (blocks_of g img) k a x (held_by g (blocks_of g img) o img old) img)
with_is (Delete k) g img old o x = ap (update_with g img old o)
    (delete_is g (blocks_of g img) k x (held_by g (blocks_of g img) o img old) img)

module _ (u : Update) (g : Geometry) (img old : List ℕ) (o : Opened) (x n : ℕ) (en : n ≡ good_blocks g img) where
  pub with_length : n ≡ 0 → returned (told Length img) o old ≡ update_opened u g img old o x
  with_length z = opened_length g img old o _ n en z ∙ with_is u g img old o x

  module _ (some : n ≡ 0 → ⊥) (m : ℕ) (em : m ≡ words_of g n) where
    pub with_short : length old < m → returned (told Length img) o old ≡ update_opened u g img old o x
    with_short h = opened_short g img old o _ n en some (rw (← em) h) ∙ with_is u g img old o x

    module _ (room : m ≤ length old) (t : Bool) (et : t ≡ standing g n img o) where
      pub with_stale : not t ≡ true → returned (told Stale img) o old ≡ update_opened u g img old o x
      with_stale q = opened_stale g img old o _ n en some (rw (← em) room) t et q ∙ with_is u g img old o x

      pub with_rest : (r : Returned) → r ≡ update_by u g n (held_of g n o img old) img x → not t ≡ false
          → r ≡ update_opened u g img old o x
      with_rest r e q =
          e
          ∙ ap (λ (h : Held). update_by u g n h img x) (held_is g n o img old)
          ∙ ap (λ (b : ℕ). update_by u g b (held_by g b o img old) img x) (some_blocks g img n en some)
          ∙ opened_rest g img old o _ n en some (rw (← em) room) t et q
          ∙ with_is u g img old o x

pub stands_low : (g : Geometry) (n : ℕ) (img : List ℕ) (o : Opened) (t : Bool) → t ≡ standing g n img o → not t ≡ false
    → ((i : ℕ) → Fits w8 (byte_at img i)) → o.height < 256
stands_low g n img o t et q bytes = standing_low g n img o (sym et ∙ not-false t q) bytes

pub ruleset direct_laws = (own_level, own_page, direct_is, roomy_direct, collected_is)

pub ruleset planned_laws = (plenty_one, plenty_more, planned_direct, told_room, told_made)

pub ruleset opened_laws = (known_sized, with_length, with_short, with_stale, with_rest, stands_low)

pub ruleset with_laws = (direct_laws, planned_laws, rest_laws, opened_laws)
