-- A fresh allowance, the answer that a budget tells, and what an update makes and leaves. Definitions alone; assumes
-- nothing.
use Rattle.std.specs.Prelude.{ℕ, ◌*◌, ◌<◌, ◌≤◌, false, List, ◌≡◌}
use Rattle.geometry.specs.declared.Geometry.{Geometry}
use Rattle.geometry.specs.Geometry.{page_bytes}
use Rattle.geometry.specs.Tests.{pick}
use Rattle.geometry.specs.Bounds.{longest_page}
use Rattle.call_answers.specs.declared.Answer.{Answer}
use Rattle.call_answers.specs.declared.Answer.TheVariants.{Done, Stopped}
use Rattle.model.specs.Stores.{Store}
use Rattle.chip_store.specs.declared.Budget.{Budget}
use Rattle.chip_store.specs.Run.{Ran}
use Rattle.live_walk.specs.Table.{note_all}
use Rattle.live_words.specs.Words.{words_of, Past}
use Rattle.open_record.specs.declared.Opened.{Opened}
use Rattle.open_record.specs.Opened.{opened_in}
use Rattle.live_beside.specs.Table.{table_in}
use Rattle.live_beside.specs.Beside.{Held, holding}
use Rattle.live_beside.specs.Update.{Crest, record_made, places_by, words_by}
use Rattle.live_beside.specs.Calls.{no_levels}
use Rattle.tree_root.specs.declared.Own.{Own}
use Rattle.tree_root.specs.Owns.{crest_of}
use Rattle.call_account.specs.declared.Made.{Made}
use Rattle.call_account.specs.declared.Renewed.{Renewed}

-- what an update's functions ask of a chip of n blocks: its levels, a page's bytes and the pages are few
pub record Sized (g : Geometry) (n : ℕ) : Type 0 where
  pub top : g.top < 256
  pub page : page_bytes g ≤ longest_page
  pub pages : g.pages * n ≤ 65536

abbrev pub fresh_of : ℕ → Budget
fresh_of allowance = record { left = allowance; programmed = 0; erased = 0; stopped = false }

unfoldable pub answer_by : Budget → Answer
answer_by b = pick b.stopped (Stopped b.programmed b.erased) (Done 0 b.programmed b.erased)

-- the levels noted from a record's root on
unfoldable pub levels_by : Geometry → List ℕ → Opened → List ℕ
levels_by g img o = note_all (places_by g img o) no_levels

-- what the record says, with these and the words told
abbrev pub held_of : Geometry → ℕ → Opened → List ℕ → List ℕ → Held
held_of g n o img old = holding o (table_in (levels_by g img o) (words_by g n o img old))

-- the record of the image that an update of m own pages leaves, o the record before those
unfoldable pub left_record : Geometry → ℕ → Own → Opened → ℕ → List ℕ → Opened
left_record g n own o m img = pick own.budget.stopped (opened_in g n img) (record_made g n o m (crest_of own) img)

-- what the last steps leave
pub record Leaves (g : Geometry) (n : ℕ) (own : Own) (o : Opened) (m : ℕ) (img : List ℕ)
    (r : Renewed) (mid new : List ℕ) : Type 0 where
  pub answer : r.answer ≡ answer_by own.budget
  pub opened : r.opened ≡ left_record g n own o m img
  pub words : new ≡ words_by g n (left_record g n own o m img) img mid

-- an update's stores ss from an allowance of x, the own pages from the record h on, after which the root stands at t;
-- the lent words, old before, stay past the image's
pub record Makes (g : Geometry) (n : ℕ) (ss : List Store)
    (h : Opened) (t : Crest) (x : ℕ) (r : Made) (i o old mid : List ℕ) : Type 0 where
  pub ran : Ran g ss (fresh_of x) r.own.budget i o
  pub opened : r.own.budget.stopped ≡ false → r.opened ≡ h
  pub crest : r.own.budget.stopped ≡ false → crest_of r.own ≡ t
  pub low : r.own.level < 255
  pub page : r.own.page < 4294967295
  pub past : Past (words_of g n) old mid
