-- The stores of an update, in the form in which the code has the premises. Assumes nothing.
use Rattle.std.specs.Prelude.{ℕ, suc, ◌+◌, ◌-◌, ◌<◌, ◌≤◌, Bool, true, false, ◌≡◌, refl, List, [], ◌∷◌, Some, None, Option, is_none}
use Rattle.std.proofs.Math.Path.{sym}
use Rattle.std.proofs.Common.{ap, subst, ◌∙◌, arith, ltb-true}
use Rattle.geometry.specs.declared.Geometry.{Geometry}
use Rattle.geometry.specs.Tests.{pick, and_left}
use Rattle.model.specs.Image.{Chip}
use Rattle.model.specs.Stores.{Store}
use Rattle.model.specs.Tree.{sought}
use Rattle.model.specs.Update.{fills, crown_height}
use Rattle.call_answers.specs.declared.Answer.TheVariants.{Height, Absent}
use Rattle.call_answers.specs.Answers.{told}
use Rattle.chip_read.specs.Chip.{chip_with}
use Rattle.chip_store.specs.declared.Budget.{Budget}
use Rattle.tree_plan.specs.declared.Plan.{Plan}
use Rattle.tree_plan.specs.Plan.{Plans}
use Rattle.open_record.specs.declared.Opened.{Opened}
use Rattle.open_record.specs.Opened.{level_by, chip_by}
use Rattle.live_beside.specs.Beside.{Held, page_by}
use Rattle.live_beside.specs.Collect.{Run}
use Rattle.live_beside.specs.Update.{Crest, returned, sides_by, insert_crest, own_by, crest_by, delete_store_at, delete_crest}
use Rattle.tree_delete.specs.Tie.{crest_low}
use Rattle.tree_root.specs.declared.Own.{Own}
use Rattle.tree_root.specs.Owns.{Owns}
use Rattle.collect_blocks.specs.declared.Swept.{Swept}
use Rattle.collect_blocks.specs.Collect.{Collects}
use Rattle.call_account.specs.declared.Made.{Made}
use Rattle.call_account.specs.declared.Renewed.{Renewed}
use Rattle.call_account.specs.Account.{Sized, fresh_of, Leaves, Makes}
use Rattle.call_account.specs.Rest.{collect_laws, makes_first, makes_both, finished}
use Rattle.call_account.specs.Low.{page_low, side_low}
use Rattle.call_update.specs.declared.Asks.{Asks}
use Rattle.call_update.specs.declared.Update.{Update}
use Rattle.call_update.specs.declared.Update.TheVariants.{Insert, Delete}
use Rattle.call_update.specs.Update.{asks_of, own_for, crest_for, run_for, stores_for, crest_on, made_for, held_in}

-- ---- what an update asks
module _ (g : Geometry) (i : List ℕ) (k l : ℕ) (o : Opened) (el : l ≡ level_by g o) where
  -- HEIGHT and k pages
  module _ (p : Plan) (pl : Plans g (chip_with g i l o.root) k p) where
    plan_is : Plans g (chip_by g i o) k p
    plan_is = rw el at pl

    pub insert_asks : (a : ℕ)
        → record { refused = p.high; answer = Height; pages = p.needs } ≡ asks_of (Insert k a) g i o
    unfolding asks_of
    insert_asks a = λ z. record { refused = plan_is.high z; answer = Height; pages = plan_is.needs z }

    pub plan_some : 1 ≤ p.needs
    plan_some = pl.some

    pub plan_few : o.height < 256 → p.needs ≤ 256
    plan_few low = let w : p.needs ≤ l + 2 = pl.few in omega (arith, w, el, low)

  -- ABSENT and one page
  module _ (f : Option ℕ) (ef : f ≡ sought (chip_with g i l o.root) k) where
    found_is : f ≡ sought (chip_by g i o) k
    found_is = ef ∙ ap (λ (m : ℕ). sought (chip_with g i m o.root) k) el

    pub absent_no : (a : ℕ) → f ≡ Some a → false ≡ is_none (sought (chip_by g i o) k)
    absent_no a e = sym (simp (← found_is, e))

    pub absent_is : f ≡ None → true ≡ is_none (sought (chip_by g i o) k)
    absent_is e = sym (simp (← found_is, e))

pub delete_asks : (g : Geometry) (i : List ℕ) (k : ℕ) (o : Opened) (v : Bool) → v ≡ is_none (sought (chip_by g i o) k)
    → record { refused = v; answer = Absent; pages = 1 } ≡ asks_of (Delete k) g i o
unfolding asks_of
delete_asks g i k o v e = λ z. record { refused = e z; answer = Absent; pages = 1 }

pub asks_is : (u v : Update) (g : Geometry) (i : List ℕ) (o : Opened) (r : Asks) → r ≡ asks_of v g i o → u ≡ v
    → r ≡ asks_of u g i o
asks_is u v g i o r e eu = e ∙ ap (λ (w : Update). asks_of w g i o) (sym eu)

-- ---- the own stores
module _ (u : Update) (g : Geometry) (n m : ℕ) (o : Opened) (i out : List ℕ) (b : Budget) (r : Own) where
  owns_as : (v : Update) → Owns g (own_for v g n m o i) (crest_for v g n m o i) b r i out → u ≡ v
      → Owns g (own_for u g n m o i) (crest_for u g n m o i) b r i out
  owns_as v w e = subst (λ (y : Update). Owns g (own_for y g n m o i) (crest_for y g n m o i) b r i out) (sym e) w

  pub own_insert : (k a : ℕ) → Owns g (own_by g n i o m k a) (crest_by g n i o m k a) b r i out → u ≡ Insert k a
      → Owns g (own_for u g n m o i) (crest_for u g n m o i) b r i out
  unfolding own_for crest_for
  own_insert k a w e = owns_as (Insert k a) w e

  pub own_delete : (k : ℕ) → Owns g (delete_store_at g o.most (chip_by g i o) (page_by g n i o 0) k ∷ [])
      (delete_crest (chip_by g i o) (page_by g n i o 0) k) b r i out → u ≡ Delete k
      → Owns g (own_for u g n m o i) (crest_for u g n m o i) b r i out
  unfolding own_for crest_for
  own_delete k w e = owns_as (Delete k) w e

-- ---- the root after them is low enough for the table: it grows below the top alone
grown : (g : Geometry) (l m : ℕ) (t : Bool) → fills g (suc l) m ≡ t → l < 255 → g.top < 256
    → pick t (suc (suc l)) (suc l) - 1 < 255
unfolding fills
grown g l m true e low top = let h : suc l < g.top = ltb-true _ _ (and_left _ _ e) in omega arith
grown g l m false e low top = omega arith

insert_low : (g : Geometry) (c : Chip) (side : ℕ → ℕ) (m k a : ℕ) → c.level < 255 → g.top < 256
    → (insert_crest g c side m k a).level < 255
unfolding crown_height
insert_low g c side m k a low top = grown g c.level _ _ refl low top

pub crest_level : (u : Update) (g : Geometry) (n m : ℕ) (o : Opened) (i : List ℕ) → o.height < 256 → Sized g n
    → (crest_for u g n m o i).level < 255
unfolding crest_for
crest_level (Insert k a) g n m o i low sized =
    insert_low g (chip_by g i o) (sides_by g n i o) m k a (omega (arith, low)) sized.top
crest_level (Delete k) g n m o i low sized = crest_low (chip_by g i o) (page_by g n i o 0) k (omega (arith, low))

pub crest_page : (u : Update) (g : Geometry) (n m : ℕ) (o : Opened) (i : List ℕ) → m ≤ 256 → Sized g n
    → (crest_for u g n m o i).page < 4294967295
unfolding crest_for
crest_page (Insert k a) g n m o i few sized = side_low g n i o sized m few
crest_page (Delete k) g n m o i few sized = page_low g n i o sized 0 (omega arith)

-- ---- collection, then the own stores on the image that it leaves
module _ (u : Update) (g : Geometry) (n m x : ℕ) (s : Opened) (i tbl tbl' ws ws' : List ℕ) (b : Budget) (r : Swept)
    (eb : b ≡ fresh_of x) where
  abbrev held : Held
  held = held_in s tbl ws

  pub stores_first : (o : List ℕ) → Collects g n m (m + 1) b r s i o tbl tbl' ws ws' → r.budget.stopped ≡ true
      → Makes g n (stores_for u g n m held i) (run_for g n m held i).kept.at (crest_on u g n m held i) x
      (record { own = record { budget = r.budget; page = 0; level = 0 }; opened = r.opened }) i o ws ws'
  stores_first o w q = makes_first g n x _ _ _ _ b r.budget i o ws ws' eb w.made.ran w.made.past
      r.opened q

  pub stores_both : (own : Own) (h o : List ℕ)
      → Owns g (own_for u g n m r.opened h) (crest_for u g n m r.opened h) r.budget own h o
      → Collects g n m (m + 1) b r s i h tbl tbl' ws ws' → r.budget.stopped ≡ false → Sized g n → m ≤ 256
      → Makes g n (stores_for u g n m held i) (run_for g n m held i).kept.at (crest_on u g n m held i) x
      (record { own = own; opened = r.opened }) i o ws ws'
  stores_both own h o w c q sized few =
      let run : Run Held = run_for g n m held i in
      let e : r.opened ≡ run.kept.at = ap (λ (y : Held). y.at) (c.made.kept q) in
      let f : h ≡ run.image = c.made.image q in
      let v = subst (λ (j : List ℕ). Owns g (own_for u g n m r.opened j) (crest_for u g n m r.opened j)
      r.budget own h o) f w in
      let y = subst (λ (y : Opened). Owns g (own_for u g n m y run.image) (crest_for u g n m y run.image)
      r.budget own h o) e v in
      let low : run.kept.at.height < 256 = subst (λ (y : Opened). y.height < 256) e c.low in
      makes_both g n x _ _ _ _ b r.budget i h ws ws' eb c.made.ran c.made.past r.opened own o e y
      (crest_level u g n m run.kept.at run.image low sized)
      (crest_page u g n m run.kept.at run.image few sized)

pub made_is : (u : Update) (g : Geometry) (n m x : ℕ) (h : Held) (i o mid new : List ℕ) (s : Made) (r : Renewed)
    → Leaves g n s.own s.opened m o r mid new
    → Makes g n (stores_for u g n m h i) (run_for g n m h i).kept.at (crest_on u g n m h i) x s i o h.table.words mid
    → returned (told r.answer o) r.opened new ≡ made_for u g n m h i x
unfolding made_for
made_is u g n m x h i o mid new s r l w = finished g n m _ _ _ x s i o h.table.words mid new w r l

-- what was made is low enough for the last steps
module _ (g : Geometry) (n : ℕ) (ss : List Store) (h : Opened) (t : Crest) (x : ℕ) (s : Made) (i o old mid : List ℕ)
    (w : Makes g n ss h t x s i o old mid) where
  pub makes_low : s.own.level < 255
  makes_low = w.low

  pub makes_page : s.own.page < 4294967295
  makes_page = w.page

pub ruleset asks_laws = (insert_asks, plan_some, plan_few, absent_no, absent_is, delete_asks, asks_is)

pub ruleset own_laws = (collect_laws, own_insert, own_delete)

pub ruleset store_laws = (own_laws, stores_first, stores_both, made_is, makes_low, makes_page)
