-- What insert and delete share: collection before an update's own stores, and what the update then leaves. Assumes
-- nothing.
use Rattle.std.specs.Prelude.{ℕ, ◌+◌, ◌<◌, Bool, ◌≡◌, List, ◌++◌, leb, length}
use Rattle.std.proofs.Math.Bool.{true, false}
use Rattle.std.proofs.lemmas.Bool.{false≢true}
use Rattle.std.proofs.Math.Path.{refl}
use Rattle.std.proofs.Common.{sym, ap, ◌∙◌, arith}
use Rattle.geometry.specs.declared.Geometry.{Geometry}
use Rattle.geometry.specs.Tests.{pick}
use Rattle.geometry.specs.Bounds.{four_bytes}
use Rattle.model.specs.Tree.{live}
use Rattle.model.specs.Stores.{Store, apply_all}
use Rattle.call_answers.specs.Answers.{told}
use Rattle.chip_store.specs.declared.Budget.{Budget}
use Rattle.chip_store.specs.Careful.{made_of}
use Rattle.chip_store.specs.Run.{Ran}
use Rattle.chip_store.specs.Runs.{ran_then, ran_halted}
use Rattle.live_words.specs.Words.{words_of, Past}
use Rattle.live_words.specs.Filled.{filled_same}
use Rattle.open_record.specs.declared.Opened.{Opened}
use Rattle.open_record.specs.Opened.{opened_in}
use Rattle.live_beside.specs.Update.{Crest, returned, record_made, places_by, words_by, made_by}
use Rattle.tree_root.specs.declared.Own.{Own}
use Rattle.tree_root.specs.Owns.{Owns, crest_of}
use Rattle.collect_blocks.specs.declared.Swept.{Swept}
use Rattle.collect_blocks.specs.Collect.{Collects}
use Rattle.call_account.specs.declared.Made.{Made}
use Rattle.call_account.specs.declared.Renewed.{Renewed}
use Rattle.call_account.specs.Account.{fresh_of, left_record, Leaves, Makes}
use Rattle.call_account.specs.Accounting.{halted_is, whole_is, told_made}

-- what a collection leaves is what an update's own stores start from
module _ (g : Geometry) (n k m : ℕ) (b : Budget) (r : Swept) (h : Opened) (i o tbl tbl' ws ws' : List ℕ)
    (c : Collects g n k m b r h i o tbl tbl' ws ws') where
  pub collect_low : r.opened.height < 256
  collect_low = c.low

  pub collect_total : b.left + b.programmed + b.erased < four_bytes
      → r.budget.left + r.budget.programmed + r.budget.erased < four_bytes
  collect_total l = omega (arith, c.made.ran.total, l)

  pub collect_long : length tbl' ≡ length tbl
  collect_long = c.made.long

pub ruleset collect_laws = (collect_low, collect_total, collect_long)

-- collection's stores xs from a fresh allowance, then the update's own ys from the record e on, after which the root
-- stands at t
module _ (g : Geometry) (n x : ℕ) (xs ys : List Store) (e : Opened) (t : Crest) (b r : Budget) (i h old mid : List ℕ)
    (eb : b ≡ fresh_of x) (run : Ran g xs b r i h)
    (past : Past (words_of g n) old mid) where
  first : Ran g xs (fresh_of x) r i h
  first = rw eb at run

  pub makes_first : (a : Opened) → r.stopped ≡ true → Makes g n (xs ++ ys) e t x
      (record { own = record { budget = r; page = 0; level = 0 }; opened = a }) i h old mid
  makes_first a q = record {
    ran = ran_halted g xs ys (fresh_of x) r i h first refl q;
    opened = λ z. absurd (false≢true (sym z ∙ q));
    crest = λ z. absurd (false≢true (sym z ∙ q));
    low = omega arith;
    page = omega arith;
    past = past;
  }

  pub makes_both : (a : Opened) (own : Own) (o : List ℕ) → a ≡ e → Owns g ys t r own h o → t.level < 255
      → t.page < 4294967295
      → Makes g n (xs ++ ys) e t x (record { own = own; opened = a }) i o old mid
  makes_both a own o ea w l p = record {
    ran = ran_then g xs ys (fresh_of x) r own.budget i h o first w.ran;
    opened = λ z. ea;
    crest = λ z. w.crest;
    low = rw (ap (λ (y : Crest). y.level) w.crest) l;
    page = rw (ap (λ (y : Crest). y.page) w.crest) p;
    past = past;
  }

-- words that differ from the lent ones in the image's alone are filled alike
pub words_same : (g : Geometry) (n : ℕ) (o : Opened) (img old mid : List ℕ) → Past (words_of g n) old mid
    → words_by g n o img mid ≡ words_by g n o img old
unfolding words_by
words_same g n o img old mid past = filled_same (live (places_by g img o)) (words_of g n) old mid past

-- the answer, the record and the words that are left
module _ (g : Geometry) (n m : ℕ) (ss : List Store)
    (e : Opened) (t : Crest) (x : ℕ) (s : Made) (i o old mid new : List ℕ) (w : Makes g n ss e t x s i o old mid)
    (r : Renewed) (l : Leaves g n s.own s.opened m o r mid new) where
  abbrev then : List ℕ
  then = apply_all g (made_of g ss x i) i

  record_is : left_record g n s.own s.opened m o ≡ pick (leb (length ss) (length (made_of g ss x i)))
      (record_made g n e m t then) (opened_in g n then)
  unfolding left_record
  record_is = go s.own.budget.stopped refl
    where
      go : (q : Bool) → s.own.budget.stopped ≡ q → pick s.own.budget.stopped (opened_in g n o)
          (record_made g n s.opened m (crest_of s.own) o)
          ≡ pick (leb (length ss) (length (made_of g ss x i))) (record_made g n e m t then) (opened_in g n then)
      go true q = rw (q, halted_is g ss x s.own.budget i o w.ran q, w.ran.image)
      go false q =
          rw (q, whole_is g ss x s.own.budget i o w.ran q)
          (λ z. record_made g n (w.opened q z) m (w.crest q z) (w.ran.image z))

  pub finished : returned (told r.answer o) r.opened new ≡ made_by g n ss e m t x i old
  unfolding made_by
  finished = λ z. returned
      ((ap (λ y. told y o) l.answer ∙ told_made g ss x s.own.budget i o w.ran) z)
      ((l.opened ∙ record_is) z)
      ((l.words ∙ words_same g n _ o old mid w.past ∙ (λ j. words_by g n (record_is j) (w.ran.image j) old)) z)

-- and so they leave the same
pub made_words : (g : Geometry) (n m x : ℕ) (ss : List Store) (e : Opened) (t : Crest) (i old mid : List ℕ)
    → Past (words_of g n) old mid
    → made_by g n ss e m t x i mid ≡ made_by g n ss e m t x i old
unfolding made_by
made_words g n m x ss e t i old mid past =
    λ z. returned (made_by g n ss e m t x i old).outcome (made_by g n ss e m t x i old).opened
    (words_same g n (made_by g n ss e m t x i old).opened (apply_all g (made_of g ss x i) i) old mid past z)
