-- Laws of collection, in the form in which the code has the premises. Assumes nothing.
use Prim.Native.Nat.{ℕ, zero, suc, ◌+◌, ◌-◌, ◌*◌, ◌<◌, ◌≤◌, min}
use Rattle.std.specs.Prelude.{true, false, not, ◌≡◌, refl, ltb, length, get_or, None, Some}
use Rattle.std.proofs.lemmas.Bool.{false≢true, not-true, not-false}
use Rattle.std.proofs.Math.Path.{sym, ap}
use Rattle.std.proofs.Common.{subst, ◌∙◌, Fits, arith, mul-le-mul_left, add-one, eq-eqb, ne_eqb, lt-ltb, le-ltb}
use mathlib.Core.List.{List, [], ◌∷◌}
use Rattle.std.specs.Int.{w16}
use Rattle.std.proofs.Math.Nat.{min-le_left}
use Rattle.std.proofs.Math.Numerals.{sub-one}
use Rattle.geometry.specs.declared.Geometry.{Geometry}
use Rattle.geometry.specs.Bounds.{four_bytes}
use Rattle.model.specs.Bytes.{erased, node_at}
use Rattle.model.specs.Image.{pages_of}
use Rattle.model.specs.Stores.{erase, apply_store}
use Rattle.model.specs.Tree.{following}
use Rattle.chip_read.specs.Chip.{naming}
use Rattle.live_words.specs.Words.{words_of, Past}
use Rattle.live_words.specs.Filled.{past_none, past_then}
use Rattle.live_beside.specs.Table.{Table, table_in, table_moved}
use Rattle.open_record.specs.declared.Opened.{Opened}
use Rattle.open_record.specs.Opened.{level_by}
use Rattle.live_beside.specs.Beside.{Held, holding, Beside, beside_by, next_after, key_by, move_store_by, beside_moved}
use Rattle.live_beside.specs.Collect.{Run, still, and_then, move_by, page_by, sweep_by, erase_by, clear_by, victim_by, collect_by}
use Rattle.live_walk.specs.Table.{live_in}
use Rattle.open_renew.specs.Recording.{record_swept}
use Rattle.open_renew.specs.Recorded.{swept_is}
use Rattle.chip_store.specs.declared.Budget.{Budget}
use Rattle.chip_store.specs.Run.{Ran}
use Rattle.chip_store.specs.Runs.{ran_none, ran_then, ran_halted, ran_made}
use Rattle.tree_move.specs.Own.{Moved}
use Rattle.collect_victim.specs.declared.Best.{Best}
use Rattle.collect_victim.specs.Victim.{full_in, ones_by, best_of, Bests}
use Rattle.collect_victim.specs.Fewest.{victim_is}
use Rattle.collect_blocks.specs.declared.Kept.{Kept}
use Rattle.collect_blocks.specs.declared.Swept.{Swept}
use Rattle.collect_blocks.specs.Collect.{beside_in, Makes, Sweeps, Clears, Begins, Wipes, Remarks, Onward, Collects}

-- ---- one run after another
module _ (g : Geometry) (n : ℕ) where
  makes_still : (A : Type 0) (a : A) (b : Budget) (i tbl ws : List ℕ) → Makes A g n (still a i) b b i i a tbl tbl ws ws
  makes_still A a b i tbl ws = record {
    ran = ran_none g b i;
    image = λ e. refl;
    kept = λ e. refl;
    long = refl;
    past = past_none (words_of g n) ws;
  }

  makes_halt : (A B : Type 0) (r : Run A) (f : A → List ℕ → Run B) (b c : Budget) (i o : List ℕ)
      (a : A) (k : B) (tbl tbl' ws ws' : List ℕ)
      → Makes A g n r b c i o a tbl tbl' ws ws' → b.stopped ≡ false → c.stopped ≡ true
      → Makes B g n (and_then r f) b c i o k tbl tbl' ws ws'
  makes_halt A B r f b c i o a k tbl tbl' ws ws' one e t = record {
    ran = ran_halted g r.stores (f r.kept r.image).stores b c i o one.ran e t;
    image = λ q. absurd (false≢true (sym q ∙ t));
    kept = λ q. absurd (false≢true (sym q ∙ t));
    long = one.long;
    past = one.past;
  }

  makes_then : (A B : Type 0) (r : Run A) (f : A → List ℕ → Run B) (b c d : Budget) (i h o : List ℕ)
      (a : A) (k : B) (t u v x y z : List ℕ)
      → Makes A g n r b c i h a t u x y → Makes B g n (f a h) c d h o k u v y z → c.stopped ≡ false
      → Makes B g n (and_then r f) b d i o k t v x z
  makes_then A B r f b c d i h o a k t u v x y z one two e =
      let w : f a h ≡ f r.kept r.image = λ p. f (one.kept e p) (one.image e p) in
      record {
        ran = ran_then g r.stores (f r.kept r.image).stores b c d i h o one.ran (rw w at two.ran);
        image = λ q. two.image q ∙ ap (λ (s : Run B). s.image) w;
        kept = λ q. two.kept q ∙ ap (λ (s : Run B). s.kept) w;
        long = two.long ∙ one.long;
        past = past_then (words_of g n) x y z one.past two.past;
      }

-- ---- one page
pub onward : (g : Geometry) (n x : ℕ) (then : List ℕ) (h : Kept) → x ≡ next_after g.pages n (erased g then) h.next
    → Onward g n then h (record { root = h.next; most = h.most + 1; next = x })
onward g n x then h e = record { root = refl; most = add-one h.most; next = e }

pub remarks : (g : Geometry) (n l q low key m : ℕ) (h : Kept) (i tbl u ws v : List ℕ)
    → table_in u v ≡ table_moved m (node_at g i) key low l (naming h.root) h.next (table_in tbl ws) → m ≡ words_of g n
    → key ≡ following (node_at g i q low) 0
    → length u ≡ length tbl → Past m ws v → Remarks g n l q low key h i tbl u ws v
remarks g n l q low key m h i tbl u ws v et em ek lg ps =
    record { first = ek; table = rw em at et; long = lg; past = rw em at ps }

module _ (g : Geometry) (n l q low : ℕ) (i tbl ws : List ℕ) (h : Kept) (b : Budget) (el : low ≡ get_or tbl q 0) where
  pub page_dead : low ≡ 0 → Sweeps g n l (page_by g n q (beside_in h l (table_in tbl ws)) i) b b i i h tbl tbl ws ws
  unfolding page_by beside_in live_in
  page_dead e = rw (eq-eqb (get_or tbl q 0) 0 (sym el ∙ e)) (makes_still g n Beside (beside_in h l (table_in tbl ws)) b i tbl ws)

  pub page_live : (r : Budget) (k : Kept) (o u v : List ℕ)
      → Sweeps g n l (move_by g n q (beside_in h l (table_in tbl ws)) i) b r i o k tbl u ws v → (low ≡ 0 → ⊥)
      → Sweeps g n l (page_by g n q (beside_in h l (table_in tbl ws)) i) b r i o k tbl u ws v
  unfolding page_by beside_in live_in
  page_live r k o u v w z = rw (ne_eqb (get_or tbl q 0) 0 (λ y. z (el ∙ y))) w

  module _ (key : ℕ) (r : Budget) (o u v : List ℕ) (mv : Moved g h.root h.most l h.next low key b r i o)
      (mk : Remarks g n l q low key h i tbl u ws v) where
    run : Ran g (move_store_by g (beside_in h l (table_in tbl ws)) q i ∷ []) b r i o
    unfolding beside_in
    run = mv.ran (table_in tbl ws) q el mk.first

    pub move_halt : (k : Kept) → r.stopped ≡ true → Sweeps g n l (move_by g n q (beside_in h l (table_in tbl ws)) i) b r i
        o k tbl u ws v
    unfolding move_by
    move_halt k e = record {
      ran = run;
      image = λ y. absurd (false≢true (sym y ∙ e));
      kept = λ y. absurd (false≢true (sym y ∙ e));
      long = mk.long;
      past = mk.past;
    }

    module _ (k : Kept) (on : Onward g n o h k) where
      key_is : key ≡ key_by g (beside_in h l (table_in tbl ws)) q i
      unfolding beside_in
      key_is = mk.first ∙ ap (λ (a : ℕ). following (node_at g i q a) 0) el

      table_is : table_in u v ≡ (beside_moved g n (beside_in h l (table_in tbl ws)) q i o).table
      unfolding beside_in beside_moved
      table_is = mk.table ∙ (λ z. table_moved (words_of g n) (node_at g i) (key_is z) (el z) l (naming h.root) h.next (table_in tbl ws))

      kept_is : beside_in k l (table_in u v) ≡ beside_moved g n (beside_in h l (table_in tbl ws)) q i o
      unfolding beside_in beside_moved
      kept_is = λ z. record { root = on.root z; most = on.most z; level = l; next = on.next z; table = table_is z }

      pub move_done : b.stopped ≡ false → r.stopped ≡ false
          → Sweeps g n l (move_by g n q (beside_in h l (table_in tbl ws)) i) b r i o k tbl u ws v
      unfolding move_by
      move_done f e =
          let made : o ≡ apply_store g (move_store_by g (beside_in h l (table_in tbl ws)) q i) i =
          ran_made g _ b r i o run f e in
          record {
            ran = run;
            image = λ y. made;
            kept = λ y. kept_is ∙ ap (λ (w : List ℕ). beside_moved g n (beside_in h l (table_in tbl ws)) q i w) made;
            long = mk.long;
            past = mk.past;
          }

-- ---- the pages of a block
module _ (g : Geometry) (n l v : ℕ) (b : Budget) (i tbl ws : List ℕ) (h : Kept) where
  pub sweep_none : (j : ℕ) → j ≡ 0 → Sweeps g n l (sweep_by g n v j (beside_in h l (table_in tbl ws)) i) b b i i h tbl tbl
      ws ws
  unfolding sweep_by
  sweep_none j e = rw e (makes_still g n Beside (beside_in h l (table_in tbl ws)) b i tbl ws)

  module _ (q : ℕ) (c : Budget) (a : Kept) (m u x : List ℕ)
      (one : Sweeps g n l (page_by g n q (beside_in h l (table_in tbl ws)) i) b c i m a tbl u ws x) where
    pub sweep_halt : (j : ℕ) → q ≡ g.pages * v + (g.pages - j) → (j ≡ 0 → ⊥) → b.stopped ≡ false → c.stopped ≡ true
        → Sweeps g n l (sweep_by g n v j (beside_in h l (table_in tbl ws)) i) b c i m a tbl u ws x
    unfolding sweep_by
    sweep_halt zero eq z e f = absurd (z refl)
    sweep_halt (suc j) eq z e f = makes_halt g n Beside Beside _ (sweep_by g n v j) b c i m _ _ tbl u ws x (rw eq at one) e f

    pub sweep_on : (j : ℕ) (d : Budget) (k : Kept) (o y w : List ℕ)
        → Sweeps g n l (sweep_by g n v (j - 1) (beside_in a l (table_in u x)) m) c d m o k u y x w
        → q ≡ g.pages * v + (g.pages - j) → (j ≡ 0 → ⊥) → c.stopped ≡ false
        → Sweeps g n l (sweep_by g n v j (beside_in h l (table_in tbl ws)) i) b d i o k tbl y ws w
    unfolding sweep_by
    sweep_on zero d k o y w two eq z f = absurd (z refl)
    sweep_on (suc j) d k o y w two eq z f =
        makes_then g n Beside Beside _ (sweep_by g n v j) b c d i m o _ _ tbl u y ws x w (rw eq at one) (rw sub-one at two) f

-- a sweep under way, as a loop has it: what the last `left` pages make from here on is what the whole sweep makes
pub record Sweeping (g : Geometry) (n l v : ℕ) (h : Kept) (b : Budget) (i tbl ws : List ℕ)
    (left : ℕ) (k : Kept) (c : Budget) (m u x : List ℕ) : Type 0 where
  pub rest : (d : Budget) (a : Kept) (o y w : List ℕ)
      → Sweeps g n l (sweep_by g n v left (beside_in k l (table_in u x)) m) c d m o a u y x w
      → Sweeps g n l (sweep_by g n v g.pages (beside_in h l (table_in tbl ws)) i) b d i o a tbl y ws w

pub sweeping_start : (g : Geometry) (n l v : ℕ) (h : Kept) (b : Budget) (i tbl ws : List ℕ) (left : ℕ) → left ≡ g.pages
    → Sweeping g n l v h b i tbl ws left h b i tbl ws
sweeping_start g n l v h b i tbl ws left e = rw e (record { rest = λ d a o y w z. z })

module _ (g : Geometry) (n l v : ℕ) (h : Kept) (b : Budget) (i tbl ws : List ℕ) (j : ℕ) (k : Kept) (c : Budget)
    (m u x : List ℕ) (s : Sweeping g n l v h b i tbl ws (g.pages - j) k c m u x) where
  pub sweeping_end : g.pages ≤ j
      → Sweeps g n l (sweep_by g n v g.pages (beside_in h l (table_in tbl ws)) i) b c i m k tbl u ws x
  sweeping_end e = s.rest c k m u x (sweep_none g n l v c m u x k (g.pages - j) (omega arith))

  module _ (q : ℕ) (d : Budget) (a : Kept) (o y w : List ℕ)
      (one : Sweeps g n l (page_by g n q (beside_in k l (table_in u x)) m) c d m o a u y x w)
      (eq : q ≡ g.pages * v + j) (low : j < g.pages) where
    place : q ≡ g.pages * v + (g.pages - (g.pages - j))
    place = omega (arith, eq, low)

    more : g.pages - j ≡ 0 → ⊥
    more e = omega (arith, e, low)

    pub sweeping_halt : c.stopped ≡ false → d.stopped ≡ true
        → Sweeps g n l (sweep_by g n v g.pages (beside_in h l (table_in tbl ws)) i) b d i o a tbl y ws w
    sweeping_halt e f = s.rest d a o y w (sweep_halt g n l v c m u x k q d a o y w one (g.pages - j) place more e f)

    pub sweeping_on : d.stopped ≡ false → Sweeping g n l v h b i tbl ws (g.pages - (j + 1)) a d o y w
    sweeping_on f =
        let less : g.pages - (j + 1) ≡ g.pages - j - 1 = omega arith in
        record {
          rest = λ d' a' o' y' w' two. s.rest d' a' o' y' w'
              (sweep_on g n l v c m u x k q d a o y w one (g.pages - j) d' a' o' y' w' (rw less at two) place more f);
        }

-- ---- clear
pub begins : (g : Geometry) (n x y : ℕ) (o : Opened) → x ≡ min (pages_of g n) o.next → y ≡ o.most
    → Begins g n o (record { root = o.root; most = y; next = x })
unfolding beside_in
begins g n x y o ex ey = record { beside = λ t z. record { root = o.root; most = ey z; level = level_by g o; next = ex z; table = t } }

-- room to count the moves of a block
pub most_room : (p y : ℕ) → y < four_bytes → Fits w16 p → y + p < 8589934592
most_room p y h f = omega (arith, h, f.fits)

pub next_room : (g : Geometry) (n x y : ℕ) → x ≡ min (pages_of g n) y → Fits w16 g.pages → Fits w16 n
    → x + g.pages < four_bytes
next_room g n x y e f h =
    let a : g.pages ≤ 65535 = omega (arith, f.fits) in
    let b : n ≤ 65535 = omega (arith, h.fits) in
    let c : x ≤ g.pages * n = rw e (min-le_left (g.pages * n) y) in
    omega (arith, a, c, mul-le-mul_left g.pages b)

pub wipes : (g : Geometry) (n v : ℕ) (o t : Opened) (k : Kept) (b r : Budget) (i h : List ℕ)
    → Ran g (erase v ∷ []) b r i h
    → t ≡ record_swept g n o k.root k.most k.next h → t.height < 256 → Wipes g n v o k b
    (record { budget = r; opened = t }) i h
wipes g n v o t k b r i h run e low = record { ran = run; opened = e; low = low }

module _ (g : Geometry) (n v l : ℕ) (s : Opened) (b c : Budget) (i o tbl u ws x : List ℕ)
    (h k : Kept) (bg : Begins g n s h)
    (sw : Sweeps g n l (sweep_by g n v g.pages (beside_in h l (table_in tbl ws)) i) b c i o k tbl u ws x)
    (el : l ≡ level_by g s) (low : s.height < 256) where
  start : beside_in h l (table_in tbl ws) ≡ beside_by g n (holding s (table_in tbl ws))
  start = ap (λ (y : ℕ). beside_in h y (table_in tbl ws)) el ∙ bg.beside (table_in tbl ws)

  swept : Makes Beside g n (sweep_by g n v g.pages (beside_by g n (holding s (table_in tbl ws))) i) b c i o
      (beside_in k l (table_in u x)) tbl u ws x
  swept = subst (λ (y : Beside). Makes Beside g n (sweep_by g n v g.pages y i) b c i o (beside_in k l (table_in u x)) tbl u ws x) start sw

  pub clear_halt : b.stopped ≡ false → c.stopped ≡ true
      → Clears g n (clear_by g n (Some v) (holding s (table_in tbl ws)) i) b (record { budget = c; opened = s }) i o tbl u
      ws x
  unfolding clear_by
  clear_halt e f = record { made = makes_halt g n Beside Held _ (erase_by g n v s) b c i o _ _ tbl u ws x swept e f; low = low }

  wiped : (d : Swept) (p : List ℕ) → Wipes g n v s k c d o p → c.stopped ≡ false
      → Makes Held g n (erase_by g n v s (beside_in k l (table_in u x)) o) c d.budget o p
      (holding d.opened (table_in u x)) u u x x
  unfolding erase_by beside_in
  wiped d p w f = record {
    ran = w.ran;
    image = λ e. ran_made g (erase v) c d.budget o p w.ran f e;
    kept = λ e. ap (λ (y : Opened). holding y (table_in u x)) (
        w.opened
        ∙ ap (λ (y : List ℕ). record_swept g n s k.root k.most k.next y) (ran_made g (erase v) c d.budget o p w.ran f e)
        ∙ swept_is g n s (beside_in k l (table_in u x)) (apply_store g (erase v) o));
    long = refl;
    past = past_none (words_of g n) x;
  }

  pub clear_done : (d : Swept) (p : List ℕ) → Wipes g n v s k c d o p → c.stopped ≡ false
      → Clears g n (clear_by g n (Some v) (holding s (table_in tbl ws)) i) b d i p tbl u ws x
  unfolding clear_by
  clear_done d p w f = record {
    made = makes_then g n Beside Held _ (erase_by g n v s) b c d.budget i o p _ _ tbl u u ws x x swept (wiped d p w f) f;
    low = w.low;
  }

module _ (g : Geometry) (n : ℕ) (i tbl ws : List ℕ) (v : Best) (bs : Bests (full_in g i) (ones_by g ws) n v)
    (b : Budget) (s : Opened) where
  abbrev t : Table
  t = table_in tbl ws

  none_is : v.found ≡ false → None ≡ victim_by g n t i
  unfolding best_of
  none_is e = sym (rw e refl) ∙ victim_is g n i ws v bs

  some_is : v.found ≡ true → Some v.block ≡ victim_by g n t i
  unfolding best_of
  some_is e = sym (rw e refl) ∙ victim_is g n i ws v bs

  pub clear_none : not v.found ≡ true → s.height < 256 → Clears g n (clear_by g n (victim_by g n t i) (holding s t) i)
      b (record { budget = b; opened = s }) i i tbl tbl ws ws
  unfolding clear_by
  clear_none f low = record { made = rw (← none_is (not-true v.found f)) (makes_still g n Held (holding s t) b i tbl ws); low = low }

  pub clear_some : (r : Swept) (o u x : List ℕ) → Clears g n (clear_by g n (Some v.block) (holding s t) i) b r i o tbl
      u ws x → not v.found ≡ false
      → Clears g n (clear_by g n (victim_by g n t i) (holding s t) i) b r i o tbl u ws x
  clear_some r o u x w f = rw (← some_is (not-false v.found f)) w

-- ---- rounds
module _ (g : Geometry) (n k : ℕ) (i tbl ws : List ℕ) (b : Budget) (s : Opened) where
  abbrev start_of : Held
  start_of = holding s (table_in tbl ws)

  pub collect_none : (m : ℕ) → m ≡ 0 → s.height < 256 → Collects g n k m b (record { budget = b; opened = s }) s i i
      tbl tbl ws ws
  unfolding collect_by
  collect_none m e low = record { made = rw e (makes_still g n Held start_of b i tbl ws); low = low }

  module _ (w : ℕ) (ew : w ≡ g.pages + k) where
    enough_is : w ≤ s.erased → ltb s.erased (g.pages + k) ≡ false
    enough_is h = le-ltb s.erased (g.pages + k) (rw (← ew) h)

    few_is : s.erased < w → ltb s.erased (g.pages + k) ≡ true
    few_is h = lt-ltb s.erased (g.pages + k) (rw (← ew) h)

    pub collect_enough : (m : ℕ) → w ≤ s.erased → (m ≡ 0 → ⊥) → s.height < 256 → Collects g n k m b
        (record { budget = b; opened = s }) s i i tbl tbl ws ws
    unfolding collect_by
    collect_enough zero h z low = absurd (z refl)
    collect_enough (suc m) h z low = record { made = rw (enough_is h) (makes_still g n Held start_of b i tbl ws); low = low }

    module _ (c : Swept) (h u x : List ℕ) (one : Clears g n (clear_by g n (victim_by g n (table_in tbl ws) i)
        (holding s (table_in tbl ws)) i) b c i h tbl u ws x) (few : s.erased < w) where
      pub collect_halt : (m : ℕ) → (m ≡ 0 → ⊥) → b.stopped ≡ false → c.budget.stopped ≡ true
          → Collects g n k m b c s i h tbl u ws x
      unfolding collect_by
      collect_halt zero z e f = absurd (z refl)
      collect_halt (suc m) z e f = record {
        made = rw (few_is few) (makes_halt g n Held Held _ (collect_by g n k m) b c.budget i h _ _ tbl u ws x one.made e f);
        low = one.low;
      }

      pub collect_on : (m : ℕ) (r : Swept) (o v y : List ℕ) → Collects g n k (m - 1) c.budget r
          c.opened h o u v x y → (m ≡ 0 → ⊥) → c.budget.stopped ≡ false
          → Collects g n k m b r s i o tbl v ws y
      unfolding collect_by
      collect_on zero r o v y two z f = absurd (z refl)
      collect_on (suc m) r o v y two z f = record {
        made = rw (few_is few) (makes_then g n Held Held _ (collect_by g n k m) b c.budget r.budget i h o _ _ tbl u
            v ws x y one.made (rw sub-one at two.made) f);
        low = two.low;
      }

-- a collection under way, as a loop has it: what at most `left` rounds make from here on is what the whole makes
pub record Rounds (g : Geometry) (n k m : ℕ) (s : Opened) (b : Budget) (i tbl ws : List ℕ)
    (left : ℕ) (c : Swept) (h u x : List ℕ) : Type 0 where
  pub rest : (r : Swept) (o y w : List ℕ) → Collects g n k left c.budget r c.opened h o u y x w
      → Collects g n k m b r s i o tbl y ws w

pub rounds_start : (g : Geometry) (n k m : ℕ) (s : Opened) (b : Budget) (i tbl ws : List ℕ) (left : ℕ) → left ≡ m
    → Rounds g n k m s b i tbl ws left (record { budget = b; opened = s }) i tbl ws
rounds_start g n k m s b i tbl ws left e = rw e (record { rest = λ r o y w z. z })

module _ (g : Geometry) (n k m : ℕ) (s : Opened) (b : Budget) (i tbl ws : List ℕ) (j : ℕ) (c : Swept)
    (h u x : List ℕ) (z : Rounds g n k m s b i tbl ws (m - j) c h u x) (low : c.opened.height < 256) where
  pub rounds_end : m ≤ j → Collects g n k m b c s i h tbl u ws x
  rounds_end e = z.rest c h u x (collect_none g n k h u x c.budget c.opened (m - j) (omega arith) low)

  module _ (w : ℕ) (ew : w ≡ g.pages + k) (left : j < m) where
    again : m - j ≡ 0 → ⊥
    again e = omega (arith, e, left)

    pub rounds_enough : w ≤ c.opened.erased → Collects g n k m b c s i h tbl u ws x
    rounds_enough e = z.rest c h u x (collect_enough g n k h u x c.budget c.opened w ew (m - j) e again low)

    module _ (d : Swept) (o y v : List ℕ) (one : Clears g n (clear_by g n (victim_by g n (table_in u x) h)
        (holding c.opened (table_in u x)) h) c.budget d h o u y x v) (few : c.opened.erased < w) where
      pub rounds_halt : c.budget.stopped ≡ false → d.budget.stopped ≡ true → Collects g n k m b d s i o tbl y ws v
      rounds_halt e f = z.rest d o y v (collect_halt g n k h u x c.budget c.opened w ew d o y v one few (m - j) again e f)

      pub rounds_on : d.budget.stopped ≡ false → Rounds g n k m s b i tbl ws (m - (j + 1)) d o y v
      rounds_on f =
          let less : m - (j + 1) ≡ m - j - 1 = omega arith in
          record {
            rest = λ r p t q two. z.rest r p t q
                (collect_on g n k h u x c.budget c.opened w ew d o y v one few (m - j) r p t q (rw less at two) again f);
          }

pub ruleset collect_laws = (onward, remarks, page_dead, page_live, move_halt, move_done, sweeping_start, sweeping_end, sweeping_halt, sweeping_on, begins, most_room, next_room, wipes, clear_halt, clear_done, clear_none, clear_some, rounds_start, rounds_end, rounds_enough, rounds_halt, rounds_on)
