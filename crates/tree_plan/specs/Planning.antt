-- Laws of plans, in the form in which the code has the premises. Assumes nothing.
use Rattle.std.specs.Prelude.{ℕ, zero, suc, ◌+◌, ◌-◌, ◌*◌, ◌<◌, ◌≤◌, Bool, true, false, not, ◌≡◌, refl, List, eqb, length, Option, Some, None, is_none}
use Rattle.std.proofs.Common.{sym, ◌∙◌, arith, add-one, sub-one, lt-ltb, le-ltb, eq-eqb, ne_eqb}
use Rattle.std.proofs.lemmas.Bool.{not-true, not-false}
use Rattle.std.specs.Int.{from_bool}
use Rattle.geometry.specs.declared.Geometry.{Geometry}
use Rattle.geometry.specs.declared.Entry.{Entry}
use Rattle.geometry.specs.Geometry.{half, root_slots}
use Rattle.geometry.specs.Tests.{bit, ◌&◌, and_true, and_false}
use Rattle.model.specs.Bytes.{node_at, node_count}
use Rattle.model.specs.Tree.{chosen, leaf, find_in}
use Rattle.model.specs.Edit.{gains, splits}
use Rattle.model.specs.Update.{fills, needs, too_high, root_gains}
use Rattle.chip_read.specs.Chip.{chip_with}
use Rattle.chip_read.specs.Node.{node_length}
use Rattle.tree_plan.specs.declared.Run.{Run}
use Rattle.tree_plan.specs.Plan.{high, Counts, Plans}

-- ---- seek
pub seek_leaf : (g : Geometry) (img : List ℕ) (k l : ℕ) (e : Entry) (r : Option ℕ) → r ≡ find_in k
    (node_at g img e.addr 1) → l ≡ 0
    → r ≡ find_in k (leaf (node_at g img) k l e)
unfolding leaf
seek_leaf g img k zero e r er z = er
seek_leaf g img k (suc l) e r er z = absurd (omega arith)

pub seek_on : (g : Geometry) (img : List ℕ) (k l : ℕ) (e x : Entry) (r : Option ℕ) → r ≡ find_in k
    (leaf (node_at g img) k (l - 1) x) → x ≡ chosen k (node_at g img e.addr (l + 1)) → (l ≡ 0 → ⊥)
    → r ≡ find_in k (leaf (node_at g img) k l e)
unfolding leaf
seek_on g img k zero e x r er ex z = absurd (z refl)
seek_on g img k (suc l) e x r er ex z = rw sub-one at er ∙ rw (ex, add-one)

pub absent_no : (o : Option ℕ) (f : Option ℕ) (a : ℕ) → f ≡ o → f ≡ Some a → false ≡ is_none o
absent_no o f a e q = rw (← e, q)

pub absent_yes : (o : Option ℕ) (f : Option ℕ) → f ≡ o → f ≡ None → true ≡ is_none o
absent_yes o f e q = rw (← e, q)

-- ---- run
pub full_is : (g : Geometry) (img : List ℕ) (p l n h : ℕ) → n ≡ node_count g img p l → h ≡ half g l
    → eqb n (2 * h) ≡ eqb (length (node_at g img p l)) (2 * half g l)
full_is g img p l n h en eh = rw (node_length, en, eh)

pub run_end : (g : Geometry) (img : List ℕ) (k : ℕ) (absent : Bool) (l : ℕ) (e : Entry) → l ≡ 0
    → Counts g img k absent l e (record { splits = 0; gains = absent })
unfolding splits gains
run_end g img k absent zero e z = record { count = refl; more = refl; few = omega arith }
run_end g img k absent (suc l) e z = absurd (omega arith)

most : (n l : ℕ) (t : Bool) → n ≤ l → n + bit t ≤ suc l
most n l true h = omega arith
most n l false h = omega arith

module _ (g : Geometry) (img : List ℕ) (k : ℕ) (absent : Bool) (e x : Entry) (r : Run) where
  run_suc : (l : ℕ) (t : Bool) → Counts g img k absent l x r → x ≡ chosen k (node_at g img e.addr (suc l))
      → (eqb (length (node_at g img e.addr (suc l))) (2 * half g (suc l)) & r.gains) ≡ t
      → (splits (node_at g img) k (half g) absent (suc l) e ≡ bit t + r.splits) ×
      (gains (node_at g img) k (half g) absent (suc l) e ≡ t)
  unfolding splits gains
  run_suc l t c ex q =
      let w : (eqb (length (node_at g img e.addr (suc l))) (2 * half g (suc l)) & gains (node_at g img) k
      (half g) absent l (chosen k (node_at g img e.addr (suc l)))) ≡ t = rw (← ex, ← c.more) q in
      (rw (w, ← ex, ← c.count), w)

  made : (l n : ℕ) (t : Bool) → Counts g img k absent l x r → x ≡ chosen k (node_at g img e.addr (suc l))
      → (eqb (length (node_at g img e.addr (suc l))) (2 * half g (suc l)) & r.gains) ≡ t → n ≡ r.splits + bit t
      → Counts g img k absent (suc l) e (record { splits = n; gains = t })
  made l n t c ex q en =
      let w = run_suc l t c ex q in
      record {
        count = en ∙ sym (w.0 ∙ omega arith);
        more = sym w.1;
        few = rw en (most r.splits l t c.few);
      }

  pub run_loose : (l : ℕ) (b : Bool) → Counts g img k absent (l - 1) x r → x ≡ chosen k (node_at g img e.addr l)
      → b ≡ eqb (length (node_at g img e.addr l)) (2 * half g l)
      → not b ≡ true → (l ≡ 0 → ⊥) → Counts g img k absent l e (record { splits = r.splits; gains = false })
  run_loose zero b c ex eb q z = absurd (z refl)
  run_loose (suc l) b c ex eb q z = made l r.splits false (rw sub-one at c) ex (rw (← eb, not-true b q) (and_false r.gains)) (omega arith)

  pub run_none : (l : ℕ) (b : Bool) → Counts g img k absent (l - 1) x r → x ≡ chosen k (node_at g img e.addr l)
      → b ≡ eqb (length (node_at g img e.addr l)) (2 * half g l)
      → not b ≡ false → not r.gains ≡ true → (l ≡ 0 → ⊥) → Counts g img k absent l e
      (record { splits = r.splits; gains = false })
  run_none zero b c ex eb q s z = absurd (z refl)
  run_none (suc l) b c ex eb q s z =
      made l r.splits false (rw sub-one at c) ex (rw (← eb, not-false b q) (and_true r.gains
      ∙ not-true r.gains s)) (omega arith)

  pub run_one : (l : ℕ) (b : Bool) → Counts g img k absent (l - 1) x r → x ≡ chosen k (node_at g img e.addr l)
      → b ≡ eqb (length (node_at g img e.addr l)) (2 * half g l)
      → not b ≡ false → not r.gains ≡ false → (l ≡ 0 → ⊥) → Counts g img k absent l e
      (record { splits = r.splits + 1; gains = true })
  run_one zero b c ex eb q s z = absurd (z refl)
  run_one (suc l) b c ex eb q s z =
      made l (r.splits + 1) true (rw sub-one at c) ex (rw (← eb, not-false b q) (and_true r.gains
      ∙ not-false r.gains s)) refl

-- ---- the root
pub fills_top : (g : Geometry) (l m t k : ℕ) → t ≡ g.top → k ≡ l → t ≤ k → false ≡ fills g l m
unfolding fills
fills_top g l m t k et ek h = sym (rw (le-ltb l g.top (rw (← et, ← ek) h)) (and_false _))

pub fills_is : (g : Geometry) (l m t k s : ℕ) → s ≡ root_slots g l → t ≡ g.top → k ≡ l → k < t → eqb m s ≡ fills g l m
unfolding fills
fills_is g l m t k s es et ek h = sym (rw (lt-ltb l g.top (rw (← et, ← ek) h), es) (and_true _))

-- a test as a number
pub bit_from : (b : Bool) → from_bool b ≡ bit b
bit_from true = refl
bit_from false = refl

pub bit_low : (b : Bool) → from_bool b ≤ 1
bit_low true = omega arith
bit_low false = omega arith

pub more_is : (n x : ℕ) (b : Bool) → x ≡ from_bool b → n + x ≡ n + bit b
more_is n x b e = rw (e, bit_from b)

pub high_low : (g : Geometry) (l m k t : ℕ) (b : Bool) → k ≡ l → t ≡ g.top → (k ≡ t → ⊥) → false ≡ high g l m b
unfolding high
high_low g l m k t b ek et h = simp (← ek, ← et, ne_eqb k t h, and_false)

pub high_loose : (g : Geometry) (l m k t s : ℕ) (b : Bool) → k ≡ l → t ≡ g.top → s ≡ root_slots g l → k ≡ t
    → (m ≡ s → ⊥) → false ≡ high g l m b
unfolding high
high_loose g l m k t s b ek et es h q = simp (eq-eqb l g.top (sym ek ∙ h ∙ et), and_true, ← es, ne_eqb m s q, and_false)

pub high_is : (g : Geometry) (l m k t s : ℕ) (b : Bool) → k ≡ l → t ≡ g.top → s ≡ root_slots g l → k ≡ t → m ≡ s
    → b ≡ high g l m b
unfolding high
high_is g l m k t s b ek et es h q = simp (eq-eqb l g.top (sym ek ∙ h ∙ et), ← es, eq-eqb m s q, and_true)

pub planned : (g : Geometry) (img : List ℕ) (l p k : ℕ) (a : Bool) (x : Entry) (r : Run) (m m' n : ℕ) (grows h : Bool)
    → Counts g img k a l x r → a ≡ is_none (find_in k (leaf (node_at g img) k l (record { key = 0; addr = p })))
    → x ≡ chosen k (node_at g img p (l + 1)) → m ≡ node_count g img p (l + 1)
    → m' ≡ m + bit r.gains → grows ≡ fills g (l + 1) m' → n ≡ suc (r.splits + bit grows) → n ≤ r.splits + 2
    → h ≡ high g (l + 1) m r.gains
    → Plans g (chip_with g img l p) k (record { absent = a; needs = n; high = h })
unfolding needs too_high high root_gains
planned g img l p k a x r m m' n grows h c ea ex em em' eg en few eh =
    let s : l + 1 ≡ suc l = add-one l in
    let lm : length (node_at g img p (suc l)) ≡ m = node_length g img p (suc l) ∙ sym (em ∙ rw s) in
    let gs : gains (node_at g img) k (half g) (is_none (find_in k
    (leaf (node_at g img) k l (record { key = 0; addr = p })))) l (chosen k (node_at g img p (suc l))) ≡ r.gains =
    rw (← ea, ← s, ← ex) (sym c.more) in
    let ss : splits (node_at g img) k (half g)
    (is_none (find_in k (leaf (node_at g img) k l (record { key = 0; addr = p })))) l (chosen k (node_at g img p (suc l))) ≡ r.splits =
    rw (← ea, ← s, ← ex) (sym c.count) in
    record {
      absent = ea;
      needs = en ∙ rw (ss, gs, lm, eg, em', s);
      high = eh ∙ rw (gs, lm, s);
      few = omega (arith, c.few);
      some = omega arith;
    }

pub ruleset plan_laws = (seek_leaf, seek_on, absent_no, absent_yes, full_is, run_end, run_loose, run_none, run_one, fills_top, fills_is, bit_from, bit_low, more_is, high_low, high_loose, high_is, planned)
