-- Marks, in the form in which the code has the premises. Assumes nothing.
use Rattle.std.specs.Prelude.{ℕ, zero, suc, ◌+◌, ◌-◌, ◌/◌, ◌<◌, ◌≤◌, ◌≡◌, refl, List, length, get_or, set}
use Rattle.std.proofs.Common.{sym, ◌∙◌, lt-ltb, le-ltb, eq-eqb, ne_eqb, le-leb, arith, sub-one, add-one}
use Rattle.std.proofs.Math.Seq.{set_out}
use Rattle.std.proofs.lemmas.Bool.{lt-leb}
use Rattle.geometry.specs.declared.Geometry.{Geometry}
use Rattle.geometry.specs.declared.Entry.{Entry}
use Rattle.geometry.specs.Bounds.{four_bytes}
use Rattle.model.specs.Bytes.{node_at}
use Rattle.model.specs.Image.{Nodes}
use Rattle.model.specs.Tree.{chosen}
use Rattle.chip_read.specs.Chip.{naming}
use Rattle.live_walk.specs.Table.{live_in}
use Rattle.live_words.specs.Words.{word, Past}
use Rattle.live_fill.specs.LentWords.{set_long}
use Rattle.live_words.specs.Filled.{past_none, past_then, past_set}
use Rattle.live_beside.specs.Table.{Table, table_in, mark, unmark, off_path, table_moved}

-- ---- one page
pub put_out : (x : List ℕ) (p w a : ℕ) → w ≡ p → length x ≤ w → x ≡ set x p a
put_out x p w a e h = sym (set_out x p a (rw (← e) h))

pub put_at : (x : List ℕ) (p w a : ℕ) → w ≡ p → set x w a ≡ set x p a
put_at x p w a e = rw e

-- the page's word is one of the image's, or it is not
pub mark_in : (m p a i q : ℕ) (x y u v : List ℕ) → y ≡ set x p a → v ≡ set u i (word (live_in y) i) → i ≡ q / 32 → q ≡ p
    → i < m
    → table_in y v ≡ mark m p a (table_in x u)
unfolding mark
mark_in m p a i q x y u v ey ev ei eq h =
    let w : i ≡ p / 32 = ei ∙ rw eq in
    sym (rw (← w) (simp (lt-ltb i m h) (rw (← ey, ← ev))))

pub mark_out : (m p a i q : ℕ) (x y u : List ℕ) → y ≡ set x p a → i ≡ q / 32 → q ≡ p → m ≤ i → table_in y u ≡ mark m p a
    (table_in x u)
unfolding mark
mark_out m p a i q x y u ey ei eq h =
    let w : i ≡ p / 32 = ei ∙ rw eq in
    sym (rw (← w) (simp (le-ltb i m h) (rw (← ey))))

pub mark_past : (m w n : ℕ) (u v : List ℕ) → v ≡ set u w n → w < m → Past m u v
mark_past m w n u v e h = rw e (past_set m u w n h)

pub word_low : (w : ℕ) → w < four_bytes → w / 32 < 134217728
word_low w h = omega arith

pub unmark_in : (m p a n : ℕ) (x y u v : List ℕ) → n ≡ get_or x p 0 → n ≡ a → table_in y v ≡ mark m p 0 (table_in x u)
    → table_in y v ≡ unmark m p a (table_in x u)
unfolding unmark
unmark_in m p a n x y u v en ea e = e ∙ sym (simp (eq-eqb (get_or x p 0) a (sym en ∙ ea)))

pub unmark_out : (m p a n : ℕ) (x u : List ℕ) → n ≡ get_or x p 0 → (n ≡ a → ⊥) → table_in x u ≡ unmark m p a (table_in x u)
unfolding unmark
unmark_out m p a n x u en h = sym (simp (ne_eqb (get_or x p 0) a (λ e. h (en ∙ e))))

-- ---- a path; it asks an entry for its page only
pub off_named : (m : ℕ) (r : Nodes) (k a l : ℕ) (e : Entry) (t : Table) → off_path m r k a l e t ≡ off_path m r k a l
    (naming e.addr) t
unfolding off_path
off_named m r k a zero e t = refl
off_named m r k a (suc l) e t = refl

off_step : (m : ℕ) (r : Nodes) (k a l p : ℕ) (t : Table) → 0 < l → a ≤ l + 1
    → off_path m r k a l (naming p) t ≡ off_path m r k a (l - 1) (chosen k (r p (l + 1))) (unmark m p (l + 1) t)
unfolding off_path
off_step m r k a zero p t h i = absurd (omega arith)
off_step m r k a (suc l) p t h i = rw (add-one (suc l), sub-one) (simp (le-leb a (suc (suc l)) (omega arith)))

pub off_stop : (m : ℕ) (r : Nodes) (k a l p : ℕ) (w t : Table) → w ≡ off_path m r k a l (naming p) t → 0 < l → l + 1 < a
    → t ≡ w
unfolding off_path
off_stop m r k a zero p w t e h i = absurd (omega arith)
off_stop m r k a (suc l) p w t e h i = sym (e ∙ simp (lt-leb a (suc (suc l)) (omega arith)))

pub off_go : (m : ℕ) (g : Geometry) (img : List ℕ) (k a l p : ℕ) (e : Entry) (w t o : Table)
    → w ≡ off_path m (node_at g img) k a l (naming p) t
    → e ≡ chosen k (node_at g img p (l + 1)) → o ≡ unmark m p (l + 1) t → 0 < l → a ≤ l + 1
    → w ≡ off_path m (node_at g img) k a (l - 1) (naming e.addr) o
off_go m g img k a l p e w t o ew ee eo h i =
    ew ∙ off_step m (node_at g img) k a l p t h i ∙ rw (← ee, ← eo) (off_named m (node_at g img) k a (l - 1) e o)

pub off_last : (m : ℕ) (r : Nodes) (k a l p : ℕ) (w t o : Table) → w ≡ off_path m r k a l (naming p) t → l ≤ 0 → a ≤ 1
    → o ≡ unmark m p 1 t → o ≡ w
unfolding off_path
off_last m r k a zero p w t o e h i eo = eo ∙ sym (e ∙ simp (le-leb a 1 i))
off_last m r k a (suc l) p w t o e h i eo = absurd (omega arith)

pub off_none : (m : ℕ) (r : Nodes) (k a l p : ℕ) (w t : Table) → w ≡ off_path m r k a l (naming p) t → l ≤ 0 → 1 < a
    → t ≡ w
unfolding off_path
off_none m r k a zero p w t e h i = sym (e ∙ simp (lt-leb a 1 i))
off_none m r k a (suc l) p w t e h i = absurd (omega arith)

pub moved : (m : ℕ) (r : Nodes) (k a l q new : ℕ) (t o z : Table) → o ≡ off_path m r k a l (naming q) t
    → z ≡ mark m new a o
    → z ≡ table_moved m r k a l (naming q) new t
unfolding table_moved
moved m r k a l q new t o z eo ez = ez ∙ rw eo

pub ruleset marks_laws = (put_out, put_at, set_long, mark_in, mark_out, mark_past, word_low, unmark_in, unmark_out, off_stop, off_last, off_none, moved, past_none, past_then)
