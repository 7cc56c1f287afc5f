-- What each function here answers, law by law. Assumes nothing.
use Rattle.std.specs.Prelude.{ℕ, zero, suc, ◌-◌, ◌*◌, ◌/◌, ◌<◌, ◌≤◌, Bool, false, ◌≡◌, List, T, eqb, leb, ltb, get_or, length, None, Some}
use Rattle.std.proofs.Math.Path.{refl}
use Rattle.std.proofs.Common.{sym, ◌∙◌, Fits, ltb→lt, arith, mul-le-mul_left, lt_of_le_of_lt, le_of_lt}
use Rattle.std.specs.Int.{w64}
use Rattle.std.proofs.Math.ListN.{get_or-eq_default}
use borrow.Author.Tests.{eq-eqb, ne_eqb, lt-ltb, le-ltb, le-leb}
use Rattle.geometry.specs.Tests.{and_true, and_false}
use Rattle.geometry.specs.Table.{at, every}
use Rattle.geometry.specs.declared.Geometry.{Geometry}
use Rattle.geometry.specs.Geometry.{small, large, chosen_of, slots, page_bytes, page_base, small_first, small_slots, large_first, large_slots, plain_slots, by_table, first_slot, slots_of, half, root_slots, root_most, in_table}
use Rattle.geometry.specs.Bounds.{four_bytes}

pub base_below : (p b : ℕ) → p < four_bytes → b < 131072 → p * b < 562949953421312
base_below p b hp hb = lt_of_le_of_lt (mul-le-mul_left p (le_of_lt hb)) (omega arith)

-- the product as the code's multiplication asks for it
pub base_fits : (r s : ℕ) → r < four_bytes → s < 131072 → Fits w64 (r * s)
base_fits r s hr hs = record { fits = omega (arith, base_below r s hr hs) }

pub base_is : (g : Geometry) (p r s : ℕ) → r ≡ p → s ≡ page_bytes g → r * s ≡ page_base g p
unfolding page_base
base_is g p r s e f = rw (e, f)

-- an entry of a table of numbers below 256
low : ℕ → ℕ → Bool
low l x = ltb x 256

below_256 : (xs : List ℕ) → T (every low 0 xs) → (k : ℕ) → k < length xs → get_or xs k 0 < 256
unfolding low
below_256 xs t k h = ltb→lt _ _ (at low xs t k h)

-- the four ways through the table
module _ (g : Geometry) (s b : List ℕ) (l k : ℕ) (e : k ≡ l) where
  in_small : g.table ≡ 0 → get_or s k 0 ≡ by_table g s b l
  in_small f = rw (e, eq-eqb g.table 0 f) refl

  past_small : length s ≤ k → g.table ≡ 0 → 0 ≡ by_table g s b l
  past_small h f = sym (get_or-eq_default s 0 h) ∙ in_small f

  in_large : (g.table ≡ 0 → ⊥) → g.table ≡ 1 → get_or b k 0 ≡ by_table g s b l
  in_large n f = rw (e, ne_eqb g.table 0 n, eq-eqb g.table 1 f) refl

  past_large : length b ≤ k → (g.table ≡ 0 → ⊥) → g.table ≡ 1 → 0 ≡ by_table g s b l
  past_large h n f = sym (get_or-eq_default b 0 h) ∙ in_large n f

in_neither : (g : Geometry) (s b : List ℕ) (l : ℕ) → (g.table ≡ 0 → ⊥) → (g.table ≡ 1 → ⊥) → 0 ≡ by_table g s b l
in_neither g s b l n f = rw (ne_eqb g.table 0 n, ne_eqb g.table 1 f) refl

module _ (g : Geometry) (l k : ℕ) (e : k ≡ l) where
  pub first_small : g.table ≡ 0 → get_or small_first k 0 ≡ first_slot g l
  unfolding first_slot
  first_small f = in_small g small_first large_first l k e f

  pub first_past : 6 ≤ k → g.table ≡ 0 → 0 ≡ first_slot g l
  unfolding first_slot
  first_past h f = past_small g small_first large_first l k e h f

  pub first_large : (g.table ≡ 0 → ⊥) → g.table ≡ 1 → get_or large_first k 0 ≡ first_slot g l
  unfolding first_slot
  first_large n f = in_large g small_first large_first l k e n f

  pub first_beyond : 8 ≤ k → (g.table ≡ 0 → ⊥) → g.table ≡ 1 → 0 ≡ first_slot g l
  unfolding first_slot
  first_beyond h n f = past_large g small_first large_first l k e h n f

pub first_other : (g : Geometry) (l : ℕ) → (g.table ≡ 0 → ⊥) → (g.table ≡ 1 → ⊥) → 0 ≡ first_slot g l
unfolding first_slot
first_other g l n f = in_neither g small_first large_first l n f

no_plain : (g : Geometry) (t : ℕ) → g.table ≡ t → t < 2 → eqb g.table 2 ≡ false
no_plain g t f h = ne_eqb g.table 2 (λ e. omega (arith, e, f, h))

module _ (g : Geometry) (l k : ℕ) (e : k ≡ l) where
  pub slots_small : g.table ≡ 0 → get_or small_slots k 0 ≡ slots_of g l
  unfolding slots_of
  slots_small f = rw (no_plain g 0 f (omega arith)) (in_small g small_slots large_slots l k e f)

  pub slots_past : 6 ≤ k → g.table ≡ 0 → 0 ≡ slots_of g l
  unfolding slots_of
  slots_past h f = rw (no_plain g 0 f (omega arith)) (past_small g small_slots large_slots l k e h f)

  pub slots_large : (g.table ≡ 0 → ⊥) → g.table ≡ 1 → get_or large_slots k 0 ≡ slots_of g l
  unfolding slots_of
  slots_large n f = rw (no_plain g 1 f (omega arith)) (in_large g small_slots large_slots l k e n f)

  pub slots_beyond : 8 ≤ k → (g.table ≡ 0 → ⊥) → g.table ≡ 1 → 0 ≡ slots_of g l
  unfolding slots_of
  slots_beyond h n f = rw (no_plain g 1 f (omega arith)) (past_large g small_slots large_slots l k e h n f)

  pub slots_plain : g.table ≡ 2 → get_or plain_slots k 0 ≡ slots_of g l
  unfolding slots_of
  slots_plain f = rw (e, eq-eqb g.table 2 f) refl

  pub slots_plain_past : 6 ≤ k → g.table ≡ 2 → 0 ≡ slots_of g l
  slots_plain_past h f = sym (get_or-eq_default plain_slots 0 h) ∙ slots_plain f

pub slots_other : (g : Geometry) (l : ℕ) → (g.table ≡ 0 → ⊥) → (g.table ≡ 1 → ⊥) → (g.table ≡ 2 → ⊥)
    → 0 ≡ slots_of g l
unfolding slots_of
slots_other g l n f z = rw (ne_eqb g.table 2 z) (in_neither g small_slots large_slots l n f)

pub first_256 : (k : ℕ) → k < 6 → get_or small_first k 0 < 256
unfolding low
first_256 k h = below_256 small_first tt k h

pub slots_256 : (k : ℕ) → k < 6 → get_or small_slots k 0 < 256
unfolding low
slots_256 k h = below_256 small_slots tt k h

pub first_large_256 : (k : ℕ) → k < 8 → get_or large_first k 0 < 256
unfolding low
first_large_256 k h = below_256 large_first tt k h

pub slots_plain_256 : (k : ℕ) → k < 6 → get_or plain_slots k 0 < 256
unfolding low
slots_plain_256 k h = below_256 plain_slots tt k h

pub slots_large_256 : (k : ℕ) → k < 8 → get_or large_slots k 0 < 256
unfolding low
slots_large_256 k h = below_256 large_slots tt k h

-- the geometry by its number
module _ (kind : ℕ) (g : Geometry) where
  pub chosen_small : g ≡ small → kind ≡ 0 → Some g ≡ chosen_of kind
  chosen_small e z = rw (e, z)

  pub chosen_large : g ≡ large → kind ≡ 1 → Some g ≡ chosen_of kind
  chosen_large e z = rw (e, z)

pub chosen_none : (kind : ℕ) → (kind ≡ 0 → ⊥) → (kind ≡ 1 → ⊥) → None ≡ chosen_of kind
chosen_none zero n f = absurd (n refl)
chosen_none (suc zero) n f = absurd (f refl)
chosen_none (suc (suc kind)) n f = refl

pub half_is : (g : Geometry) (l s : ℕ) → s ≡ slots_of g l → s / 2 ≡ half g l
half_is g l s e = rw e

pub root_none : (g : Geometry) (l a f : ℕ) → a ≡ slots g → f ≡ first_slot g l → a < f → 0 ≡ root_slots g l
unfolding root_slots
root_none g l a f e d h = rw (← e, ← d) (omega arith)

pub root_some : (g : Geometry) (l a f : ℕ) → a ≡ slots g → f ≡ first_slot g l → a - f ≡ root_slots g l
unfolding root_slots
root_some g l a f e d = rw (e, d)

pub most_plain : (g : Geometry) (l s : ℕ) → s ≡ root_slots g l → g.table ≡ 2 → s ≡ root_most g l
unfolding root_most
most_plain g l s e f = rw (e, eq-eqb g.table 2 f) refl

pub most_below : (g : Geometry) (l a b s : ℕ) → (g.table ≡ 2 → ⊥) → s ≡ root_slots g l → a ≡ l → b ≡ g.top → a < b
    → s - 1 ≡ root_most g l
unfolding root_most
most_below g l a b s p e d f h = rw (ne_eqb g.table 2 p, lt-ltb l g.top (rw (← d, ← f) h), e) refl

pub most_none : (g : Geometry) (l a b s : ℕ) → (g.table ≡ 2 → ⊥) → s ≡ root_slots g l → a ≡ l → b ≡ g.top → a < b
    → s ≡ 0 → 0 ≡ root_most g l
most_none g l a b s p e d f h z = (let w : 0 ≡ s - 1 = omega arith in w) ∙ most_below g l a b s p e d f h

pub most_top : (g : Geometry) (l a b s : ℕ) → (g.table ≡ 2 → ⊥) → s ≡ root_slots g l → a ≡ l → b ≡ g.top → b ≤ a
    → s ≡ root_most g l
unfolding root_most
most_top g l a b s p e d f h = rw (ne_eqb g.table 2 p, le-ltb l g.top (rw (← d, ← f) h), e) refl

pub table_zero : (g : Geometry) (l : ℕ) → l ≡ 0 → false ≡ in_table g l
unfolding in_table
table_zero g l e = rw (e, and_false)

pub table_some : (g : Geometry) (l a b : ℕ) → a ≡ l → b ≡ g.top → (l ≡ 0 → ⊥) → leb a b ≡ in_table g l
unfolding in_table
table_some g l a b e f h = rw (e, f, le-leb 1 l (omega arith), and_true)

pub ruleset geometry_laws = (base_below, base_fits, base_is, first_small, first_past, first_large, first_beyond, first_other, slots_small, slots_past, slots_large, slots_beyond, slots_plain, slots_plain_past, slots_plain_256, slots_other, most_plain, first_256, slots_256, first_large_256, slots_large_256, chosen_small, chosen_large, chosen_none, half_is, root_none, root_some, most_below, most_none, most_top, table_zero, table_some)
