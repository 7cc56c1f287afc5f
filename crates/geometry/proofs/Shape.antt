-- The halving rule over the table, and what theorems may know of a geometry: linear facts, proved once for each
-- geometry. Assumes nothing.
use Rattle.std.specs.Prelude.{ℕ, suc, ◌+◌, ◌-◌, ◌*◌, ◌/◌, ◌^◌, ◌<◌, ◌≤◌, Bool, ◌≡◌, refl, T, eqb, leb, ltb}
use Rattle.std.proofs.Common.{lit<, lit≤, arith}
use Rattle.std.proofs.Math.Dec.{eqb→eq, leb→le, ltb→lt}
use Rattle.std.proofs.Math.ListN.{get_or-eq_default}
use Rattle.geometry.specs.Table.{at, every}
use Rattle.geometry.specs.declared.Geometry.{Geometry}
use Rattle.geometry.specs.Geometry.{small, large, slots, page_bytes, halves, code_place, small_first, small_slots, large_first, large_slots, first_slot, slots_of, half, root_slots, root_most}
use Rattle.geometry.specs.Shape.{Known, Shape, byte_test, even_all, even_test, here, is_large, is_small, levels, most_all, most_test, pred, room_test}

-- "The first slot of level l is 64 − 64/2^(l−1)", with 256 for 64 on the large chip, over each table once
rule : ℕ → ℕ → ℕ → Bool
rule s l x = eqb x (s - s / 2 ^ (l - 1))

halving_small : (l : ℕ) → l ≤ 5 → first_slot small l ≡ slots small - slots small / 2 ^ (l - 1)
unfolding first_slot rule
halving_small l h = eqb→eq _ _ (at (rule 64) small_first tt l (omega arith))

halving_large : (l : ℕ) → l ≤ 7 → first_slot large l ≡ slots large - slots large / 2 ^ (l - 1)
unfolding first_slot rule
halving_large l h = eqb→eq _ _ (at (rule 256) large_first tt l (omega arith))

pub halving : (g : Geometry) → Known g → (l : ℕ) → l ≤ g.top → first_slot g l ≡ slots g - slots g / 2 ^ (l - 1)
halving _ is_small l h = halving_small l h
halving _ is_large l h = halving_large l h

module _ (g : Geometry) where
  steps_test : ℕ → ℕ → Bool
  steps_test l x = leb (first_slot g l + slots_of g l) (first_slot g (suc l))

  double_test : ℕ → ℕ → Bool
  double_test l x = eqb (root_slots g (suc l)) (4 * half g (suc l))

  some_test : ℕ → ℕ → Bool
  some_test l x = leb 2 (half g (suc l))

-- the tests, each at levels 0 to top, below top, or 1 to below top
record Tested (g : Geometry) : Type 0 where
  room : T (every (room_test g) 0 (levels (suc g.top)))
  steps : T (every (steps_test g) 0 (levels g.top))
  even : T (every (even_test g) 0 (levels (suc g.top)))
  double : T (every (double_test g) 0 (levels (g.top - 1)))
  some : T (every (some_test g) 0 (levels (g.top - 1)))
  most : T (every (most_test g) 0 (levels (suc g.top)))
  byte : T (every (byte_test g) 0 (levels (suc g.top)))
  -- no slots above the table
  past : (l : ℕ) → suc g.top ≤ l → slots_of g l ≡ 0

-- the facts of the numbers
record Numbers (g : Geometry) : Type 0 where
  pages_low : 2 ≤ g.pages
  pages_high : g.pages ≤ 64
  spare_low : 4 + g.top < g.spare
  code_room : code_place g (halves g) ≤ page_bytes g
  top_low : 5 ≤ g.top
  top_high : g.top ≤ 7
  main_is : g.main ≡ 8 * slots g
  slots_high : slots g ≤ 256
  worn_low : g.worn + (g.top + 1) * g.pages + g.top < 4294967295
  top_none : half g g.top ≡ 0
  top_slots : root_slots g g.top ≡ 4

module _ (g : Geometry) (x : Numbers g) (t : Tested g) where
  shape_by : Shape g
  unfolding room_test steps_test double_test some_test byte_test
  shape_by = record {
    pages_low = x.pages_low;
    pages_high = x.pages_high;
    spare_low = x.spare_low;
    code_room = x.code_room;
    top_low = x.top_low;
    top_high = x.top_high;
    main_is = x.main_is;
    slots_high = x.slots_high;
    worn_low = x.worn_low;
    room = λ l h. leb→le _ _ (here (room_test g) (suc g.top) l t.room (omega arith));
    steps = λ l h. leb→le _ _ (here (steps_test g) g.top l t.steps h);
    even = even_all g t.past t.even;
    double = λ l i h. rw (← (pred l i)) (eqb→eq _ _ (here (double_test g) (g.top - 1) (l - 1) t.double (omega arith)));
    some = λ l i h. rw (← (pred l i)) (leb→le _ _ (here (some_test g) (g.top - 1) (l - 1) t.some (omega arith)));
    top_none = x.top_none;
    top_slots = x.top_slots;
    fits = most_all g t.past t.most;
    byte = λ l i h. ltb→lt _ _ (here (byte_test g) (suc g.top) l t.byte (omega arith));
  }

small_numbers : Numbers small
unfolding first_slot slots_of root_slots
small_numbers = record {
  pages_low = lit≤ tt;
  pages_high = lit≤ tt;
  spare_low = lit< tt;
  code_room = lit≤ tt;
  top_low = lit≤ tt;
  top_high = lit≤ tt;
  main_is = refl;
  slots_high = lit≤ tt;
  worn_low = lit< tt;
  top_none = refl;
  top_slots = refl;
}

small_past : (l : ℕ) → 6 ≤ l → slots_of small l ≡ 0
unfolding slots_of
small_past l h = get_or-eq_default small_slots 0 h

small_tested : Tested small
unfolding room_test steps_test even_test double_test some_test most_test byte_test levels first_slot slots_of root_slots root_most
small_tested = record { room = tt; steps = tt; even = tt; double = tt; some = tt; most = tt; byte = tt; past = small_past }

pub small_shape : Shape small
small_shape = shape_by small small_numbers small_tested

large_numbers : Numbers large
unfolding first_slot slots_of root_slots
large_numbers = record {
  pages_low = lit≤ tt;
  pages_high = lit≤ tt;
  spare_low = lit< tt;
  code_room = lit≤ tt;
  top_low = lit≤ tt;
  top_high = lit≤ tt;
  main_is = refl;
  slots_high = lit≤ tt;
  worn_low = lit< tt;
  top_none = refl;
  top_slots = refl;
}

large_past : (l : ℕ) → 8 ≤ l → slots_of large l ≡ 0
unfolding slots_of
large_past l h = get_or-eq_default large_slots 0 h

large_tested : Tested large
unfolding room_test steps_test even_test double_test some_test most_test byte_test levels first_slot slots_of root_slots root_most
large_tested = record { room = tt; steps = tt; even = tt; double = tt; some = tt; most = tt; byte = tt; past = large_past }

pub large_shape : Shape large
large_shape = shape_by large large_numbers large_tested

pub shape : (g : Geometry) → Known g → Shape g
shape _ is_small = small_shape
shape _ is_large = large_shape
