-- The halving rule over the table, and what theorems may know of a geometry: linear facts, proved once for each
-- geometry. Assumes nothing.
use Rattle.std.specs.Prelude.{ℕ, zero, suc, ◌+◌, ◌-◌, ◌*◌, ◌<◌, ◌≤◌, Bool, true, false, ◌≡◌, refl, List, [], ◌∷◌, T, eqb, leb, ltb, get_or, length, None, Option, Some}
use Rattle.std.proofs.Common.{ap, subst, lit<, lit≤, ne_eqb, ltb-true, ltb-false, arith, suc-mul, mul-le-mul_right}
use Rattle.std.proofs.Math.Dec.{eqb→eq, leb→le, ltb→lt}
use Rattle.std.proofs.Math.ListN.{get_or-eq_default}
use Rattle.geometry.specs.Tests.{pick}
use Rattle.geometry.specs.Table.{at, every}
use Rattle.geometry.specs.declared.Geometry.{Geometry}
use Rattle.geometry.specs.Geometry.{small, large, plain, chosen_of, slots, page_bytes, halves, code_place, page_base, plain_slots, first_slot, slots_of, half, root_slots, root_most}
use Rattle.geometry.specs.Bounds.{longest_page}

-- the two geometries
pub data Known : Geometry → Type 0 where
  is_small : Known small
  is_large : Known large

-- what holds of a μ-Tree's geometry and its table
pub record Shape (g : Geometry) : Type 0 where
  pub pages_low : 2 ≤ g.pages
  pub pages_high : g.pages ≤ 64
  pub spare_low : 4 + g.top < g.spare
  -- the codes end within the page
  pub code_room : code_place g (halves g) ≤ page_bytes g
  pub top_low : 5 ≤ g.top
  pub top_high : g.top ≤ 7
  pub main_is : g.main ≡ 8 * slots g
  pub slots_high : slots g ≤ 256
  -- the largest number stays below 2^32 - 1 through an update that is not WORN
  pub worn_low : g.worn + (g.top + 1) * g.pages + g.top < 4294967295
  -- a level ends before the next one begins
  pub room : (l : ℕ) → l ≤ g.top → first_slot g l + slots_of g l ≤ slots g
  pub steps : (l : ℕ) → l < g.top → first_slot g l + slots_of g l ≤ first_slot g (suc l)
  -- the slots are even, and a root has twice as many
  pub even : (l : ℕ) → slots_of g l ≡ 2 * half g l
  pub double : (l : ℕ) → 1 ≤ l → l < g.top → root_slots g l ≡ 4 * half g l
  pub some : (l : ℕ) → 1 ≤ l → l < g.top → 2 ≤ half g l
  pub top_none : half g g.top ≡ 0
  pub top_slots : root_slots g g.top ≡ 4
  pub fits : (l : ℕ) → slots_of g l ≤ root_most g l
  pub byte : (l : ℕ) → 1 ≤ l → l ≤ g.top → root_most g l < 256

-- ---- a shape by tests that are computed at each level
unfoldable pub levels : ℕ → List ℕ
levels zero = []
levels (suc n) = 0 ∷ levels n

levels_length : (n : ℕ) → length (levels n) ≡ n
unfolding levels
levels_length zero = refl
levels_length (suc n) = ap suc (levels_length n)

by_lt : {C : Type 0} (a b : ℕ) → (a < b → C) → (b ≤ a → C) → C
by_lt {C} a b f g = go (ltb a b) refl
  where
    go : (t : Bool) → ltb a b ≡ t → C
    go true e = f (ltb-true a b e)
    go false e = g (ltb-false a b e)

pub pred : (l : ℕ) → 1 ≤ l → suc (l - 1) ≡ l
pred l h = omega arith

module _ (g : Geometry) where
  unfoldable pub room_test : ℕ → ℕ → Bool
  room_test l x = leb (first_slot g l + slots_of g l) (slots g)

  unfoldable pub even_test : ℕ → ℕ → Bool
  even_test l x = eqb (slots_of g l) (2 * half g l)

  unfoldable pub most_test : ℕ → ℕ → Bool
  most_test l x = leb (slots_of g l) (root_most g l)

  unfoldable pub byte_test : ℕ → ℕ → Bool
  byte_test l x = ltb (root_most g l) 256

pub here : (f : ℕ → ℕ → Bool) (n l : ℕ) → T (every f 0 (levels n)) → l < n → T (f l (get_or (levels n) l 0))
here f n l y h = at f (levels n) y l (rw (levels_length n) h)

-- at every level, where there are no slots above the table
module _ (g : Geometry) (past : (l : ℕ) → suc g.top ≤ l → slots_of g l ≡ 0) where
  pub even_all : T (every (even_test g) 0 (levels (suc g.top))) → (l : ℕ) → slots_of g l ≡ 2 * half g l
  unfolding even_test
  even_all t l = by_lt l (suc g.top) (λ h. eqb→eq _ _ (here (even_test g) (suc g.top) l t h)) (λ h. let e =
      past l h in rw e refl)

  pub most_all : T (every (most_test g) 0 (levels (suc g.top))) → (l : ℕ) → slots_of g l ≤ root_most g l
  unfolding most_test
  most_all t l = by_lt l (suc g.top) (λ h. leb→le _ _ (here (most_test g) (suc g.top) l t h)) (λ h. let e =
      past l h in omega (arith, e))

-- what holds of the plain tree's geometry too: all that the laws of bytes, stores, next pages and R1 to R6 use. Of
-- `Shape` those of the μ-Tree's updates use also steps, double, some, top_none and top_slots
pub record Core (g : Geometry) : Type 0 where
  pub pages_low : 2 ≤ g.pages
  pub pages_high : g.pages ≤ 64
  pub spare_low : 4 + g.top < g.spare
  pub code_room : code_place g (halves g) ≤ page_bytes g
  pub top_low : 5 ≤ g.top
  pub top_high : g.top ≤ 7
  pub main_is : g.main ≡ 8 * slots g
  pub slots_high : slots g ≤ 256
  pub worn_low : g.worn + (g.top + 1) * g.pages + g.top < 4294967295
  pub room : (l : ℕ) → l ≤ g.top → first_slot g l + slots_of g l ≤ slots g
  pub even : (l : ℕ) → slots_of g l ≡ 2 * half g l
  pub fits : (l : ℕ) → slots_of g l ≤ root_most g l
  pub byte : (l : ℕ) → 1 ≤ l → l ≤ g.top → root_most g l < 256

pub shape_core : (g : Geometry) → Shape g → Core g
shape_core g s = record {
  pages_low = s.pages_low;
  pages_high = s.pages_high;
  spare_low = s.spare_low;
  code_room = s.code_room;
  top_low = s.top_low;
  top_high = s.top_high;
  main_is = s.main_is;
  slots_high = s.slots_high;
  worn_low = s.worn_low;
  room = s.room;
  even = s.even;
  fits = s.fits;
  byte = s.byte;
}

plain_past : (l : ℕ) → 6 ≤ l → slots_of plain l ≡ 0
unfolding slots_of
plain_past l h = get_or-eq_default plain_slots 0 h

pub plain_core : Core plain
unfolding room_test even_test most_test byte_test levels first_slot slots_of root_slots root_most
plain_core = record {
  pages_low = lit≤ tt;
  pages_high = lit≤ tt;
  spare_low = lit< tt;
  code_room = lit≤ tt;
  top_low = lit≤ tt;
  top_high = lit≤ tt;
  main_is = refl;
  slots_high = lit≤ tt;
  worn_low = lit< tt;
  room = λ l h. leb→le _ _ (here (room_test plain) 6 l tt (omega arith));
  even = even_all plain plain_past tt;
  fits = most_all plain plain_past tt;
  byte = λ l i h. ltb→lt _ _ (here (byte_test plain) 6 l tt (omega arith));
}

-- a root of the plain tree holds as many as a node below it: two halves
pub plain_most : (l : ℕ) → 1 ≤ l → l ≤ 5 → root_most plain l ≡ 2 * half plain l
unfolding levels first_slot slots_of root_slots root_most
plain_most l i h = rw (← (pred l i)) (eqb→eq _ _ (here (λ l x. eqb (root_most plain (suc l)) (2 * half plain (suc l))) 5 (l - 1) tt (omega arith)))

pub most_slots : (g : Geometry) (l : ℕ) → root_most g l ≤ root_slots g l
unfolding root_most
most_slots g l = go (eqb g.table 2) (ltb l g.top)
  where
    go : (s t : Bool) → pick s (root_slots g l) (pick t (root_slots g l - 1) (root_slots g l)) ≤ root_slots g l
    go true t = omega arith
    go false true = omega arith
    go false false = omega arith

-- a μ-Tree's geometry has another table
pub halved : (g : Geometry) → Shape g → eqb g.table 2 ≡ false
unfolding first_slot slots_of root_slots
halved g s = ne_eqb g.table 2 (λ e.
    let f : (l : ℕ) → first_slot g l ≡ 0 = λ l. rw e refl in
    let c : slots_of g 1 ≡ 64 = rw e refl in
    let t = s.top_low in
    let r = s.room 1 (omega (arith, t)) in
    let z = s.top_slots in
    let d = f 1 in
    let w = f g.top in
    omega (arith, c, r, z, d, w))

-- the page of the large chip is the longest
pub page_most : (g : Geometry) → Known g → page_bytes g ≤ longest_page
page_most _ is_small = lit≤ tt
page_most _ is_large = lit≤ tt

-- a number below 2 is that of a geometry, and that geometry is known
abbrev geometry_of : Option Geometry → Geometry
geometry_of (Some g) = g
geometry_of None = small

pub chosen_known : (kind : ℕ) (g : Geometry) → chosen_of kind ≡ Some g → Known g
chosen_known zero g e = subst Known (ap geometry_of e) is_small
chosen_known (suc zero) g e = subst Known (ap geometry_of e) is_large
chosen_known (suc (suc kind)) g e = subst Known (ap geometry_of e) is_small

-- pages do not overlap: the one place where theorems open the product
pub base_apart : (g : Geometry) (p q : ℕ) → p < q → page_base g p + page_bytes g ≤ page_base g q
unfolding page_base
base_apart g p q h = rw (← (suc-mul p (page_bytes g))) (mul-le-mul_right (page_bytes g) h)
