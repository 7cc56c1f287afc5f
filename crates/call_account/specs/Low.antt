-- What the code asks of a chip of a known geometry, and that the pages to come are numbers of 32 bits. Assumes nothing.
use Rattle.std.specs.Prelude.{ℕ, zero, suc, ◌+◌, ◌*◌, ◌/◌, ◌%◌, ◌<◌, ◌≤◌, min, Bool, true, false, List, eqb, ltb}
use Rattle.std.proofs.Common.{arith, mul-le-mul_left, mul-le-mul_right}
use Rattle.std.proofs.Math.Nat.{min-le_left}
use Rattle.geometry.specs.declared.Geometry.{Geometry}
use Rattle.geometry.specs.Tests.{pick, ◌&◌}
use Rattle.geometry.specs.Shape.{Known, page_most}
use Rattle.model.specs.Bytes.{erased}
use Rattle.model.specs.Count.{any, least}
use Rattle.model.specs.Next.{round, after}
use Rattle.theory_counts.specs.Least.{least_most}
use Rattle.open_record.specs.declared.Opened.{Opened}
use Rattle.live_beside.specs.Beside.{next_after, page_from, page_by}
use Rattle.live_beside.specs.Update.{sides_by}
use Rattle.call_account.specs.Account.{Sized}
use Rattle.call_account.specs.Lent.{known_pages, known_top}

round_most : (n b : ℕ) (f : ℕ → Bool) → round n b f ≤ n
unfolding round
round_most n b f = go (any n (λ i. ltb b i & f i))
  where
    go : (t : Bool) → pick t (least n (λ i. ltb b i & f i)) (least n f) ≤ n
    go true = least_most (λ i. ltb b i & f i) n
    go false = least_most f n

after_most : (p n : ℕ) (er : ℕ → Bool) (x y : ℕ) → x ≤ y → p * n ≤ y → next_after p n er x ≤ suc y
unfolding next_after
after_most p n er x y h k = go (eqb (suc x % p) 0)
  where
    go : (t : Bool) → pick t (p * round n (x / p) (λ b. er (p * b + 0))) (suc x) ≤ suc y
    go true = omega (arith, mul-le-mul_left p (round_most n (x / p) (λ b. er (p * b + 0))), k)
    go false = omega arith

from_most : (p n i : ℕ) (er : ℕ → Bool) (x y : ℕ) → x ≤ y → p * n ≤ y → page_from p n er x i ≤ y + i
unfolding page_from
from_most p n zero er x y h k = omega arith
from_most p n (suc i) er x y h k =
    let w : page_from p n (after x er) (next_after p n (after x er) x) i ≤ suc y + i =
    from_most p n i (after x er) (next_after p n (after x er) x) (suc y) (after_most p n (after x er) x y h k) (omega arith) in
    omega (arith, w)

module _ (g : Geometry) (n : ℕ) (i : List ℕ) (o : Opened) (sized : Sized g n) where
  -- the first 256 pages to come
  pub page_low : (j : ℕ) → j ≤ 256 → page_by g n i o j < 4294967295
  page_low j h = omega (
    arith,
    from_most g.pages n j (erased g i) (min (g.pages * n) o.next)
        (g.pages * n) (min-le_left (g.pages * n) o.next) (omega arith),
    sized.pages,
    h,
  )

  -- the pages of the first 256 levels
  pub side_low : (m : ℕ) → m ≤ 256 → sides_by g n i o m < 4294967295
  side_low zero h = page_low 0 (omega arith)
  side_low (suc m) h = page_low m (omega arith)

pub known_sized : (g : Geometry) (n : ℕ) → Known g → n ≤ 1024 → Sized g n
known_sized g n known few =
    let y = mul-le-mul_left g.pages few in
    let z = mul-le-mul_right 1024 (known_pages g known) in
    record { top = known_top g known; page = page_most g known; pages = omega (arith, y, z) }
