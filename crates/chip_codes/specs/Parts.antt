-- The 256 bytes of a half that an image does not have whole, copied: a byte outside the image reads as 0. Assumes
-- nothing.
use Rattle.std.specs.Prelude.{◌≡◌, List, ℕ, ◌+◌, ◌<◌, ◌≤◌, length, set}
use Rattle.std.proofs.Common.{sym, ◌∙◌, zero-add, arith, get_or-set_same, get_or-set_other}
use Rattle.std.proofs.Math.Decide.{ℕ_discrete}
use Rattle.std.proofs.Math.ListN.{get_or-eq_default}
use Rattle.model.specs.Bytes.{byte_at}
use Rattle.model.specs.Codes.{fresh_code}
use Rattle.theory_codes.specs.Repairs.{fresh_same}
use Rattle.theory_codes.specs.Written.{fresh_below}

-- the first n bytes of the part are those of the image from `at` on
unfoldable pub Copied : List ℕ → ℕ → List ℕ → ℕ → Type 0
Copied img at part n = (k : ℕ) → k < n → byte_at part k ≡ byte_at img (at + k)

pub byte_past : (img : List ℕ) (at : ℕ) → length img ≤ at → 0 ≡ byte_at img at
byte_past img at h = sym (get_or-eq_default img 0 h)

pub copied_none : (img : List ℕ) (at : ℕ) (part : List ℕ) → Copied img at part 0
unfolding Copied
copied_none img at part k h = absurd (omega arith)

pub copied_more : (img : List ℕ) (at : ℕ) (part : List ℕ) (n b : ℕ) → Copied img at part n → b ≡ byte_at img (at + n)
    → n < length part
    → Copied img at (set part n b) (n + 1)
unfolding Copied
copied_more img at part n b c e h k l = elim (ℕ_discrete k n) [
  | yes q ↦ rw q (get_or-set_same part n b 0 h ∙ e)
  | no q ↦ get_or-set_other part n k b 0 q ∙ c k (omega arith)
]

pub copied_all : (img : List ℕ) (at : ℕ) (part : List ℕ) (n : ℕ) → Copied img at part n → n ≤ 256 → 256 ≤ n
    → Copied img at part 256
copied_all img at part n c h k = let e : n ≡ 256 = omega arith in rw e at c

pub copied_code : (img : List ℕ) (at : ℕ) (part : List ℕ) (r : ℕ) → Copied img at part 256 → r ≡ fresh_code part 0
    → r ≡ fresh_code img at
unfolding Copied
copied_code img at part r c e = e ∙ fresh_same img part at 0 (λ i h. rw zero-add (c i h))

pub code_below : (img : List ℕ) (at r : ℕ) → r ≡ fresh_code img at → r < 16777216
code_below img at r e = rw e (fresh_below img at)

pub ruleset part_laws = (byte_past, copied_none, copied_all, copied_code, code_below)
