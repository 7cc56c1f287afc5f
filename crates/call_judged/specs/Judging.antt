-- A call that is judged first, in the form in which the code has the premises: `rest` is what a sound image gives.
-- Assumes nothing.
use Rattle.std.specs.Prelude.{ℕ, ◌*◌, ◌≤◌, ◌≡◌, List, length}
use Rattle.std.proofs.Math.Path.{sym}
use Rattle.std.proofs.Common.{◌∙◌, arith}
use Rattle.geometry.specs.declared.Geometry.{Geometry}
use Rattle.geometry.specs.Findings.{Sound, broken_at}
use Rattle.model.specs.Image.{chip_of}
use Rattle.model.specs.Rules.{verdict}
use Rattle.model.specs.Calls.{by_verdict, judged}
use Rattle.chip_read.specs.Chip.{good_blocks}
use Rattle.chip_read.specs.Blocks.{none_good, some_good, some_blocks}
use Rattle.live_walk.specs.Table.{Marked}
use Rattle.sound_verdict.specs.declared.Judgement.{Judgement}
use Rattle.sound_verdict.specs.Verdict.{Roomy, Judged}

-- an image of n blocks, in a call of any kind
module _ {A : Type 0} (g : Geometry) (n : ℕ) (img : List ℕ)
    (broken : ℕ → ℕ → A) (rest : A) (j : Judgement) (t u : List ℕ) (x : Judged g n img j t u) where
  pub judged_broken : (o : A) (r p : ℕ) → j.verdict ≡ broken_at r p → o ≡ broken r p
      → o ≡ by_verdict (verdict g n img) broken rest
  unfolding by_verdict
  judged_broken o r p e h = h ∙ sym (simp (← x.verdict, e))

  pub judged_rest : (o : A) → o ≡ rest → j.verdict ≡ Sound → o ≡ by_verdict (verdict g n img) broken rest
  unfolding by_verdict
  judged_rest o h e = h ∙ sym (simp (← x.verdict, e))

-- a sound image's judgement leaves the table of its live pages, which has a place for each page
pub judged_marked : (g : Geometry) (n : ℕ) (img : List ℕ) (j : Judgement) (t u : List ℕ) → Judged g n img j t u
    → j.verdict ≡ Sound → Marked (chip_of g n img) u
judged_marked g n img j t u x e = x.table.marked e

pub judged_room : (g : Geometry) (n : ℕ) (img : List ℕ) (j : Judgement) (t u : List ℕ) → Judged g n img j t u
    → Roomy g n (length t) → g.pages * n ≤ length u
judged_room g n img j t u x h = omega (arith, h.room, x.same)

module _ {A : Type 0} (g : Geometry) (img : List ℕ) (short : A) (broken : ℕ → ℕ → A) (rest : A) (n : ℕ) (en : n
    ≡ good_blocks g img) where
  pub judged_length : n ≡ 0 → short ≡ judged g img short broken rest
  unfolding judged
  judged_length z = sym (simp (none_good g img n en z))

  pub judged_blocks : (o : A) → (n ≡ 0 → ⊥) → o ≡ by_verdict (verdict g n img) broken rest
      → o ≡ judged g img short broken rest
  unfolding judged
  judged_blocks o h e = e ∙ sym (simp (some_good g img n en h, ← (some_blocks g img n en h)))
