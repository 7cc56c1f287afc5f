-- Collection by what is kept beside the image makes the model's stores ("every victim, store and answer is the same as
-- before"), and record and table stay those worked out afresh. Assumes nothing.
use Rattle.std.specs.Prelude.{◌≡◌}
use Rattle.std.proofs.Math.Path.{subst}
use mathlib.Core.List.{List}
use Prim.Native.Nat.{ℕ, ◌*◌}
use Rattle.geometry.specs.declared.Geometry.{Geometry}
use Rattle.model.specs.Bytes.{erased}
use Rattle.model.specs.Image.{chip_of}
use Rattle.model.specs.Tree.{places_of, live}
use Rattle.model.specs.Next.{full}
use Rattle.model.specs.Stores.{Store, apply_all}
use Rattle.model.specs.Collect.{lives_in, the_victim}
use Rattle.theory_chips.specs.Blocks.{victim_alike}
use Rattle.live_words.specs.Words.{block_words, block_ones}
use Rattle.live_words.specs.Ones.{block_ones_lem}
use Rattle.live_beside.specs.Table.{Table, Right}
use Rattle.open_record.specs.Opened.{opened_in}
use Rattle.live_beside.specs.Beside.{Held as Kept}
use Rattle.live_beside.specs.Collect.{Run, victim_by}

-- what is kept tells of an image: its record, and a right table
pub record Tells (g : Geometry) (n : ℕ) (img : List ℕ) (h : Kept) : Type 0 where
  pub at_is : h.at ≡ opened_in g n img
  pub right : Right g n img h.table

-- a run is the stores ss from the image img, and what is then kept tells of the image that is left
pub record Same {A : Type 0} (g : Geometry) (P : List ℕ → A → Type 0) (img : List ℕ) (ss : List Store)
    (r : Run A) : Type 0 where
  pub stores_are : r.stores ≡ ss
  pub image_is : r.image ≡ apply_all g ss img
  pub tells : P r.image r.kept

-- the tells of a run, of the image that the stores leave
pub same_tells : {A : Type 0} (g : Geometry) (P : List ℕ → A → Type 0) (img : List ℕ) (ss : List Store) (r : Run A)
    → Same g P img ss r
    → P (apply_all g ss img) r.kept
same_tells g P img ss r s = subst (λ j. P j r.kept) s.image_is s.tells

-- the victim by the words
pub victim_same : (g : Geometry) (n : ℕ) (img : List ℕ) (t : Table) → g.pages ≡ 32 * block_words g → Right g n img t
    → victim_by g n t img ≡ the_victim g.pages n (chip_of g n img)
victim_same g n img t e r = victim_alike (full g.pages (erased g img)) (λ b. block_ones g t.words b) (λ b. lives_in g.pages b (chip_of g n img)) n
    (block_ones_lem g (live (places_of (chip_of g n img))) n t.words e r.told)
