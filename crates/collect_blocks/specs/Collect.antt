-- A run of stores under an allowance, with what is kept beside the image. Definitions alone; assumes nothing.
use Rattle.std.specs.Prelude.{ℕ, suc, ◌<◌, false, ◌≡◌, List, [], ◌∷◌, length}
use Rattle.geometry.specs.declared.Geometry.{Geometry}
use Rattle.model.specs.Bytes.{erased, node_at}
use Rattle.model.specs.Stores.{erase}
use Rattle.model.specs.Tree.{following}
use Rattle.chip_read.specs.Chip.{naming}
use Rattle.live_words.specs.Words.{words_of, Past}
use Rattle.live_beside.specs.Table.{Table, table_in, table_moved}
use Rattle.open_record.specs.declared.Opened.{Opened}
use Rattle.open_record.specs.Opened.{level_by}
use Rattle.live_beside.specs.Beside.{Held, holding, Beside, beside_by, next_after}
use Rattle.live_beside.specs.Collect.{Run, collect_by}
use Rattle.open_renew.specs.Recording.{record_swept}
use Rattle.chip_store.specs.declared.Budget.{Budget}
use Rattle.chip_store.specs.Run.{Ran}
use Rattle.collect_blocks.specs.declared.Kept.{Kept}
use Rattle.collect_blocks.specs.declared.Swept.{Swept}

-- what is kept beside the image, from its parts
unfoldable pub beside_in : Kept → ℕ → Table → Beside
beside_in h l t = record { root = h.root; most = h.most; level = l; next = h.next; table = t }

-- a run whose stores were made as far as the allowance goes; where all were, the image is the run's, and so is what is
-- kept. The table of levels is as long as before, and the words past the image's stay.
pub record Makes (A : Type 0) (g : Geometry) (n : ℕ) (run : Run A) (b r : Budget) (i o : List ℕ)
    (a : A) (tbl tbl' ws ws' : List ℕ) : Type 0 where
  pub ran : Ran g run.stores b r i o
  pub image : r.stopped ≡ false → o ≡ run.image
  pub kept : r.stopped ≡ false → a ≡ run.kept
  pub long : length tbl' ≡ length tbl
  pub past : Past (words_of g n) ws ws'

-- the same, of what is kept in a sweep with l levels below the root
abbrev pub Sweeps : Geometry → ℕ → ℕ → Run Beside → Budget → Budget → List ℕ → List ℕ → Kept → List ℕ → List ℕ → List ℕ
    → List ℕ → Type 0
Sweeps g n l run b r i o k tbl tbl' ws ws' =
    Makes Beside g n run b r i o (beside_in k l (table_in tbl' ws')) tbl tbl' ws ws'

-- the same, of the record and the table; the record's height is a byte
pub record Clears (g : Geometry) (n : ℕ) (run : Run Held)
    (b : Budget) (r : Swept) (i o tbl tbl' ws ws' : List ℕ) : Type 0 where
  pub made : Makes Held g n run b r.budget i o (holding r.opened (table_in tbl' ws')) tbl tbl' ws ws'
  pub low : r.opened.height < 256

-- what is kept at the start of a sweep, by the record
pub record Begins (g : Geometry) (n : ℕ) (o : Opened) (k : Kept) : Type 0 where
  pub beside : (t : Table) → beside_in k (level_by g o) t ≡ beside_by g n (holding o t)

-- block v erased, and the record then; h the record before the sweep, k what it kept
pub record Wipes (g : Geometry) (n v : ℕ) (h : Opened) (k : Kept) (b : Budget) (r : Swept) (i o : List ℕ) : Type 0 where
  pub ran : Ran g (erase v ∷ []) b r.budget i o
  pub opened : r.opened ≡ record_swept g n h k.root k.most k.next o
  pub low : r.opened.height < 256

-- the tables of an image of n blocks once page q, whose lowest live level is low, is moved by its key; img the image
-- before
pub record Remarks (g : Geometry) (n l q low key : ℕ) (h : Kept) (img tbl tbl' ws ws' : List ℕ) : Type 0 where
  pub first : key ≡ following (node_at g img q low) 0
  pub table : table_in tbl' ws' ≡ table_moved (words_of g n) (node_at g img) key low l (naming h.root) h.next
      (table_in tbl ws)
  pub long : length tbl' ≡ length tbl
  pub past : Past (words_of g n) ws ws'

-- what is kept once the page kept as the next one is programmed; then is the image after
pub record Onward (g : Geometry) (n : ℕ) (then : List ℕ) (h k : Kept) : Type 0 where
  pub root : k.root ≡ h.next
  pub most : k.most ≡ suc h.most
  pub next : k.next ≡ next_after g.pages n (erased g then) h.next

-- a collection from the record h
abbrev pub Collects : Geometry → ℕ → ℕ → ℕ → Budget → Swept → Opened → List ℕ → List ℕ → List ℕ → List ℕ → List ℕ
    → List ℕ → Type 0
Collects g n k m b r h i o tbl tbl' ws ws' =
    Clears g n (collect_by g n k m (holding h (table_in tbl ws)) i) b r i o tbl tbl' ws ws'
