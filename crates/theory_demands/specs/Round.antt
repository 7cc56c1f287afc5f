-- Request 2 on a sound image: "the choice starts after the block that holds the page with the largest sequence number
-- and goes round past the end to the start; the first wholly erased block met is taken". Assumes nothing.
use Rattle.std.specs.Prelude.{◌≡◌, List, false, ℕ, ◌<◌}
use Rattle.geometry.specs.declared.Geometry.{Geometry}
use Rattle.geometry.specs.Shape.{Shape, shape_core}
use Rattle.model.specs.Bytes.{erased}
use Rattle.model.specs.Image.{blocks_of, pages_of, seq_of, chip_of}
use Rattle.model.specs.Next.{mixed, ahead}
use Rattle.theory_counts.specs.Peak.{arg_less}
use Rattle.theory_chips.specs.Next.{Wholly, First, next_first}
use Rattle.theory_chips.specs.Whole.{some_page}
use Rattle.theory_demands.specs.Words.{Ready}
use Rattle.theory_demands.specs.Bridges.{some_pages, ready_keeps}

-- no block is partly programmed, and block c is wholly erased: a wholly erased block is taken, and it is met no later
-- than c
pub first_block_met : (g : Geometry) → Shape g → (img : List ℕ) → Ready g img
    → ((b : ℕ) → b < blocks_of g img → mixed g.pages (erased g img) b ≡ false)
    → (c : ℕ) → c < blocks_of g img → Wholly g.pages (erased g img) c
    → First g.pages (blocks_of g img) (ahead g (blocks_of g img) (chip_of g (blocks_of g img) img)) c
first_block_met g shape img ready none c q h =
    next_first g.pages (blocks_of g img) (ahead g (blocks_of g img) (chip_of g (blocks_of g img) img)) (some_page g (shape_core g shape))
    (ready_keeps g shape img ready).held.whole.r2 none (arg_less (seq_of g img) (pages_of g (blocks_of g img)) (some_pages g shape img ready)) c q h
