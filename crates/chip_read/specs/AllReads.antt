-- All laws by which the code of this crate is proved. Assumes nothing.
use Rattle.chip_read.specs.Reads.{read_laws}
use Rattle.chip_read.specs.Blank.{blank_laws}
use Rattle.chip_read.specs.Node.{node_laws}
use Rattle.chip_read.specs.Blocks.{block_laws}

pub ruleset chip_laws = (read_laws, blank_laws, node_laws, block_laws)
