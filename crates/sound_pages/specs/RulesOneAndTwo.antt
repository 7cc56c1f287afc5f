-- All laws by which the code of this crate is proved. Assumes nothing.
use Rattle.theory_counts.specs.Scan.{scan_laws}
use Rattle.sound_pages.specs.Codes.{code_laws}
use Rattle.sound_pages.specs.Formed.{formed_laws}
use Rattle.sound_pages.specs.Blocks.{block_laws}

pub ruleset page_laws = (scan_laws, code_laws, formed_laws, block_laws)
