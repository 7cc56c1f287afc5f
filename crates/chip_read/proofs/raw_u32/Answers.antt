use Rattle.std.proofs.Common.{◌≡◌, rules}
use Rattle.model.specs.Bytes.{u32_at}
use Rattle.chip_read.specs.Blank.{u32_full}
use Rattle.chip_read.specs.Reads.{read_laws}
use Rattle.chip_read.proofs.raw_u32.Goals as goal

pub returns-clause-result_value : goal.returns-clause-result_value
returns-clause-result_value c =
    let value : c.from_le_bytes.result ≡ u32_at c.args.img.now c.args.at = search (rules, read_laws) in
    u32_full _ _ _ c.type_inv.img value
