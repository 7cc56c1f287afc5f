use Rattle.call_export.specs.Exports.{line_bytes}
use Rattle.call_export.proofs.put_record.Goals as goal

pub returns-clause-bytes : goal.returns-clause-bytes
returns-clause-bytes c =
    let one = c.put_value-tab.ensures in
    let two = c.put_value-end.ensures in
    line_bytes _ _ _ _ one.place.0 two.place.0 _ _ _ _ _ one.bytes c.put_byte.ensures two.bytes c.put_byte-2.ensures
