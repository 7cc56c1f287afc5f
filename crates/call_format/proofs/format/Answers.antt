use Rattle.std.proofs.Common.{rules}
use Rattle.call_format.specs.Formats.{format_laws}
use Rattle.call_format.proofs.format.Goals as goal

pub returns : goal.returns
returns c = search (rules, format_laws)
