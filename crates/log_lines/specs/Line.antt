-- What a line of a log is read as: words for the cases of an Option. Definitions alone; assumes nothing.
use Rattle.std.specs.Prelude.{Option, Some, None}
use Rattle.log_lines.specs.declared.Order.{Order}

abbrev pub Line : Type 0
Line = Option Order

pattern abbrev pub Of : Order → Line
Of order = Some order

-- a line of any other form
pattern abbrev pub Other : Line
Other = None
