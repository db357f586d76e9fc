-- A row of the code's table as a row of the table.
use Rattle.std.specs.Prelude.{Bool, List}
use Rattle.decode.specs.declared.operand.Field.{Field}
use Rattle.decode.specs.declared.table.Row.{Row}
use Rattle.decode.specs.declared.table.Row.TheVariants.{Each, Once}
use Rattle.decode.specs.Table.{each, once}

abbrev pub shown : Row → Bool × List Field
shown (Once fields) = once fields.now
shown (Each fields) = each fields.now
