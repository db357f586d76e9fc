-- Fields and pairs as the code names them, in the words of the table of opcodes.
use Rattle.book.specs.Book.{service, name, resource, type, start, duration, error, origin}
use Rattle.book.specs.Flush.{Attribute, ◌by◌, S, I, i32, S_S, S_F}
use Rattle.interpret.specs.declared.attributes.FieldName.{FieldName}
use Rattle.interpret.specs.declared.attributes.FieldName.TheVariants.{Service, Resource, Kind, Name, Error, Start, Duration}
use Rattle.operations.specs.declared.values.PairKind.{PairKind}
use Rattle.operations.specs.declared.values.PairKind.TheVariants.{Meta, Metric}

abbrev pub attribute_of : FieldName → Attribute
attribute_of Service = service by S
attribute_of Resource = resource by S
attribute_of Kind = type by S
attribute_of Name = name by S
attribute_of Error = error by i32
attribute_of Start = start by I
attribute_of Duration = duration by I

abbrev pub pair_attribute : PairKind → Attribute
pair_attribute Meta = S_S
pair_attribute Metric = S_F

-- a segment's origin, by a string
abbrev pub origin_attribute : Attribute
origin_attribute = origin by S
