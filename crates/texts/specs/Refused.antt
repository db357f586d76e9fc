-- The refusal to make a text: its number and its values.
use Rattle.std.specs.Prelude.{ℕ, List, []}
use Rattle.texts.specs.declared.error.NoSuchText.{NoSuchText}

abbrev pub told : NoSuchText → ℕ × List ℕ
told e = (15, [])
