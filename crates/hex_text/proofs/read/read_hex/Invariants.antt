use Rattle.std.proofs.Common.{◌≡◌, ◌≤◌, drop, vec_items}
use Rattle.hex_text.specs.declared.read.Mode.TheVariants.{Outside}
use Rattle.hex_text.specs.Steps.{Small, digits}
use Rattle.hex_text.specs.Texts.{reading}
use Rattle.hex_text.proofs.Readings.{ahead}
use Rattle.hex_text.proofs.read.read_hex.Given as goal

abbrev pub invariant-loop-offset : goal.invariant-loop-offset
invariant-loop-offset l =
    (reading Outside l.text ≡ ahead (vec_items l.bytes) (reading l.mode (drop l.offset l.text)))
    × Small l.mode × (digits l.mode ≤ l.offset)
