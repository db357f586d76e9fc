-- Positions: as far as two have the same line and the same column, they are one.
use Rattle.std.proofs.Common.{◌≡◌, ℕ, Bool, not}
use Rattle.hex_text.specs.declared.position.Position.{Position}
use Rattle.hex_text.specs.Places.{newline}

-- a byte that ends no line
abbrev pub inside : ℕ → Bool
inside b = not (newline b)

pub same : {p q : Position} → p.line ≡ q.line → p.column ≡ q.column → p ≡ q
same e f = λ i. record { line = e i; column = f i }
