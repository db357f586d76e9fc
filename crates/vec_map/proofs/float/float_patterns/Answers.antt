use Rattle.std.proofs.Common.{◌≡◌, ℕ, true, false, sym, refl, ◌∙◌, arith}
use lib.Ieee.{Float, nan, inf, fin, is_nan, to_bits, of_bits, of_fields, odd, size, binary64}
use lib.Ieee.Bits.{nan_bits_is}
use Rattle.vec_map.proofs.float.float_patterns.Goals as goal

false≢true : false ≡ true → ⊥
false≢true e = let z : ◌≡◌ {A = ℕ} 0 1 = cc in omega arith

one_pattern : (x : Float) → is_nan x ≡ true → to_bits binary64 x ≡ 0x7ff8_0000_0000_0000
unfolding to_bits is_nan
one_pattern nan e = refl
one_pattern (inf s) e = absurd (false≢true e)
one_pattern (fin s m k) e = absurd (false≢true e)

pub returns : goal.returns
unfolding to_bits of_bits of_fields odd size
returns c = (λ bits n. one_pattern (of_bits binary64 bits) (sym (nan_bits_is binary64 bits) ∙ n), refl, refl)
