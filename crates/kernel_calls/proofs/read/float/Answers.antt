-- `kernel_calls::read::float` is safe: a word that is read as it stands is no NaN's pattern.
use mathlib.Core.Path.{subst⁻¹}
use Rattle.std.proofs.Common.{Bool, not, T}
use lib.Ieee.{nan_bits}
use Rattle.kernel_calls.proofs.read.float.Goals as goal

pub float_from_bits-result : goal.float_from_bits-result
unfolding nan_bits
float_from_bits-result c = subst⁻¹ (λ (t : Bool). T (not t)) c.if-exponent-bits.false tt
