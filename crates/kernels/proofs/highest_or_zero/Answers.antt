use mathlib.Core.Path.{◌≡◌, refl, ap, ◌∙◌}
use Prim.Native.Nat.{ℕ}
use Rattle.std.specs.Prelude.{Option, Some, None, unwrap_or}
use Rattle.refusals.specs.Optional.{option_of}
use Rattle.kernels.specs.Kernel.{or_zero, highest_or_zero}
use Rattle.kernels.proofs.highest_or_zero.Goals as goal

none_zero : (o : Option ℕ) → unwrap_or o 0 ≡ or_zero (option_of o)
none_zero None = refl
none_zero (Some q) = refl

pub returns : goal.returns
unfolding highest_or_zero
returns c = c.unwrap_or.ensures ∙ none_zero c.highest_bit.result ∙ ap or_zero c.highest_bit.ensures
