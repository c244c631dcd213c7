-- a parity is the byte of whether it is 1
use mathlib.Core.Path.{◌≡◌, refl, sym, ap, ◌∙◌, subst}
use Prim.Native.Nat.{ℕ, zero, suc, ◌<◌}
use native.Mathlib.Omega.{arith}
use lib.Bits.{bit_and}
use lib.Dec.{eqb}
use mir.Val.{bool_byte}
use Rattle.bitlaws.specs.Parity.{parity, overlap}
use Rattle.bitlaws.proofs.Parity.{parity_lt}
use Rattle.activepauli.proofs.shared.Goals as goal

byte : (n : ℕ) → n < 2 → bool_byte (eqb n 1) ≡ n
byte zero h = refl
byte (suc zero) h = refl
byte (suc (suc n)) h = absurd (omega arith)

pub returns : goal.returns
unfolding overlap
returns c =
    let both = bit_and c.args.a c.args.b in
    let is = c.from.ensures ∙ ap bool_byte c.is_odd_popcount.ensures ∙ byte (parity both) (parity_lt both) in
    (is, subst (λ n. n < 2) (sym is) (parity_lt both))
