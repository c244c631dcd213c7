use mathlib.Core.Path.{◌≡◌, sym, ap, ap₂, ◌∙◌}
use Prim.Native.Nat.{ℕ, ◌+◌, ◌*◌, ◌%◌}
use native.Mathlib.Nat.{le_refl, mod-mod}
use native.Mathlib.Omega.{arith}
use lib.Bits.{bit_xor, xor_zero_r}
use Rattle.bitlaws.specs.Parity.{overlap}
use Rattle.amplitudelaws.specs.Arithmetic.{times_power}
use Rattle.amplitudelaws.specs.Binary.{binary, Point}
use Rattle.amplitudelaws.specs.Correction.{corrected}
use Rattle.amplitudelaws.specs.State.{state_of, point}
use Rattle.amplitudelaws.specs.Sweeping.{one_ahead, one_more}
use Rattle.amplitudelaws.proofs.Sweeping.{one_all}
use Rattle.correction.proofs.Pulse.correct_alone.Goals as goal

pub loop-b-preserved : goal.loop-b-preserved
unfolding corrected
loop-b-preserved c =
    let P = c.args.self.pauli in
    let inv = c.loop-b.invariant in
    let b = c.loop-b.b in
    let same : bit_xor b P.x ≡ b = ap (bit_xor b) c.requires.0 ∙ xor_zero_r b in
    let F : ℕ → Point = point (state_of c.args.re.now c.args.im.now) in (
      inv.0,
      one_more inv.1 _ _ c.write.ensures (omega arith)
          (c.times_power.ensures
          ∙ ap₂ (times_power binary) (ap (λ (e : ℕ). e % 4) c.exponent-turns.ensures ∙ mod-mod _ 4) (c.read-p.ensures ∙ one_ahead inv.1 b (le_refl b))
          ∙ ap (λ (from : ℕ). times_power binary ((P.phase + 2 * overlap from P.z) % 4) (F from)) (sym same)),
    )

pub returns : goal.returns
returns c = one_all c.loop-b.invariant.1 (omega arith)
