use mathlib.Core.Path.{ap}
use Prim.Native.Nat.{ℕ, ◌+◌, ◌^◌, ◌<◌}
use native.Mathlib.Omega.{arith}
use Rattle.amplitudelaws.specs.Binary.{binary, Point}
use Rattle.amplitudelaws.specs.Promotion.{promoted_low}
use Rattle.amplitudelaws.proofs.Promotion.{promoted_high}
use Rattle.amplitudelaws.specs.State.{state_of, point}
use Rattle.promotion.proofs.NewQubit.{half_ahead, half_more, half_all}
use Rattle.complex.specs.Complex.{complex_of}
use Rattle.promotion.proofs.halves.promote.Goals as goal

pub loop-b-preserved : goal.loop-b-preserved
loop-b-preserved c =
    let a = c.args in
    let n = a.nqubits in
    let F : ℕ → Point = point (state_of a.re.now a.im.now) in
    let t = c.loop-b.b in
    let inv = c.loop-b.invariant in
    let h : t < 2 ^ n = omega arith in
    let same = half_ahead inv.1 h in
    let low = promoted_low binary n a.c a.q F t h in
    let high = promoted_high binary n a.c a.q F t in (
      inv.0,
      half_more inv.1 h (state_of c.write-in-loop-b.new.re c.write-in-loop-b.new.im) (complex_of c.scale.result) (complex_of c.times_i.result) _
          (ap (λ (m : ℕ). m + t) inv.0) (cc) (cc) (cc),
    )

pub returns : goal.returns
returns c = half_all c.loop-b.invariant.1 (omega arith)
