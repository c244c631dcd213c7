-- the amplitude that is made of the parts
-- the basis, which does not reach the word's end
use mathlib.Core.Path.{◌≡◌, sym}
use mathlib.Core.Bool.{Bool, false}
use Prim.Native.Nat.{ℕ, ◌+◌, ◌%◌, ◌^◌, ◌<◌}
use native.Mathlib.Omega.{arith}
use lib.Bits.{bit_xor}
use lib.Dec.{eqb}
use lib.Ieee.{Float, nan_bits}
use Rattle.bitlaws.specs.Digit.{bit_of}
use Rattle.bitlaws.specs.Opening.{open_bit}
use Rattle.bitlaws.specs.Parity.{overlap}
use Rattle.statelaws.proofs.Pairs.{low_lt, high_lt}
use Rattle.amplitudelaws.specs.Arithmetic.{mixed, scale, direction}
use Rattle.amplitudelaws.specs.Binary.{binary, Point}
use Rattle.amplitudelaws.specs.State.{state_of, point}
use Rattle.kernels.specs.Kernel.{MeasurementKernel, measurement_kernel_of}
use Rattle.measurement.specs.Measured.{kernel_remaining}
use Rattle.measurement.proofs.Opened.{opened}
use Rattle.measurement.proofs.Leaving.{pivot_low, output_low, mixing_left, mixing_pivoted}
use Rattle.measurement.proofs.Measured.mixture.Goals as goal
use Rattle.measurement.proofs.Measured.mixture.Goals.{After-open_bit-source0}

module _ (K : MeasurementKernel) (v : Bool) (F : ℕ → Point) (j : ℕ) (d : K.diagonal ≡ false)
    (b : ℕ) (o : b ≡ open_bit K.pivot j) (t : Bool) (odd : t ≡ eqb ((bit_of v + overlap b K.action.z) % 2) 1) where
  made : (s : Float) (w p q a : Point) → s ≡ direction binary (bit_of t) → w ≡ scale binary s K.coefficient → p ≡ F b → q ≡ F (bit_xor b K.action.x)
      → a ≡ mixed binary binary.h w p q → a ≡ kernel_remaining K (bit_of v) F j
  made s w p q a es ew ep eq ea = rw (ea, ew, es, ep, eq) (sym (mixing_left K v F j d b o t odd))

basis : (c : After-open_bit-source0) → let a = c.args in c.open_bit-source0.result ≡ open_bit a.self.kernel.pivot a.j
basis c =
    let m = c.args.self.projectable in
    opened c.args.self.kernel.pivot c.args.j (pivot_low m) (output_low m c.args.j c.requires.1) c.open_bit-source0.result c.open_bit-source0.ensures

pub float_from_bits-mixed : goal.float_from_bits-mixed
unfolding nan_bits
float_from_bits-mixed c = tt

pub read-requires : goal.read-requires
read-requires c =
    let low = low_lt (mixing_pivoted c.args.self.projectable c.requires.0) c.args.j c.requires.1 in
    omega (arith, low, basis (goal.at.read-requires c).After-open_bit-source0, c.requires)

pub read-requires-2 : goal.read-requires-2
read-requires-2 c =
    let a = c.args in
    let high : bit_xor c.open_bit-source0.result a.self.kernel.action.xmask < 2 ^ a.self.kernel.action.nqubits
    = rw (basis (goal.at.read-requires-2 c).After-open_bit-source0) (high_lt (mixing_pivoted c.args.self.projectable c.requires.0) a.j c.requires.1) in
    omega (arith, high, c.requires)

pub returns : goal.returns
returns c =
    let a = c.args in
    made (measurement_kernel_of a.self.kernel) a.self.branch (point (state_of a.re.now a.im.now)) a.j c.requires.0
    c.open_bit-source0.result (basis (goal.at.returns c).After-open_bit-source0) c.differs_from_parity-odd.result c.differs_from_parity-odd.ensures
    c.direction.result _ _ _ _
    c.direction.ensures c.scale-w.ensures c.read.ensures c.read-2.ensures c.mixed.ensures
