-- What a measurement kernel leaves, by the two kinds of kernel, and where it reads.
use mathlib.Core.Path.{◌≡◌, refl, sym, ap, subst}
use mathlib.Core.Bool.{Bool, true, false, cond}
use Prim.Native.Nat.{ℕ, suc, ◌+◌, ◌-◌, ◌%◌, ◌^◌, ◌≤◌, ◌<◌}
use native.Mathlib.Omega.{arith}
use lib.Bits.{bit_xor}
use lib.Dec.{eqb}
use lib.Ieee.{unlike}
use lib.Pow.{pow_mono}
use Rattle.bitlaws.specs.Digit.{bit_of}
use Rattle.bitlaws.specs.Opening.{open_bit}
use Rattle.bitlaws.specs.Parity.{overlap}
use Rattle.bitlaws.specs.Source.{source}
use Rattle.bitlaws.proofs.Source.{source_lt, source_mod}
use Rattle.statelaws.specs.Pairs.{Pivoted}
use Rattle.amplitudelaws.specs.Arithmetic.{mixed, scale, direction, direction_bit}
use Rattle.amplitudelaws.specs.Binary.{binary, Point}
use Rattle.amplitudelaws.specs.Projection.{remaining_by}
use Rattle.amplitudelaws.specs.State.{State, HasRoom}
use Rattle.kernels.specs.Kernel.{MeasurementKernel}
use Rattle.measurement.specs.Measured.{kernel_remaining, Projectable}

-- the half that is left has room too
pub room_half : (n : ℕ) (S : State) → HasRoom n S → HasRoom (n - 1) S
room_half n S h =
    let less : 2 ^ (n - 1) ≤ 2 ^ n = pow_mono {i = n - 1} {j = n} (omega arith) in
    (omega (arith, h.0), omega (arith, h.1))

-- two bools as digits: whether they differ, and the parity of their sum
differ : (t u : Bool) → bit_of (unlike t u) % 2 ≡ (bit_of t + bit_of u) % 2
differ true true = refl
differ true false = refl
differ false true = refl
differ false false = refl

module _ {K : MeasurementKernel} (m : Projectable K) where
  pub pivot_low : K.pivot ≤ 60
  pivot_low = omega (arith, m.narrow, m.pivoted.inside)

  pub wide : K.action.n ≡ suc (K.action.n - 1)
  wide = omega (arith, m.pivoted.inside)

  module _ (j : ℕ) (h : j < 2 ^ (K.action.n - 1)) where
    pub output_low : j < 2 ^ 60
    output_low = omega (arith, pow_mono {i = K.action.n - 1} {j = 60} (omega (arith, m.narrow)))

    pub source_inside : (e from : ℕ) → from ≡ source K.pivot K.action.z e j → from < 2 ^ K.action.n
    source_inside e from q =
        subst (λ (k : ℕ). from < 2 ^ k) (sym wide)
        (rw q (source_lt K.pivot K.action.z e j (K.action.n - 1) (omega (arith, m.pivoted.inside)) h))

module _ (K : MeasurementKernel) (v : Bool) (F : ℕ → Point) (j : ℕ) where
  -- one basis is read
  pub diagonal_left : K.diagonal ≡ true → kernel_remaining K (bit_of v) F j ≡ F (source K.pivot K.action.z (bit_of (unlike K.minus v)) j)
  unfolding kernel_remaining remaining_by
  diagonal_left d =
      rw d (ap F (source_mod K.pivot K.action.z (bit_of K.minus + bit_of v) (bit_of (unlike K.minus v)) j (sym (differ K.minus v))))

  -- two are mixed, with their coefficient's sign by t
  module _ (d : K.diagonal ≡ false) (b : ℕ) (opened : b ≡ open_bit K.pivot j) (t : Bool) (odd : t ≡ eqb ((bit_of v + overlap b K.action.z) % 2) 1) where
    pub mixing_left : kernel_remaining K (bit_of v) F j ≡ mixed binary binary.h (scale binary (direction binary (bit_of t)) K.coefficient) (F b) (F (bit_xor b K.action.x))
    unfolding kernel_remaining remaining_by
    mixing_left = rw (d, odd, direction_bit binary (bit_of v + overlap b K.action.z), opened)

-- the mask of a kernel that mixes
pub mixing_pivoted : {K : MeasurementKernel} → Projectable K → K.diagonal ≡ false → Pivoted K.action.n K.pivot K.action.x
mixing_pivoted {K} m d = subst (λ (t : Bool). Pivoted K.action.n K.pivot (cond t K.action.z K.action.x)) d m.pivoted
