-- What an action and the two kernels of a Pauli hold, and what the declared types mean.
use Rattle.std.specs.Prelude.{Bool, true, not, ◌&&◌, ℕ, ◌-◌, ◌^◌, eqb, Float}
use Rattle.std.proofs.Math.Option.{Option, none, some}
use Rattle.bitlaws.specs.Highest.{highest}
use Rattle.bitlaws.specs.Parity.{overlap}
use Rattle.paulilaws.specs.Pauli.{Pauli}
use Rattle.amplitudelaws.specs.Arithmetic.{power, negated}
use Rattle.amplitudelaws.specs.Binary.{binary, Point}
use Rattle.amplitudelaws.specs.Rotation.{rotation_coefficient}
use Rattle.amplitudelaws.specs.Projection.{projection_coefficient}
use Rattle.amplitudelaws.specs.Rows.{pivot_mask}
use Rattle.complex.specs.Complex.{complex_of}
use Rattle.kernels.specs.declared.ActivePauliAction.{ActivePauliAction}
use Rattle.kernels.specs.declared.PrecomputedActivePauliRotationKernel.{PrecomputedActivePauliRotationKernel}
use Rattle.kernels.specs.declared.PrecomputedActivePauliMeasurementKernel.{PrecomputedActivePauliMeasurementKernel}

pub record Action : Type 0 where
  pub n : ℕ
  pub x : ℕ
  pub z : ℕ
  pub even : Point
  pub odd : Point
  pub crossed : Bool

pub record RotationKernel : Type 0 where
  pub action : Action
  pub diagonal : Bool
  pub imaginary : Bool
  pub pair_bit : ℕ
  pub cosine : Float
  pub sine : Float
  pub m : Point

pub record MeasurementKernel : Type 0 where
  pub action : Action
  pub pivot : ℕ
  pub diagonal : Bool
  pub minus : Bool
  pub outputs : ℕ
  pub coefficient : Point

-- the highest set bit of the n lowest, 0 where none is
abbrev pub or_zero : Option ℕ → ℕ
or_zero none = 0
or_zero (some q) = q

unfoldable pub highest_or_zero : ℕ → ℕ → ℕ
highest_or_zero n mask = or_zero (highest n mask)

-- the pivot that is taken where none is given: the highest bit of x, or of z where x is 0
unfoldable pub default_pivot : Pauli → ℕ
default_pivot M = highest_or_zero M.n (pivot_mask M)

unfoldable pub pauli_action : Pauli → Action
pauli_action P = record {
  n = P.n;
  x = P.x;
  z = P.z;
  even = power binary P.k;
  odd = negated binary true (power binary P.k);
  crossed = eqb (overlap P.x P.z) 1;
}

unfoldable pub rotation_kernel : Pauli → Float → Float → RotationKernel
rotation_kernel P c s = record {
  action = pauli_action P;
  diagonal = eqb P.x 0;
  imaginary = not (eqb P.x 0) && eqb P.z 0;
  pair_bit = highest_or_zero P.n P.x;
  cosine = c;
  sine = s;
  m = rotation_coefficient binary P.k s;
}

unfoldable pub measurement_kernel : Pauli → ℕ → MeasurementKernel
measurement_kernel M p = record {
  action = pauli_action M;
  pivot = p;
  diagonal = eqb M.x 0;
  minus = eqb M.x 0 && eqb M.k 2;
  outputs = 2 ^ (M.n - 1);
  coefficient = projection_coefficient binary M.k;
}

-- ---- the declared types

abbrev pub action_of : ActivePauliAction → Action
action_of a = record {
  n = a.nqubits;
  x = a.xmask;
  z = a.zmask;
  even = complex_of a.even_phase;
  odd = complex_of a.odd_phase;
  crossed = a.xz_overlap_odd;
}

abbrev pub rotation_kernel_of : PrecomputedActivePauliRotationKernel → RotationKernel
rotation_kernel_of r = record {
  action = action_of r.action;
  diagonal = r.is_diagonal;
  imaginary = r.uniform_imag_pairs;
  pair_bit = r.pair_bit;
  cosine = r.cos_kernel_angle;
  sine = r.sin_kernel_angle;
  m = complex_of r.minus_even_coefficient;
}

abbrev pub measurement_kernel_of : PrecomputedActivePauliMeasurementKernel → MeasurementKernel
measurement_kernel_of r = record {
  action = action_of r.action;
  pivot = r.pivot;
  diagonal = r.is_diagonal;
  minus = r.diagonal_phase_bit;
  outputs = r.out_dim;
  coefficient = complex_of r.nondiagonal_coefficient1_even;
}
