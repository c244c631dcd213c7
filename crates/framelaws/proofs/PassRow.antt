-- Any Pauli taken past any step: which row of the table refuses it, lowest number first, and else what is behind the step. And which rows refuse a Pauli that is to be
-- on so many qubits.
use Rattle.std.specs.Prelude.{refl}
use Rattle.answers.specs.Row.{row, first}
use Rattle.paulilaws.specs.Pauli.{fits}
use Rattle.framelaws.specs.Carrying.{widened}
use Rattle.framelaws.specs.PassRow.{pair_row, widened_row, pass_row, Examples}

-- ---- the numbers by example: where two rows refuse it is the lower

examples : {R : Type 0} (c : R) → Examples c
unfolding pass_row pair_row widened_row row first fits widened
examples c = record {
  carried_first = refl;
  step_second = refl;
  too_wide = refl;
  rotation_widths = refl;
  projection_widths = refl;
  correction_widths = refl;
  quarter_turn_widths = refl;
  pivot = refl;
  no_qubit = refl;
  not_promoted = refl;
  most = refl;
  one_less = refl;
}
