-- What a quarter turn of P is: in its rows and in what it leaves the rotation of P with sign 0 whose c and s are both h. But a Pauli goes past
-- it otherwise: the step stays, and where they anticommute the Pauli becomes another.
use Rattle.std.specs.Prelude.{refl}
use Rattle.std.proofs.Common.{sym, ◌∙◌}
use Rattle.answers.specs.Row.{row, first, first_nothing}
use Rattle.paulilaws.specs.Pauli.{Pauli}
use Rattle.amplitudelaws.specs.Rows.{widest_kernel, hermitian_row, rotation_kernel_row}
use Rattle.amplitudelaws.specs.Step.{width_after}
use Rattle.amplitudelaws.specs.Acting.{acts}
use Rattle.framelaws.specs.Rows.{step_row, rotation_step_row}
use Rattle.framelaws.specs.Carrying.{turned_by, turned_past, carried_step, passed}
use Rattle.framelaws.specs.Memory.{stepped}
use Rattle.framelaws.specs.Survey.{mixed_amplitudes}
use Rattle.framelaws.specs.QuarterTurn.{QuarterTurn, root_unit}

pub quarter_turn_is : (P : Pauli) → QuarterTurn P
unfolding step_row rotation_step_row rotation_kernel_row row acts stepped width_after mixed_amplitudes carried_step passed turned_past turned_by
quarter_turn_is P = record {
  rows = λ caller n. let own = hermitian_row widest_kernel P in sym (rw root_unit (first_nothing (first own 0) ∙ first_nothing own));
  amplitudes = λ A n F. refl;
  buffers = λ n m. refl;
  width = λ n. refl;
  scratch = λ n. refl;
  stays = λ Q. refl;
  becomes = λ Q odd. rw odd;
  passes = λ Q none. rw none;
}
