-- The letters as Nielsen and Chuang print them: what I, X, Y and Z on one qubit do to |0> and |1>.
use Rattle.std.specs.Prelude.{refl}
use Rattle.std.specs.Int.Count.{ones}
use Rattle.bitlaws.specs.Digit.{digit, put}
use Rattle.bitlaws.specs.Parity.{parity, overlap}
use Rattle.paulilaws.specs.Letter.{letter_at, with_letter}
use Rattle.paulilaws.specs.Action.{on_ket}
use Rattle.paulilaws.specs.Printed.{sent, Printed}

pub printed : Printed
unfolding sent on_ket with_letter letter_at digit put overlap parity ones
printed = record { i_zero = refl; i_one = refl; x_zero = refl; x_one = refl; y_zero = refl; y_one = refl; z_zero = refl; z_one = refl }
