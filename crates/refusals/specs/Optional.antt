-- An optional value of the code as one of the laws.
use Rattle.std.specs.Prelude as code
use Rattle.std.proofs.Math.Option.{Option, none, some}

abbrev pub option_of : {A : Type 0} → code.Option A → Option A
option_of (code.Some a) = some a
option_of code.None = none
