-- The number of a row is one byte.
use Rattle.std.specs.Prelude.{◌<◌}
use Rattle.std.proofs.Common.{arith}
use Rattle.refusals.specs.declared.Row.{Row}
use Rattle.refusals.specs.declared.Row.TheVariants as row
use Rattle.refusals.specs.Refusal.{number_of}

pub number_byte : (r : Row) → number_of r < 256
number_byte row.TextTooLong = omega arith
number_byte row.NoLetter = omega arith
number_byte row.NoPauli = omega arith
number_byte row.WidthsDiffer = omega arith
number_byte row.NoSuchQubit = omega arith
number_byte row.TooWide = omega arith
number_byte row.NotHermitian = omega arith
number_byte row.UnfitFloat = omega arith
number_byte row.NoQubits = omega arith
number_byte row.PivotPastWidth = omega arith
number_byte row.MeasuresIdentity = omega arith
number_byte row.IdlePivot = omega arith
number_byte row.TooFewAmplitudes = omega arith
number_byte row.BadField = omega arith
number_byte row.PromotionAtWidest = omega arith
number_byte row.OutputTooShort = omega arith
number_byte row.NoSuchStep = omega arith
number_byte row.TooWideForEmulator = omega arith
number_byte row.LogLength = omega arith
number_byte row.NoStart = omega arith
