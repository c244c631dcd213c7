-- The number of each row in the table, and which answer of the laws a result is.
use Rattle.std.specs.Prelude.{ℕ, Result, Ok, Err}
use Rattle.answers.specs.Answer.{Answer}
use Rattle.answers.specs.Answer.Answer.{accepted, refused, refused_at}
use Rattle.refusals.specs.declared.Row.{Row}
use Rattle.refusals.specs.declared.Row.TheVariants as row
use Rattle.refusals.specs.declared.RowAt.{RowAt}
use Rattle.refusals.specs.declared.Refusal.{Refusal}
use Rattle.refusals.specs.declared.Refusal.TheVariants.{Whole, At}

abbrev pub number_of : Row → ℕ
number_of row.TextTooLong = 1
number_of row.NoLetter = 2
number_of row.NoPauli = 3
number_of row.WidthsDiffer = 4
number_of row.NoSuchQubit = 5
number_of row.TooWide = 6
number_of row.NotHermitian = 7
number_of row.UnfitFloat = 8
number_of row.NoQubits = 9
number_of row.PivotPastWidth = 10
number_of row.MeasuresIdentity = 11
number_of row.IdlePivot = 12
number_of row.TooFewAmplitudes = 13
number_of row.BadField = 14
number_of row.PromotionAtWidest = 15
number_of row.OutputTooShort = 16
number_of row.NoSuchStep = 20
number_of row.TooWideForEmulator = 21
number_of row.LogLength = 24
number_of row.NoStart = 25

-- a result as an answer: its value is what `value` says of it
abbrev pub answer_of : {A B : Type 0} → (A → B) → Result A Row → Answer B
answer_of value (Ok a) = accepted (value a)
answer_of value (Err r) = refused (number_of r)

-- the same where each refusal has a place
abbrev pub row_at_answer_of : {A B : Type 0} → (A → B) → Result A RowAt → Answer B
row_at_answer_of value (Ok a) = accepted (value a)
row_at_answer_of value (Err p) = refused_at (number_of p.row) p.at

-- the same where some have
abbrev pub refusal_answer_of : {A B : Type 0} → (A → B) → Result A Refusal → Answer B
refusal_answer_of value (Ok a) = accepted (value a)
refusal_answer_of value (Err (Whole r)) = refused (number_of r)
refusal_answer_of value (Err (At p)) = refused_at (number_of p.row) p.at

-- the number of the row that refuses, 0 where none does
abbrev pub row_of : {A : Type 0} → Result A Row → ℕ
row_of (Ok a) = 0
row_of (Err r) = number_of r
