-- No row has the number 0, so that a result's row says whether it is refused. What `?` hands on is refused by the same row.
use Rattle.std.specs.Prelude.{◌≡◌, ℕ, ◌<◌, Result, Ok, Err}
use Rattle.std.specs.Result.{IsErrAnd}
use Rattle.std.proofs.Common.{arith, sym, ap, ◌∙◌, rules}
use Rattle.answers.specs.Answer.{Answer}
use Rattle.answers.specs.Answer.Answer.{refused, refused_at}
use Rattle.answers.specs.Row.{first, first_some, answered, answered_some}
use Rattle.refusals.specs.declared.Row.{Row}
use Rattle.refusals.specs.declared.Row.TheVariants as row
use Rattle.refusals.specs.declared.RowAt.{RowAt}
use Rattle.refusals.specs.declared.Refusal.{Refusal}
use Rattle.refusals.specs.declared.Refusal.TheVariants.{Whole, At}
use Rattle.refusals.specs.Refusal.{number_of, row_of, answer_of, row_at_answer_of, refusal_answer_of}

pub number_some : (r : Row) → 0 < number_of r
number_some row.TextTooLong = omega arith
number_some row.NoLetter = omega arith
number_some row.NoPauli = omega arith
number_some row.WidthsDiffer = omega arith
number_some row.NoSuchQubit = omega arith
number_some row.TooWide = omega arith
number_some row.NotHermitian = omega arith
number_some row.UnfitFloat = omega arith
number_some row.NoQubits = omega arith
number_some row.PivotPastWidth = omega arith
number_some row.MeasuresIdentity = omega arith
number_some row.IdlePivot = omega arith
number_some row.TooFewAmplitudes = omega arith
number_some row.BadField = omega arith
number_some row.PromotionAtWidest = omega arith
number_some row.OutputTooShort = omega arith
number_some row.NoSuchStep = omega arith
number_some row.TooWideForEmulator = omega arith
number_some row.LogLength = omega arith
number_some row.NoStart = omega arith

-- ---- what a `?` answers where the call before it is refused by e, and the rows begin with R

module _ {A : Type 0} (x : Result A Row) (e : Row) (R : ℕ) where
  -- alone
  pub asked_row : IsErrAnd x (λ r. r ≡ e) → number_of e ≡ R → row_of x ≡ R
  asked_row = go x
    where
      go : (x : Result A Row) → IsErrAnd x (λ r. r ≡ e) → number_of e ≡ R → row_of x ≡ R
      go (Ok a) h is = absurd h
      go (Err r) h is = ap number_of h ∙ is

  -- before other rows
  pub asked_first : (rest : ℕ) → IsErrAnd x (λ r. r ≡ e) → number_of e ≡ R → row_of x ≡ first R rest
  asked_first rest h is = asked_row h is ∙ sym (first_some R rest (omega (arith, is, number_some e)))

  -- before a value
  pub asked : {B : Type 0} (value : A → B) (b : B) → IsErrAnd x (λ r. r ≡ e) → number_of e ≡ R → answer_of value x ≡ answered R b
  asked {B} value b = go x
    where
      go : (x : Result A Row) → IsErrAnd x (λ r. r ≡ e) → number_of e ≡ R → answer_of value x ≡ answered R b
      go (Ok a) h is = absurd h
      go (Err r) h is = ap (λ (r : Row). refused (number_of r)) h ∙ ap refused is ∙ sym (answered_some R b (omega (arith, is, number_some e)))

-- ---- what a `?` answers whatever the rows are

module _ {A B : Type 0} (value : A → B) where
  pub refused_by : (x : Result A Row) (e : Row) → IsErrAnd x (λ r. r ≡ e) → answer_of value x ≡ refused (number_of e)
  refused_by (Ok a) e h = absurd h
  refused_by (Err r) e h = ap (λ (r : Row). refused (number_of r)) h

  pub refused_at_row : (x : Result A RowAt) (p : RowAt) → IsErrAnd x (λ r. r ≡ p) → row_at_answer_of value x ≡ refused_at (number_of p.row) p.at
  refused_at_row (Ok a) p h = absurd h
  refused_at_row (Err r) p h = ap (λ (p : RowAt). refused_at (number_of p.row) p.at) h

  pub refused_whole : (x : Result A Refusal) (e : Row) → IsErrAnd x (λ r. r ≡ Whole e) → refusal_answer_of value x ≡ refused (number_of e)
  refused_whole (Ok a) e h = absurd h
  refused_whole (Err r) e h = ap (λ (r : Refusal). refusal_answer_of value (Err r)) h

  pub refused_there : (x : Result A Refusal) (p : RowAt) → IsErrAnd x (λ r. r ≡ At p) → refusal_answer_of value x ≡ refused_at (number_of p.row) p.at
  refused_there (Ok a) p h = absurd h
  refused_there (Err r) p h = ap (λ (r : Refusal). refusal_answer_of value (Err r)) h

  pub refused_same : (x : Result A Refusal) (e : Refusal) → IsErrAnd x (λ r. r ≡ e) → refusal_answer_of value x ≡ refusal_answer_of value (Err e)
  refused_same (Ok a) e h = absurd h
  refused_same (Err r) e h = ap (λ (r : Refusal). refusal_answer_of value (Err r)) h
