-- What a call answers and what it leaves in what it was lent, as one value.
use Rattle.std.specs.Prelude.{◌≡◌, ℕ}
use Rattle.answers.specs.Answer.{Answer}
use Rattle.answers.specs.Row.{answered, left}

pub record Outcome (A B : Type 0) : Type 0 where
  pub answer : Answer A
  pub lent : B

-- outcomes with equal parts are equal
pub outcome_same : {A B : Type 0} {o p : Outcome A B} → o.answer ≡ p.answer → o.lent ≡ p.lent → o ≡ p
outcome_same answer lent = λ i. record { answer = answer i; lent = lent i }

-- by the number of a row: refused by it, or done
abbrev pub by_row : {A B : Type 0} → ℕ → A → B → B → Outcome A B
by_row r a new old = record { answer = answered r a; lent = left r new old }

-- the answer of a call that has no value to give: what was lent holds it
pub data Finished : Type 0 where
  finished : Finished
