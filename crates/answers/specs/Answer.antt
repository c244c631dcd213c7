-- What an open call answers: a value, or a refusal by its number in the scope's table, with a place where the table has one.
use Rattle.std.specs.Prelude.{Bool, true, false, ℕ}

pub data Answer (A : Type 0) : Type 0 where
  accepted : A → Answer A
  refused : ℕ → Answer A
  refused_at : ℕ → ℕ → Answer A

-- Row n of the table: where its test holds the call is refused by n, else the rows after it decide.
-- A call's rows stand lowest number first, so that the lowest that holds is answered.
unfoldable pub refuse : {A : Type 0} → Bool → ℕ → Answer A → Answer A
refuse true n rest = refused n
refuse false n rest = rest

-- The value that comes back beside a refusal is a fixed one.
unfoldable pub value_or : {A : Type 0} → A → Answer A → A
value_or other (accepted a) = a
value_or other (refused n) = other
value_or other (refused_at n i) = other

-- whether a call is accepted: no row refuses it
unfoldable pub is_accepted : {A : Type 0} → Answer A → Bool
is_accepted (accepted a) = true
is_accepted (refused n) = false
is_accepted (refused_at n i) = false
