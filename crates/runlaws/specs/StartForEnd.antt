-- WHICH START GIVES THIS END, as it is stated: E12 of the change requests, over the definitions that seek_start and carry_run promise to the service, and
-- to the emulator. Seeking.antt proves it. No amplitude is read, so there is no premise on any.
use Rattle.std.specs.Prelude.{◌≡◌, true, false, List, ◌⊎◌, ℕ, ◌≤◌, length}
use Rattle.std.proofs.Math.Option.{some}
use Rattle.answers.specs.Answer.Answer.{accepted, refused, refused_at}
use Rattle.paulilaws.specs.Pauli.{Pauli, fits}
use Rattle.framelaws.specs.Caller.{Caller}
use Rattle.framelaws.specs.Survey.{Survey}
use Rattle.runlaws.specs.Calls.{checking, carrying, seeking}
use Rattle.runlaws.specs.Field.{field_at}
use Rattle.runlaws.specs.Run.{start_width}

-- Q is a Pauli on the start qubits, those of the start field, whose carrying ends in exactly E, phase included; in any output that has room for the run.
pub record StartsFor (caller : Caller) (s : List ℕ) (E Q : Pauli) : Type 0 where
  pub pauli : fits Q ≡ true
  pub start : start_width (field_at s 0) ≡ some Q.n
  pub ends : (out : List ℕ) → length s ≤ length out → (carrying caller s Q out).answer ≡ accepted E

-- No Pauli whatever is carried to E, whatever it is carried into.
abbrev pub NoStart : Caller → List ℕ → Pauli → Type 0
NoStart caller s E = (Q : Pauli) (out : List ℕ) → (carrying caller s Q out).answer ≡ accepted E → ⊥

-- a Pauli that serves, and the call answers it
pub record SomeStart (caller : Caller) (s : List ℕ) (E : Pauli) : Type 0 where
  pub pauli : Pauli
  pub answered : seeking caller s E ≡ accepted pauli
  pub serves : StartsFor caller s E pauli

-- ---- the theorem

pub record StartForEnd (caller : Caller) : Type 0 where
  -- The Pauli that is answered serves.
  pub answers : (s : List ℕ) (E Q : Pauli) → seeking caller s E ≡ accepted Q → StartsFor caller s E Q
  -- When the refusal comes, no Pauli has that end.
  pub refuses : (s : List ℕ) (E : Pauli) → seeking caller s E ≡ refused 25 → NoStart caller s E
  -- And an end that some Pauli has, in some output, is never refused: one that serves is answered.
  pub finds : (s : List ℕ) (E Q : Pauli) (out : List ℕ) → (carrying caller s Q out).answer ≡ accepted E → SomeStart caller s E
  -- The rows in their order. The run's own, with their places, whatever E is:
  pub run_first : (s : List ℕ) (E : Pauli) (r at : ℕ) → checking caller s ≡ refused_at r at → seeking caller s E ≡ refused_at r at
  -- then 3 where E is no Pauli, and 4 where it is not on the last qubits;
  pub three : (s : List ℕ) (E : Pauli) (v : Survey) → checking caller s ≡ accepted v → fits E ≡ false → seeking caller s E ≡ refused 3
  pub four : (s : List ℕ) (E : Pauli) (v : Survey) → checking caller s ≡ accepted v → fits E ≡ true → (E.n ≡ v.width → ⊥) → seeking caller s E ≡ refused 4
  -- 25 stands last of all: it is the only answer that is left where none serves.
  pub last : (s : List ℕ) (E : Pauli) (v : Survey) → checking caller s ≡ accepted v → fits E ≡ true → E.n ≡ v.width
      → SomeStart caller s E ⊎ ((seeking caller s E ≡ refused 25) × NoStart caller s E)
