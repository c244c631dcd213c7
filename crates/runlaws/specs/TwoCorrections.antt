-- TWO CORRECTIONS, ONE CARRY, as it is stated: E11 of the change requests, over the definition that carry_run promises to the service and to the
-- emulator. Merging.antt proves it. No amplitude is read, so there is no premise on any.
use Rattle.std.specs.Prelude.{◌≡◌, true, List, [], ◌∷◌, ◌++◌, ◌↔◌, ℕ, ◌≤◌, length, drop}
use Rattle.answers.specs.Answer.{is_accepted}
use Rattle.answers.specs.Answer.Answer.{accepted, refused}
use Rattle.paulilaws.specs.Pauli.{Pauli, product}
use Rattle.framelaws.specs.Caller.{Caller}
use Rattle.framelaws.specs.Identity.{phase_on}
use Rattle.framelaws.specs.Survey.{Survey}
use Rattle.runlaws.specs.Calls.{checking, carrying}
use Rattle.runlaws.specs.Frame.{sent}

-- ---- accepted

-- All that is asked: no row refuses carrying B through the run, or A, and the merged carrying has an output with room for the run. The three outputs
-- may hold any bytes, and reach any number of bytes past the run.
pub record BothCarried (caller : Caller) (s first second third : List ℕ) (B A : Pauli) : Type 0 where
  pub carries_B : is_accepted (carrying caller s B first).answer ≡ true
  pub carries_A : is_accepted (carrying caller s A second).answer ≡ true
  pub room : length s ≤ length third

-- What comes of it: B is carried through the run and A through the result; or B A, in which A acts first, is carried through the run.
pub record OneCarry (caller : Caller) (s first second third : List ℕ) (B A : Pauli) : Type 0 where
  -- No row refuses A through the result. Its end Pauli need not be the one that it has through the run.
  pub end_b : Pauli
  pub end_a : Pauli
  pub first_ends : (carrying caller s B first).answer ≡ accepted end_b
  pub second_ends : (carrying caller (sent caller s B first) A second).answer ≡ accepted end_a
  -- Nor does a row refuse B A. B's end Pauli times A's is the merged end Pauli, phase included.
  pub merged_ends : (carrying caller s (product B A) third).answer ≡ accepted (product end_b end_a)
  -- The same run is left; and the same output, where the two have the same bytes past the run.
  pub same : sent caller (sent caller s B first) A second ≡ sent caller s (product B A) third
  pub whole : drop (length s) second ≡ drop (length s) third
      → (carrying caller (sent caller s B first) A second).lent ≡ (carrying caller s (product B A) third).lent

-- Where A has B's masks: the run is there again, and the end Paulis' product is the identity, up to the phase of B A.
pub record Undone (caller : Caller) (s first second : List ℕ) (B A : Pauli) : Type 0 where
  pub end_b : Pauli
  pub end_a : Pauli
  pub first_ends : (carrying caller s B first).answer ≡ accepted end_b
  pub second_ends : (carrying caller (sent caller s B first) A second).answer ≡ accepted end_a
  pub phase : product end_b end_a ≡ phase_on end_b.n (product B A).k
  pub back : sent caller (sent caller s B first) A second ≡ s

-- ---- any number of them

-- Q, Qs .. as one Pauli: the last acts first
unfoldable pub product_of : Pauli → List Pauli → Pauli
product_of Q [] = Q
product_of Q (P ∷ Ps) = product Q (product_of P Ps)

-- Q is carried through a run, and each of Qs through what the one before it leaves, into outputs of any bytes; no row refuses. The end Paulis are
-- multiplied in the same order, and `last` is what the last one leaves.
pub data InTurn (caller : Caller) : (s : List ℕ) (Q : Pauli) (Qs : List Pauli) (ends : Pauli) (last : List ℕ) → Type 0 where
  alone : {s : List ℕ} {Q end : Pauli} (out : List ℕ) → (carrying caller s Q out).answer ≡ accepted end → InTurn caller s Q [] end (sent caller s Q out)
  next : {s last : List ℕ} {Q P end ends : Pauli} {Ps : List Pauli} (out : List ℕ) → (carrying caller s Q out).answer ≡ accepted end
      → InTurn caller (sent caller s Q out) P Ps ends last → InTurn caller s Q (P ∷ Ps) (product end ends) last

-- ---- the theorem

pub record TwoCorrections (caller : Caller) : Type 0 where
  pub accepts : (s first second third : List ℕ) (B A : Pauli) → BothCarried caller s first second third B A → OneCarry caller s first second third B A
  -- Through the result A is accepted exactly where it is through the run, and refused by the same number.
  pub alike : (s first second : List ℕ) (B A : Pauli) → is_accepted (carrying caller s B first).answer ≡ true
      → is_accepted (carrying caller (sent caller s B first) A second).answer ≡ is_accepted (carrying caller s A second).answer
  pub refuses : (s first second : List ℕ) (B A : Pauli) → is_accepted (carrying caller s B first).answer ≡ true
      → (r : ℕ) → ((carrying caller s A second).answer ≡ refused r) ↔ ((carrying caller (sent caller s B first) A second).answer ≡ refused r)
  -- Carrying i^k times the identity changes nothing, and ends in i^k times the identity on the last width's qubits.
  pub unchanged : (s out : List ℕ) (n k : ℕ) (v : Survey) → checking caller s ≡ accepted v → is_accepted (carrying caller s (phase_on n k) out).answer ≡ true
      → carrying caller s (phase_on n k) out ≡ record { answer = accepted (phase_on v.width k); lent = s ++ drop (length s) out }
  -- Carrying a Pauli and then it again, whatever the two phases, gives the run back.
  pub undoes : (s first second : List ℕ) (B A : Pauli) → A.x ≡ B.x → A.z ≡ B.z → is_accepted (carrying caller s B first).answer ≡ true
      → is_accepted (carrying caller s A second).answer ≡ true → Undone caller s first second B A
  -- Carrying any number of Paulis in turn is carrying their product.
  pub in_turn : (s out last : List ℕ) (Q ends : Pauli) (Qs : List Pauli) → InTurn caller s Q Qs ends last → length s ≤ length out
      → ((carrying caller s (product_of Q Qs) out).answer ≡ accepted ends) × (sent caller s (product_of Q Qs) out ≡ last)
