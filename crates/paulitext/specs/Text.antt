-- Pauli strings as text, bytes being ASCII codes.
use Rattle.std.specs.Prelude.{cond, ◌||◌, List, [], ◌∷◌, ◌++◌, ℕ, zero, suc, eqb}
use Rattle.std.proofs.Math.Option.{Option, none, some}
use Rattle.answers.specs.Answer.{Answer}
use Rattle.answers.specs.Answer.Answer.{accepted, refused_at}
use Rattle.paulilaws.specs.Pauli.{Pauli, coefficient}
use Rattle.paulilaws.specs.Letter.{Letter, letter_at, with_letter}
use Rattle.std.specs.Prelude as code
use Rattle.paulis.specs.declared.Pauli.{Pauli as Single}
use Rattle.paulis.specs.Strings.{pauli_letter_of}

-- I, i and _; X and x; Y and y; Z and z
unfoldable pub letter_of_byte : ℕ → Option Letter
letter_of_byte b =
    cond (eqb b 73 || eqb b 105 || eqb b 95) (some Letter.I)
    (cond (eqb b 88 || eqb b 120) (some Letter.X)
    (cond (eqb b 89 || eqb b 121) (some Letter.Y)
    (cond (eqb b 90 || eqb b 122) (some Letter.Z) none)))

-- the letter that the code reads, if it reads one
abbrev pub letter_read : code.Option Single → Option Letter
letter_read (code.Some l) = some (pauli_letter_of l)
letter_read code.None = none

abbrev pub on_letter : {A : Type 0} → Option Letter → A → (Letter → A) → A
on_letter none other f = other
on_letter (some l) other f = f l

-- Bytes read from qubit q on into P, whose letters there are still I: each sets its qubit's letter, so each Y adds 1 to the phase.
-- The first byte that is no letter is refused by 2, with its index.
unfoldable pub reading : ℕ → List ℕ → Pauli → Answer Pauli
reading q [] P = accepted P
reading q (b ∷ bs) P = on_letter (letter_of_byte b) (refused_at 2 q) (λ l. reading (suc q) bs (with_letter q l P))

-- the coefficient i^c in front of the letters: nothing, `i*`, `-`, `-i*`
unfoldable pub prefix : ℕ → List ℕ
prefix zero = []
prefix (suc zero) = 105 ∷ 42 ∷ []
prefix (suc (suc zero)) = 45 ∷ []
prefix (suc (suc (suc c))) = 45 ∷ 105 ∷ 42 ∷ []

abbrev pub byte_of : Letter → ℕ
byte_of Letter.I = 73
byte_of Letter.X = 88
byte_of Letter.Z = 90
byte_of Letter.Y = 89

-- the letters of `count` qubits from q on
unfoldable pub letters_from : ℕ → ℕ → Pauli → List ℕ
letters_from q zero P = []
letters_from q (suc count) P = byte_of (letter_at q P) ∷ letters_from (suc q) count P

-- the letters of n qubits; no qubits show as `I`
unfoldable pub body : ℕ → Pauli → List ℕ
body zero P = 73 ∷ []
body (suc n) P = letters_from 0 (suc n) P

unfoldable pub shown : Pauli → List ℕ
shown P = prefix (coefficient P) ++ body P.n P
