-- Over any commutative ring with h h + h h = 1 the Paulis are the matrices of Nielsen and Chuang, the formulas of a step their operator, and those of a list of
-- steps the product of their operators.
use Rattle.std.specs.Prelude.{◌≡◌, true, cond, ◌↔◌, eqb}
use mathlib.Core.List.{List}
use Prim.Native.Nat.{ℕ, ◌+◌, ◌-◌, ◌^◌, ◌<◌}
use Rattle.paulilaws.specs.Pauli.{Pauli, product, anti, coefficient, hermitian, sign}
use Rattle.paulilaws.specs.Pauli as group
use Rattle.paulilaws.specs.Letter.{Letter, letter_at, with_letter}
use Rattle.paulilaws.specs.Action.{Ket}
use Rattle.paulilaws.specs.Action as basis
use Rattle.paulilaws.specs.Frame.{raised}
use Rattle.paulilaws.specs.Fitting.{Fitting}
use Rattle.amplitudelaws.specs.Arithmetic.{Amplitude}
use Rattle.amplitudelaws.specs.Probability.{mass}
use Rattle.amplitudelaws.specs.Step.{Step, width_after, last_width}
use Rattle.amplitudelaws.specs.Acting.{acts, acted, Measurable, Proper, Propers}
use Rattle.amplitudelaws.specs.Book.Ring.{Ring}
use Rattle.amplitudelaws.specs.Book.Complex.{exact, complex, real, ipow, sgn}
use Rattle.amplitudelaws.specs.Book.Matrix.{identity, ket, multiple, applied, joined, adjoint}
use Rattle.amplitudelaws.specs.Book.Operators.{standing, spelled, pauli, turned_ket, squared_length, turning, projector, eigenvectors, operator, operators}

-- Pauli arithmetic, and the formulas on amplitudes without rounding, for any number of qubits. Operators.antt has the operators.
pub record Book {R : Type 0} (𝓡 : Ring R) (h : R) : Type 0 where
  -- ---- Paulis

  -- P is i^coefficient times the tensor product of its letters' matrices, as the book prints X, Y and Z
  pub letters : (P : Pauli) → Fitting P → (a b : ℕ)
      → pauli 𝓡 P a b ≡ multiple 𝓡 (ipow 𝓡 (coefficient P)) (spelled 𝓡 P.n (λ q. letter_at q P)) a b
  -- a letter set stands in its place and changes nothing else
  pub set : (P : Pauli) → Fitting P → (q : ℕ) → q < P.n → (l : Letter) (a b : ℕ)
      → pauli 𝓡 (with_letter q l P) a b ≡ multiple 𝓡 (ipow 𝓡 (coefficient P)) (spelled 𝓡 P.n (λ r. cond (eqb r q) l (letter_at r P))) a b
  -- the identity on n qubits, a phase raised, and the product of two Paulis, whose matrix is the product of theirs
  pub identities : (n a b : ℕ) → a < 2 ^ n → b < 2 ^ n → pauli 𝓡 (group.identity n) a b ≡ identity 𝓡 a b
  pub raises : (e : ℕ) (P : Pauli) (a b : ℕ) → pauli 𝓡 (raised e P) a b ≡ multiple 𝓡 (ipow 𝓡 e) (pauli 𝓡 P) a b
  pub products : (A B : Pauli) → A.n ≡ B.n → Fitting A → Fitting B → (a b : ℕ) → a < 2 ^ A.n → b < 2 ^ A.n
      → pauli 𝓡 (product A B) a b ≡ joined 𝓡 (2 ^ A.n) (pauli 𝓡 A) (pauli 𝓡 B) a b
  -- A B = (-1)^anti B A; and where 1 + 1 is not 0, anti is 1 only if A B = - B A
  pub exchanges : (A B : Pauli) → A.n ≡ B.n → Fitting A → Fitting B → (a b : ℕ) → a < 2 ^ A.n → b < 2 ^ A.n
      → joined 𝓡 (2 ^ A.n) (pauli 𝓡 A) (pauli 𝓡 B) a b ≡ multiple 𝓡 (sgn 𝓡 (anti A B)) (joined 𝓡 (2 ^ A.n) (pauli 𝓡 B) (pauli 𝓡 A)) a b
  pub anticommuting : (A B : Pauli) → A.n ≡ B.n → Fitting A → Fitting B → (𝓡.add 𝓡.one 𝓡.one ≡ 𝓡.zero → ⊥)
      → (anti A B ≡ 1) ↔ ((a b : ℕ) → a < 2 ^ A.n → b < 2 ^ A.n
      → joined 𝓡 (2 ^ A.n) (pauli 𝓡 A) (pauli 𝓡 B) a b ≡ multiple 𝓡 ((complex 𝓡).neg (complex 𝓡).one) (joined 𝓡 (2 ^ A.n) (pauli 𝓡 B) (pauli 𝓡 A)) a b)
  -- a Hermitian Pauli is its own inverse; it is its own adjoint and, where 1 + 1 is not 0, no other is
  pub squares : (P : Pauli) → Fitting P → hermitian P ≡ true → (a b : ℕ) → a < 2 ^ P.n → b < 2 ^ P.n
      → joined 𝓡 (2 ^ P.n) (pauli 𝓡 P) (pauli 𝓡 P) a b ≡ identity 𝓡 a b
  pub hermitians : (P : Pauli) → Fitting P → hermitian P ≡ true → (a b : ℕ) → a < 2 ^ P.n → b < 2 ^ P.n
      → adjoint 𝓡 (pauli 𝓡 P) a b ≡ pauli 𝓡 P a b
  pub hermitian_only : (P : Pauli) → Fitting P → (𝓡.add 𝓡.one 𝓡.one ≡ 𝓡.zero → ⊥)
      → ((a b : ℕ) → a < 2 ^ P.n → b < 2 ^ P.n → adjoint 𝓡 (pauli 𝓡 P) a b ≡ pauli 𝓡 P a b) → hermitian P ≡ true
  -- its measurement sign is the sign in front of its letters
  pub signs : (P : Pauli) → Fitting P → hermitian P ≡ true → (a b : ℕ)
      → pauli 𝓡 P a b ≡ multiple 𝓡 (sgn 𝓡 (sign P)) (spelled 𝓡 P.n (λ q. letter_at q P)) a b
  -- what P does to a basis state, its matrix does
  pub kets : (P : Pauli) → Fitting P → (s : Ket) (a : ℕ) → a < 2 ^ P.n
      → applied 𝓡 (2 ^ P.n) (pauli 𝓡 P) (turned_ket 𝓡 s) a ≡ turned_ket 𝓡 (basis.on_ket P s) a
  -- ---- steps

  -- a step of any kind applies its operator: the rotation c - i s P, the new qubit c|0> + i q|1>, the projector on the branch, the Pauli i^k X^x Z^z, the
  -- quarter turn h - i h P
  pub step : (n : ℕ) (t : Step R) → Proper n t → (F : ℕ → Amplitude R) (b : ℕ) → b < 2 ^ width_after n t
      → acts (exact 𝓡 h) n t F b ≡ applied 𝓡 (2 ^ n) (operator 𝓡 h n t) F b
  -- a list of steps, the empty one too, applies the product of their operators
  pub run : (n : ℕ) (ts : List (Step R)) → Propers n ts → (F : ℕ → Amplitude R) (b : ℕ) → b < 2 ^ last_width n ts
      → acted (exact 𝓡 h) n ts F b ≡ applied 𝓡 (2 ^ n) (operators 𝓡 h n ts) F b
  -- where M is diagonal the basis state that stands for a coordinate is one that M takes times (-1)^v
  pub stands : (M : Pauli) (p v : ℕ) → Measurable M p → M.x ≡ 0 → (j a : ℕ) → a < 2 ^ M.n
      → applied 𝓡 (2 ^ M.n) (pauli 𝓡 M) (ket 𝓡 (standing true M p v j)) a ≡ (complex 𝓡).mul (sgn 𝓡 v) (ket 𝓡 (standing true M p v j) a)
  -- the coordinates in which a projection's result is read belong to an orthonormal basis of all that the projector leaves
  pub orthonormal : (M : Pauli) (p v : ℕ) → Measurable M p → (a b : ℕ) → a < 2 ^ (M.n - 1) → b < 2 ^ (M.n - 1)
      → joined 𝓡 (2 ^ M.n) (adjoint 𝓡 (eigenvectors 𝓡 h M p v)) (eigenvectors 𝓡 h M p v) a b ≡ identity 𝓡 a b
  pub complete : (M : Pauli) (p v : ℕ) → Measurable M p → (a b : ℕ) → a < 2 ^ M.n → b < 2 ^ M.n
      → joined 𝓡 (2 ^ (M.n - 1)) (eigenvectors 𝓡 h M p v) (adjoint 𝓡 (eigenvectors 𝓡 h M p v)) a b ≡ projector 𝓡 h M v a b
  -- the probability before the clamp is the squared length of what the projector leaves
  pub probability : (M : Pauli) (p v : ℕ) → Measurable M p → (F : ℕ → Amplitude R)
      → real 𝓡 (mass (exact 𝓡 h) M p v (2 ^ (M.n - 1)) F) ≡ squared_length 𝓡 (2 ^ M.n) (applied 𝓡 (2 ^ M.n) (projector 𝓡 h M v) F)
  -- one rotation of a Pauli after another is that by the sum of the angles, by the cosine and the sine of a sum
  pub angles : (P : Pauli) (e : ℕ) (c s c' s' : R) → Fitting P → hermitian P ≡ true → (F : ℕ → Amplitude R) (b : ℕ) → b < 2 ^ P.n
      → applied 𝓡 (2 ^ P.n) (turning 𝓡 P e c s) (applied 𝓡 (2 ^ P.n) (turning 𝓡 P e c' s') F) b
      ≡ applied 𝓡 (2 ^ P.n) (turning 𝓡 P e (𝓡.add (𝓡.mul c c') (𝓡.neg (𝓡.mul s s'))) (𝓡.add (𝓡.mul s c') (𝓡.mul c s'))) F b
  -- first Q and then a rotation of P is first the rotation, its sign flipped where they anticommute, and then Q; and where they do, for c = s as in a quarter turn,
  -- it is first the same rotation and then P Q with i^3
  pub flips : (P Q : Pauli) → Q.n ≡ P.n → Fitting P → Fitting Q → (e : ℕ) (c s : R) (F : ℕ → Amplitude R) (b : ℕ) → b < 2 ^ P.n
      → applied 𝓡 (2 ^ P.n) (turning 𝓡 P e c s) (applied 𝓡 (2 ^ P.n) (pauli 𝓡 Q) F) b
      ≡ applied 𝓡 (2 ^ P.n) (pauli 𝓡 Q) (applied 𝓡 (2 ^ P.n) (turning 𝓡 P (e + anti Q P) c s) F) b
  pub conjugates : (P Q : Pauli) → Q.n ≡ P.n → Fitting P → Fitting Q → hermitian P ≡ true → anti Q P ≡ 1
      → (c : R) (F : ℕ → Amplitude R) (b : ℕ) → b < 2 ^ P.n
      → applied 𝓡 (2 ^ P.n) (turning 𝓡 P 0 c c) (applied 𝓡 (2 ^ P.n) (pauli 𝓡 Q) F) b
      ≡ applied 𝓡 (2 ^ P.n) (pauli 𝓡 (raised 3 (product P Q))) (applied 𝓡 (2 ^ P.n) (turning 𝓡 P 0 c c) F) b
