-- The operators of Nielsen and Chuang that the steps stand for, as matrices. Qubit q is digit q of a row or a column.
use Rattle.std.specs.Prelude.{Bool, true, false, List, [], ◌∷◌, ℕ, zero, suc, ◌+◌, ◌*◌, ◌/◌, ◌%◌, ◌^◌, eqb}
use Rattle.bitlaws.specs.Parity.{overlap}
use Rattle.paulilaws.specs.Pauli.{Pauli}
use Rattle.paulilaws.specs.Letter.{Letter}
use Rattle.paulilaws.specs.Letter.Letter.{I, X, Y, Z}
use Rattle.paulilaws.specs.Action.{Ket}
use Rattle.amplitudelaws.specs.Arithmetic.{Amplitude}
use Rattle.amplitudelaws.specs.Step.{Step, width_after}
use Rattle.amplitudelaws.specs.Step.Step.{rotation, promotion, projection, correction, quarter_turn}
use Rattle.amplitudelaws.specs.Book.Ring.{Ring}
use Rattle.amplitudelaws.specs.Book.Complex.{complex, real, i, conj, ipow, sgn}
use Rattle.amplitudelaws.specs.Book.Sum.{sum}
use Rattle.amplitudelaws.specs.Book.Matrix.{Matrix, identity, ket, plus, multiple, joined, adjoint, tensor}

-- the basis state whose qubit p is d and whose others, in their order, are those of j
unfoldable pub with_qubit : ℕ → ℕ → ℕ → ℕ
with_qubit p d j = (j / 2 ^ p * 2 + d) * 2 ^ p + j % 2 ^ p

-- The basis state that stands for coordinate j of branch v of M, pivot p, of the two whose qubits without the pivot are j. The first argument says whether
-- M is diagonal: then M |b> = i^k (-1)^(b.z) |b>, i^k being (-1)^(k / 2), and it is the one that M takes times (-1)^v; else the one whose pivot is 0.
unfoldable pub standing : Bool → Pauli → ℕ → ℕ → ℕ → ℕ
standing true M p v j = with_qubit p ((M.k / 2 + overlap (with_qubit p 0 j) M.z + v) % 2) j
standing false M p v j = with_qubit p 0 j

module _ {R : Type 0} (𝓡 : Ring R) where
  open complex 𝓡 use {mul as ◌*ᶜ◌, neg as -ᶜ◌, zero as nought, one}

  infixl 70 ◌*ᶜ◌
  infix 80 -ᶜ◌
  -- ---- Paulis

  -- X, Y and Z on one qubit
  unfoldable pub bit_flip : Matrix R
  bit_flip zero zero = nought
  bit_flip zero (suc b) = one
  bit_flip (suc a) zero = one
  bit_flip (suc a) (suc b) = nought

  unfoldable pub both_flip : Matrix R
  both_flip zero zero = nought
  both_flip zero (suc b) = -ᶜ i 𝓡
  both_flip (suc a) zero = i 𝓡
  both_flip (suc a) (suc b) = nought

  unfoldable pub phase_flip : Matrix R
  phase_flip zero zero = one
  phase_flip zero (suc b) = nought
  phase_flip (suc a) zero = nought
  phase_flip (suc a) (suc b) = -ᶜ one

  unfoldable pub letter_matrix : Letter → Matrix R
  letter_matrix I = identity 𝓡
  letter_matrix X = bit_flip
  letter_matrix Y = both_flip
  letter_matrix Z = phase_flip

  -- the tensor product of n letters, l 0 being qubit 0's
  unfoldable pub spelled : ℕ → (ℕ → Letter) → Matrix R
  spelled zero l = identity 𝓡
  spelled (suc n) l = tensor 𝓡 2 (spelled n (λ q. l (suc q))) (letter_matrix (l 0))

  -- M to the power of 0 or 1
  unfoldable pub once : Matrix R → ℕ → Matrix R
  once M zero = identity 𝓡
  once M (suc e) = M

  -- X^x Z^z on one qubit
  unfoldable pub factor : ℕ → ℕ → Matrix R
  factor x z = joined 𝓡 2 (once bit_flip x) (once phase_flip z)

  -- the tensor product of these over n qubits
  unfoldable pub factors : ℕ → ℕ → ℕ → Matrix R
  factors zero x z = identity 𝓡
  factors (suc n) x z = tensor 𝓡 2 (factors n (x / 2) (z / 2)) (factor (x % 2) (z % 2))

  -- i^k X^x Z^z
  unfoldable pub pauli : Pauli → Matrix R
  pauli P = multiple 𝓡 (ipow 𝓡 P.k) (factors P.n P.x P.z)

  -- ---- vectors

  -- i^phase |basis>
  unfoldable pub turned_ket : Ket → ℕ → Amplitude R
  turned_ket s a = ipow 𝓡 s.phase *ᶜ ket 𝓡 s.basis a

  -- <F|F>, the squared length of a vector of `size` entries
  unfoldable pub squared_length : ℕ → (ℕ → Amplitude R) → Amplitude R
  squared_length size F = sum (complex 𝓡) size (λ a. conj 𝓡 (F a) *ᶜ F a)

  -- ---- rotations

  -- c - i s P, or c + i s P where the sign e is 1. Where c and s are the cosine and the sine of phi, this is exp (- i phi P) or exp (i phi P), as P P = 1.
  unfoldable pub turning : Pauli → ℕ → R → R → Matrix R
  turning P e c s = plus 𝓡 (multiple 𝓡 (real 𝓡 c) (identity 𝓡)) (multiple 𝓡 (-ᶜ (i 𝓡 *ᶜ real 𝓡 s *ᶜ sgn 𝓡 e)) (pauli P))

  -- ---- promotions

  -- c |0> + i q |1>, a matrix of one column
  unfoldable pub qubit : R → R → Matrix R
  qubit c q zero b = real 𝓡 c
  qubit c q (suc a) b = i 𝓡 *ᶜ real 𝓡 q

  -- the n qubits as they were, and that qubit above them
  unfoldable pub appending : ℕ → R → R → Matrix R
  appending n c q = tensor 𝓡 (2 ^ n) (qubit c q) (identity 𝓡)

  -- ---- measurements; h h is 1/2

  module _ (h : R) where
    -- (1 + (-1)^v M) / 2, the projector on the eigenvalue (-1)^v of M
    unfoldable pub projector : Pauli → ℕ → Matrix R
    projector M v = multiple 𝓡 (real 𝓡 (𝓡.mul h h)) (plus 𝓡 (identity 𝓡) (multiple 𝓡 (sgn 𝓡 v) (pauli M)))

    -- the projection of that basis state has length 1, or 1 / sqrt 2, which h + h undoes
    unfoldable pub stretch : Bool → R
    stretch true = 𝓡.one
    stretch false = 𝓡.add h h

    -- Column j is the projection of that basis state, at length 1: an orthonormal basis of the branch's eigenspace (see Eigenspace.antt).
    unfoldable pub eigenvectors : Pauli → ℕ → ℕ → Matrix R
    eigenvectors M p v a j = real 𝓡 (stretch (eqb M.x 0)) *ᶜ projector M v a (standing (eqb M.x 0) M p v j)

    -- the projector, read in these coordinates, times invnorm
    unfoldable pub measuring : Pauli → ℕ → ℕ → R → Matrix R
    measuring M p v invnorm = multiple 𝓡 (real 𝓡 invnorm) (joined 𝓡 (2 ^ M.n) (adjoint 𝓡 (eigenvectors M p v)) (projector M v))

    -- ---- steps

    unfoldable pub operator : ℕ → Step R → Matrix R
    operator n (rotation P e c s) = turning P e c s
    operator n (promotion c q) = appending n c q
    operator n (projection M p v invnorm) = measuring M p v invnorm
    operator n (correction P) = pauli P
    operator n (quarter_turn P) = turning P 0 h h

    -- their product, the first step's operator standing last
    unfoldable pub operators : ℕ → List (Step R) → Matrix R
    operators n [] = identity 𝓡
    operators n (t ∷ ts) = joined 𝓡 (2 ^ width_after n t) (operators (width_after n t) ts) (operator n t)
