-- A Pauli on its own qubits, and what row 3 lets pass, as facts.
use Rattle.std.specs.Prelude.{◌≡◌, refl, Bool, true, false, ◌&&◌, ℕ, ◌%◌, ◌^◌, ◌≤◌, ◌<◌}
use Rattle.std.proofs.Common.{mod-lt, zero-lt-suc, arith, pow_pos}
use Rattle.bitlaws.specs.Writing.{put_lt}
use Rattle.bitlaws.specs.Xor.{xor_lt}
use Rattle.paulilaws.specs.Pauli.{Pauli, product, identity, most_qubits}
use Rattle.paulilaws.specs.Letter.{Letter, x_part, z_part, with_letter, x_digit, z_digit}

-- a phase in 0..3, and no mask bit at or above the width, which may be any
pub record Fitting (P : Pauli) : Type 0 where
  pub phase : P.k ≤ 3
  pub xs : P.x < 2 ^ P.n
  pub zs : P.z < 2 ^ P.n

-- what row 3 asks besides is its own limit on the width
pub record Admitted (P : Pauli) : Type 0 where
  pub fitting : Fitting P
  pub width : P.n ≤ most_qubits

pub both_left : (p q : Bool) → (p && q) ≡ true → p ≡ true
both_left true q e = refl
both_left false q e = e

pub both_right : (p q : Bool) → (p && q) ≡ true → q ≡ true
both_right true q e = e
both_right false q e = absurd (let z : ◌≡◌ {A = ℕ} 0 1 = cc in omega arith)

-- a Pauli on the qubits of one that is let pass
pub admitted_beside : {P Q : Pauli} → Admitted Q → Q.n ≡ P.n → Fitting P → Admitted P
admitted_beside a e f = record { fitting = f; width = omega (arith, a.width) }

pub identity_fitting : (n : ℕ) → Fitting (identity n)
identity_fitting n = record { phase = omega arith; xs = pow_pos n; zs = pow_pos n }

pub phase_small : (k : ℕ) → k % 4 ≤ 3
phase_small k = let small = mod-lt k (zero-lt-suc 3) in omega (arith, small)

-- a letter set keeps a Pauli a Pauli
pub letter_fitting : (q : ℕ) (l : Letter) (P : Pauli) → q < P.n → Fitting P → Fitting (with_letter q l P)
unfolding with_letter
letter_fitting q l P h f = record {
  phase = phase_small _;
  xs = put_lt q P.n (x_part l) P.x h (x_digit l) f.xs;
  zs = put_lt q P.n (z_part l) P.z h (z_digit l) f.zs;
}

pub product_fitting : {A B : Pauli} → B.n ≡ A.n → Fitting A → Fitting B → Fitting (product A B)
unfolding product
product_fitting {A} {B} e f g = record {
  phase = phase_small _;
  xs = xor_lt A.n A.x B.x f.xs (rw e at g.xs);
  zs = xor_lt A.n A.z B.z f.zs (rw e at g.zs);
}
