-- What a Pauli does to a basis state, as Nielsen and Chuang have it: a phase, and another basis state.
use Rattle.std.specs.Prelude.{◌≡◌, ℕ, ◌+◌, ◌*◌, ◌%◌}
use Rattle.std.proofs.Common.{ap, ◌∙◌, arith}
use Rattle.std.proofs.Math.Nat.{mod-add-mod}
use Rattle.std.specs.Int.Bits.{bit_xor}
use Rattle.bitlaws.specs.Parity.{overlap}
use Rattle.paulilaws.specs.Pauli.{Pauli}

-- i^phase times basis state `basis`
pub record Ket : Type 0 where
  pub phase : ℕ
  pub basis : ℕ

pub ket_same : {s t : Ket} → s.phase ≡ t.phase → s.basis ≡ t.basis → s ≡ t
ket_same p b = λ i. record { phase = p i; basis = b i }

-- P sends basis state b to i^k (-1)^parity(b and z) times basis state b xor x
unfoldable pub on_ket : Pauli → Ket → Ket
on_ket P s = record {
  phase = (s.phase + P.k + 2 * overlap s.basis P.z) % 4;
  basis = bit_xor s.basis P.x;
}

-- times i^t
unfoldable pub turned : ℕ → Ket → Ket
turned t s = record { phase = (s.phase + t) % 4; basis = s.basis }

-- ---- exponents of i, modulo 4: what stands under a % may be taken whole

half_turns : (a u : ℕ) → (a + 2 * (u % 2)) % 4 ≡ (a + 2 * u) % 4
half_turns a u = omega arith

pub half_turns_within : (a b u : ℕ) → (a % 4 + b + 2 * (u % 2)) % 4 ≡ (a + b + 2 * u) % 4
half_turns_within a b u =
    let regroup : a % 4 + b + 2 * u ≡ a % 4 + (b + 2 * u) = omega arith in
    let back : a + (b + 2 * u) ≡ a + b + 2 * u = omega arith in
    half_turns (a % 4 + b) u ∙ ap (λ (m : ℕ). m % 4) regroup ∙ mod-add-mod a 4 (b + 2 * u) ∙ ap (λ (m : ℕ). m % 4) back
