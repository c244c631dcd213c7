-- What carrying does to a Pauli besides multiplying it: a phase raised, a qubit dropped.
use Rattle.std.specs.Prelude.{◌≡◌, refl, ℕ, ◌+◌, ◌*◌, ◌%◌}
use Rattle.std.proofs.Common.{sym, ap, ◌∙◌, arith}
use Rattle.std.proofs.Math.Nat.{mod-add-mod}
use Rattle.std.specs.Int.Bits.{bit_xor}
use Rattle.bitlaws.specs.Digit.{digit}
use Rattle.bitlaws.specs.Opening.{open_bit, drop_bit}
use Rattle.bitlaws.proofs.Opening.{drop_open}
use Rattle.bitlaws.specs.Parity.{overlap}
use Rattle.bitlaws.proofs.Parity.{overlap_lt}
use Rattle.bitlaws.proofs.Pivot.{drop_xor, overlap_open, overlap_drop}
use Rattle.paulilaws.specs.Pauli.{Pauli, product, same}
use Rattle.paulilaws.specs.Action.{Ket, ket_same, on_ket, turned}
use Rattle.paulilaws.specs.Frame.{raised, dropped}

whole_phase : (s k e u : ℕ) → (s + (k + e) % 4 + 2 * u) % 4 ≡ ((s + k + 2 * u) % 4 + e) % 4
whole_phase s k e u =
    let regroup : s + (k + e) % 4 + 2 * u ≡ (k + e) % 4 + (s + 2 * u) = omega arith in
    let same : k + e + (s + 2 * u) ≡ s + k + 2 * u + e = omega arith in
    ap (λ (m : ℕ). m % 4) regroup ∙ mod-add-mod (k + e) 4 (s + 2 * u) ∙ ap (λ (m : ℕ). m % 4) same ∙ sym (mod-add-mod (s + k + 2 * u) 4 e)

-- a raised phase is the action, turned
pub raised_acts : (e : ℕ) (P : Pauli) (s : Ket) → on_ket (raised e P) s ≡ turned e (on_ket P s)
unfolding on_ket raised turned
raised_acts e P s = ket_same (whole_phase s.phase P.k e (overlap s.basis P.z)) refl

-- dropping a qubit is acting on the basis with the qubit at 0, and leaving out its bit of what comes
pub dropped_acts : (q : ℕ) (P : Pauli) (s : Ket)
    → let t = on_ket P (record { phase = s.phase; basis = open_bit q s.basis }) in on_ket (dropped q P) s ≡ record { phase = t.phase; basis = drop_bit q t.basis }
unfolding on_ket dropped
dropped_acts q P s =
    ket_same
    (ap (λ (m : ℕ). (s.phase + P.k + 2 * m) % 4) (sym (overlap_open q s.basis P.z)))
    (sym (drop_xor q (open_bit q s.basis) P.x ∙ ap (λ (m : ℕ). bit_xor m (drop_bit q P.x)) (drop_open q s.basis)))

-- a qubit may be dropped before two Paulis are multiplied where the first's Z part and the second's X part are not both on it
pub dropped_product : (q : ℕ) (A B : Pauli) → digit q A.z * digit q B.x ≡ 0 → product (dropped q A) (dropped q B) ≡ dropped q (product A B)
unfolding product dropped
dropped_product q A B none =
    same refl (ap (λ (o : ℕ). (A.k + B.k + 2 * o) % 4) parity) (sym (drop_xor q A.x B.x)) (sym (drop_xor q A.z B.z))
  where
    parity : overlap (drop_bit q A.z) (drop_bit q B.x) ≡ overlap A.z B.x
    parity = sym (overlap_drop q A.z B.x ∙ omega (arith, none, overlap_lt (drop_bit q A.z) (drop_bit q B.x)))
