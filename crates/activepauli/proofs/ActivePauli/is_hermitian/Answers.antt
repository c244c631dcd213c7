-- three Ys count as one, modulo 2
use mathlib.Core.Path.{◌≡◌, ap, ◌∙◌}
use mathlib.Core.Bool.{Bool}
use Prim.Native.Nat.{ℕ, ◌+◌, ◌*◌, ◌%◌}
use native.Mathlib.Omega.{arith}
use lib.Dec.{eqb}
use Rattle.answers.specs.Answer.Answer.{accepted}
use Rattle.bitlaws.specs.Parity.{overlap, parity}
use Rattle.paulilaws.specs.Pauli.{hermitian, coefficient, ys}
use Rattle.pauligroup.specs.Calls.{squares_call}
use Rattle.refusals.proofs.Asked.{asked}
use Rattle.activepauli.specs.Active.{active_of}
use Rattle.activepauli.specs.Rows.{pauli_row, pauli_answered, pauli_value}
use Rattle.activepauli.proofs.ActivePauli.is_hermitian.Goals as goal

pub returns-in_err-pauli_row : goal.returns-in_err-pauli_row
unfolding squares_call
returns-in_err-pauli_row c =
    let P = active_of c.args.self in
    asked _ _ (pauli_row P) (λ (b : Bool). b) (hermitian P) c.from_residual.ensures.1 c.in_err-pauli_row.ensures ∙ pauli_answered (hermitian P) P

same_parity : (k y : ℕ) → (k % 2 + y % 2) % 2 ≡ (k + 3 * y) % 4 % 2
same_parity k y = omega arith

pub returns : goal.returns
unfolding squares_call hermitian coefficient ys overlap parity
returns c =
    let p = c.args.self in
    let P = active_of p in
    ap (λ (n : ℕ). accepted (eqb ((p.phase % 2 + n) % 2) 0)) c.shared.ensures.0
    ∙ ap (λ (n : ℕ). accepted (eqb n 0)) (same_parity p.phase (ys P))
    ∙ pauli_value (hermitian P) P c.in_ok-pauli_row.ensures
