-- three phases summed, two of them already modulo 4
use mathlib.Core.Path.{◌≡◌, refl, ap, ◌∙◌}
use Prim.Native.Nat.{ℕ, ◌+◌, ◌*◌, ◌%◌}
use native.Mathlib.Omega.{arith}
use Rattle.answers.specs.Answer.Answer.{accepted}
use Rattle.bitlaws.specs.Parity.{overlap}
use Rattle.paulilaws.specs.Pauli.{same, product}
use Rattle.pauligroup.specs.Calls.{product_call}
use Rattle.refusals.proofs.Asked.{asked}
use Rattle.activepauli.specs.Active.{active_of}
use Rattle.activepauli.specs.Rows.{pair_row, pair_answered, pair_value}
use Rattle.activepauli.proofs.ActivePauli.mul.Goals as goal

whole : (a b u : ℕ) → (a % 4 + b % 4 + u) % 4 ≡ (a + b + u) % 4
whole a b u = omega arith

pub returns-in_err-pair_row : goal.returns-in_err-pair_row
unfolding product_call
returns-in_err-pair_row c =
    let P = active_of c.args.self in
    let Q = active_of c.args.rhs in
    asked _ _ (pair_row P Q) active_of (product P Q) c.from_residual.ensures.1 c.in_err-pair_row.ensures ∙ pair_answered (product P Q) P Q

pub returns : goal.returns
unfolding product_call product
returns c =
    let P = active_of c.args.self in
    let Q = active_of c.args.rhs in
    let phase
    = ap (λ (n : ℕ). (P.k % 4 + Q.k % 4 + 2 * n) % 4) c.shared.ensures.0
    ∙ whole P.k Q.k (2 * overlap P.z Q.x) in
    ap accepted (same refl phase refl refl) ∙ pair_value (product P Q) P Q c.in_ok-pair_row.ensures
