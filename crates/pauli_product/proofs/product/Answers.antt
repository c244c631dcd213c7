-- `product`: a text that is shown is no longer than the buffer.
use Rattle.std.specs.Prelude.{◌≡◌, ℕ, ◌≤◌, Bool, true, false, not, List, length, ltb, Ok}
use Rattle.std.proofs.Common.{refl, sym, arith, ltb-false}
use Rattle.std.proofs.Math.Seq.{length-take-le}
use Rattle.answers.specs.Answer.{refuse}
use Rattle.answers.specs.Answer.Answer.{accepted}
use Rattle.answers.specs.Row.{accepted_same, refused_accepted}
use Rattle.paulilaws.specs.Pauli.{Pauli, fits}
use Rattle.paulis.specs.Calls.{on_pauli}
use Rattle.paulitext.specs.Calls.{Shown, show_call}
use Rattle.paulitext.specs.Text.{shown}
use Rattle.pauli_product.proofs.product.Goals as goal

shown_within : {P : Pauli} {out left : List ℕ} {n : ℕ} → Shown P out (Ok n) left → n ≤ length out
unfolding show_call on_pauli refuse
shown_within {P} {out} {left} {n} s = by (not (fits P)) (ltb (length out) (length (shown P))) refl s.told
  where
    by : (t u : Bool) → ltb (length out) (length (shown P)) ≡ u → accepted n ≡ refuse t 3 (refuse u 16 (accepted (length (shown P)))) → n ≤ length out
    by true u e told = absurd (refused_accepted (sym told))
    by false true e told = absurd (refused_accepted (sym told))
    by false false e told = omega (arith, accepted_same told, ltb-false (length out) (length (shown P)) e)

pub slice_bounds-result-end : goal.slice_bounds-result-end
slice_bounds-result-end c =
    let within = shown_within c.in_ok-len.ensures in
    sym (length-take-le _ _ (omega (arith, c.display.auto.out)))
