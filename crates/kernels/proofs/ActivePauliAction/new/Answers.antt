-- Up to width 62 a Pauli is the one with the lowest word of each mask; past it both are refused by 6.
use mathlib.Core.Path.{◌≡◌, sym, ap, ◌∙◌}
use mathlib.Core.Bool.{true, not}
use mathlib.Core.Logic.{⊎_elim}
use Prim.Native.Nat.{◌≤◌, ◌<◌}
use native.Mathlib.Omega.{arith}
use borrow.Author.Tests.{lt-ltb, not-false}
use Rattle.answers.specs.Answer.Answer.{accepted}
use Rattle.answers.specs.Row.{row, first, answered_none}
use Rattle.bitlaws.specs.Order.{le_or_lt}
use Rattle.paulilaws.specs.Pauli.{Pauli, fits}
use Rattle.paulilaws.specs.Fitting.{Fitting}
use Rattle.paulilaws.proofs.Fitting.{fits_fitting}
use Rattle.refusals.specs.Refusal.{number_of}
use Rattle.refusals.proofs.Asked.{asked}
use Rattle.paulis.proofs.Told.{row_refuses, row_passes}
use Rattle.paulis.specs.Strings.{pauli_of}
use Rattle.activepauli.specs.Active.{active_of}
use Rattle.activepauli.specs.Narrowed.{narrowed, narrowed_small, narrowed_fits}
use Rattle.amplitudelaws.specs.Rows.{width_row, hermitian_row, action_row}
use Rattle.amplitudelaws.specs.Passed.{hermitian_passed}
use Rattle.kernels.specs.Kernel.{action_of, pauli_action}
use Rattle.kernels.proofs.ActivePauliAction.new.Goals as goal
use Rattle.kernels.proofs.ActivePauliAction.new.Goals.{After-hermitian_row}

module _ (P : Pauli) (is : fits P ≡ true) where
  past : 63 ≤ P.n → hermitian_row 62 (narrowed P) ≡ action_row P
  unfolding narrowed action_row hermitian_row width_row row first
  past h = rw (narrowed_fits P (fits_fitting P is) ∙ is, is, lt-ltb 62 P.n (omega arith))

  narrowed_row : hermitian_row 62 (narrowed P) ≡ action_row P
  unfolding action_row
  narrowed_row = ⊎_elim past up_to (le_or_lt 63 P.n)
    where
      up_to : P.n < 63 → hermitian_row 62 (narrowed P) ≡ action_row P
      up_to h = ap (hermitian_row 62) (narrowed_small P (fits_fitting P is) (omega arith))

pub returns-in_err-refuse_if : goal.returns-in_err-refuse_if
unfolding action_row hermitian_row width_row row first
returns-in_err-refuse_if c =
    let P = pauli_of c.args.pauli in
    let e = c.in_err-refuse_if.field-0.0 in
    let three = row_refuses (not c.is_pauli.result) 3 e c.in_err-refuse_if.ensures in
    let is : number_of e ≡ action_row P = rw (← c.is_pauli.ensures, three.0) three.1 in
    asked _ _ (action_row P) action_of (pauli_action P) c.from_residual.ensures.1 is

module _ (c : After-hermitian_row) where
  abbrev given : Pauli
  given = pauli_of c.args.pauli

  fit : fits given ≡ true
  fit = sym c.is_pauli.ensures ∙ not-false _ (row_passes (not c.is_pauli.result) 3 (omega arith) c.in_ok-refuse_if.ensures)

  same_row : hermitian_row 62 (active_of c.lowest_words-active.result) ≡ action_row given
  same_row = ap (hermitian_row 62) c.lowest_words-active.ensures ∙ narrowed_row given fit

pub returns-in_err-hermitian_row : goal.returns-in_err-hermitian_row
returns-in_err-hermitian_row c =
    let is = c.in_err-hermitian_row.ensures ∙ same_row (goal.at.returns-in_err-hermitian_row c).After-hermitian_row in
    asked _ _ _ action_of _ c.from_residual-in_err-hermitian_row.ensures.1 is

passed : (P : Pauli) → 0 ≡ action_row P → Fitting P × (P.n ≤ 62)
unfolding action_row
passed P none = hermitian_passed 62 P (sym none)

pub action-requires : goal.action-requires
unfolding narrowed
action-requires c =
    let none = c.in_ok-hermitian_row.ensures ∙ same_row (goal.at.action-requires c).After-hermitian_row in
    let phase = ap (λ (A : Pauli). A.k) c.lowest_words-active.ensures in
    omega (arith, phase, (passed (pauli_of c.args.pauli) none).0.phase)

pub returns : goal.returns
returns c =
    let P = pauli_of c.args.pauli in
    let none = c.in_ok-hermitian_row.ensures ∙ same_row (goal.at.returns c).After-hermitian_row in
    let few = passed P none in
    let small = narrowed_small P few.0 (omega (arith, few.1)) in
    ap accepted (c.action.ensures ∙ ap pauli_action (c.lowest_words-active.ensures ∙ small))
    ∙ sym (answered_none (action_row P) (pauli_action P) (sym none))
