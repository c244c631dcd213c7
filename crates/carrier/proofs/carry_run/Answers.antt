use Rattle.std.proofs.Common.{◌≤◌, List, ℕ, ◌++◌, length, drop, refl, sym, ap, ◌∙◌, arith, rules}
use Rattle.activepauli.specs.Active.{active_of}
use Rattle.callers.specs.Meaning.{limits_of}
use Rattle.refusals.proofs.Asked.{number_some, refused_there, refused_whole}
use Rattle.runlaws.specs.Outcomes.{carrying_passed}
use Rattle.carrier.proofs.Answered.{run_refused, row_refused, ready, done}
use Rattle.carrier.proofs.carry_run.Goals as goal
use Rattle.carrier.proofs.carry_run.Goals.{In_ok-carrying_row}

pub returns-in_err-checked : goal.returns-in_err-checked
returns-in_err-checked c =
    let a = c.args in
    let did = run_refused (limits_of c.limits-limits.result) a.run.now (active_of a.pauli) a.out.now _ _ (sym c.in_err-checked.ensures) in
    rw (← c.limits-limits.ensures) (refused_there active_of _ _ c.from_residual.ensures.1 ∙ did.0, did.1)

pub returns-in_err-carrying_row : goal.returns-in_err-carrying_row
returns-in_err-carrying_row c =
    let a = c.args in
    let did = row_refused (limits_of c.limits-limits.result) a.run.now (active_of a.pauli) a.out.now (sym c.in_ok-checked.ensures) c.in_err-carrying_row.ensures (λ none. omega (arith, number_some)) in
    rw (← c.limits-limits.ensures) (refused_whole active_of _ _ c.from_residual-in_err-carrying_row.ensures.1 ∙ did.0, did.1)

room : (c : In_ok-carrying_row) → length c.args.run.now ≤ length c.args.out.now
room c = (carrying_passed _ _ _ _ (sym c.in_ok-carrying_row.ensures)).2

pub slice_bounds-copy_from_slice-end : goal.slice_bounds-copy_from_slice-end
slice_bounds-copy_from_slice-end c = room (goal.at.slice_bounds-copy_from_slice-end c).In_ok-carrying_row

pub slice_bounds-copy_from_slice-end-2 : goal.slice_bounds-copy_from_slice-end-2
slice_bounds-copy_from_slice-end-2 c = let h = room (goal.at.slice_bounds-copy_from_slice-end-2 c).In_ok-carrying_row in search rules

pub copy_from_slice-requires : goal.copy_from_slice-requires
copy_from_slice-requires c = let h = room (goal.at.copy_from_slice-requires c).In_ok-carrying_row in search rules

pub carry_steps-requires : goal.carry_steps-requires
carry_steps-requires c =
    let a = c.args in
    ready (limits_of c.limits-limits.result) a.run.now (active_of a.pauli) a.out.now (sym c.in_ok-checked.ensures) c.in_ok-carrying_row.ensures refl

pub returns : goal.returns
returns c =
    let a = c.args in
    rw (← c.limits-limits.ensures) (done (limits_of c.limits-limits.result) a.run.now (active_of a.pauli) a.out.now (sym c.in_ok-checked.ensures) c.in_ok-carrying_row.ensures refl
    (ap (λ (l : List ℕ). l ++ drop (length a.run.now) a.out.now) c.copy_from_slice.ensures.after) _ _
    c.carry_steps.ensures.0 c.carry_steps.ensures.1)
