-- `list_steps`: what the check and the rows say, by their cases.
use Rattle.std.proofs.Common.{◌≡◌, sym, ap, ◌∙◌}
use Rattle.activepauli.specs.Active.{active_of}
use Rattle.answers.specs.Answer.Answer.{accepted}
use Rattle.checker.specs.Meaning.{checked_of}
use Rattle.framelaws.specs.Caller.{Caller, service}
use Rattle.runlaws.specs.Calls.{checking_with_start}
use Rattle.reports.specs.Listing.{answer_text}
use Rattle.reports.proofs.Answered.{listed, run_refused, row_refused, ready, walked}
use Rattle.reports.proofs.list_steps.Goals as goal
use Rattle.reports.proofs.list_steps.Goals.{In-Ok}

checked : (c : In-Ok) → checking_with_start service c.args.run.now ≡ accepted (checked_of c.in-Ok.checked)
checked c = ap (λ (k : Caller). checking_with_start k c.args.run.now) (sym c.limits.ensures) ∙ sym c.in-Ok.ensures

pub list_frames-requires : goal.list_frames-requires
list_frames-requires c =
    let a = c.args in
    ready a.run.now (active_of a.pauli) (checked (goal.at.list_frames-requires c).In-Ok) c.in-Ok-placed_row.ensures

pub returns-in-Ok-placed_row : goal.returns-in-Ok-placed_row
unfolding answer_text
returns-in-Ok-placed_row c =
    let a = c.args in
    listed a.run.now (active_of a.pauli)
    (walked a.run.now (active_of a.pauli) (checked (goal.at.returns-in-Ok-placed_row c).In-Ok) c.in-Ok-placed_row.ensures) c.list_frames.ensures

pub returns-in-Err-placed_row : goal.returns-in-Err-placed_row
unfolding answer_text
returns-in-Err-placed_row c =
    let a = c.args in
    listed a.run.now (active_of a.pauli)
    (row_refused a.run.now (active_of a.pauli) (checked (goal.at.returns-in-Err-placed_row c).In-Ok) c.in-Err-placed_row.row c.in-Err-placed_row.ensures)
    (rw c.from.ensures at c.refused.ensures)

pub returns-in-Err : goal.returns-in-Err
unfolding answer_text
returns-in-Err c =
    let a = c.args in
    listed a.run.now (active_of a.pauli)
    (run_refused a.run.now (active_of a.pauli)
    (ap (λ (k : Caller). checking_with_start k a.run.now) (sym c.limits.ensures) ∙ sym c.in-Err.ensures)) c.list_refused_at.ensures
