use Rattle.std.proofs.Common.{◌≤◌, refl, sym, ◌∙◌, arith}
use Rattle.activepauli.specs.Active.{active_of}
use Rattle.callers.proofs.Widest.{widest_within}
use Rattle.callers.specs.Meaning.{limits_of}
use Rattle.framelaws.specs.Caller.{widest_run}
use Rattle.refusals.proofs.Asked.{number_some, refused_there, refused_whole}
use Rattle.seeker.proofs.Answered.{run_refused, row_refused, is_read, begins, width_narrow, ends, last_narrow, searched}
use Rattle.seeker.proofs.seek_start.Goals as goal

pub returns-in_err-checked : goal.returns-in_err-checked
returns-in_err-checked c =
    let a = c.args in
    rw (← c.limits-limits.ensures)
    (refused_there active_of _ _ c.from_residual.ensures.1 ∙ run_refused (limits_of c.limits-limits.result) a.run.now (active_of a.end) _ _ (sym c.in_err-checked.ensures))

pub returns-in_err-placed_row : goal.returns-in_err-placed_row
returns-in_err-placed_row c =
    let a = c.args in
    rw (← c.limits-limits.ensures)
    (refused_whole active_of _ _ c.from_residual-in_err-placed_row.ensures.1
    ∙ row_refused (limits_of c.limits-limits.result) a.run.now (active_of a.end) (sym c.in_ok-checked.ensures) c.in_err-placed_row.ensures (λ none. omega (arith, number_some)))

pub invariant_of-search : goal.invariant_of-search
invariant_of-search c =
    let a = c.args in
    let k = limits_of c.limits-limits.result in
    let E = active_of a.end in
    let narrow : k.widest ≤ widest_run = rw c.limits-limits.ensures (widest_within a.caller) in
    let checked = sym c.in_ok-checked.ensures in
    let placed = c.in_ok-placed_row.ensures in
    record {
      read = is_read k a.run.now E checked placed;
      begins = begins k a.run.now E checked placed;
      ends = ends k a.run.now E checked placed refl;
      width_narrow = width_narrow k a.run.now E checked placed narrow;
      last_narrow = last_narrow k a.run.now E checked placed refl narrow;
    }

pub returns-in_err-start_for : goal.returns-in_err-start_for
returns-in_err-start_for c =
    let a = c.args in
    rw (← c.limits-limits.ensures)
    (refused_whole active_of _ _ c.from_residual-in_err-start_for.ensures.1
    ∙ searched (limits_of c.limits-limits.result) a.run.now (active_of a.end) (sym c.in_ok-checked.ensures) c.in_ok-placed_row.ensures refl c.in_err-start_for.ensures)

pub returns : goal.returns
returns c =
    let a = c.args in
    rw (← c.limits-limits.ensures)
    (searched (limits_of c.limits-limits.result) a.run.now (active_of a.end) (sym c.in_ok-checked.ensures) c.in_ok-placed_row.ensures refl c.in_ok-start_for.ensures)
