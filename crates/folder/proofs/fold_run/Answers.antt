-- `folder::fold_run` meets its contract: what the check says, then row 16, then what the steps leave.
use Rattle.std.proofs.Common.{sym, ◌∙◌, arith}
use Rattle.refusals.proofs.Asked.{refused_there}
use Rattle.callers.proofs.Widest.{widest_within}
use Rattle.callers.specs.Meaning.{limits_of}
use Rattle.folder.specs.Foldable.{Foldable}
use Rattle.folder.specs.Meaning.{folded_of}
use Rattle.folder.proofs.Answered.{run_refused, foldable, too_short, done, under}
use Rattle.folder.proofs.fold_run.Goals as goal
use Rattle.folder.proofs.fold_run.Goals.{In_ok-width}

pub returns-in_err-width : goal.returns-in_err-width
returns-in_err-width c =
    let a = c.args in
    let did = under a.run.now a.out.now c.limits-limits.ensures (run_refused (limits_of c.limits-limits.result) a.run.now a.out.now _ _ (sym c.in_err-width.ensures)) in
    (refused_there folded_of _ _ c.from_residual.ensures.1 ∙ did.0, did.1)

-- the run that was checked
ready : (c : In_ok-width) → Foldable (limits_of c.limits-limits.result) c.args.run.now c.in_ok-width.field-0.start
ready c =
    let a = c.args in
    foldable (limits_of c.limits-limits.result) a.run.now a.out.now (sym c.in_ok-width.ensures) (rw c.limits-limits.ensures (widest_within a.caller))

pub left_size-size-requires : goal.left_size-size-requires
left_size-size-requires c = ready (goal.at.left_size-size-requires c).In_ok-width

pub returns-then-out-size : goal.returns-then-out-size
returns-then-out-size c =
    let a = c.args in
    under a.run.now a.out.now c.limits-limits.ensures
    (too_short (limits_of c.limits-limits.result) a.run.now a.out.now (sym c.in_ok-width.ensures) c.left_size-size.ensures (omega (arith, c.if-out-size.true)))

pub fold_steps-end-requires-clause-foldable : goal.fold_steps-end-requires-clause-foldable
fold_steps-end-requires-clause-foldable c = ready (goal.at.fold_steps-end-requires-clause-foldable c).In_ok-width

pub returns : goal.returns
returns c =
    let a = c.args in
    under a.run.now a.out.now c.limits-limits.ensures
    (done (limits_of c.limits-limits.result) a.run.now a.out.now (sym c.in_ok-width.ensures) c.left_size-size.ensures (omega (arith, c.if-out-size.false))
    _ _ c.fold_steps-end.ensures.result_value c.fold_steps-end.ensures.out_after)
