-- `list_run`: the runner's answer, by its cases, is that of the listing's definition at the same start.
use Rattle.std.proofs.Common.{ℕ, List, subst, arith}
use Rattle.lines.specs.Calls.{Lined}
use Rattle.runner.specs.Meaning.{finished_of}
use Rattle.listing.specs.Listing.{fresh}
use Rattle.listing.proofs.Ran.{narrow, enough, listed_state, listed_refused}
use Rattle.listing.proofs.list_run.Goals as goal

pub list_state-requires : goal.list_state-requires
list_state-requires c =
    let ran = c.run_contiguous-ran in
    let e = c.in-Ok.ensures.0 in
    (narrow _ _ (finished_of c.in-Ok.finished) e, (enough _ _ _ e ran.new.re (omega arith), enough _ _ _ e ran.new.im (omega arith)))

pub returns-in-Ok : goal.returns-in-Ok
unfolding fresh
returns-in-Ok c =
    let done = c.list_state in
    subst (λ (t : List ℕ). Lined t c.args.out.now done.result done.new.out)
    (listed_state c.args.run.now (finished_of c.in-Ok.finished) _ _ _ _ c.in-Ok.ensures.0 c.in-Ok.ensures.1) done.ensures

pub returns-in-Err : goal.returns-in-Err
unfolding fresh
returns-in-Err c =
    let done = c.list_refused in
    subst (λ (t : List ℕ). Lined t c.args.out.now done.result done.new.out)
    (listed_refused c.args.run.now finished_of c.in-Err.refusal c.in-Err.ensures.0) done.ensures
