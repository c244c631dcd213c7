-- `list_step`: what the reporter finds, by its cases, is what the definition lists.
use Rattle.std.proofs.Common.{◌≡◌, List, ℕ, sym, subst, lit≤}
use Rattle.std.specs.Prelude.{Float, Result}
use Rattle.answers.specs.Answer.{Answer}
use Rattle.activepauli.specs.Active.{active_of}
use Rattle.framelaws.specs.Caller.{service}
use Rattle.framelaws.specs.Reporting.{Framed}
use Rattle.lines.specs.Calls.{Lined}
use Rattle.paulilaws.specs.Pauli.{Pauli}
use Rattle.refusals.specs.declared.Row.{Row}
use Rattle.reporter.specs.Meaning.{framed_of}
use Rattle.runlaws.specs.Calls.{finding}
use Rattle.reports.specs.Listing.{answer_text, step_listed}
use Rattle.reports.specs.NarrowRun.{found_narrow}
use Rattle.reports.specs.Refused.{refused_text}
use Rattle.reports.specs.Text.{step_line}
use Rattle.reports.proofs.Asking.{written}
use Rattle.reports.proofs.list_step.Goals as goal

-- a text that is written, by the answer that it is of
listed : (s : List ℕ) (Q : Pauli) (i : ℕ) {a : Answer (Framed Float)} {old left : List ℕ} {r : Result ℕ Row} → a ≡ finding service s Q i
    → Lined (answer_text (step_line i) a) old r left → Lined (step_listed s Q i) old r left
unfolding step_listed
listed s Q i {a} {old} {left} {r} e l = subst (λ (x : Answer (Framed Float)). Lined (answer_text (step_line i) x) old r left) e l

pub list_found-requires : goal.list_found-requires
list_found-requires c =
    let a = c.args in
    found_narrow service (lit≤ tt) a.run.now (active_of a.pauli) a.number _ (sym c.in-Ok.ensures)

pub returns-in-Ok : goal.returns-in-Ok
unfolding answer_text
returns-in-Ok c =
    let a = c.args in
    listed a.run.now (active_of a.pauli) a.number c.in-Ok.ensures c.list_found.ensures

pub returns-in-Err : goal.returns-in-Err
returns-in-Err c =
    let a = c.args in
    listed a.run.now (active_of a.pauli) a.number c.in-Err.ensures
    (written (refused_text framed_of (step_line a.number) c.in-Err.refusal) c.list_refused.ensures)
