-- `Ledger::serve` meets its contract: the run's, and one call more in the ledger.
use Rattle.std.proofs.Common.{◌≡◌, Bool, refl, ap, ◌∙◌}
use Rattle.std.specs.Prelude.{Result, Ok, Err}
use Rattle.std.specs.Result.{is_ok}
use Rattle.answers.specs.Answer.{Answer, is_accepted}
use Rattle.refusals.specs.declared.Refusal.{Refusal}
use Rattle.refusals.specs.declared.Refusal.TheVariants.{Whole, At}
use Rattle.refusals.specs.Refusal.{refusal_answer_of}
use Rattle.runlaws.specs.Calls.{Ending}
use Rattle.runlaws.specs.Ledger.{counted, finishes, after}
use Rattle.runner.specs.declared.Finished.{Finished}
use Rattle.runner.specs.Meaning.{finished_of}
use Rattle.ledger.specs.Meaning.{ledger_of}
use Rattle.ledger.proofs.Ledger.serve.Goals as goal

ok_accepted : (r : Result Finished Refusal) → is_ok r ≡ is_accepted (refusal_answer_of finished_of r)
unfolding is_accepted
ok_accepted (Ok f) = refl
ok_accepted (Err (Whole row)) = refl
ok_accepted (Err (At place)) = refl

pub returns : goal.returns
unfolding after finishes
returns c =
    let done = c.run_contiguous-answer.ensures in
    let told = c.is_ok.ensures.value ∙ ok_accepted c.run_contiguous-answer.result ∙ ap (λ (a : Answer Ending). is_accepted a) done.0 in
    record { fact = done; ledger_value = c.counted-ledger.ensures ∙ ap (λ (t : Bool). counted t (ledger_of c.args.self)) told }
