-- `Ledger::serve_emulated` meets its contract: the run's, and the ledger as it was.
use Rattle.std.proofs.Common.{refl}
use Rattle.runlaws.specs.Ledger.{after}
use Rattle.ledger.proofs.Ledger.serve_emulated.Goals as goal

pub returns : goal.returns
unfolding after
returns c = record { fact = c.run_contiguous-answer.ensures; ledger_value = refl }
