use Rattle.std.proofs.Common.{rules}
use Rattle.answers.specs.Answer.{refuse}
use Rattle.answers.specs.Row.{row}
use Rattle.pauligroup.specs.Calls.{on_pair, pair_row, anticommutes_call}
use Rattle.pauligroup.proofs.pauli_anticommutes.Goals as goal

pub returns-in_err-are_pair : goal.returns-in_err-are_pair
unfolding anticommutes_call on_pair pair_row refuse row
returns-in_err-are_pair c = search rules

pub returns : goal.returns
unfolding anticommutes_call on_pair pair_row refuse row
returns c = search rules
