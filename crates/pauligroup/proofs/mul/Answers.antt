use Rattle.std.proofs.Common.{rules}
use Rattle.answers.specs.Answer.{refuse}
use Rattle.answers.specs.Row.{row}
use Rattle.pauligroup.specs.Calls.{on_pair, pair_row, product_call}
use Rattle.pauligroup.proofs.mul.Goals as goal

pub returns-in_err-are_pair : goal.returns-in_err-are_pair
unfolding product_call on_pair pair_row refuse row
returns-in_err-are_pair c = search rules

pub returns : goal.returns
unfolding product_call on_pair pair_row refuse row
returns c = search rules
