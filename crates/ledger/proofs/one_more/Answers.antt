-- `ledger::one_more` meets its contract: a bool as a number is its digit.
use Rattle.std.proofs.Common.{ℕ, ◌+◌, ◌%◌, ◌^◌, ap, ◌∙◌}
use Rattle.steps.proofs.Flag.{byte_digit}
use Rattle.runlaws.specs.Ledger.{raised_by}
use Rattle.ledger.proofs.one_more.Goals as goal

pub returns : goal.returns
unfolding raised_by
returns c = ap (λ (d : ℕ). (c.args.count + d) % 2 ^ 64) (c.from.ensures ∙ byte_digit c.args.more)
