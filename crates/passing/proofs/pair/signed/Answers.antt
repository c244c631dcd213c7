use Rattle.std.proofs.Common.{ℕ, ◌*◌, ap, ◌∙◌}
use Rattle.paulilaws.specs.Frame.{raised}
use Rattle.steps.proofs.Flag.{byte_digit}
use Rattle.activepauli.specs.Active.{active_of}
use Rattle.activepauli.specs.Accepted.{raised_accepted}
use Rattle.passing.specs.Unrefused.{unrefused, value_is}
use Rattle.passing.proofs.pair.signed.Goals as goal

pub unwrap-requires : goal.unwrap-requires
unwrap-requires c =
    unrefused active_of c.raised.result (c.raised.ensures ∙ raised_accepted _ c.requires _)

pub returns : goal.returns
returns c =
    value_is active_of c.raised.result (c.raised.ensures ∙ raised_accepted _ c.requires _) _ c.unwrap.ensures
    ∙ ap (λ (n : ℕ). raised (2 * n) (active_of c.args.pauli)) (c.from.ensures ∙ byte_digit c.args.flag)
