use Rattle.std.proofs.Common.{◌∙◌}
use Rattle.activepauli.specs.Active.{active_of}
use Rattle.activepauli.specs.Accepted.{product_accepted}
use Rattle.passing.specs.Unrefused.{unrefused, value_is}
use Rattle.passing.proofs.pair.Pair.product.Goals as goal

pub unwrap-requires : goal.unwrap-requires
unwrap-requires c =
    let p = c.args.self.paired in
    unrefused active_of c.mul.result (c.mul.ensures ∙ product_accepted _ _ p.first p.second p.width)

pub returns : goal.returns
returns c =
    let p = c.args.self.paired in
    value_is active_of c.mul.result (c.mul.ensures ∙ product_accepted _ _ p.first p.second p.width) _ c.unwrap.ensures
