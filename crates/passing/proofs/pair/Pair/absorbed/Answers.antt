use Rattle.std.proofs.Common.{sym, subst}
use Rattle.paulilaws.specs.Fitting.{Admitted, product_fitting}
use Rattle.paulilaws.specs.Pauli.{product}
use Rattle.passing.proofs.pair.Pair.absorbed.Goals as goal

pub signed-requires : goal.signed-requires
signed-requires c =
    let p = c.args.self.paired in
    subst Admitted (sym c.product.ensures)
    (record { fitting = product_fitting (sym p.width) p.first.fitting p.second; width = unfold product in p.first.width })
