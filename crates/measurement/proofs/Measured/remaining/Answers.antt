use mathlib.Core.Path.{sym, ap, ◌∙◌}
use native.Mathlib.Omega.{arith}
use borrow.Author.Tests.{not-false}
use Rattle.amplitudelaws.specs.State.{state_of, point}
use Rattle.kernels.specs.Kernel.{measurement_kernel_of}
use Rattle.measurement.proofs.Leaving.{source_inside, diagonal_left}
use Rattle.measurement.proofs.Measured.remaining.Goals as goal

pub read-requires : goal.read-requires
read-requires c =
    let inside = source_inside c.args.self.projectable c.args.j c.requires.0 _ _ c.source-from.ensures in
    omega (arith, inside, c.requires)

pub returns : goal.returns
returns c =
    let a = c.args in
    let F = point (state_of a.re.now a.im.now) in
    c.read.ensures ∙ ap F c.source-from.ensures
    ∙ sym (diagonal_left (measurement_kernel_of a.self.kernel) a.self.branch F a.j (not-false a.self.kernel.is_diagonal c.if-not-kernel.false))
