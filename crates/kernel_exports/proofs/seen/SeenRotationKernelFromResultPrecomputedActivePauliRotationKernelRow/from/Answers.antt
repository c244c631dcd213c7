use Rattle.std.specs.Prelude.{refl}
use Rattle.kernels.specs.Kernel.{rotation_kernel_of}
use Rattle.verdicts.proofs.Seen.{meant, row_seen}
use Rattle.kernel_exports.proofs.seen.SeenRotationKernelFromResultPrecomputedActivePauliRotationKernelRow.from.Goals as goal

pub returns : goal.returns
returns c = rw (← c.no_rotation.ensures) (row_seen (meant c.verdict_and_value.ensures rotation_kernel_of) refl)
