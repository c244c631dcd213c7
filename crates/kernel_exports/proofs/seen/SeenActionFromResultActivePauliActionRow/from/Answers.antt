use Rattle.std.specs.Prelude.{refl}
use Rattle.kernels.specs.Kernel.{action_of}
use Rattle.verdicts.proofs.Seen.{meant, row_seen}
use Rattle.kernel_exports.proofs.seen.SeenActionFromResultActivePauliActionRow.from.Goals as goal

pub returns : goal.returns
returns c = rw (← c.no_action.ensures) (row_seen (meant c.verdict_and_value.ensures action_of) refl)
