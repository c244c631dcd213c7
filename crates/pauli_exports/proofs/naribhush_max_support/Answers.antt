use Rattle.pauli_exports.specs.Qubit.{seen_qubit_as}
use Rattle.pauli_exports.proofs.naribhush_max_support.Goals as goal

pub returns : goal.returns
returns c = seen_qubit_as c.from.ensures c.max_support.ensures
