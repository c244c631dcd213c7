use mathlib.Core.Path.{sym, ap, ◌∙◌}
use Rattle.bitlaws.proofs.Highest.{none_zero}
use Rattle.refusals.specs.Optional.{option_of}
use Rattle.kernels.specs.Pivot.{found_pivot}
use borrow.Author.Rules.{rules}
use Rattle.correction.proofs.Pulse.correct.Goals as goal

pub correct_alone-requires : goal.correct_alone-requires
correct_alone-requires c =
    let P = c.args.self.pauli in
    let none_set = sym c.highest_bit.ensures ∙ ap option_of c.in-None.is in
    (none_zero 64 P.x (search rules) none_set, c.requires)

pub correct_pairs-requires : goal.correct_pairs-requires
correct_pairs-requires c =
    let P = c.args.self.pauli in
    let is_set = sym c.highest_bit.ensures ∙ ap option_of c.in-Some.is in
    (found_pivot P.nqubits 64 P.x _ c.args.self.masked is_set, c.requires)
