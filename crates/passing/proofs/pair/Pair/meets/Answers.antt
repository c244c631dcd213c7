use Rattle.std.proofs.Common.{Bool, ◌∙◌}
use borrow.Author.Tests.{eq-eqb, ne_eqb}
use Rattle.activepauli.specs.Active.{active_of}
use Rattle.activepauli.specs.Accepted.{bit_accepted}
use Rattle.framelaws.specs.Carrying.{meets, deciding}
use Rattle.passing.specs.Unrefused.{unrefused, value_is}
use Rattle.passing.proofs.pair.Pair.meets.Goals as goal

pub unwrap-requires : goal.unwrap-requires
unwrap-requires c =
    unrefused (λ (b : Bool). b) c.z_bit.result (c.z_bit.ensures ∙ bit_accepted _ c.args.self.paired.first c.args.pivot c.requires _)

pub unwrap-requires-else-self-eq0 : goal.unwrap-requires-else-self-eq0
unwrap-requires-else-self-eq0 c =
    unrefused (λ (b : Bool). b) c.x_bit.result (c.x_bit.ensures ∙ bit_accepted _ c.args.self.paired.first c.args.pivot c.requires _)

pub returns-then-self-eq0 : goal.returns-then-self-eq0
unfolding meets deciding
returns-then-self-eq0 c =
    let Q = active_of c.args.self.pauli in
    let told = c.z_bit.ensures ∙ bit_accepted Q c.args.self.paired.first c.args.pivot c.requires Q.z in
    rw (eq-eqb _ _ c.if-self-eq0.true) (value_is (λ (b : Bool). b) c.z_bit.result told _ c.unwrap.ensures)

pub returns-else-self-eq0 : goal.returns-else-self-eq0
unfolding meets deciding
returns-else-self-eq0 c =
    let Q = active_of c.args.self.pauli in
    let told = c.x_bit.ensures ∙ bit_accepted Q c.args.self.paired.first c.args.pivot c.requires Q.x in
    rw (ne_eqb _ _ c.if-self-eq0.false) (value_is (λ (b : Bool). b) c.x_bit.result told _ c.unwrap-else-self-eq0.ensures)
