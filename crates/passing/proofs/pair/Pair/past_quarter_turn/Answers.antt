-- what the code found is the test of the definition
use Rattle.std.proofs.Common.{◌≡◌, ℕ, Bool, true, false, eqb, sym, ap, ◌∙◌, subst}
use Rattle.answers.specs.Answer.Answer.{accepted}
use Rattle.bitlaws.specs.Digit.{bit_of, bit_one}
use Rattle.paulilaws.specs.Pauli.{Pauli, product, anti}
use Rattle.paulilaws.specs.Fitting.{Admitted, admitted_beside, product_fitting}
use Rattle.paulilaws.specs.Frame.{raised}
use Rattle.activepauli.specs.Active.{active_of}
use Rattle.activepauli.specs.Accepted.{raised_accepted}
use Rattle.activepauli.specs.Calls.{raised_call}
use Rattle.framelaws.specs.Carrying.{turned_by, turned_past}
use Rattle.framelaws.specs.Suited.{Paired}
use Rattle.passing.specs.Unrefused.{unrefused, value_is}
use Rattle.passing.proofs.pair.Pair.past_quarter_turn.Goals as goal

by_test : (Q P : Pauli) (found t : Bool) → bit_of found ≡ anti Q P → found ≡ t → turned_past Q P ≡ turned_by t P Q
unfolding turned_past
by_test Q P found t told is = ap (λ (u : Bool). turned_by u P Q) (sym (ap (λ (n : ℕ). eqb n 1) told) ∙ bit_one found ∙ is)

product_raised : (Q P whole : Pauli) → Paired Q P → whole ≡ product P Q → raised_call whole 3 ≡ accepted (raised 3 whole)
product_raised Q P whole p is =
    raised_accepted whole (subst Admitted (sym is)
    (record {
      fitting = product_fitting p.width p.second p.first.fitting;
      width = unfold product in (admitted_beside p.first p.width p.second).width;
    })) 3

pub invariant_of-turned : goal.invariant_of-turned
invariant_of-turned c =
    let p = c.args.self.paired in
    record { paired = record { first = admitted_beside p.first p.width p.second; second = p.first.fitting; width = sym p.width } }

pub unwrap-requires : goal.unwrap-requires
unwrap-requires c =
    unrefused active_of c.raised.result (c.raised.ensures ∙ product_raised _ _ _ c.args.self.paired c.product.ensures)

pub returns-then-anticommute : goal.returns-then-anticommute
unfolding turned_by
returns-then-anticommute c =
    value_is active_of c.raised.result (c.raised.ensures ∙ product_raised _ _ _ c.args.self.paired c.product.ensures) _ c.unwrap.ensures ∙ ap (raised 3) c.product.ensures
    ∙ sym (by_test _ _ _ true c.anticommute.ensures c.if-anticommute.true)

pub returns-else-anticommute : goal.returns-else-anticommute
unfolding turned_by
returns-else-anticommute c =
    sym (by_test _ _ _ false c.anticommute.ensures c.if-anticommute.false)
