use Rattle.std.proofs.Common.{◌≡◌, ℕ, ◌<◌, Bool, sym, ap, ap₂, ◌∙◌, subst}
use Rattle.bitlaws.specs.Digit.{bit_of}
use Rattle.paulilaws.specs.Pauli.{Pauli}
use Rattle.paulilaws.specs.Fitting.{Admitted}
use Rattle.paulilaws.specs.Frame.{dropped}
use Rattle.activepauli.specs.Active.{active_of}
use Rattle.activepauli.specs.Accepted.{dropped_accepted}
use Rattle.activepauli.specs.Calls.{dropped_call}
use Rattle.answers.specs.Answer.Answer.{accepted}
use Rattle.framelaws.specs.Carrying.{flipped, meets, absorbed}
use Rattle.framelaws.specs.Fitted.{absorbed_width, absorbed_fitting}
use Rattle.framelaws.specs.Suited.{Paired}
use Rattle.passing.specs.Unrefused.{unrefused, value_is}
use Rattle.passing.proofs.pair.Pair.past_projection.Goals as goal
use Rattle.passing.proofs.pair.Pair.past_projection.Goals.{After-absorbed-whole}

-- a Pauli on the measured one's qubits, after the product, has the pivot's qubit
whole_dropped : (Q M : Pauli) (p v : ℕ) (t : Bool) (whole : Pauli) → Paired Q M → p < Q.n → whole ≡ absorbed t M v Q → dropped_call whole p ≡ accepted (dropped p whole)
whole_dropped Q M p v t whole pair inside is =
    let same = sym pair.width in
    dropped_accepted whole (subst Admitted (sym is)
    (record {
      fitting = absorbed_fitting M v Q same t pair.second pair.first.fitting;
      width = rw (absorbed_width M v Q same t) pair.first.width;
    })) p (subst (λ (n : ℕ). p < n) (sym (ap (λ (P : Pauli). P.n) is ∙ absorbed_width M v Q same t)) inside)

whole_is : (c : After-absorbed-whole) → let Q = active_of c.args.self.pauli in let M = active_of c.args.self.other in
    active_of c.absorbed-whole.result ≡ absorbed (meets M c.args.pivot Q) M (flipped Q M (bit_of c.args.branch)) Q
whole_is c = c.absorbed-whole.ensures ∙ ap₂ (λ (s : Bool) (n : ℕ). absorbed s (active_of c.args.self.other) n (active_of c.args.self.pauli)) c.meets-met.ensures c.flipped-new.ensures

pub unwrap-requires : goal.unwrap-requires
unwrap-requires c =
    unrefused active_of c.dropped.result (c.dropped.ensures ∙ whole_dropped _ _ _ _ _ _ c.args.self.paired c.requires (whole_is (goal.at.unwrap-requires c).After-absorbed-whole))

pub returns : goal.returns
returns c =
    let is = whole_is (goal.at.returns c).After-absorbed-whole in
    value_is active_of c.dropped.result (c.dropped.ensures ∙ whole_dropped _ _ _ _ _ _ c.args.self.paired c.requires is) _ c.unwrap.ensures ∙ ap (dropped c.args.pivot) is
