use Rattle.std.proofs.Common.{◌≡◌, ℕ, zero, suc, ◌+◌, ◌<◌, Bool, eqb, refl, ap, ◌∙◌, arith}
use Rattle.bitlaws.specs.Digit.{bit_of, mod_two}
use Rattle.bitlaws.specs.Parity.{overlap}
use Rattle.paulilaws.specs.Pauli.{Pauli, anti}
use Rattle.activepauli.specs.Active.{active_of}
use Rattle.activepauli.specs.Accepted.{anticommutes_accepted}
use Rattle.passing.specs.Unrefused.{unrefused, value_is}
use Rattle.passing.proofs.pair.Pair.anticommute.Goals as goal

odd : (n : ℕ) → n < 2 → bit_of (eqb n 1) ≡ n
odd zero h = refl
odd (suc zero) h = refl
odd (suc (suc n)) h = absurd (omega arith)

anti_bit : (A B : Pauli) → bit_of (eqb (anti A B) 1) ≡ anti A B
unfolding anti
anti_bit A B = odd (anti A B) (mod_two (overlap A.x B.z + overlap A.z B.x))

pub unwrap-requires : goal.unwrap-requires
unwrap-requires c =
    let p = c.args.self.paired in
    unrefused (λ (b : Bool). b) c.anticommutes.result (c.anticommutes.ensures ∙ anticommutes_accepted _ _ p.first p.second p.width)

pub returns : goal.returns
returns c =
    let p = c.args.self.paired in
    let told = c.anticommutes.ensures ∙ anticommutes_accepted (active_of c.args.self.pauli) (active_of c.args.self.other) p.first p.second p.width in
    ap bit_of (value_is (λ (b : Bool). b) c.anticommutes.result told _ c.unwrap.ensures) ∙ anti_bit _ _
