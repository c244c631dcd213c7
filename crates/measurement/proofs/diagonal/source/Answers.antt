-- the bits without the pivot, which do not reach the word's end
use mathlib.Core.Path.{◌≡◌, sym, ap, ◌∙◌}
use Prim.Native.Nat.{ℕ, ◌+◌, ◌*◌, ◌%◌, ◌^◌, ◌<◌}
use native.Mathlib.Nat.{add-zero, zero-mul, one-mul}
use native.Mathlib.Omega.{arith}
use lib.Pow.{pow_mono}
use borrow.Author.Tests.{eqb-true, eqb-false}
use Rattle.bitlaws.specs.Digit.{bit_of, mod_two, one_shifted}
use Rattle.bitlaws.specs.Opening.{open_bit}
use Rattle.bitlaws.specs.Parity.{overlap}
use Rattle.bitlaws.specs.Source.{source}
use Rattle.measurement.proofs.Opened.{opened, opened_lt}
use Rattle.measurement.proofs.diagonal.source.Goals as goal
use Rattle.measurement.proofs.diagonal.source.Goals.{After-open_bit-without_pivot}

module _ (p z e j w d : ℕ) (o : w ≡ open_bit p j) (h : (e + overlap w z) % 2 ≡ d) where
  read_at_lem : source p z e j ≡ w + d * 2 ^ p
  unfolding source
  read_at_lem = rw (← o, h)

not_one : (d : ℕ) → d < 2 → (d ≡ 1 → ⊥) → d ≡ 0
not_one d h ne = omega arith

abbrev kept : (c : After-open_bit-without_pivot) → c.open_bit-without_pivot.result ≡ open_bit c.args.pivot c.args.packed
kept c = opened c.args.pivot c.args.packed c.requires.0 c.requires.1 c.open_bit-without_pivot.result c.open_bit-without_pivot.ensures

pub overflow_add-result : goal.overflow_add-result
overflow_add-result c =
    let p : ℕ = c.args.pivot in
    omega (arith, kept (goal.at.overflow_add-result c).After-open_bit-without_pivot, opened_lt p c.args.packed c.requires.0 c.requires.1, one_shifted 64 p (omega arith), pow_mono {i = p} {j = 60} c.requires.0)

pub returns-then-differs_from_parity : goal.returns-then-differs_from_parity
returns-then-differs_from_parity c =
    let a = c.args in
    let w : ℕ = c.open_bit-without_pivot.result in
    let odd = eqb-true ((bit_of a.odd + overlap w a.zmask) % 2) 1 (sym c.differs_from_parity.ensures ∙ c.if-differs_from_parity.true) in
    ap (λ (m : ℕ). w + m) (one_shifted 64 a.pivot (omega arith) ∙ sym (one-mul (2 ^ a.pivot)))
    ∙ sym (read_at_lem a.pivot a.zmask (bit_of a.odd) a.packed w 1 (kept (goal.at.returns-then-differs_from_parity c).After-open_bit-without_pivot) odd)

pub returns : goal.returns
returns c =
    let a = c.args in
    let w : ℕ = c.open_bit-without_pivot.result in
    let sum : ℕ = bit_of a.odd + overlap w a.zmask in
    let other = eqb-false (sum % 2) 1 (sym c.differs_from_parity.ensures ∙ c.if-differs_from_parity.false) in
    let even : sum % 2 ≡ 0 = not_one (sum % 2) (mod_two sum) other in
    sym (read_at_lem a.pivot a.zmask (bit_of a.odd) a.packed w 0 (kept (goal.at.returns c).After-open_bit-without_pivot) even ∙ ap (λ (m : ℕ). w + m) (zero-mul (2 ^ a.pivot)) ∙ add-zero w)
