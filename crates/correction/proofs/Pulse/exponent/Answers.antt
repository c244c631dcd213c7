use mathlib.Core.Path.{◌≡◌, sym, ◌∙◌}
use mathlib.Core.Bool.{true, false}
use Prim.Native.Nat.{ℕ, zero, suc, ◌+◌, ◌*◌, ◌%◌, ◌<◌}
use native.Mathlib.Omega.{arith}
use lib.Dec.{eqb}
use Rattle.bitlaws.specs.Parity.{overlap}
use Rattle.bitlaws.proofs.Parity.{overlap_lt}
use Rattle.correction.proofs.Pulse.exponent.Goals as goal

odd_turn : (k u : ℕ) → u < 2 → eqb u 1 ≡ true → (k % 4 + 2) % 4 ≡ (k + 2 * u) % 4
odd_turn k zero h e = absurd (let z : ◌≡◌ {A = ℕ} 0 1 = cc in omega arith)
odd_turn k (suc zero) h e = omega arith
odd_turn k (suc (suc u)) h e = absurd (omega arith)

even_turn : (k u : ℕ) → u < 2 → eqb u 1 ≡ false → k % 4 ≡ (k + 2 * u) % 4
even_turn k zero h e = omega arith
even_turn k (suc zero) h e = absurd (let z : ◌≡◌ {A = ℕ} 0 1 = cc in omega arith)
even_turn k (suc (suc u)) h e = absurd (omega arith)

pub returns-then-is_odd_popcount : goal.returns-then-is_odd_popcount
unfolding overlap
returns-then-is_odd_popcount c =
    let a = c.args in
    let P = a.self.pauli in
    odd_turn P.phase (overlap a.basis P.z) (overlap_lt a.basis P.z) (sym c.is_odd_popcount.ensures ∙ c.if-is_odd_popcount.true)

pub returns-else-is_odd_popcount : goal.returns-else-is_odd_popcount
unfolding overlap
returns-else-is_odd_popcount c =
    let a = c.args in
    let P = a.self.pauli in
    even_turn P.phase (overlap a.basis P.z) (overlap_lt a.basis P.z) (sym c.is_odd_popcount.ensures ∙ c.if-is_odd_popcount.false)
