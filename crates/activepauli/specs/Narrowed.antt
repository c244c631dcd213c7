-- A Pauli with masks of one word: it is the same where it is on no more qubits than a word has bits.
use Rattle.std.specs.Prelude.{◌≡◌}
use Rattle.std.proofs.Math.Path.{refl}
use Rattle.std.proofs.Common.{mod-eq_of_lt, arith}
use Prim.Native.Nat.{ℕ, ◌%◌, ◌^◌, ◌≤◌}
use Rattle.std.proofs.Math.Nat.{mod-le}
use Rattle.std.proofs.Math.Pow.{pow_mono}
use borrow.Author.Tests.{lt-ltb}
use Rattle.paulilaws.specs.Pauli.{Pauli, fits, same}
use Rattle.paulilaws.specs.Fitting.{Fitting}

unfoldable pub narrowed : Pauli → Pauli
narrowed Q = record { n = Q.n; k = Q.k; x = Q.x % 2 ^ 64; z = Q.z % 2 ^ 64 }

module _ (Q : Pauli) (f : Fitting Q) where
  pub narrowed_small : Q.n ≤ 64 → narrowed Q ≡ Q
  unfolding narrowed
  narrowed_small h =
      let word : 2 ^ Q.n ≤ 2 ^ 64 = pow_mono {i = Q.n} {j = 64} h in
      same refl refl (mod-eq_of_lt (omega (arith, f.xs, word))) (mod-eq_of_lt (omega (arith, f.zs, word)))

  pub narrowed_fits : fits (narrowed Q) ≡ fits Q
  unfolding narrowed fits
  narrowed_fits =
      let most : ℕ = 2 ^ Q.n in
      rw (
        lt-ltb Q.x most f.xs,
        lt-ltb Q.z most f.zs,
        lt-ltb (Q.x % 2 ^ 64) most (omega (arith, mod-le Q.x (2 ^ 64), f.xs)),
        lt-ltb (Q.z % 2 ^ 64) most (omega (arith, mod-le Q.z (2 ^ 64), f.zs)),
      )
