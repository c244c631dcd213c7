-- A line that was made at the start of a buffer of n zeros, which has room for it: what is shared of the buffer is the line.
use Rattle.std.specs.Prelude.{◌≡◌, List, ℕ, ◌≤◌, length, take, replicate}
use Rattle.std.proofs.Common.{refl, sym, arith}
use Rattle.std.proofs.Math.ListN.{length-replicate}
use Rattle.std.proofs.Math.Seq.{length-take-le}
use Rattle.lines.specs.Stored.{Stored, stored_kept, stored_made}

module _ (n : ℕ) {line : List ℕ} {len : ℕ} {made : List ℕ} (p : Stored line 0 (replicate n 0) len made) (short : length line ≤ n) where
  pub inside : len ≤ length made
  inside = omega (arith, p.ends, short, stored_kept p, length-replicate {A = ℕ} n 0)

  pub cut : len ≡ length (take len made)
  cut = sym (length-take-le len made inside)

  pub whole : take len made ≡ line
  whole = stored_made p refl (omega (arith, short, length-replicate {A = ℕ} n 0))
