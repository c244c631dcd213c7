-- The bytes of a number, lowest first, and that they read back.
use Rattle.std.specs.Prelude.{◌≡◌, List, ◌++◌, ℕ, zero, suc, ◌/◌, ◌%◌, ◌^◌, ◌<◌, length}
use Rattle.std.proofs.Common.{sym, ap, ◌∙◌, mul_comm, pow-suc, div-one, arith, get_or-append-add}
use Rattle.std.proofs.Math.Nat.{pow-zero, div-div-eq-div-mul}
use Rattle.std.proofs.Math.ListN.{get_or-append}
use Rattle.runlaws.specs.Bytes.{byte_at, number}
use Rattle.runlaws.specs.NumberBytes.{bytes_of, bytes_length, number_of}

pub bytes_at : (k v i : ℕ) → i < k → byte_at (bytes_of k v) i ≡ v / 256 ^ i % 256
unfolding bytes_of
bytes_at zero v i h = absurd (omega arith)
bytes_at (suc k) v zero h = ap (λ (n : ℕ). n % 256) (sym (ap (λ (p : ℕ). v / p) (pow-zero 256) ∙ div-one v))
bytes_at (suc k) v (suc i) h =
    bytes_at k (v / 256) i (omega arith)
    ∙ ap (λ (n : ℕ). n % 256) (div-div-eq-div-mul v 256 (256 ^ i) ∙ ap (λ (p : ℕ). v / p) (mul_comm 256 (256 ^ i) ∙ sym (pow-suc 256 i)))

-- read back, wherever they stand
pub bytes_read : (k v : ℕ) (pre rest : List ℕ) → number k (pre ++ (bytes_of k v ++ rest)) (length pre) ≡ v % 256 ^ k
bytes_read k v pre rest = number_of k v (pre ++ (bytes_of k v ++ rest)) (length pre) (λ m h.
    get_or-append-add pre (bytes_of k v ++ rest) m 0 ∙ get_or-append (bytes_of k v) rest 0 m (rw (bytes_length k v) h) ∙ bytes_at k v m h)
