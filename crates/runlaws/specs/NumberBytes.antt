-- The bytes of a number, lowest first, and that they read back.
use Rattle.std.specs.Prelude.{◌≡◌, refl, List, [], ◌∷◌, ℕ, zero, suc, ◌+◌, ◌*◌, ◌/◌, ◌%◌, ◌^◌, ◌<◌, length}
use Rattle.std.proofs.Common.{sym, ap, ap₂, ◌∙◌, add_comm, mul_comm, pow-suc, mod-lt, zero-lt-suc, arith}
use Rattle.std.proofs.Math.Nat.{pow-zero, mod-one}
use Rattle.std.proofs.Math.Arith.{mod-mul}
use Rattle.runlaws.specs.Bytes.{byte_at, number}

-- the lowest k bytes of v
unfoldable pub bytes_of : ℕ → ℕ → List ℕ
bytes_of zero v = []
bytes_of (suc k) v = v % 256 ∷ bytes_of k (v / 256)

pub bytes_length : (k v : ℕ) → length (bytes_of k v) ≡ k
unfolding bytes_of
bytes_length zero v = refl
bytes_length (suc k) v = ap suc (bytes_length k _)

pub bytes_small : (k v i : ℕ) → byte_at (bytes_of k v) i < 256
unfolding bytes_of
bytes_small zero v i = zero-lt-suc 255
bytes_small (suc k) v zero = mod-lt _ (zero-lt-suc 255)
bytes_small (suc k) v (suc i) = bytes_small k _ i

some_power : (k : ℕ) → 0 < 256 ^ k
some_power zero = omega (arith, pow-zero 256)
some_power (suc k) = omega (arith, pow-suc 256 k, some_power k)

-- the number of k bytes that are those of v
pub number_of : (k v : ℕ) (s : List ℕ) (i : ℕ) → ((m : ℕ) → m < k → byte_at s (i + m) ≡ v / 256 ^ m % 256) → number k s i ≡ v % 256 ^ k
unfolding number
number_of zero v s i h = sym (ap (λ (p : ℕ). v % p) (pow-zero 256) ∙ mod-one v)
number_of (suc k) v s i h =
    let p : ℕ = 256 ^ k in
    ap₂ (λ (a b : ℕ). a + p * b) (number_of k v s i (λ m l. h m (omega arith))) (h k (omega arith))
    ∙ add_comm (v % p) (p * (v / p % 256)) ∙ ap (λ (a : ℕ). a + v % p) (mul_comm p (v / p % 256))
    ∙ sym (ap (λ (q : ℕ). v % q) (pow-suc 256 k ∙ mul_comm p 256) ∙ mod-mul v {m = 256} {c = p} (omega arith) (some_power k))
