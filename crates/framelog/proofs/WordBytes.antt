-- A word's eight bytes as the library gives them, stored.
use Rattle.std.specs.Prelude.{◌≡◌, refl, List, ◌∷◌, ◌++◌, ℕ, zero, suc, ◌+◌, ◌-◌, ◌/◌, ◌%◌, ◌^◌, ◌≤◌, length, take, drop}
use Rattle.std.specs.Int.{w64, byte_at, bytes_low_first, to_le_bytes}
use Rattle.std.proofs.Common.{sym, ap, ap₂, ◌∙◌, append_assoc, pow-suc, arith}
use Rattle.std.proofs.Math.Nat.{pow-zero, div-one, div-div-eq-div-mul}
use Rattle.std.proofs.lemmas.List.Edits.{sets, sets-eq}
use lib.Seq.{drop-drop}
use Rattle.runlaws.specs.NumberBytes.{bytes_of, bytes_length}

byte_is : (i n : ℕ) → byte_at i n ≡ n / 256 ^ i % 256
byte_is zero n = ap (λ (m : ℕ). m % 256) (sym (ap (λ (p : ℕ). n / p) (pow-zero 256) ∙ div-one n))
byte_is (suc i) n = refl

low_first : (i k n : ℕ) → bytes_low_first i k n ≡ bytes_of k (n / 256 ^ i)
unfolding bytes_of
low_first i zero n = refl
low_first i (suc k) n =
    let next : n / 256 ^ suc i ≡ n / 256 ^ i / 256
    = ap (λ (p : ℕ). n / p) (pow-suc 256 i) ∙ sym (div-div-eq-div-mul n (256 ^ i) 256) in
    ap₂ (λ (b : ℕ) (bs : List ℕ). b ∷ bs) (byte_is i n) (low_first (suc i) k n ∙ ap (bytes_of k) next)

pub word_bytes : (n : ℕ) → to_le_bytes w64 n ≡ bytes_of 8 n
word_bytes n = low_first 0 8 n ∙ ap (bytes_of 8) (ap (λ (p : ℕ). n / p) (pow-zero 256) ∙ div-one n)

pub word_stored : (n to : ℕ) (out new : List ℕ) → to + 8 ≤ length out → new ≡ to_le_bytes w64 n
    → take to out ++ (new ++ drop (to + 8 - to) (drop to out)) ≡ sets out to (bytes_of 8 n)
word_stored n to out new room is =
    let long = bytes_length 8 n in
    let bytes = bytes_of 8 n in
    ap₂ (λ (a b : List ℕ). take to out ++ (a ++ b)) (is ∙ word_bytes n)
    (drop-drop (to + 8 - to) to out ∙ ap (λ (k : ℕ). drop k out) (omega (arith, long)))
    ∙ sym (append_assoc (take to out) bytes (drop (to + length bytes) out)) ∙ sym (sets-eq bytes out to (omega (arith, long, room)))
