-- Exponents of i where a Pauli Q goes past a projection of M or a quarter turn of P: sums over plain numbers, modulo 4.
use Rattle.std.specs.Prelude.{◌≡◌, ℕ, ◌+◌, ◌*◌, ◌%◌}
use Rattle.std.proofs.Common.{sym, ap, ◌∙◌, arith}

-- ---- a projection

-- F is Q applied to G. q and k are the phases of Q and M, v and w the branches on which F and G are projected. Of the parities, x is that of Q's Z parts against M's X parts,
-- y that of Q's X parts against M's Z parts, a and b those of G's basis against the Z parts of Q and of M.

-- of Q times M, on branch w, at a basis whose parity against the Z parts of both is u
abbrev pub exponent : (q k x w u : ℕ) → ℕ
exponent q k x w u = ((q + k + 2 * x) % 4 + 2 * w) % 4 + 2 * u

whole : (q k x w u : ℕ) → exponent q k x w u % 4 ≡ (q + k + 2 * x + 2 * w + 2 * u) % 4
whole q k x w u = omega arith

added : (a b t : ℕ) → a % 4 ≡ b % 4 → (a + t) % 4 ≡ (b + t) % 4
added a b t e = omega arith

-- the branch that Q leaves
pub branch_parity : (v w x y : ℕ) → w ≡ (v + (y + x) % 2) % 2 → (w + x) % 2 ≡ (v + y) % 2
branch_parity v w x y e = omega arith

-- the sign of M's coefficient, where Q has no X part at the pivot: c is the parity of F's basis against M's Z parts
pub kept_sign : (v w x y b c : ℕ) → (w + x) % 2 ≡ (v + y) % 2 → c ≡ (b + y) % 2 → (v + c + x) % 2 ≡ (w + b) % 2
kept_sign v w x y b c branch moved = apart v x y b c moved ∙ exchanged (v + y) w x b branch
  where
    apart : (v x y b c : ℕ) → c ≡ (b + y) % 2 → (v + c + x) % 2 ≡ (v + y + (b + x)) % 2
    apart v x y b c moved = omega arith

    exchanged : (s w x b : ℕ) → (w + x) % 2 ≡ s % 2 → (s + (b + x)) % 2 ≡ (w + b) % 2
    exchanged s w x b branch = omega arith

-- at the basis that a diagonal M lets pass, whose parity against M is that of t + w
pub diagonal_phase : (q k x w u a b t : ℕ) → 2 * t ≡ k → x ≡ 0 → b ≡ (t + w) % 2 → u ≡ (a + b) % 2 → (q + 2 * a) % 4 ≡ exponent q k x w u % 4
diagonal_phase q k x w u a b t minus none passes sum = plain q k w u a b t minus passes sum ∙ ap (λ (n : ℕ). n % 4) (omega arith) ∙ sym (whole q k x w u)
  where
    plain : (q k w u a b t : ℕ) → 2 * t ≡ k → b ≡ (t + w) % 2 → u ≡ (a + b) % 2 → (q + 2 * a) % 4 ≡ (q + k + 2 * w + 2 * u) % 4
    plain q k w u a b t minus passes sum = omega arith

-- the second amplitude of F, i^(3 k) and the sign of c + v in front of it, is the first of G: c is the parity of F's basis against M's Z parts
pub second_phase : (q k v w x y u a b c : ℕ) → (c + k) % 2 ≡ (b + y) % 2 → (w + x) % 2 ≡ (v + y) % 2 → u ≡ (a + b) % 2
    → (2 * (v + c) + 3 * k + (q + 2 * a)) % 4 ≡ exponent q k x w u % 4
second_phase q k v w x y u a b c basis branch sum = doubled q k v w x u a b c (both (c + k) (w + x) v y b basis branch) sum ∙ sym (whole q k x w u)
  where
    both : (s t v y b : ℕ) → s % 2 ≡ (b + y) % 2 → t % 2 ≡ (v + y) % 2 → (v + s + b) % 2 ≡ t % 2
    both s t v y b basis branch = omega arith

    doubled : (q k v w x u a b c : ℕ) → (v + (c + k) + b) % 2 ≡ (w + x) % 2 → u ≡ (a + b) % 2
        → (2 * (v + c) + 3 * k + (q + 2 * a)) % 4 ≡ (q + k + 2 * x + 2 * w + 2 * u) % 4
    doubled q k v w x u a b c parity sum = omega arith

-- and its first the second: c is the parity of the partner against Q's Z parts
pub first_phase : (q k w x u a b c : ℕ) → c ≡ (a + x) % 2 → u ≡ (a + b) % 2 → (q + 2 * c) % 4 ≡ (exponent q k x w u + (2 * (w + b) + 3 * k)) % 4
first_phase q k w x u a b c partner sum =
    plain q k w x u a b c partner sum ∙ sym (added (exponent q k x w u) (q + k + 2 * x + 2 * w + 2 * u) (2 * (w + b) + 3 * k) (whole q k x w u))
  where
    plain : (q k w x u a b c : ℕ) → c ≡ (a + x) % 2 → u ≡ (a + b) % 2 → (q + 2 * c) % 4 ≡ (q + k + 2 * x + 2 * w + 2 * u + (2 * (w + b) + 3 * k)) % 4
    plain q k w x u a b c partner sum = omega arith

-- ---- a quarter turn

-- F is Q applied to G. q and p are the phases of Q and P. Of the parities, s is that of Q's X parts against P's Z parts, t that of P's X parts
-- against Q's Z parts, a and b those of G's basis against the Z parts of Q and of P.

-- of P times Q and i^3, at a basis whose parity against the Z parts of both is u
abbrev pub turned_exponent : (p q s u : ℕ) → ℕ
turned_exponent p q s u = ((p + q + 2 * s) % 4 + 3) % 4 + 2 * u

turned_whole : (p q s u : ℕ) → turned_exponent p q s u % 4 ≡ (p + q + 2 * s + 3 + 2 * u) % 4
turned_whole p q s u = omega arith

-- the second amplitude of F is the first of G: c is the parity of F's basis against P's Z parts
pub turned_second : (p q s u a b c : ℕ) → c ≡ (b + s) % 2 → u ≡ (a + b) % 2
    → (2 * c + (3 + p) + (q + 2 * a)) % 4 ≡ turned_exponent p q s u % 4
turned_second p q s u a b c moved sum = plain p q s u a b c moved sum ∙ sym (turned_whole p q s u)
  where
    plain : (p q s u a b c : ℕ) → c ≡ (b + s) % 2 → u ≡ (a + b) % 2 → (2 * c + (3 + p) + (q + 2 * a)) % 4 ≡ (p + q + 2 * s + 3 + 2 * u) % 4
    plain p q s u a b c moved sum = omega arith

-- and its first the second: c and d are the parities of the partner against the Z parts of Q and of P, y is that of P's own parts; P is Hermitian,
-- and anticommutes with Q
pub turned_first : (p q s t y u a b c d : ℕ) → p % 2 ≡ y → (s + t) % 2 ≡ 1 → c ≡ (a + t) % 2 → d ≡ (b + y) % 2 → u ≡ (a + b) % 2
    → (q + 2 * c) % 4 ≡ (turned_exponent p q s u + (2 * d + (3 + p))) % 4
turned_first p q s t y u a b c d even odd partner moved sum =
    signs q s t a c odd partner ∙ plain p q s y u a b d even moved sum
    ∙ sym (added (turned_exponent p q s u) (p + q + 2 * s + 3 + 2 * u) (2 * d + (3 + p)) (turned_whole p q s u))
  where
    signs : (q s t a c : ℕ) → (s + t) % 2 ≡ 1 → c ≡ (a + t) % 2 → (q + 2 * c) % 4 ≡ (q + 2 * a + 2 * s + 2) % 4
    signs q s t a c odd partner = omega arith

    plain : (p q s y u a b d : ℕ) → p % 2 ≡ y → d ≡ (b + y) % 2 → u ≡ (a + b) % 2
        → (q + 2 * a + 2 * s + 2) % 4 ≡ (p + q + 2 * s + 3 + 2 * u + (2 * d + (3 + p))) % 4
    plain p q s y u a b d even moved sum = omega arith
