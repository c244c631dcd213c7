-- An amplitude turned by i any number of times, i^e a for every e: only e modulo 4 counts.
use Rattle.std.specs.Prelude.{◌≡◌, refl, ℕ, zero, suc, ◌+◌, ◌*◌, ◌/◌, ◌%◌, ◌<◌}
use Rattle.std.proofs.Common.{sym, ap, ◌∙◌, div-add-mod', mod-lt, zero-add, zero-lt-suc, arith}
use Rattle.std.specs.Float.Ieee.{neg}
use Rattle.floatlaws.specs.Sign.{neg_neg, same_neg}
use Rattle.floatlaws.specs.Finite.{finite_neg}
use Rattle.amplitudelaws.specs.Arithmetic.{times_power}
use Rattle.amplitudelaws.specs.Binary.{Point, binary}
use Rattle.amplitudelaws.specs.Sweeping.{point_same}
use Rattle.framelaws.specs.Alike.{Alike, Finite}

-- i a
abbrev pub turn : Point → Point
turn a = record { re = neg a.im; im = a.re }

abbrev pub turns : ℕ → Point → Point
turns zero a = a
turns (suc e) a = turn (turns e a)

pub turns_add : (a b : ℕ) (p : Point) → turns (a + b) p ≡ turns a (turns b p)
turns_add zero b p = ap (λ (n : ℕ). turns n p) (zero-add b)
turns_add (suc a) b p =
    let next : suc a + b ≡ suc (a + b) = omega arith in
    ap (λ (n : ℕ). turns n p) next ∙ ap turn (turns_add a b p)

turns_four : (p : Point) → turns 4 p ≡ p
turns_four p = point_same (neg_neg p.re) (neg_neg p.im)

-- q whole rounds and r turns
rounds : (q r : ℕ) (p : Point) → turns (q * 4 + r) p ≡ turns r p
rounds zero r p = let none : zero * 4 + r ≡ r = omega arith in ap (λ (n : ℕ). turns n p) none
rounds (suc q) r p =
    let next : suc q * 4 + r ≡ 4 + (q * 4 + r) = omega arith in
    ap (λ (n : ℕ). turns n p) next ∙ turns_add 4 (q * 4 + r) p ∙ turns_four (turns (q * 4 + r) p) ∙ rounds q r p

turns_rest : (a : ℕ) (p : Point) → turns a p ≡ turns (a % 4) p
turns_rest a p = ap (λ (n : ℕ). turns n p) (sym (div-add-mod' a 4)) ∙ rounds (a / 4) (a % 4) p

pub turns_mod : (a b : ℕ) (p : Point) → a % 4 ≡ b % 4 → turns a p ≡ turns b p
turns_mod a b p h = turns_rest a p ∙ ap (λ (n : ℕ). turns n p) h ∙ sym (turns_rest b p)

pub turns_turns : (a b c d : ℕ) (p : Point) → (a + b) % 4 ≡ (c + d) % 4 → turns a (turns b p) ≡ turns c (turns d p)
turns_turns a b c d p h = sym (turns_add a b p) ∙ turns_mod (a + b) (c + d) p h ∙ turns_add c d p

-- the formulas' powers of i are these
pub times_power_turns : (e : ℕ) (p : Point) → times_power binary (e % 4) p ≡ turns e p
unfolding times_power
times_power_turns e p = within (e % 4) (mod-lt e (zero-lt-suc 3)) ∙ sym (turns_rest e p)
  where
    within : (r : ℕ) → r < 4 → times_power binary r p ≡ turns r p
    within zero h = refl
    within (suc zero) h = refl
    within (suc (suc zero)) h = refl
    within (suc (suc (suc zero))) h = point_same (sym (neg_neg p.im)) refl
    within (suc (suc (suc (suc r)))) h = absurd (omega arith)

pub alike_turn : {p q : Point} → Alike p q → Alike (turn p) (turn q)
alike_turn h = record { res = same_neg h.ims; ims = h.res }

pub alike_turns : (k : ℕ) {p q : Point} → Alike p q → Alike (turns k p) (turns k q)
alike_turns zero h = h
alike_turns (suc k) h = alike_turn (alike_turns k h)

pub finite_turns : (k : ℕ) (p : Point) → Finite p → Finite (turns k p)
finite_turns zero p h = h
finite_turns (suc k) p h = let f = finite_turns k p h in (rw (finite_neg (turns k p).im) f.1, f.0)
