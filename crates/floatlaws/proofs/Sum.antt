-- Sums: the order of the two terms, their signs, a zero among them, and the same for the same.
use Rattle.std.specs.Prelude.{◌≡◌, refl, Bool, true, false, not, ◌&&◌, cond, ℕ, zero, suc, ◌+◌, ◌-◌, ◌*◌, ◌≤◌, ◌<◌, ℤ, pos, T, ltb, Float}
use Rattle.std.proofs.Common.{sym, ◌∙◌, add_comm, zero-add, mul_comm, mul_assoc, zero-mul, mul-pos, arith, ltb→lt, nltb→le}
use Rattle.std.specs.Bool.{beq}
use Rattle.std.proofs.Math.Nat.{sub-zero, zero-sub}
use Rattle.std.specs.Float.{nan, inf, fin, Format}
use Rattle.std.specs.Float.Ieee.{up, down, round, neg, sum, add, sub}
use Rattle.std.specs.Float.Ieee.Fits.{down_pos}
use Rattle.std.specs.Float.Ieee.Scale.{round_same}
use Rattle.floatlaws.specs.Same.{plain, Same, same, same_eq, same_sym, ◌⨾◌, is_zero, by_zero, same_zeros, same_both}
use Rattle.floatlaws.specs.Sign.{neg_neg, same_neg, round_neg}
use Rattle.floatlaws.specs.Round.{again}
use Rattle.floatlaws.proofs.Round.{round_none}

-- a / c less b / c, from either side: p stands for the test a < b, and q for the test b < a
difference_comm : (f : Format) (a b c : ℕ) (p q : Bool) → (T p → a < b) → (T (not p) → b ≤ a) → (T q → b < a) → (T (not q) → a ≤ b)
    → cond p (round f false (b - a) c) (round f q (a - b) c) ≡ cond q (round f true (a - b) c) (round f false (b - a) c)
difference_comm f a b c true true h k l r = absurd (omega (arith, h tt, l tt))
difference_comm f a b c true false h k l r = refl
difference_comm f a b c false true h k l r = refl
difference_comm f a b c false false h k l r = let none : a - b ≡ b - a = omega (arith, k tt, r tt) in rw none

sum_comm : (f : Format) (s : Bool) (a : ℕ) (t : Bool) (b c : ℕ) → sum f s a t b c ≡ sum f t b s a c
unfolding sum
sum_comm f true a true b c = rw (add_comm a b)
sum_comm f false a false b c = rw (add_comm a b)
sum_comm f true a false b c = difference_comm f a b c (ltb a b) (ltb b a) (ltb→lt a b) (nltb→le a b) (ltb→lt b a) (nltb→le b a)
sum_comm f false a true b c = sym (difference_comm f b a c (ltb b a) (ltb a b) (ltb→lt b a) (nltb→le b a) (ltb→lt a b) (nltb→le a b))

pub add_comm_float : (f : Format) (x y : Float) → add f x y ≡ add f y x
unfolding add
add_comm_float f nan nan = refl
add_comm_float f nan (inf t) = refl
add_comm_float f nan (fin t n d) = refl
add_comm_float f (inf s) nan = refl
add_comm_float f (inf true) (inf true) = refl
add_comm_float f (inf true) (inf false) = refl
add_comm_float f (inf false) (inf true) = refl
add_comm_float f (inf false) (inf false) = refl
add_comm_float f (inf s) (fin t n d) = refl
add_comm_float f (fin s m e) nan = refl
add_comm_float f (fin s m e) (inf t) = refl
add_comm_float f (fin s m e) (fin t n d) =
    sum_comm f s (m * up e * down d) t (n * up d * down e) (down e * down d) ∙ rw (mul_comm (down e) (down d))

pub zero_neg : (x : Float) → T (is_zero x) → T (is_zero (neg x))
unfolding neg
zero_neg x h = by_zero (λ z. T (is_zero (neg z))) (λ s e. tt) x h

-- the difference with both signs turned, and the difference negated: equal, but +0 and -0 where a and b are equal
difference_neg : (f : Format) (a b c : ℕ) → 0 < c → (p q : Bool) → (T (not q) → a ≤ b)
    → Same (cond p (round f true (b - a) c) (round f false (a - b) c)) (neg (cond p (round f false (b - a) c) (round f q (a - b) c)))
difference_neg f a b c z true q r = same_sym (same_eq (round_neg f false (b - a) c))
difference_neg f a b c z false true r = same_sym (same_eq (round_neg f true (a - b) c))
difference_neg f a b c z false false r =
    let rounded : T (is_zero (round f false (a - b) c)) = round_none f false (a - b) c z (omega (arith, r tt)) in
    same_zeros rounded (zero_neg (round f false (a - b) c) rounded)

sum_neg : (f : Format) (s : Bool) (a : ℕ) (t : Bool) (b c : ℕ) → 0 < c → Same (sum f (not s) a (not t) b c) (neg (sum f s a t b c))
unfolding sum
sum_neg f true a true b c z = same_sym (same_eq (round_neg f true (a + b) c))
sum_neg f false a false b c z = same_sym (same_eq (round_neg f false (a + b) c))
sum_neg f true a false b c z = difference_neg f a b c z (ltb a b) (ltb b a) (nltb→le b a)
sum_neg f false a true b c z = same_sym (same_neg (difference_neg f a b c z (ltb a b) (ltb b a) (nltb→le b a)) ⨾ same_eq (neg_neg _))

-- no equation: 1 + -1 is +0, and so is -1 + 1
pub add_neg : (f : Format) (x y : Float) → Same (add f (neg x) (neg y)) (neg (add f x y))
unfolding add neg
add_neg f nan y = same
add_neg f (inf s) nan = same
add_neg f (inf true) (inf true) = same
add_neg f (inf true) (inf false) = same
add_neg f (inf false) (inf true) = same
add_neg f (inf false) (inf false) = same
add_neg f (inf s) (fin t n d) = same
add_neg f (fin s m e) nan = same
add_neg f (fin s m e) (inf t) = same
add_neg f (fin s m e) (fin t n d) = sum_neg f s (m * up e * down d) t (n * up d * down e) (down e * down d) (mul-pos (down_pos e) (down_pos d))

-- zero plus b / c, by the two signs; p stands for the test 0 < b
none_plus : (f : Format) (b c : ℕ) → 0 < c → (s t p : Bool) → (T (not p) → b ≤ 0)
    → Same (cond (beq s t) (round f s (0 + b) c) (cond p (round f t (b - 0) c) (round f (s && ltb b 0) (0 - b) c))) (round f t b c)
none_plus f b c z true true p h = rw (zero-add b) same
none_plus f b c z false false p h = rw (zero-add b) same
none_plus f b c z true false true h = rw (sub-zero b) same
none_plus f b c z false true true h = rw (sub-zero b) same
none_plus f b c z true false false h = same_zeros (round_none f (ltb b 0) (0 - b) c z (zero-sub b)) (round_none f false b c z (omega (arith, h tt)))
none_plus f b c z false true false h = same_zeros (round_none f false (0 - b) c z (zero-sub b)) (round_none f true b c z (omega (arith, h tt)))

sum_none : (f : Format) (s t : Bool) (b c : ℕ) → 0 < c → Same (sum f s 0 t b c) (round f t b c)
unfolding sum
sum_none f s t b c z = none_plus f b c z s t (ltb 0 b) (nltb→le 0 b)

add_zero_fin : (f : Format) (s : Bool) (e : ℤ) (y : Float) → Same (add f (fin s 0 e) y) (again f y)
unfolding add
add_zero_fin f s e nan = same
add_zero_fin f s e (inf t) = same
add_zero_fin f s e (fin t n d) =
    let den : 0 < down e * down d = mul-pos (down_pos e) (down_pos d) in
    rw (zero-mul (up e), zero-mul (down d))
    (sum_none f s t (n * up d * down e) (down e * down d) den
    ⨾ same_eq (round_same f t (n * up d * down e) (down e * down d) (n * up d) (down d) den (down_pos d) (mul_assoc (n * up d) (down e) (down d))))

-- a zero added leaves the other term, rounded
add_zero_left : (f : Format) (x y : Float) → T (is_zero x) → Same (add f x y) (again f y)
add_zero_left f x y h = by_zero (λ z. Same (add f z y) (again f y)) (λ s e. add_zero_fin f s e y) x h

pub add_zero_right : (f : Format) (x y : Float) → T (is_zero y) → Same (add f x y) (again f x)
add_zero_right f x y h = same_eq (add_comm_float f x y) ⨾ add_zero_left f y x h

-- a sum depends on no more of a term than `plain` leaves
add_plain : (f : Format) (x y : Float) → Same (add f x y) (add f (plain x) y)
add_plain f nan y = same
add_plain f (inf s) y = same
add_plain f (fin s zero e) y = add_zero_fin f s e y ⨾ same_sym (add_zero_fin f false (pos 0) y)
add_plain f (fin s (suc m) e) y = same

pub same_add : (f : Format) {x x' y y' : Float} → Same x x' → Same y y' → Same (add f x y) (add f x' y')
same_add f h k = same_both (add f) (add_comm_float f) (add_plain f) h k

pub same_sub : (f : Format) {x x' y y' : Float} → Same x x' → Same y y' → Same (sub f x y) (sub f x' y')
unfolding sub
same_sub f h k = same_add f h (same_neg k)
