-- Commutative rings, and the list `ring` with which simp brings both sides of an equation to one form.
use Rattle.std.specs.Prelude.{◌≡◌}
use Rattle.std.proofs.Common.{sym, ap, ◌∙◌}

pub record Ring (R : Type 0) : Type 0 where
  pub zero : R
  pub one : R
  pub neg : R → R
  pub add : R → R → R
  pub mul : R → R → R
  pub add_assoc : (a b c : R) → add (add a b) c ≡ add a (add b c)
  pub add_comm : (a b : R) → add a b ≡ add b a
  pub zero_add : (a : R) → add zero a ≡ a
  pub neg_add_cancel : (a : R) → add (neg a) a ≡ zero
  pub mul_assoc : (a b c : R) → mul (mul a b) c ≡ mul a (mul b c)
  pub mul_comm : (a b : R) → mul a b ≡ mul b a
  pub one_mul : (a : R) → mul one a ≡ a
  pub left_distrib : (a b c : R) → mul a (add b c) ≡ add (mul a b) (mul a c)

module _ {R : Type 0} (𝓡 : Ring R) where
  open 𝓡 use {add, mul, zero, neg, one}

  pub add_assoc : (a b c : R) → add (add a b) c ≡ add a (add b c)
  add_assoc = 𝓡.add_assoc

  pub add_comm : (a b : R) → add a b ≡ add b a
  add_comm = 𝓡.add_comm

  pub add_left : (a b c : R) → add a (add b c) ≡ add b (add a c)
  add_left a b c = sym (add_assoc a b c) ∙ ap (λ (x : R). add x c) (add_comm a b) ∙ add_assoc b a c

  pub zero_add : (a : R) → add zero a ≡ a
  zero_add = 𝓡.zero_add

  pub add_zero : (a : R) → add a zero ≡ a
  add_zero a = add_comm a zero ∙ zero_add a

  pub mul_assoc : (a b c : R) → mul (mul a b) c ≡ mul a (mul b c)
  mul_assoc = 𝓡.mul_assoc

  pub mul_comm : (a b : R) → mul a b ≡ mul b a
  mul_comm = 𝓡.mul_comm

  pub mul_left : (a b c : R) → mul a (mul b c) ≡ mul b (mul a c)
  mul_left a b c = sym (mul_assoc a b c) ∙ ap (λ (x : R). mul x c) (mul_comm a b) ∙ mul_assoc b a c

  pub one_mul : (a : R) → mul one a ≡ a
  one_mul = 𝓡.one_mul

  pub mul_one : (a : R) → mul a one ≡ a
  mul_one a = mul_comm a one ∙ one_mul a

  pub left_distrib : (a b c : R) → mul a (add b c) ≡ add (mul a b) (mul a c)
  left_distrib = 𝓡.left_distrib

  pub right_distrib : (a b c : R) → mul (add a b) c ≡ add (mul a c) (mul b c)
  right_distrib a b c = mul_comm (add a b) c ∙ left_distrib c a b ∙ ap (λ (x : R). add x (mul c b)) (mul_comm c a) ∙ ap (add (mul a c)) (mul_comm c b)

  pub neg_add_cancel : (a : R) → add (neg a) a ≡ zero
  neg_add_cancel = 𝓡.neg_add_cancel

  pub cancel : (a : R) → add a (neg a) ≡ zero
  cancel a = add_comm a (neg a) ∙ neg_add_cancel a

  pub neg_cancel_in : (a b : R) → add (neg a) (add a b) ≡ b
  neg_cancel_in a b = sym (add_assoc (neg a) a b) ∙ ap (λ (x : R). add x b) (neg_add_cancel a) ∙ zero_add b

  pub mul_zero : (a : R) → mul a zero ≡ zero
  mul_zero a =
      let twice : add (mul a zero) (mul a zero) ≡ mul a zero = sym (left_distrib a zero zero) ∙ ap (mul a) (zero_add zero) in
      sym (neg_cancel_in (mul a zero) (mul a zero)) ∙ ap (add (neg (mul a zero))) twice ∙ neg_add_cancel (mul a zero)

  pub zero_mul : (a : R) → mul zero a ≡ zero
  zero_mul a = mul_comm zero a ∙ mul_zero a

  -- what added to a gives 0 is its negative
  only : (a b : R) → add a b ≡ zero → b ≡ neg a
  only a b h =
      sym (zero_add b) ∙ ap (λ (x : R). add x b) (sym (neg_add_cancel a)) ∙ add_assoc (neg a) a b ∙ ap (add (neg a)) h ∙ add_zero (neg a)

  pub neg_neg : (a : R) → neg (neg a) ≡ a
  neg_neg a = sym (only (neg a) a (neg_add_cancel a))

  pub neg_zero : neg zero ≡ zero
  neg_zero = sym (only zero zero (zero_add zero))

  pub neg_mul : (a b : R) → mul (neg a) b ≡ neg (mul a b)
  neg_mul a b = only (mul a b) (mul (neg a) b) (sym (right_distrib a (neg a) b) ∙ ap (λ (x : R). mul x b) (cancel a) ∙ zero_mul b)

  pub mul_neg : (a b : R) → mul a (neg b) ≡ neg (mul a b)
  mul_neg a b = mul_comm a (neg b) ∙ neg_mul b a ∙ ap neg (mul_comm b a)

  pub neg_add : (a b : R) → neg (add a b) ≡ add (neg a) (neg b)
  neg_add a b =
      sym (only (add a b) (add (neg a) (neg b))
      (add_assoc a b (add (neg a) (neg b)) ∙ ap (add a) (add_left b (neg a) (neg b) ∙ ap (add (neg a)) (cancel b) ∙ add_zero (neg a)) ∙ cancel a))

  pub cancel_in : (a b : R) → add a (add (neg a) b) ≡ b
  cancel_in a b = sym (add_assoc a (neg a) b) ∙ ap (λ (x : R). add x b) (cancel a) ∙ zero_add b

pub ruleset ring = (left_distrib, right_distrib, add_assoc, add_comm, add_left, zero_add, add_zero, mul_assoc, mul_comm, mul_left, one_mul, mul_one, zero_mul, mul_zero, neg_neg, neg_zero, neg_mul, mul_neg, neg_add, cancel, neg_add_cancel, cancel_in, neg_cancel_in)
