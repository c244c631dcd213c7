-- The rows of the table as one number: that of the lowest row which refuses a call, 0 where none does.
use Rattle.std.specs.Prelude.{◌≡◌, Bool, true, false}
use Rattle.std.proofs.Math.Path.{refl, sym}
use Rattle.std.proofs.Common.{ap, ◌∙◌, arith}
use Prim.Native.Nat.{ℕ, zero, suc, ◌<◌}
use Rattle.std.proofs.Math.Nat.{zero-lt-suc}
use Rattle.answers.specs.Answer.{Answer, is_accepted}
use Rattle.answers.specs.Answer.Answer.{accepted, refused, refused_at}

-- row n: where its test holds it is n, else the rows after it decide
unfoldable pub row : Bool → ℕ → ℕ → ℕ
row true n rest = n
row false n rest = rest

-- two groups of rows, the first having the lower numbers
unfoldable pub first : ℕ → ℕ → ℕ
first zero rest = rest
first (suc n) rest = suc n

-- the answer of a call that the rows have looked at
unfoldable pub answered : {A : Type 0} → ℕ → A → Answer A
answered zero a = accepted a
answered (suc n) a = refused (suc n)

-- What a lent buffer holds afterwards: what the call writes, or, where it is refused, what was there.
unfoldable pub left : {B : Type 0} → ℕ → B → B → B
left zero new old = new
left (suc n) new old = old

-- ---- where a row refuses, and where none does

-- what holds of every number that refuses holds of one above 0
by_some : (P : ℕ → Type 0) → ((n : ℕ) → P (suc n)) → (r : ℕ) → 0 < r → P r
by_some P h zero l = absurd (omega arith)
by_some P h (suc r) l = h r

module _ (r : ℕ) where
  pub first_some : (rest : ℕ) → 0 < r → first r rest ≡ r
  unfolding first
  first_some rest h = by_some (λ r. first r rest ≡ r) (λ n. refl) r h

  pub first_none : (rest : ℕ) → r ≡ 0 → first r rest ≡ rest
  unfolding first
  first_none rest e = rw e

  module _ {A : Type 0} where
    pub answered_some : (a : A) → 0 < r → answered r a ≡ refused r
    unfolding answered
    answered_some a h = by_some (λ r. answered r a ≡ refused r) (λ n. refl) r h

    pub answered_none : (a : A) → r ≡ 0 → answered r a ≡ accepted a
    unfolding answered
    answered_none a e = rw e

    pub left_some : (new old : A) → 0 < r → left r new old ≡ old
    unfolding left
    left_some new old h = by_some (λ r. left r new old ≡ old) (λ n. refl) r h

    pub left_none : (new old : A) → r ≡ 0 → left r new old ≡ new
    unfolding left
    left_none new old e = rw e

-- no rows behind the first
pub first_nothing : (r : ℕ) → first r 0 ≡ r
unfolding first
first_nothing zero = refl
first_nothing (suc r) = refl

-- ---- what is known where none refuses

pub row_passed : (t : Bool) (n rest : ℕ) → 0 < n → row t n rest ≡ 0 → (t ≡ false) × (rest ≡ 0)
unfolding row
row_passed true n rest h e = absurd (omega arith)
row_passed false n rest h e = (refl, e)

pub first_passed : (r rest : ℕ) → first r rest ≡ 0 → (r ≡ 0) × (rest ≡ 0)
unfolding first
first_passed zero rest e = (refl, e)
first_passed (suc r) rest e = absurd (omega arith)

-- ---- and what an answer says about them

pub refused_accepted : {A : Type 0} {a : A} {n : ℕ} → refused n ≡ accepted a → ⊥
refused_accepted e = let z : ◌≡◌ {A = ℕ} 0 1 = cc in omega arith

pub refused_at_accepted : {A : Type 0} {a : A} {n i : ℕ} → refused_at n i ≡ accepted a → ⊥
refused_at_accepted e = let z : ◌≡◌ {A = ℕ} 0 1 = cc in omega arith

refused_same : {A : Type 0} {m n : ℕ} → ◌≡◌ {A = Answer A} (refused m) (refused n) → m ≡ n
refused_same e = cc

pub accepted_same : {A : Type 0} {a b : A} → accepted a ≡ accepted b → a ≡ b
accepted_same e = cc

module _ {A : Type 0} where
  pub refused_row : (r : ℕ) (a : A) (n : ℕ) → refused n ≡ answered r a → (r ≡ n) × (0 < n)
  unfolding answered
  refused_row zero a n e = absurd (refused_accepted e)
  refused_row (suc r) a n e = let same : suc r ≡ n = sym (refused_same e) in (same, omega (arith, zero-lt-suc r))

  pub accepted_row : (r : ℕ) (a b : A) → accepted b ≡ answered r a → (r ≡ 0) × (b ≡ a)
  unfolding answered
  accepted_row zero a b e = (refl, accepted_same e)
  accepted_row (suc r) a b e = absurd (refused_accepted (sym e))

-- whatever else is answered, the row alone decides whether it is refused, and by which number
module _ {A : Type 0} where
  pub row_accepts : (r : ℕ) (a b : A) → is_accepted (answered r a) ≡ is_accepted (answered r b)
  unfolding is_accepted answered
  row_accepts zero a b = refl
  row_accepts (suc r) a b = refl

  pub row_refuses : (r : ℕ) (a b : A) (n : ℕ) → answered r a ≡ refused n → answered r b ≡ refused n
  unfolding answered
  row_refuses zero a b n e = absurd (refused_accepted (sym e))
  row_refuses (suc r) a b n e = e

-- the value of an accepted answer
pub record HasValue {A : Type 0} (a : Answer A) : Type 0 where
  pub value : A
  pub is : a ≡ accepted value

pub accepted_value : {A : Type 0} (a : Answer A) → is_accepted a ≡ true → HasValue a
unfolding is_accepted
accepted_value (accepted v) e = record { value = v; is = refl }
accepted_value (refused n) e = absurd (let z : ◌≡◌ {A = ℕ} 0 1 = cc in omega arith)
accepted_value (refused_at n i) e = absurd (let z : ◌≡◌ {A = ℕ} 0 1 = cc in omega arith)

-- ---- a call that looks at its rows, is refused by the number r that they give, and else does its work

-- a number that is not 0 refuses
pub some_row : (n : ℕ) → (n ≡ 0 → ⊥) → 0 < n
some_row zero h = absurd (h refl)
some_row (suc n) h = zero-lt-suc n

module _ {A B : Type 0} (R : ℕ) (a : A) (new old : B) where
  pub refusing : (r : ℕ) → r ≡ R → (r ≡ 0 → ⊥) → (refused r ≡ answered R a) × (old ≡ left R new old)
  refusing r e ne =
      let some : 0 < R = some_row R (λ z. ne (e ∙ z)) in
      (ap refused e ∙ sym (answered_some R a some), sym (left_some R new old some))

  pub passing : (done : B) → R ≡ 0 → done ≡ new → (accepted a ≡ answered R a) × (done ≡ left R new old)
  passing done e is = (sym (answered_none R a e), is ∙ sym (left_none R new old e))
