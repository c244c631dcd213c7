-- What a call's answer tells of its result, and what a `refuse_if` tells of the answer that its row begins.
use Rattle.std.specs.Prelude.{◌≡◌, refl, Bool, true, false, ℕ, ◌<◌, Result, Ok, Err}
use Rattle.std.specs.Result.{IsOk}
use Rattle.std.proofs.Common.{sym, ap, arith}
use Rattle.answers.specs.Answer.{Answer, refuse}
use Rattle.answers.specs.Answer.Answer.{accepted, refused}
use Rattle.refusals.specs.declared.Row.{Row}
use Rattle.answers.specs.Row.{row}
use Rattle.refusals.specs.Refusal.{answer_of, number_of}
use Rattle.refusals.proofs.Asked.{number_some}

module _ {A B : Type 0} (value : A → B) (x : Result A Row) {b : B} (told : answer_of value x ≡ accepted b) where
  -- a call that is accepted has its value, so that it can be unwrapped
  pub told_ok : IsOk x
  told_ok = go x told
    where
      go : (x : Result A Row) → answer_of value x ≡ accepted b → IsOk x
      go (Ok a) e = search
      go (Err r) e = absurd (let z : ◌≡◌ {A = ℕ} 0 1 = cc in omega arith)

  -- and that value is the one answered
  pub told_value : {a : A} → x ≡ Ok a → value a ≡ b
  told_value {a} is = go x is told
    where
      go : (x : Result A Row) → x ≡ Ok a → answer_of value x ≡ accepted b → value a ≡ b
      go (Ok a') is e = let same : a' ≡ a = cc in cc
      go (Err r) is e = absurd (let z : ◌≡◌ {A = ℕ} 0 1 = cc in omega arith)

module _ (t : Bool) (n : ℕ) where
  -- the row of a `refuse_if` refuses where its test holds
  pub row_refuses : (r : Row) → number_of r ≡ row t n 0 → (t ≡ true) × (number_of r ≡ n)
  unfolding row
  row_refuses r e = go t e
    where
      go : (t : Bool) → number_of r ≡ row t n 0 → (t ≡ true) × (number_of r ≡ n)
      go true e = (refl, e)
      go false e = absurd (omega (arith, number_some r))

  pub row_passes : 0 < n → 0 ≡ row t n 0 → t ≡ false
  unfolding row
  row_passes some e = go t e
    where
      go : (t : Bool) → 0 ≡ row t n 0 → t ≡ false
      go true e = absurd (omega arith)
      go false e = refl

  module _ {A : Type 0} (rest : Answer A) where
    pub refuse_some : (r : Row) → number_of r ≡ row t n 0 → refuse t n rest ≡ refused (number_of r)
    unfolding refuse
    refuse_some r e = let h = row_refuses r e in rw h.0 (ap refused (sym h.1))

    pub refuse_none : 0 < n → 0 ≡ row t n 0 → refuse t n rest ≡ rest
    unfolding refuse
    refuse_none some e = rw (row_passes some e)
