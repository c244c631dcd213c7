-- A result whose answer is a value is that value.
use Rattle.std.specs.Prelude.{◌≡◌, Result, Ok, Err}
use Rattle.std.specs.Result.{IsOk}
use Rattle.std.proofs.Common.{refl, sym, ap, ◌∙◌}
use Rattle.answers.specs.Answer.Answer.{accepted}
use Rattle.answers.specs.Row.{accepted_same, refused_accepted}
use Rattle.refusals.specs.declared.Row.{Row}
use Rattle.refusals.specs.Refusal.{answer_of}

module _ {A B : Type 0} (value : A → B) {b : B} where
  pub unrefused : (r : Result A Row) → answer_of value r ≡ accepted b → IsOk r
  unrefused (Ok a) e = refl
  unrefused (Err n) e = absurd (refused_accepted e)

  pub value_is : (r : Result A Row) → answer_of value r ≡ accepted b → (a : A) → r ≡ Ok a → value a ≡ b
  value_is r e a is = accepted_same (ap (answer_of value) (sym is) ∙ e)
