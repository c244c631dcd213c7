-- A call by its own rows and then row 14: what is answered where one of them refuses; and where none does, the first of them is the
-- call's own, and the flag is the bit that stands for it.
use Rattle.std.specs.Prelude.{◌≡◌, ℕ, eqb, Result}
use Rattle.std.specs.Result.{IsErrAnd}
use Rattle.std.proofs.Common.{sym, ◌∙◌, arith}
use Rattle.answers.specs.Row.{first, first_some, first_none, answered, left, left_some}
use Rattle.bitlaws.specs.Digit.{bit_of}
use Rattle.masks.specs.MaskLaws.{bit_of_lem}
use Rattle.refusals.proofs.Asked.{asked, number_some}
use Rattle.refusals.specs.declared.Row.{Row}
use Rattle.refusals.specs.Refusal.{number_of, answer_of}
use Rattle.verdicts.specs.Flag.{flag_row, flag_passed}

module _ {A B S : Type 0} (x : Result A Row) (e : Row) (own flag : ℕ) (is : IsErrAnd x (λ r. r ≡ e)) (value : A → B) (b : B) (new old : S) where
  stopped : (r : ℕ) → number_of e ≡ r → (answer_of value x ≡ answered r b) × (old ≡ left r new old)
  stopped r n = (asked x e r value b is n, sym (left_some r new old (omega (arith, n, number_some e))))

  pub stopped_by_own : number_of e ≡ own → let r = first own (flag_row flag) in (answer_of value x ≡ answered r b) × (old ≡ left r new old)
  stopped_by_own n = stopped _ (n ∙ sym (first_some own (flag_row flag) (omega (arith, n, number_some e))))

  pub stopped_by_flag : 0 ≡ own → number_of e ≡ flag_row flag → let r = first own (flag_row flag) in (answer_of value x ≡ answered r b) × (old ≡ left r new old)
  stopped_by_flag none n = stopped _ (n ∙ sym (first_none own (flag_row flag) (sym none)))

module _ (own flag : ℕ) (no_own : 0 ≡ own) (no_flag : 0 ≡ flag_row flag) where
  pub own_row : own ≡ first own (flag_row flag)
  own_row = sym no_own ∙ no_flag ∙ sym (first_none own (flag_row flag) (sym no_own))

  pub its_bit : bit_of (eqb flag 1) ≡ flag
  its_bit = bit_of_lem flag (omega (arith, flag_passed flag (sym no_flag)))
