-- What the calls answer on Paulis that fit: their values.
use Rattle.std.specs.Prelude.{◌≡◌, Bool, not, ℕ, ◌<◌, eqb}
use Rattle.std.proofs.Math.Path.{refl}
use Rattle.std.proofs.Common.{sym}
use Rattle.std.proofs.Math.Bool.{true, false}
use Rattle.answers.specs.Answer.{refuse}
use Rattle.answers.specs.Answer.Answer.{accepted, refused}
use Rattle.answers.specs.Row.{accepted_same, refused_accepted}
use Rattle.bitlaws.specs.Digit.{digit}
use Rattle.paulilaws.specs.Pauli.{Pauli, fits, hermitian, product, anti}
use Rattle.paulilaws.specs.Fitting.{Fitting, Admitted, admitted_beside}
use Rattle.paulilaws.proofs.Fitting.{admitted_fits}
use Rattle.paulilaws.specs.Frame.{raised, dropped}
use Rattle.paulis.specs.Calls.{on_pauli, bit_call}
use Rattle.paulis.specs.Rows.{a_pauli, a_qubit}
use Rattle.pauligroup.specs.Calls.{product_call, anticommutes_call, squares_call}
use Rattle.pauligroup.specs.Rows.{equal}
use Rattle.activepauli.specs.Calls.{raised_call, dropped_call}

module _ (A B : Pauli) (a : Admitted A) (f : Fitting B) (e : A.n ≡ B.n) where
  pub product_accepted : product_call A B ≡ accepted (product A B)
  unfolding product_call
  product_accepted = equal A B (accepted (product A B)) (sym (admitted_fits A a)) (sym (admitted_fits B (admitted_beside a e f))) refl e

  pub anticommutes_accepted : anticommutes_call A B ≡ accepted (eqb (anti A B) 1)
  unfolding anticommutes_call
  anticommutes_accepted = equal A B (accepted (eqb (anti A B) 1)) (sym (admitted_fits A a)) (sym (admitted_fits B (admitted_beside a e f))) refl e

module _ (P : Pauli) (a : Admitted P) where
  pub raised_accepted : (exponent : ℕ) → raised_call P exponent ≡ accepted (raised exponent P)
  unfolding raised_call
  raised_accepted exponent = a_pauli P (accepted (raised exponent P)) (sym (admitted_fits P a)) refl

  module _ (q : ℕ) (h : q < P.n) where
    pub dropped_accepted : dropped_call P q ≡ accepted (dropped q P)
    unfolding dropped_call
    dropped_accepted = a_qubit P q (accepted (dropped q P)) (sym (admitted_fits P a)) refl h

    pub bit_accepted : (m : ℕ) → bit_call P m q ≡ accepted (eqb (digit q m) 1)
    unfolding bit_call
    bit_accepted m = a_qubit P q (accepted (eqb (digit q m) 1)) (sym (admitted_fits P a)) refl h

-- ---- what the answer about being Hermitian says

module _ (P : Pauli) where
  pub squares_answered : (b : Bool) → accepted b ≡ squares_call P → b ≡ hermitian P
  unfolding squares_call on_pauli refuse
  squares_answered b e = by (fits P) e
    where
      by : (t : Bool) → accepted b ≡ refuse (not t) 3 (accepted (hermitian P)) → b ≡ hermitian P
      by true e = accepted_same e
      by false e = absurd (refused_accepted (sym e))

  pub squares_refused : (n : ℕ) → refused n ≡ squares_call P → fits P ≡ false
  unfolding squares_call on_pauli refuse
  squares_refused n e = by (fits P) e
    where
      by : (t : Bool) → refused n ≡ refuse (not t) 3 (accepted (hermitian P)) → t ≡ false
      by true e = absurd (refused_accepted e)
      by false e = refl
