-- A phase as it is carried: a Pauli whose phase is raised ends in what it ends in, raised.
use Rattle.std.specs.Prelude.{◌≡◌, Bool, ℕ, ◌+◌, ◌*◌, ◌%◌}
use Rattle.std.proofs.Math.Path.{refl, ap}
use Rattle.std.proofs.Common.{sym, ◌∙◌, arith}
use Rattle.std.proofs.Math.Bool.{true, false}
use mathlib.Core.List.{List, [], ◌∷◌}
use Rattle.std.proofs.Math.Dec.{eqb}
use Rattle.bitlaws.specs.Digit.{digit}
use Rattle.paulilaws.specs.Pauli.{Pauli, product, anti}
use Rattle.paulilaws.proofs.Exchange.{raised_left, raised_right, raised_again}
use Rattle.paulilaws.specs.Frame.{raised, dropped}
use Rattle.amplitudelaws.specs.Step.{Step}
use Rattle.amplitudelaws.specs.Step.Step.{rotation, promotion, projection, correction, quarter_turn}
use Rattle.framelaws.specs.Carrying.{flipped, deciding, meets, absorbed, widened, turned_by, turned_past, passed, end_pauli}

module _ (e : ℕ) where
  raised_swap : (d : ℕ) (Q : Pauli) → raised d (raised e Q) ≡ raised e (raised d Q)
  raised_swap d Q = raised_again d e (d + e) Q refl ∙ sym (raised_again e d (d + e) Q (ap (λ (n : ℕ). n % 4) (omega arith)))

  absorbed_raised : (M : Pauli) (p v : ℕ) (Q : Pauli) (t : Bool) → dropped p (absorbed t M v (raised e Q)) ≡ raised e (dropped p (absorbed t M v Q))
  unfolding absorbed
  absorbed_raised M p v Q true =
      ap (dropped p) (ap (raised (2 * v)) (raised_left e Q M) ∙ raised_swap (2 * v) (product Q M)) ∙ (unfold dropped raised in refl)
  absorbed_raised M p v Q false = unfold dropped raised in refl

  turned_raised : (P Q : Pauli) (t : Bool) → turned_by t P (raised e Q) ≡ raised e (turned_by t P Q)
  unfolding turned_by
  turned_raised P Q true = ap (raised 3) (raised_right e P Q) ∙ raised_swap 3 (product P Q)
  turned_raised P Q false = refl

  -- what a step looks at has no phase
  anti_raised : (Q P : Pauli) → anti (raised e Q) P ≡ anti Q P
  unfolding raised anti
  anti_raised Q P = refl

  meets_raised : (M : Pauli) (p : ℕ) (Q : Pauli) → meets M p (raised e Q) ≡ meets M p Q
  unfolding meets
  meets_raised M p Q = by (eqb M.x 0)
    where
      by : (t : Bool) → eqb (digit p (deciding t (raised e Q))) 1 ≡ eqb (digit p (deciding t Q)) 1
      by true = unfold deciding raised in refl
      by false = unfold deciding raised in refl

  module _ {R : Type 0} where
    passed_raised : (Q : Pauli) (t : Step R) → passed (raised e Q) t ≡ raised e (passed Q t)
    unfolding passed turned_past
    passed_raised Q (rotation P sign c s) = refl
    passed_raised Q (promotion c q) = unfold widened raised in refl
    passed_raised Q (projection M p v invnorm) =
        let flag : flipped (raised e Q) M v ≡ flipped Q M v = unfold flipped in rw (anti_raised Q M) in
        rw (meets_raised M p Q, flag) (absorbed_raised M p (flipped Q M v) Q (meets M p Q))
    passed_raised Q (correction P) = rw (anti_raised Q P) (raised_swap (2 * anti Q P) Q)
    passed_raised Q (quarter_turn P) = rw (anti_raised Q P) (turned_raised P Q (eqb (anti Q P) 1))

    pub end_raised : (Q : Pauli) (ts : List (Step R)) → end_pauli (raised e Q) ts ≡ raised e (end_pauli Q ts)
    unfolding end_pauli
    end_raised Q [] = refl
    end_raised Q (t ∷ ts) = ap (λ (P : Pauli). end_pauli P ts) (passed_raised Q t) ∙ end_raised (passed Q t) ts
