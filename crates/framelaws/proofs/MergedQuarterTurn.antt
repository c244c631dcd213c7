-- Two Paulis go past a quarter turn of P, B and then A, or their product at once: behind it the product is the same.
use Rattle.std.specs.Prelude.{◌≡◌, Bool, ℕ, ◌*◌}
use Rattle.std.proofs.Math.Path.{refl, ap}
use Rattle.std.proofs.Common.{sym, ◌∙◌, eqb-true}
use Rattle.std.proofs.Math.Bool.{true, false}
use Rattle.std.proofs.Math.Dec.{eqb}
use Rattle.std.specs.Float.Ieee.{unlike}
use Rattle.bitlaws.specs.Digit.{not_one}
use Rattle.bitlaws.specs.Parity.{digits_differ}
use Rattle.paulilaws.specs.Pauli.{Pauli, product, anti, hermitian}
use Rattle.paulilaws.proofs.Action.{anti_lt}
use Rattle.paulilaws.proofs.Algebra.{product_assoc}
use Rattle.paulilaws.proofs.Exchange.{raised_left, raised_right, raised_again, raised_whole, anti_product, exchanged, squared_before}
use Rattle.paulilaws.specs.Frame.{raised}
use Rattle.framelaws.specs.Carrying.{turned_by, turned_past}

-- t and u say which of the two anticommute with P. Where both do, P B P A is - P P B A, and the two turns' i^3 i^3 is -1.
module _ (P B A : Pauli) (real : hermitian P ≡ true) (width : P.n ≡ B.n) where
  -- P moved to the front
  moved : (a : ℕ) → anti B P ≡ a → product B (product P A) ≡ raised (2 * a) (product P (product B A))
  moved a e =
      sym (product_assoc B P A)
      ∙ ap (λ (Q : Pauli). product Q A) (exchanged B P (sym width) ∙ ap (λ (n : ℕ). raised (2 * n) (product P B)) e)
      ∙ raised_left (2 * a) (product P B) A ∙ ap (raised (2 * a)) (product_assoc P B A)

  turned_product : (t u : Bool) → eqb (anti B P) 1 ≡ t → product (turned_by t P B) (turned_by u P A) ≡ turned_by (unlike t u) P (product B A)
  unfolding turned_by
  turned_product false false e = refl
  turned_product false true e =
      raised_right 3 B (product P A) ∙ ap (raised 3) (moved 0 (not_one (anti B P) (anti_lt B P) e) ∙ raised_whole 0 P (product B A) refl)
  turned_product true false e = raised_left 3 (product P B) A ∙ ap (raised 3) (product_assoc P B A)
  turned_product true true e =
      raised_left 3 (product P B) (raised 3 (product P A))
      ∙ ap (raised 3) (raised_right 3 (product P B) (product P A) ∙ ap (raised 3) square ∙ raised_again 3 2 5 (product B A) refl)
      ∙ raised_again 3 5 0 (product B A) refl
      ∙ raised_whole 0 B A refl
    where
      square : product (product P B) (product P A) ≡ raised 2 (product B A)
      square =
          product_assoc P B (product P A)
          ∙ ap (product P) (moved 1 (eqb-true (anti B P) 1 e))
          ∙ raised_right 2 P (product P (product B A))
          ∙ ap (raised 2) (squared_before P B A real width)

  -- Nothing is asked of A.
  pub merged_past_quarter_turn : product (turned_past B P) (turned_past A P) ≡ turned_past (product B A) P
  unfolding turned_past
  merged_past_quarter_turn =
      turned_product (eqb (anti B P) 1) (eqb (anti A P) 1) refl
      ∙ ap (λ (t : Bool). turned_by t P (product B A)) (sym (ap (λ (n : ℕ). eqb n 1) (anti_product B A P) ∙ digits_differ (anti B P) (anti A P) (anti_lt B P) (anti_lt A P)))
