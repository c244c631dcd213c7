-- Rows that are asked one behind the other, as a call asks them with `?`.
use Rattle.std.specs.Prelude.{◌≡◌, Bool, true, false, Result}
use Rattle.std.specs.Result.{IsErrAnd}
use Rattle.std.proofs.Math.Path.{refl, sym}
use Rattle.std.proofs.Common.{◌∙◌}
use Prim.Native.Nat.{ℕ, suc}
use Rattle.answers.specs.Row.{row, first, first_none}
use Rattle.refusals.specs.declared.Row.{Row}
use Rattle.refusals.specs.Refusal.{number_of, row_of}
use Rattle.refusals.proofs.Asked.{asked_first}

-- behind rows of which none refuses
pub behind : {R rest n : ℕ} → 0 ≡ R → n ≡ rest → n ≡ first R rest
behind {R} {rest} none is = is ∙ sym (first_none R rest (sym none))

-- a row of the laws is one that is asked before the rest
pub row_first : (t : Bool) (n rest : ℕ) → first (row t (suc n) 0) rest ≡ row t (suc n) rest
unfolding row first
row_first true n rest = refl
row_first false n rest = refl

module _ (t : Bool) (n rest : ℕ) where
  -- row n + 1 refuses
  pub asked_row : {A : Type 0} (x : Result A Row) (e : Row) → IsErrAnd x (λ r. r ≡ e) → number_of e ≡ row t (suc n) 0 → row_of x ≡ row t (suc n) rest
  asked_row x e h is = asked_first x e (row t (suc n) 0) rest h is ∙ row_first t n rest

  -- or lets the rest decide
  pub behind_row : {m : ℕ} → 0 ≡ row t (suc n) 0 → m ≡ rest → m ≡ row t (suc n) rest
  behind_row none is = behind none is ∙ row_first t n rest
