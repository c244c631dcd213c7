-- A Pauli on the state's qubits stays one as it is carried, up to the end, where no row refuses a step.
use Rattle.std.specs.Prelude.{◌≡◌, Bool, ℕ, suc, ◌-◌, ◌^◌, ◌≤◌, ◌<◌}
use Rattle.std.proofs.Math.Path.{refl, sym}
use Rattle.std.proofs.Common.{subst, arith}
use Rattle.std.proofs.Math.Bool.{true, false}
use Rattle.std.proofs.Math.Pow.{pow-lt}
use Rattle.bitlaws.proofs.Opening.{drop_lt}
use Rattle.paulilaws.specs.Pauli.{Pauli, product}
use Rattle.paulilaws.specs.Fitting.{Fitting, product_fitting}
use Rattle.paulilaws.specs.Frame.{raised, dropped, raised_fitting}
use Rattle.framelaws.specs.Caller.{Caller}
use Rattle.framelaws.specs.Carrying.{absorbed, widened, turned_by}

-- ---- what carrying does to a Pauli

pub widened_fitting : {P : Pauli} → Fitting P → Fitting (widened P)
unfolding widened
widened_fitting {P} f = record {
  phase = f.phase;
  xs = omega (arith, pow-lt {i = P.n} {j = suc P.n} (omega arith), f.xs);
  zs = omega (arith, pow-lt {i = P.n} {j = suc P.n} (omega arith), f.zs);
}

dropped_fitting : (p : ℕ) {P : Pauli} → p < P.n → Fitting P → Fitting (dropped p P)
unfolding dropped
dropped_fitting p {P} h f =
    let wide : P.n ≡ suc (P.n - 1) = omega arith in
    let below = drop_lt p (P.n - 1) (omega arith) in
    record {
      phase = f.phase;
      xs = below P.x (subst (λ (k : ℕ). P.x < 2 ^ k) wide f.xs);
      zs = below P.z (subst (λ (k : ℕ). P.z < 2 ^ k) wide f.zs);
    }

-- Which of the two stands first in a product plays no part here and behind a quarter turn: the laws of a frame say it (Projecting, PastQuarterTurn).
module _ (M : Pauli) (v : ℕ) (Q : Pauli) (e : M.n ≡ Q.n) where
  pub absorbed_width : (t : Bool) → (absorbed t M v Q).n ≡ Q.n
  unfolding absorbed raised product
  absorbed_width true = omega (arith, e)
  absorbed_width false = refl

  pub absorbed_fitting : (t : Bool) → Fitting M → Fitting Q → Fitting (absorbed t M v Q)
  unfolding absorbed
  absorbed_fitting true f g = search (raised_fitting, product_fitting, sym, e)
  absorbed_fitting false f g = g

  -- and without the pivot's qubit
  pub remaining_fitting : (t : Bool) (p : ℕ) → p < Q.n → Fitting M → Fitting Q → Fitting (dropped p (absorbed t M v Q))
  remaining_fitting t p h f g = dropped_fitting p (omega (arith, absorbed_width t)) (absorbed_fitting t f g)

-- behind a quarter turn
module _ (P Q : Pauli) (e : P.n ≡ Q.n) where
  pub turned_width : (t : Bool) → (turned_by t P Q).n ≡ Q.n
  unfolding turned_by raised product
  turned_width true = omega (arith, e)
  turned_width false = refl

  pub turned_fitting : (t : Bool) → Fitting P → Fitting Q → Fitting (turned_by t P Q)
  unfolding turned_by
  turned_fitting true f g = raised_fitting _ (search (product_fitting, sym, e))
  turned_fitting false f g = g

-- ---- past a step, and past all

-- a Pauli on a state of n qubits, which the caller may have
pub record Fitted (caller : Caller) (n : ℕ) (Q : Pauli) : Type 0 where
  pub fitting : Fitting Q
  pub width : Q.n ≡ n
  pub within : n ≤ caller.widest
