-- The steps of an accepted run, each with the frame before it, and the end Pauli are narrow.
use Rattle.std.proofs.Math.Path.{◌≡◌, subst}
use Rattle.std.proofs.Common.{ap, ◌∙◌, arith}
use mathlib.Core.List.{List, [], ◌∷◌}
use Rattle.std.proofs.Math.Option.{some}
use Prim.Native.Nat.{ℕ, zero, suc, ◌≤◌}
use Rattle.std.specs.Prelude.{Float}
use Rattle.std.proofs.Math.ListN.{get_elem?}
use Rattle.answers.specs.Answer.Answer.{accepted}
use Rattle.paulilaws.specs.Pauli.{Pauli}
use Rattle.paulilaws.specs.Fitting.{Admitted, admitted_beside}
use Rattle.amplitudelaws.specs.Step.{Step, width_after}
use Rattle.amplitudelaws.specs.Step.Step.{rotation, promotion, projection, correction, quarter_turn}
use Rattle.framelaws.specs.Allowed.{Allowed}
use Rattle.framelaws.specs.Caller.{Caller, widest_run}
use Rattle.framelaws.specs.Carrying.{passed, end_pauli}
use Rattle.framelaws.specs.PassRow.{placed_row, pass_row}
use Rattle.framelaws.specs.Reporting.{Framed, framed_steps}
use Rattle.framelaws.specs.Suited.{Paired, Suited, placed_passed}
use Rattle.framelaws.proofs.Suited.{passed_suited, passed_width, passed_admitted, step_passes}
use Rattle.framelaws.specs.Passing.{width_kept}
use Rattle.runlaws.specs.Calls.{finding}
use Rattle.runlaws.specs.Found.{finding_found}
use Rattle.runlaws.specs.Run.{Run, run_of}
use Rattle.runlaws.specs.WholeRun.{run_allowed}
use Rattle.reports.specs.Narrow.{NarrowPauli, NarrowStep}

pub record NarrowFramed (f : Framed Float) : Type 0 where
  pub frame : NarrowPauli f.frame
  pub step : NarrowStep f.step

-- ---- a step that Q is taken past

module _ (Q : Pauli) (h : Q.n ≤ widest_run) where
  beside : {P : Pauli} → Paired Q P → NarrowPauli P
  beside p = record { admitted = admitted_beside p.first p.width p.second; narrow = omega (arith, h, p.width) }

  suited_narrow : (t : Step Float) → Suited Q t → NarrowFramed (record { frame = Q; step = t })
  suited_narrow (rotation P sign c s) k = record { frame = record { admitted = k.first; narrow = h }; step = beside k }
  suited_narrow (promotion c q) k = record { frame = record { admitted = k.0; narrow = h }; step = tt }
  suited_narrow (projection M p v invnorm) k = record { frame = record { admitted = k.0.first; narrow = h }; step = beside k.0 }
  suited_narrow (correction P) k = record { frame = record { admitted = k.first; narrow = h }; step = beside k }
  suited_narrow (quarter_turn P) k = record { frame = record { admitted = k.first; narrow = h }; step = beside k }

  pub passed_narrow : (t : Step Float) → pass_row Q t ≡ 0 → NarrowFramed (record { frame = Q; step = t })
  passed_narrow t row = suited_narrow t (passed_suited Q t row)

-- ---- a list of steps that no row refuses

module _ (caller : Caller) (within : caller.widest ≤ widest_run) where
  -- Q is a Pauli on n qubits, before these steps
  pub record Outset (n : ℕ) (Q : Pauli) (ts : List (Step Float)) : Type 0 where
    pub allowed : Allowed caller n ts
    pub small : n ≤ caller.widest
    pub admitted : Admitted Q
    pub width : Q.n ≡ n

  module _ {n : ℕ} {Q : Pauli} {t : Step Float} {ts : List (Step Float)} (o : Outset n Q (t ∷ ts)) where
    row : pass_row Q t ≡ 0
    row = step_passes caller n Q o.admitted o.width t o.allowed.0 o.allowed.1

    first_narrow : NarrowFramed (record { frame = Q; step = t })
    first_narrow = passed_narrow Q (omega (arith, within, o.small, o.width)) t row

    behind : Outset (width_after n t) (passed Q t) ts
    behind = record {
      allowed = o.allowed.2;
      small = width_kept caller n t o.small o.allowed.1;
      admitted = passed_admitted Q t row;
      width = passed_width Q t row ∙ ap (λ (m : ℕ). width_after m t) o.width;
    }

  frames_narrow : (n : ℕ) (Q : Pauli) (ts : List (Step Float)) → Outset n Q ts → (i : ℕ) (f : Framed Float) → get_elem? (framed_steps Q ts) i ≡ some f → NarrowFramed f
  unfolding framed_steps
  frames_narrow n Q [] o i f e = absurd (let z : ◌≡◌ {A = ℕ} 0 1 = cc in omega arith)
  frames_narrow n Q (t ∷ ts) o zero f e =
      let is : record { frame = Q; step = t } ≡ f = cc in
      subst NarrowFramed is (first_narrow o)
  frames_narrow n Q (t ∷ ts) o (suc i) f e = frames_narrow (width_after n t) (passed Q t) ts (behind o) i f e

  end_narrow : (n : ℕ) (Q : Pauli) (ts : List (Step Float)) → Outset n Q ts → NarrowPauli (end_pauli Q ts)
  unfolding end_pauli
  end_narrow n Q [] o = record { admitted = o.admitted; narrow = omega (arith, within, o.small, o.width) }
  end_narrow n Q (t ∷ ts) o = end_narrow (width_after n t) (passed Q t) ts (behind o)

  -- ---- an accepted run, and a Pauli on its start qubits

  module _ (s : List ℕ) (Q : Pauli) where
    module _ (R : Run) (read : run_of caller s ≡ accepted R) (placed : placed_row Q R.width ≡ 0) where
      outset : Outset R.width Q R.steps
      outset =
          let run = run_allowed caller s R read in
          let at_start = placed_passed Q R.width placed in
          record { allowed = run.allowed; small = run.width; admitted = at_start.0; width = at_start.1 }

      pub run_frames_narrow : (i : ℕ) (f : Framed Float) → get_elem? (framed_steps Q R.steps) i ≡ some f → NarrowFramed f
      run_frames_narrow = frames_narrow R.width Q R.steps outset

      pub run_end_narrow : NarrowPauli (end_pauli Q R.steps)
      run_end_narrow = end_narrow R.width Q R.steps outset

    -- a step that is found
    pub found_narrow : (i : ℕ) (f : Framed Float) → finding caller s Q i ≡ accepted f → NarrowFramed f
    found_narrow i f e = let k = finding_found caller s Q i f e in run_frames_narrow k.run k.read k.placed i f k.is
