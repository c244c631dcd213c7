-- What the loop over a run's steps keeps, and that a turn keeps it.
use mathlib.Core.Path.{◌≡◌, refl, sym, ap, ◌∙◌}
use mathlib.Core.List.{List, []}
use Prim.Native.Nat.{ℕ, ◌+◌}
use native.Mathlib.Omega.{arith}
use lib.Ieee.{Float}
use Rattle.paulilaws.specs.Pauli.{Pauli}
use Rattle.amplitudelaws.specs.Step.{Step}
use Rattle.framelaws.specs.Caller.{Caller}
use Rattle.framelaws.specs.Carrying.{carried_step, passed, carried_steps, end_pauli}
use Rattle.runlaws.specs.Flags.{field_size, flag_at, flagged}
use Rattle.runlaws.proofs.Flagged.{carried_size}
use Rattle.runlaws.specs.Going.{Gone, Passing, passing_outset, passing_step, all_passed}
use Rattle.runlaws.specs.Reading.{Cursor}
use Rattle.runlaws.specs.OnStart.{run_in, OnStart}

-- At a cursor, with the Pauli and the output as they are there: the steps that are left take them to the end Pauli and to all flags.
pub record Carrying (caller : Caller) (s : List ℕ) (last : Pauli) (all : List ℕ) (c : Cursor) (Q : Pauli) (out : List ℕ) : Type 0 where
  pub steps : List (Step Float)
  pub passing : Passing caller s last c Q steps
  pub writes : flagged c.at (carried_steps Q steps) out ≡ all

-- before the first step
pub outset : (caller : Caller) (s : List ℕ) (Q : Pauli) (out : List ℕ) → OnStart caller s Q
    → let steps = (run_in caller s).steps in
    Carrying caller s (end_pauli Q steps) (flagged 4 (carried_steps Q steps) out) (record { at = 4; width = Q.n }) Q out
outset caller s Q out r =
    record { steps = (run_in caller s).steps; passing = passing_outset caller s Q r; writes = refl }

module _ {caller : Caller} {s : List ℕ} {last : Pauli} {all : List ℕ} {c : Cursor} {Q : Pauli} {out : List ℕ}
    (w : Carrying caller s last all c Q out) where
  module _ {t : Step Float} {d : Cursor} (g : Gone caller s c Q w.steps t d) where
    turned : Carrying caller s last all d (passed Q t) (flag_at c.at (carried_step Q t) out)
    unfolding carried_steps flagged
    turned =
        let one = flag_at c.at (carried_step Q t) out in
        let next : d.at ≡ c.at + field_size (carried_step Q t) = omega (arith, carried_size Q t, g.read.next) in
        record {
          steps = g.after;
          passing = passing_step w.passing g;
          writes = ap (λ (n : ℕ). flagged n (carried_steps (passed Q t) g.after) one) next
              ∙ ap (λ (ts : List (Step Float)). flagged c.at (carried_steps Q ts) out) (sym g.steps_are)
              ∙ w.writes;
        }

    pub turn : (t' : Step Float) (Q' : Pauli) (out' : List ℕ) → t' ≡ carried_step Q t → Q' ≡ passed Q t → out' ≡ flag_at c.at t' out
        → Carrying caller s last all d Q' out'
    turn t' Q' out' is passes writes = rw (writes, is, passes) turned

  pub all_written : w.steps ≡ [] → (Q ≡ last) × (out ≡ all)
  unfolding carried_steps flagged
  all_written e =
      (all_passed w.passing e, ap (λ (ts : List (Step Float)). flagged c.at (carried_steps Q ts) out) (sym e) ∙ w.writes)
