-- What carrying answers and leaves in the output, from what the check, the rows and the loop say.
use mathlib.Core.Path.{◌≡◌, refl, sym, ap, ◌∙◌}
use mathlib.Core.List.{List, ◌++◌}
use Prim.Native.Nat.{ℕ}
use lib.ListN.{length, drop}
use Rattle.answers.specs.Answer.{Answer}
use Rattle.answers.specs.Answer.Answer.{accepted, refused, refused_at}
use Rattle.answers.specs.Row.{refusing, passing}
use Rattle.paulilaws.specs.Pauli.{Pauli}
use Rattle.framelaws.specs.Caller.{Caller}
use Rattle.framelaws.specs.Carrying.{carried_steps, end_pauli}
use Rattle.framelaws.specs.Survey.{Survey}
use Rattle.runlaws.specs.Flags.{flagged}
use Rattle.runlaws.specs.Run.{run_of}
use Rattle.runlaws.specs.Calls.{on_run, checked_run_of, checking_with_start, carrying_row, carried_run, carrying}
use Rattle.runlaws.specs.Mapped.{mapped_refused}
use Rattle.runlaws.specs.OnStart.{run_in, OnStart, checked_read, checked_start}
use Rattle.runlaws.specs.Outcomes.{carrying_passed}
use Rattle.runlaws.proofs.Flagged.{carried_append}

-- ---- the answers

module _ (caller : Caller) (s : List ℕ) (Q : Pauli) (out : List ℕ) where
  -- the answer a, and u left
  abbrev Carries : Answer Pauli → List ℕ → Type 0
  Carries a u = (a ≡ (carrying caller s Q out).answer) × (u ≡ (carrying caller s Q out).lent)

  pub run_refused : (n at : ℕ) → checking_with_start caller s ≡ refused_at n at → Carries (refused_at n at) out
  unfolding carrying on_run checking_with_start
  run_refused n at e = rw (mapped_refused checked_run_of (run_of caller s) n at e) (refl, refl)

  -- of a run that is checked: its start width, and the row by it
  module _ {width : ℕ} {v : Survey} (checked : checking_with_start caller s ≡ accepted (record { start = width; survey = v })) {r : ℕ}
      (is : r ≡ carrying_row Q width (length s) (length out)) where
    row_is : r ≡ carrying_row Q (run_in caller s).width (length s) (length out)
    row_is = is ∙ ap (λ (n : ℕ). carrying_row Q n (length s) (length out)) (checked_start caller s checked)

    pub row_refused : (r ≡ 0 → ⊥) → Carries (refused r) out
    unfolding carrying on_run
    row_refused ne =
        let R = run_in caller s in
        rw (checked_read caller s checked)
        (refusing (carrying_row Q R.width (length s) (length out)) (end_pauli Q R.steps) (carried_run Q R s ++ drop (length s) out) out r row_is ne)

    pub ready : r ≡ 0 → OnStart caller s Q
    ready none =
        let known = carrying_passed Q width (length s) (length out) (sym is ∙ none) in
        record { read = checked_read caller s checked; admitted = known.0; width = known.1 ∙ checked_start caller s checked }

    module _ (none : r ≡ 0) {copy : List ℕ} (copied : copy ≡ s ++ drop (length s) out) where
      pub done : (Q' : Pauli) (out' : List ℕ) → Q' ≡ end_pauli Q (run_in caller s).steps → out' ≡ flagged 4 (carried_steps Q (run_in caller s).steps) copy
          → Carries (accepted Q') out'
      unfolding carrying on_run
      done Q' out' ends writes =
          let R = run_in caller s in
          let written : out' ≡ carried_run Q R s ++ drop (length s) out
          = writes ∙ ap (flagged 4 (carried_steps Q R.steps)) copied ∙ carried_append caller s (drop (length s) out) Q R (checked_read caller s checked) in
          rw (checked_read caller s checked, ends)
          (passing (carrying_row Q R.width (length s) (length out)) (end_pauli Q R.steps) (carried_run Q R s ++ drop (length s) out) out out' (sym row_is ∙ none) written)
