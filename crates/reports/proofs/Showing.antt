-- A Pauli's text written to the start of what stands from `at` on: it is no less than a line that is written there.
use mathlib.Core.Path.{◌≡◌, ap, ◌∙◌, subst}
use mathlib.Core.Bool.{true}
use mathlib.Core.List.{List, ◌++◌}
use Prim.Native.Nat.{ℕ, ◌+◌, ◌-◌, ◌≤◌}
use lib.ListN.{length, take, drop}
use lib.Seq.{sets}
use Rattle.answers.specs.Answer.{Answer, refuse}
use Rattle.paulilaws.specs.Pauli.{Pauli, fits}
use Rattle.paulilaws.specs.Fitting.{Admitted}
use Rattle.paulilaws.proofs.Fitting.{admitted_fits}
use Rattle.paulis.specs.Calls.{on_pauli}
use Rattle.paulitext.specs.Calls.{Shown, show_call, buffer_after}
use Rattle.paulitext.specs.Text.{shown}
use Rattle.std.specs.Prelude.{Result}
use Rattle.refusals.specs.declared.Row.{Row}
use Rattle.std.specs.Prelude.{Ok}
use Rattle.lines.specs.Calls.{Lined, line_call}
use Rattle.lines.specs.Pieces.{lined_at}

shown_lined : (P : Pauli) (out : List ℕ) (r : Result ℕ Row) (left : List ℕ) → fits P ≡ true → Shown P out r left → Lined (shown P) out r left
unfolding show_call line_call on_pauli refuse
shown_lined P out r left f s =
    let call : show_call P out ≡ line_call (shown P) out = rw f in
    record { told = s.told ∙ call; buffer = s.buffer ∙ ap (λ (a : Answer ℕ). buffer_after a (shown P) out) call }

-- W is what was shown
pub shown_at : (P : Pauli) (out : List ℕ) (at : ℕ) (W : Pauli) (r : Result ℕ Row) (left : List ℕ) → W ≡ P → Admitted P → at + length (shown P) ≤ length out
    → Shown W (take (length out - at) (drop at out)) r left
    → (r ≡ Ok (length (shown P))) × (take at out ++ (left ++ drop (length out - at) (drop at out)) ≡ sets out at (shown P))
shown_at P out at W r left e a h s =
    let part : List ℕ = take (length out - at) (drop at out) in
    lined_at (shown P) out at r left h (shown_lined P part r left (admitted_fits P a) (subst (λ (Q : Pauli). Shown Q part r left) e s))
