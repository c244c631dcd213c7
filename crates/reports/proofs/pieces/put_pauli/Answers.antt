-- `put_pauli`: the text is written to the start of what stands from `at` on, where it fits and is not refused.
-- the answer is the text's length, and the text stands in the buffer
use Rattle.std.proofs.Common.{◌≡◌, ℕ, ◌+◌, ◌-◌, ◌++◌, length, take, drop, refl, ap, arith}
use Rattle.std.specs.Prelude.{Ok}
use Rattle.std.proofs.lemmas.List.Edits.{sets}
use Rattle.activepauli.specs.Active.{active_of}
use Rattle.lines.specs.Pieces.{length_same}
use Rattle.paulitext.specs.Text.{shown}
use Rattle.reports.specs.Lengths.{narrow_most}
use Rattle.reports.proofs.Showing.{shown_at}
use Rattle.reports.proofs.pieces.put_pauli.Goals as goal
use Rattle.reports.proofs.pieces.put_pauli.Goals.{After-display}

written : (c : After-display) → let P = active_of c.args.pauli in
    let out = c.args.out.now in
    (c.display.result ≡ Ok (length (shown P)))
    × (take c.args.at out ++ (c.display.new.out ++ drop (length out - c.args.at) (drop c.args.at out)) ≡ sets out c.args.at (shown P))
written c =
    let P = active_of c.args.pauli in
    shown_at P c.args.out.now c.args.at _ _ _ c.from.ensures c.requires.0.admitted (omega (arith, c.requires.1, narrow_most P c.requires.0.narrow)) c.display.ensures

pub unwrap-requires : goal.unwrap-requires
unwrap-requires c = rw (written (goal.at.unwrap-requires c).After-display).0 refl

pub overflow_add-result : goal.overflow_add-result
overflow_add-result c =
    let P = active_of c.args.pauli in
    omega (arith, c.requires.1, length_same (written (goal.at.overflow_add-result c).After-display).0 c.unwrap.ensures, narrow_most P c.requires.0.narrow)

pub returns : goal.returns
returns c =
    let done = written (goal.at.returns c).After-display in
    record { ends = ap (λ (n : ℕ). c.args.at + n) (length_same done.0 c.unwrap.ensures); stands = done.1 }
