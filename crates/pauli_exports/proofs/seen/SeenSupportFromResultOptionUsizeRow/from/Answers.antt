use Rattle.std.specs.Prelude.{◌≡◌, refl, ℕ, Option, Some, None}
use Rattle.std.proofs.Common.{ap, ◌∙◌}
use Rattle.std.specs.Option as code
use Rattle.refusals.specs.Optional.{option_of}
use Rattle.verdicts.proofs.Seen.{meant, row_seen}
use Rattle.pauli_exports.specs.Qubit.{is_some, qubit_or0}
use Rattle.pauli_exports.proofs.seen.SeenSupportFromResultOptionUsizeRow.from.Goals as goal

there : (o : Option ℕ) → code.is_some o ≡ is_some (option_of o)
there (Some q) = refl
there None = refl

which : (o : Option ℕ) → code.unwrap_or o 0 ≡ qubit_or0 (option_of o)
which (Some q) = refl
which None = refl

pub returns : goal.returns
returns c =
    let o = c.verdict_and_value-support.result.1 in
    let s = row_seen (meant c.verdict_and_value-support.ensures option_of) refl in
    record {
      verdict = s.verdict;
      found = c.is_some.ensures ∙ there o ∙ ap is_some s.value;
      qubit = c.unwrap_or.ensures ∙ which o ∙ ap qubit_or0 s.value;
    }
