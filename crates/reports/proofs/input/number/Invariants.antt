use Rattle.std.proofs.Common.{◌≡◌, ◌≤◌, drop}
use Rattle.reports.specs.Input.{no_step, number_from, number}
use Rattle.reports.proofs.input.number.Given as goal

abbrev pub invariant-loop-byte : goal.invariant-loop-byte
invariant-loop-byte l = (l.value ≤ no_step) × (number_from l.value (drop l.byte-index l.text) ≡ number l.text)
