-- A refusal's line: its place is not listed.
use Rattle.std.specs.Prelude.{List, ℕ}
use Rattle.lines.specs.Lines.{refusal_line}
use Rattle.refusals.specs.declared.Refusal.{Refusal}
use Rattle.refusals.specs.declared.Refusal.TheVariants.{Whole, At}
use Rattle.refusals.specs.Refusal.{number_of}

abbrev pub refused_line : Refusal → List ℕ
refused_line (Whole r) = refusal_line (number_of r)
refused_line (At p) = refusal_line (number_of p.row)
