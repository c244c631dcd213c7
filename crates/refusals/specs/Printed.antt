-- What `{}` prints of a refusal: its number, and behind it its place where it has one.
use Rattle.std.specs.Prelude.{List, ◌++◌, ℕ, codes, decimal}
use Rattle.refusals.specs.declared.Row.{Row}
use Rattle.refusals.specs.declared.RowAt.{RowAt}
use Rattle.refusals.specs.declared.Refusal.{Refusal}
use Rattle.refusals.specs.declared.Refusal.TheVariants.{Whole, At}
use Rattle.refusals.specs.Refusal.{number_of}

abbrev pub row_text : Row → List ℕ
row_text r = codes "refused " ++ decimal (number_of r)

abbrev pub row_at_text : RowAt → List ℕ
row_at_text p = row_text p.row ++ codes " at " ++ decimal p.at

abbrev pub refusal_text : Refusal → List ℕ
refusal_text (Whole r) = row_text r
refusal_text (At p) = row_at_text p
