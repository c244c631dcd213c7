-- A refusal's line, with its place where it has one.
use Rattle.std.specs.Prelude.{◌≡◌, refl, List, ℕ, Err}
use Rattle.lines.specs.Lines.{refusal_line}
use Rattle.refusals.specs.declared.Refusal.{Refusal}
use Rattle.refusals.specs.declared.Refusal.TheVariants.{Whole, At}
use Rattle.refusals.specs.Refusal.{number_of, refusal_answer_of}
use Rattle.reports.specs.Listing.{answer_text}
use Rattle.reports.specs.Text.{refusal_at_line}

abbrev pub refusal_text : Refusal → List ℕ
refusal_text (Whole r) = refusal_line (number_of r)
refusal_text (At p) = refusal_at_line (number_of p.row) p.at

-- it is what is listed where that refuses
pub refused_text : {A B : Type 0} (value : A → B) (text : B → List ℕ) (r : Refusal) → refusal_text r ≡ answer_text text (refusal_answer_of value (Err r))
unfolding answer_text
refused_text value text (Whole r) = refl
refused_text value text (At p) = refl
