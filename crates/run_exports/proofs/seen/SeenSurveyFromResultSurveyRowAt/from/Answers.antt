use Rattle.std.specs.Prelude.{refl}
use Rattle.checker.specs.Meaning.{survey_fields_of}
use Rattle.verdicts.proofs.Seen.{meant, row_at_seen}
use Rattle.run_exports.proofs.seen.SeenSurveyFromResultSurveyRowAt.from.Goals as goal

pub returns : goal.returns
returns c = row_at_seen (meant c.verdict_and_value.ensures survey_fields_of) refl
