use mathlib.Core.Path.{refl}
use Rattle.run_exports.specs.Past.{is_step_tag}
use Rattle.run_exports.proofs.given.is_step.Goals as goal

pub returns : goal.returns
unfolding is_step_tag
returns c = refl
