use Rattle.activepauli.specs.Active.{active_of}
use Rattle.passing.specs.Accepted.{past_unrefused, past_is}
use Rattle.steps.specs.Meaning.{step_of}
use Rattle.folder.proofs.Lefts.{field_written}
use Rattle.folder.proofs.past.write_field.Goals as goal

pub unwrap-carried-requires : goal.unwrap-carried-requires
unwrap-carried-requires c = past_unrefused _ _ c.requires.step_value _ c.past.ensures

pub returns : goal.returns
returns c =
    let a = c.args in
    let is = (past_is (active_of a.pauli) (step_of a.step) c.requires.step_value _ c.past.ensures _ c.unwrap-carried.ensures).0 in
    let size = c.copy-size.ensures.0 in
    (size, field_written a.field.now a.out.now _ _ _ _ _ is size c.copy-size.ensures.1 c.write_flag.ensures)
