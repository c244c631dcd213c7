use Rattle.run_exports.proofs.given.SeenPastFromResultPassageRow.from.Goals as goal

pub returns-in-Ok : goal.returns-in-Ok
returns-in-Ok c = rw (c.in-Ok.is, c.accepted.ensures, c.from.ensures)

pub returns-in-Err : goal.returns-in-Err
returns-in-Err c = rw (c.in-Err.is, c.from-in-Err.ensures, c.bare.ensures, c.identity_on_none.ensures)
