-- `put_flag`: each by its own text.
use Rattle.reports.specs.Text.{flag_text}
use Rattle.reports.proofs.line.put_flag.Goals as goal

pub returns-in-Some : goal.returns-in-Some
returns-in-Some c = rw c.in-Some.is c.put_flagged.ensures

pub returns-in-None : goal.returns-in-None
unfolding flag_text
returns-in-None c = rw c.in-None.is c.put.ensures
