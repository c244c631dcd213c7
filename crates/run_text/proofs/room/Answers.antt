-- `run_text::room` meets its contract, by a lemma: the search would count the bytes one by one.
use Rattle.std.proofs.Common.{ℕ, sym}
use lib.ListN.{length-replicate}
use Rattle.run_text.proofs.room.Goals as goal

pub returns : goal.returns
returns c = sym (length-replicate {A = ℕ} 66000 c.args.byte)
