-- `run_calls::listed::text_room` meets its contract, by a lemma: the search would count the bytes one by one.
use Prim.Native.Nat.{ℕ}
use mathlib.Core.Path.{sym}
use lib.ListN.{length-replicate}
use Rattle.run_calls.proofs.listed.text_room.Goals as goal

pub returns : goal.returns
returns c = sym (length-replicate {A = ℕ} 159754 0)
