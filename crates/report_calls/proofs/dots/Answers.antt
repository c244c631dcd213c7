-- `report_calls::dots` meets its contract, by a lemma: the search would count the bytes one by one.
use Prim.Native.Nat.{ℕ}
use mathlib.Core.Path.{sym}
use lib.ListN.{length-replicate}
use Rattle.report_calls.proofs.dots.Goals as goal

pub returns : goal.returns
returns c = sym (length-replicate {A = ℕ} 262144 46)
