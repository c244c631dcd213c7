-- `Ledger::counted` meets its contract, count by count.
use Rattle.std.proofs.Common.{◌≡◌, ℕ, Bool, true, not}
use Rattle.runlaws.specs.Ledger.{Ledger, raised_by, counted}
use Rattle.ledger.proofs.Ledger.counted.Goals as goal

counts : (t : Bool) (L : Ledger) (offered finished refused : ℕ)
    → offered ≡ raised_by true L.offered → finished ≡ raised_by t L.finished → refused ≡ raised_by (not t) L.refused
    → record { offered = offered; finished = finished; refused = refused } ≡ counted t L
unfolding counted
counts t L offered finished refused o f r = rw (o, f, r)

pub returns : goal.returns
returns c = counts _ _ _ _ _ c.one_more.ensures c.one_more-2.ensures c.one_more-3.ensures
