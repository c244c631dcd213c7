-- What the ledger's declared types mean.
use Rattle.runlaws.specs.Ledger as history
use Rattle.ledger.specs.declared.Ledger.{Ledger}

abbrev pub ledger_of : Ledger → history.Ledger
ledger_of L = record { offered = L.offered; finished = L.finished; refused = L.refused }
