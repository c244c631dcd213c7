use Rattle.verdicts.specs.Verdict.{seen_as}
use Rattle.run_exports.proofs.emulated.naribhush_serve_emulated.Goals as goal

pub returns : goal.returns
returns c =
    let done = c.serve_emulated-served.ensures in
    record { fact = (seen_as c.from.ensures done.fact.0, done.fact.1); ledger_value = done.ledger_value }
