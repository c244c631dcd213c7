-- What is seen of a report: by `kind` 0 that the step has no sign or branch, 1 that it is kept, 2 that it is changed; and the mask, which is 0 beside no flag.
use Rattle.std.specs.Prelude.{◌≡◌, refl, true, false, ℕ}
use Rattle.std.proofs.Common.{ap, arith}
use Rattle.framelaws.specs.Reporting.{Report}
use Rattle.framelaws.specs.Reporting.Report.{no_flag, flagged}
use Rattle.run_exports.specs.declared.seen.SeenReport.{SeenReport}

pub record ReportSeen : Type 0 where
  pub kind : ℕ
  pub mask : ℕ

abbrev pub report_seen : Report → ReportSeen
report_seen no_flag = record { kind = 0; mask = 0 }
report_seen (flagged false mask) = record { kind = 1; mask = mask }
report_seen (flagged true mask) = record { kind = 2; mask = mask }

abbrev pub seen_report_of : SeenReport → ReportSeen
seen_report_of r = record { kind = r.kind; mask = r.mask }

-- what docs/FORMAT.md says of the numbers
record Numbers (mask : ℕ) : Type 0 where
  none : report_seen no_flag ≡ record { kind = 0; mask = 0 }
  kept : report_seen (flagged false mask) ≡ record { kind = 1; mask = mask }
  changed : report_seen (flagged true mask) ≡ record { kind = 2; mask = mask }

numbers : (mask : ℕ) → Numbers mask
numbers mask = record { none = refl; kept = refl; changed = refl }

-- no two reports are seen alike
kinds : {a b : ReportSeen} → a ≡ b → a.kind ≡ b.kind
kinds e = ap (λ (r : ReportSeen). r.kind) e

masks : {a b : ReportSeen} → a ≡ b → a.mask ≡ b.mask
masks e = ap (λ (r : ReportSeen). r.mask) e

report_tells : (a b : Report) → report_seen a ≡ report_seen b → a ≡ b
report_tells no_flag no_flag e = refl
report_tells no_flag (flagged false m) e = absurd (omega (arith, kinds e))
report_tells no_flag (flagged true m) e = absurd (omega (arith, kinds e))
report_tells (flagged false k) no_flag e = absurd (omega (arith, kinds e))
report_tells (flagged false k) (flagged false m) e = ap (flagged false) (masks e)
report_tells (flagged false k) (flagged true m) e = absurd (omega (arith, kinds e))
report_tells (flagged true k) no_flag e = absurd (omega (arith, kinds e))
report_tells (flagged true k) (flagged false m) e = absurd (omega (arith, kinds e))
report_tells (flagged true k) (flagged true m) e = ap (flagged true) (masks e)
