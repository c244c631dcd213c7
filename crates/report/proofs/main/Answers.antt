-- `main` writes the whole report: the buffer is long enough for every one, so that none is refused.
use Rattle.std.proofs.Common.{◌≡◌, ◌≤◌, ℕ, List, length, replicate, refl, sym, arith}
use Rattle.std.specs.Prelude.{Result, Ok}
use Rattle.std.proofs.Math.ListN.{length-replicate}
use Rattle.std.proofs.Math.Seq.{length-take-le}
use Rattle.lines.specs.Calls.{Lined}
use Rattle.lines.specs.Pieces.{length_same}
use Rattle.refusals.specs.declared.Row.{Row}
use Rattle.reports.specs.Listing.{report_listed}
use Rattle.reports.specs.Most.{report_most, report_fits}
use Rattle.report.proofs.main.Goals as goal

module _ (s : List ℕ) {out left : List ℕ} {r : Result ℕ Row} (long : length out ≡ 441370) (l : Lined (report_listed s) out r left) where
  whole : r ≡ Ok (length (report_listed s))
  whole = report_fits s out r left (omega (arith, long)) l

  inside : {n : ℕ} → r ≡ Ok n → n ≤ 441370
  inside e = omega (arith, length_same whole e, report_most s)

abbrev zeros : length (replicate {A = ℕ} 441370 0) ≡ 441370
zeros = length-replicate {A = ℕ} 441370 0

pub unwrap-len-requires : goal.unwrap-len-requires
unwrap-len-requires c = rw (whole _ zeros c.list_report.ensures) refl

pub slice_bounds-text-end : goal.slice_bounds-text-end
slice_bounds-text-end c = omega (arith, inside _ zeros c.list_report.ensures c.unwrap-len.ensures, c.list_report.auto.out, zeros)

pub slice_bounds-write_all-end : goal.slice_bounds-write_all-end
slice_bounds-write_all-end c = sym (length-take-le _ _ (omega (arith, inside _ zeros c.list_report.ensures c.unwrap-len.ensures, c.list_report.auto.out, zeros)))
