-- `main` writes the whole listing: the buffer is long enough for every one, so that none is refused.
use Rattle.std.proofs.Common.{◌≡◌, ◌≤◌, ℕ, List, length, replicate, refl, sym, arith}
use Rattle.std.specs.Prelude.{Result, Ok}
use Rattle.std.proofs.Math.ListN.{length-replicate}
use Rattle.std.proofs.Math.Seq.{length-take-le}
use Rattle.lines.specs.Calls.{Lined}
use Rattle.lines.specs.Pieces.{length_same}
use Rattle.refusals.specs.declared.Row.{Row}
use Rattle.listing.specs.Listing.{listed}
use Rattle.listing.specs.Most.{listed_most, listed_fits}
use Rattle.bench.proofs.main.Goals as goal

module _ (s : List ℕ) {out left : List ℕ} {r : Result ℕ Row} (long : length out ≡ 159754) (l : Lined (listed s) out r left) where
  whole : r ≡ Ok (length (listed s))
  whole = listed_fits s out r left (omega (arith, long)) l

  inside : {n : ℕ} → r ≡ Ok n → n ≤ 159754
  inside e = omega (arith, length_same whole e, listed_most s)

abbrev zeros : length (replicate {A = ℕ} 159754 0) ≡ 159754
zeros = length-replicate {A = ℕ} 159754 0

pub unwrap-len-requires : goal.unwrap-len-requires
unwrap-len-requires c = rw (whole _ zeros c.list_run.ensures) refl

pub slice_bounds-text-end : goal.slice_bounds-text-end
slice_bounds-text-end c = omega (arith, inside _ zeros c.list_run.ensures c.unwrap-len.ensures, c.list_run.auto.out, zeros)

pub slice_bounds-write_all-end : goal.slice_bounds-write_all-end
slice_bounds-write_all-end c = sym (length-take-le _ _ (omega (arith, inside _ zeros c.list_run.ensures c.unwrap-len.ensures, c.list_run.auto.out, zeros)))
