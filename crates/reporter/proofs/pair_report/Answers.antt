-- `pair_report`: the count of the mask's ones is odd exactly where the two anticommute, whatever the widths say, since each mask is one word.
use mathlib.Core.Path.{◌≡◌, ap, ◌∙◌}
use mathlib.Core.Bool.{Bool}
use Prim.Native.Nat.{ℕ, ◌^◌, ◌<◌}
use lib.Dec.{eqb}
use Rattle.bitlaws.specs.Parity.{parity}
use Rattle.paulilaws.specs.Pauli.{Pauli}
use Rattle.paulilaws.specs.AntiMask.{anti_mask}
use Rattle.paulilaws.proofs.AntiMask.{anti_mask_lem}
use Rattle.framelaws.specs.Reporting.{pair_report}
use Rattle.framelaws.specs.Reporting.Report.{flagged}
use borrow.Author.Rules.{rules}
use Rattle.reporter.proofs.pair_report.Goals as goal

reported : (Q P : Pauli) (odd : Bool) → Q.x < 2 ^ 64 → Q.z < 2 ^ 64 → odd ≡ eqb (parity (anti_mask Q P)) 1 → flagged odd (anti_mask Q P) ≡ pair_report Q P
unfolding pair_report parity
reported Q P odd hx hz is = ap (λ (t : Bool). flagged t (anti_mask Q P)) (is ∙ ap (λ (n : ℕ). eqb n 1) (anti_mask_lem 64 Q P hx hz).odd)

pub returns : goal.returns
unfolding anti_mask
returns c = reported _ _ _ (search rules) (search rules) c.is_odd_popcount.ensures
