-- The ledger's law, over histories in which the service and the emulator are called in any order: each count is the number of such calls of the service's modulo
-- 2^64, what is offered is finished or refused, and the emulator's calls leave no trace.
use Rattle.std.specs.Prelude.{◌≡◌, Bool, true, false, ℕ, suc, ◌+◌, ◌%◌, ◌^◌, length}
use Rattle.std.proofs.Math.Path.{refl}
use Rattle.std.proofs.Common.{arith}
use Rattle.std.proofs.Math.Bool.{not}
use mathlib.Core.List.{List, [], ◌∷◌}
use Rattle.bitlaws.specs.Digit.{bit_of}
use Rattle.runlaws.specs.Ledger.{Event, opened, finishes, after_all, of_service, is_offered, is_finished, is_refused, tally, servings}
use Rattle.runlaws.specs.Ledger.Event.{serving, emulating}

-- the ledger after a history that begins with an empty one
pub record Conserved (es : List Event) : Type 0 where
  pub offered : (after_all es opened).offered ≡ tally is_offered es % 2 ^ 64
  pub finished : (after_all es opened).finished ≡ tally is_finished es % 2 ^ 64
  pub refused : (after_all es opened).refused ≡ tally is_refused es % 2 ^ 64
  pub balance : (after_all es opened).offered ≡ ((after_all es opened).finished + (after_all es opened).refused) % 2 ^ 64
  -- it is the ledger after the service's calls alone, each of which is counted
  pub apart : after_all es opened ≡ after_all (servings es) opened
  pub alone : tally is_offered es ≡ length (servings es)

-- ---- how many calls

pub tally_offered : (es : List Event) → tally is_offered es ≡ length (servings es)
unfolding tally of_service servings
tally_offered [] = refl
tally_offered (serving c ∷ es) = omega (arith, tally_offered es)
tally_offered (emulating c ∷ es) = omega (arith, tally_offered es)

both : (t : Bool) (a b : ℕ) → (bit_of t + a) + (bit_of (not t) + b) ≡ suc (a + b)
both true a b = omega arith
both false a b = omega arith

pub tally_both : (es : List Event) → tally is_offered es ≡ tally is_finished es + tally is_refused es
unfolding tally of_service
tally_both [] = refl
tally_both (serving c ∷ es) = omega (arith, tally_both es, both (finishes c) (tally is_finished es) (tally is_refused es))
tally_both (emulating c ∷ es) = omega (arith, tally_both es)
