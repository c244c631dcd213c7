-- The ledger's law, over histories in which the service and the emulator are called in any order: each count is the number of such calls of the service's modulo
-- 2^64, what is offered is finished or refused, and the emulator's calls leave no trace.
use Rattle.std.specs.Prelude.{◌≡◌, Bool, true, ℕ, ◌+◌, ◌%◌, ◌^◌}
use Rattle.std.proofs.Math.Path.{refl, sym, ap}
use Rattle.std.proofs.Common.{ap₂, ◌∙◌, add-zero, zero-add, add_assoc}
use Rattle.std.proofs.Math.Bool.{not}
use mathlib.Core.List.{List, [], ◌∷◌}
use Rattle.std.proofs.Math.Nat.{zero-mod, mod-mod, mod-add-mod, add-mod}
use Rattle.bitlaws.specs.Digit.{bit_of}
use Rattle.runlaws.specs.Ledger.{Ledger, Event, opened, raised_by, counted, finishes, after, after_all, of_service, is_offered, is_finished, is_refused, tally, servings}
use Rattle.runlaws.specs.Ledger.Event.{serving, emulating}
use Rattle.runlaws.specs.Conserved.{Conserved, tally_offered, tally_both}

-- ---- one count, from any ledger on

-- a count raised by b and then by k, over any modulus
raised_twice : (m n b k : ℕ) → ((n + b) % m + k) % m ≡ (n + (b + k)) % m
raised_twice m n b k = mod-add-mod (n + b) m k ∙ ap (λ (a : ℕ). a % m) (add_assoc n b k)

-- the count that a call of the service's raises where it is of the kind, and that no other event raises
module _ (kind : Bool → Bool) (count : Ledger → ℕ) (raises : (t : Bool) (L : Ledger) → count (counted t L) ≡ raised_by (kind t) (count L)) where
  abbrev p : Event → Bool
  p = of_service kind

  count_one : (e : Event) (L : Ledger) → count L ≡ count L % 2 ^ 64 → count (after e L) ≡ raised_by (p e) (count L)
  unfolding after of_service raised_by
  count_one (serving c) L small = raises (finishes c) L
  count_one (emulating c) L small = small ∙ ap (λ (n : ℕ). n % 2 ^ 64) (sym (add-zero (count L)))

  count_all : (es : List Event) (L : Ledger) → count L ≡ count L % 2 ^ 64 → count (after_all es L) ≡ (count L + tally p es) % 2 ^ 64
  unfolding after_all tally raised_by
  count_all [] L small = small ∙ ap (λ (n : ℕ). n % 2 ^ 64) (sym (add-zero (count L)))
  count_all (e ∷ es) L small =
      let next = count_one e L small in
      count_all es (after e L) (next ∙ sym (mod-mod (count L + bit_of (p e)) (2 ^ 64)) ∙ ap (λ (n : ℕ). n % 2 ^ 64) (sym next))
      ∙ ap (λ (n : ℕ). (n + tally p es) % 2 ^ 64) next
      ∙ raised_twice (2 ^ 64) (count L) (bit_of (p e)) (tally p es)

  -- from the empty ledger
  count_opened : (es : List Event) → count opened ≡ 0 → count (after_all es opened) ≡ tally p es % 2 ^ 64
  count_opened es none =
      count_all es opened (none ∙ sym (zero-mod (2 ^ 64)) ∙ ap (λ (n : ℕ). n % 2 ^ 64) (sym none))
      ∙ ap (λ (n : ℕ). n % 2 ^ 64) (ap (λ (n : ℕ). n + tally p es) none ∙ zero-add (tally p es))

-- ---- how many calls

pub after_servings : (es : List Event) (L : Ledger) → after_all es L ≡ after_all (servings es) L
unfolding after_all after servings
after_servings [] L = refl
after_servings (serving c ∷ es) L = after_servings es (counted (finishes c) L)
after_servings (emulating c ∷ es) L = after_servings es L

-- ---- the law

module _ (es : List Event) where
  all_offered : (after_all es opened).offered ≡ tally is_offered es % 2 ^ 64
  unfolding counted
  all_offered = count_opened (λ t. true) (λ L. L.offered) (λ t L. refl) es refl

  all_finished : (after_all es opened).finished ≡ tally is_finished es % 2 ^ 64
  unfolding counted
  all_finished = count_opened (λ t. t) (λ L. L.finished) (λ t L. refl) es refl

  all_refused : (after_all es opened).refused ≡ tally is_refused es % 2 ^ 64
  unfolding counted
  all_refused = count_opened not (λ L. L.refused) (λ t L. refl) es refl

  pub conserved : Conserved es
  conserved = record {
    offered = all_offered;
    finished = all_finished;
    refused = all_refused;
    balance =
        all_offered
        ∙ ap (λ (n : ℕ). n % 2 ^ 64) (tally_both es)
        ∙ add-mod (tally is_finished es) (tally is_refused es) (2 ^ 64)
        ∙ ap₂ (λ (a b : ℕ). (a + b) % 2 ^ 64) (sym all_finished) (sym all_refused);
    apart = after_servings es opened;
    alone = tally_offered es;
  }
