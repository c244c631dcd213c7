-- ZERO PRINTS AS ZERO, as it is stated: E6 of the change requests, over `listed`, the whole text that list_run promises and `bench` writes, and over the definitions that
-- carry_run, run_contiguous and correct_contiguous_active promise. Matching.antt proves it.
use Rattle.std.specs.Prelude.{◌≡◌, not, List, [], ◌∷◌, ◌++◌, ◌↔◌, ℕ, ◌+◌, ◌^◌, ◌≤◌, ◌<◌, T, Float, length, replicate}
use Rattle.std.specs.Float.{nan, binary64}
use Rattle.std.specs.Float.Ieee.{is_nan, to_bits}
use Rattle.answers.specs.Answer.Answer.{accepted}
use Rattle.floatlaws.specs.Same.{is_zero}
use Rattle.paulilaws.specs.Pauli.{Pauli}
use Rattle.amplitudelaws.specs.State.{point}
use Rattle.amplitudelaws.specs.Step.Step.{correction}
use Rattle.framelaws.specs.Caller.{service}
use Rattle.lines.specs.Lines.{digits, part, refusal_line}
use Rattle.runlaws.specs.Calls.{Ending, running, carrying}
use Rattle.runlaws.specs.Field.{most_bytes}
use Rattle.runlaws.specs.Frame.{SameNumbers, FiniteRun, fired, sent}
use Rattle.runlaws.specs.Run.{Run, run_of}
use Rattle.runlaws.specs.WithCorrection.{behind_start, before_end}
use Rattle.listing.specs.Listing.{fresh, listed}

-- ---- accepted

-- All that is asked. A run and a Pauli as in frame carrying: no row refuses to carry it into the output, whatever that holds. One file is the run with the Pauli as a correction right after
-- start, the other the carried run with the end Pauli as one right before end. Both fit in 65,536 bytes: they have the same length.
pub record Accepted (s out : List ℕ) (Q end : Pauli) : Type 0 where
  pub carries : (carrying service s Q out).answer ≡ accepted end
  pub fits : length (behind_start Q s) ≤ most_bytes

-- What comes of it.
pub record OneText (s out : List ℕ) (Q end : Pauli) : Type 0 where
  -- Each file has the twenty bytes of its correction more than the run,
  pub size : length (behind_start Q s) ≡ length s + 20
  pub same_size : length (before_end end (sent service s Q out)) ≡ length s + 20
  -- and is read as the run's steps behind the correction, or as the carried run's steps before it.
  pub run : Run
  pub reads : run_of service s ≡ accepted run
  pub first : run_of service (behind_start Q s) ≡ accepted (record { width = run.width; steps = correction Q ∷ run.steps })
  pub carried : Run
  pub rereads : run_of service (sent service s Q out) ≡ accepted carried
  pub last : run_of service (before_end end (sent service s Q out)) ≡ accepted (record { width = carried.width; steps = carried.steps ++ correction end ∷ [] })
  -- Both are accepted, from basis 0, with the same last width and number of steps, so that it is not two refusals that agree.
  pub ending : Ending
  pub here : (running service (behind_start Q s) fresh).answer ≡ accepted ending
  pub there : (running service (before_end end (sent service s Q out)) fresh).answer ≡ accepted ending
  -- Amplitudes in memory keep their bits: what is left there are the two ways of the frame theorem, whose zeros may differ in sign.
  pub before : (running service (behind_start Q s) fresh).lent ≡ (running service s (fired Q fresh)).lent
  pub behind : (running service (before_end end (sent service s Q out)) fresh).lent ≡ fired end (running service (sent service s Q out) fresh).lent
  -- Where the premise holds from basis 0, both listings are equal text.
  pub same : FiniteRun service (sent service s Q out) fresh → listed (behind_start Q s) ≡ listed (before_end end (sent service s Q out))

-- ---- the theorem

pub record TwoListings : Type 0 where
  pub accepts : (s out : List ℕ) (Q end : Pauli) → Accepted s out Q end → OneText s out Q end
  -- Files that do not fit are both refused by 14.
  pub long : (s out : List ℕ) (Q end : Pauli) → (carrying service s Q out).answer ≡ accepted end → most_bytes < length (behind_start Q s)
      → (listed (behind_start Q s) ≡ refusal_line 14) × (listed (before_end end (sent service s Q out)) ≡ refusal_line 14)
  -- A space and sixteen 0 digits stand for either zero, 7ff8000000000000 for any NaN, and for any other float its bits.
  pub zeros : (x : Float) → T (is_zero x) → part x ≡ 32 ∷ replicate 16 48
  pub nans : part nan ≡ 32 ∷ 55 ∷ 102 ∷ 102 ∷ 56 ∷ replicate 12 48
  pub others : (x : Float) → T (not (is_zero x)) → T (not (is_nan x)) → part x ≡ 32 ∷ digits 16 16 (to_bits binary64 x)
  -- So no more than a zero's sign is kept back: two runs that are accepted have equal listings exactly where they end on as many qubits with the same numbers.
  pub exactly : (s t : List ℕ) (E F : Ending) → (running service s fresh).answer ≡ accepted E → (running service t fresh).answer ≡ accepted F
      → (listed s ≡ listed t)
      ↔ ((E.width ≡ F.width)
      × ((b : ℕ) → b < 2 ^ E.width → SameNumbers (point (running service s fresh).lent.state b) (point (running service t fresh).lent.state b)))
