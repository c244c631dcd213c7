-- The service's ledger: runs offered, finished and refused, each count going round to 0 after 2^64 - 1. It counts none of the emulator's runs.
use Rattle.std.specs.Prelude.{Bool, true, false, not, List, [], ◌∷◌, ℕ, ◌+◌, ◌%◌, ◌^◌}
use Rattle.answers.specs.Answer.{is_accepted}
use Rattle.bitlaws.specs.Digit.{bit_of}
use Rattle.framelaws.specs.Caller.{service}
use Rattle.framelaws.specs.Memory.{Memory}
use Rattle.runlaws.specs.Calls.{running}

pub record Ledger : Type 0 where
  pub offered : ℕ
  pub finished : ℕ
  pub refused : ℕ

abbrev pub opened : Ledger
opened = record { offered = 0; finished = 0; refused = 0 }

-- n and one more where t
unfoldable pub raised_by : Bool → ℕ → ℕ
raised_by t n = (n + bit_of t) % 2 ^ 64

-- one call, and whether it finished
unfoldable pub counted : Bool → Ledger → Ledger
counted t L = record {
  offered = raised_by true L.offered;
  finished = raised_by t L.finished;
  refused = raised_by (not t) L.refused;
}

-- ---- histories

-- a run, and what is lent with it
pub record Call : Type 0 where
  pub run : List ℕ
  pub memory : Memory

-- whether the service finishes it
unfoldable pub finishes : Call → Bool
finishes c = is_accepted (running service c.run c.memory).answer

-- a call of the service's, or of the emulator's
pub data Event : Type 0 where
  serving : Call → Event
  emulating : Call → Event

-- the ledger after an event, and after the events of a history, the first of them first
unfoldable pub after : Event → Ledger → Ledger
after (serving c) L = counted (finishes c) L
after (emulating c) L = L

unfoldable pub after_all : List Event → Ledger → Ledger
after_all [] L = L
after_all (e ∷ es) L = after_all es (after e L)

-- ---- what there is to count

-- whether an event is a call of the service's, of a kind that goes by whether it finishes
unfoldable pub of_service : (Bool → Bool) → Event → Bool
of_service kind (serving c) = kind (finishes c)
of_service kind (emulating c) = false

abbrev pub is_offered : Event → Bool
is_offered = of_service (λ t. true)

abbrev pub is_finished : Event → Bool
is_finished = of_service (λ t. t)

abbrev pub is_refused : Event → Bool
is_refused = of_service not

-- how many events of a history are so
unfoldable pub tally : (Event → Bool) → List Event → ℕ
tally p [] = 0
tally p (e ∷ es) = bit_of (p e) + tally p es

-- the events of a history without the emulator's
unfoldable pub servings : List Event → List Event
servings [] = []
servings (serving c ∷ es) = serving c ∷ servings es
servings (emulating c ∷ es) = servings es
