-- Room for a list of steps is room for its first and, behind it, for the rest.
use mathlib.Core.Path.{◌≡◌}
use mathlib.Core.Bool.{true}
use mathlib.Core.List.{List, ◌∷◌}
use Prim.Native.Nat.{ℕ}
use native.Mathlib.Nat.{le_trans}
use lib.Ieee.{Float}
use Rattle.amplitudelaws.specs.State.{room_for, room}
use Rattle.amplitudelaws.specs.Step.{Step, width_after}
use Rattle.framelaws.specs.Survey.{Survey, mixed_amplitudes, survey}
use Rattle.framelaws.specs.Surveyed.{survey_greatest, survey_greatest_rest, survey_scratch, survey_scratch_rest}
use Rattle.framelaws.specs.Memory.{Memory, stepped}
use Rattle.framelaws.specs.Kept.{stepped_sizes, room_for_kept, room_for_under, room_kept, room_under}
use Rattle.runlaws.specs.Calls.{memory_row}
use Rattle.runlaws.specs.Outcomes.{room_both}

pub record Rooms (v : Survey) (m : Memory) : Type 0 where
  pub state : room v.greatest m.state ≡ true
  pub scratch : room_for v.scratch m.scratch ≡ true

pub rooms_passed : (v : Survey) (m : Memory) → memory_row v m ≡ 0 → Rooms v m
rooms_passed v m e = let both = room_both v m e in record { state = both.0; scratch = both.1 }

-- ---- a step and the rest

module _ (n : ℕ) (t : Step Float) (ts : List (Step Float)) (m : Memory) (r : Rooms (survey n (t ∷ ts)) m) where
  pub rooms_before : room n m.state ≡ true
  rooms_before = room_under n _ m.state (survey_greatest n (t ∷ ts)) r.state

  pub rooms_behind : room (width_after n t) m.state ≡ true
  rooms_behind =
      room_under (width_after n t) _ m.state (le_trans (survey_greatest (width_after n t) ts) (survey_greatest_rest n t ts)) r.state

  pub rooms_scratch : room_for (mixed_amplitudes n t) m.scratch ≡ true
  rooms_scratch = room_for_under (mixed_amplitudes n t) _ m.scratch (survey_scratch n t ts) r.scratch

  pub rooms_rest : {k : ℕ} {u : Memory} → k ≡ width_after n t → u ≡ stepped n t m → Rooms (survey k ts) u
  rooms_rest width done =
      let sizes = stepped_sizes n t m in
      rw (width, done) (record {
        state = room_kept _ sizes.state (room_under _ _ m.state (survey_greatest_rest n t ts) r.state);
        scratch = room_for_kept _ sizes.scratch (room_for_under _ _ m.scratch (survey_scratch_rest n t ts) r.scratch);
      })
