-- How much room any run of a caller's asks for: buffers for the caller's widest state, and a scratch for half of it, have room for every run that it accepts.
use Rattle.std.specs.Prelude.{◌≡◌, Bool, ◌&&◌, ℕ, ◌-◌, ◌^◌, ◌≤◌, eqb, Float, length}
use Rattle.std.proofs.Common.{ap₂, le-leb}
use Rattle.std.proofs.Math.Bool.{true, false, cond}
use mathlib.Core.List.{List, [], ◌∷◌}
use native.Mathlib.Omega.{arith}
use Rattle.std.proofs.Math.Pow.{pow_mono}
use Rattle.answers.specs.Answer.Answer.{accepted}
use Rattle.answers.specs.Row.{row}
use Rattle.amplitudelaws.specs.Rows.{room_row}
use Rattle.amplitudelaws.specs.State.{State, room_for, room, HasRoom}
use Rattle.amplitudelaws.specs.Step.{Step, width_after}
use Rattle.amplitudelaws.specs.Step.Step.{rotation, promotion, projection, correction, quarter_turn}
use Rattle.framelaws.specs.Caller.{Caller}
use Rattle.framelaws.specs.Allowed.{Allowed}
use Rattle.framelaws.specs.Memory.{Memory}
use Rattle.framelaws.specs.Passing.{width_kept}
use Rattle.framelaws.specs.Survey.{Survey, mixed_amplitudes, surveyed, survey_from, outset, survey}
use Rattle.runlaws.specs.Calls.{survey_of, memory_row}
use Rattle.runlaws.specs.Run.{Run, run_of}
use Rattle.runlaws.specs.WholeRun.{run_allowed}

-- what the survey of a run asks for at most
pub record Within (widest : ℕ) (v : Survey) : Type 0 where
  pub width : v.width ≤ widest
  pub greatest : v.greatest ≤ widest
  pub scratch : v.scratch ≤ 2 ^ (widest - 1)

module _ (caller : Caller) where
  mixed_most : (n : ℕ) (t : Step Float) → n ≤ caller.widest → mixed_amplitudes n t ≤ 2 ^ (caller.widest - 1)
  unfolding mixed_amplitudes
  mixed_most n (rotation P sign c s) h = omega arith
  mixed_most n (promotion c q) h = omega arith
  mixed_most n (projection M p v invnorm) h = by (eqb M.x 0)
    where
      by : (t : Bool) → cond t 0 (2 ^ (n - 1)) ≤ 2 ^ (caller.widest - 1)
      by true = omega arith
      by false = pow_mono {i = n - 1} {j = caller.widest - 1} (omega (arith, h))
  mixed_most n (correction P) h = omega arith
  mixed_most n (quarter_turn P) h = omega arith

  within_from : (v : Survey) (ts : List (Step Float)) → Within caller.widest v → Allowed caller v.width ts → Within caller.widest (survey_from v ts)
  unfolding survey_from surveyed
  within_from v [] w a = w
  within_from v (t ∷ ts) w a =
      let kept : width_after v.width t ≤ caller.widest = width_kept caller v.width t w.width a.1 in
      within_from (surveyed v t) ts
      (record {
        width = kept;
        greatest = omega (arith, w.greatest, kept);
        scratch = omega (arith, w.scratch, mixed_most v.width t w.width);
      })
      a.2

  pub run_within : (s : List ℕ) (R : Run) → run_of caller s ≡ accepted R → Within caller.widest (survey_of R)
  unfolding survey_of survey
  run_within s R e =
      let read = run_allowed caller s R e in
      within_from (outset R.width) R.steps (record { width = read.width; greatest = read.width; scratch = omega arith }) read.allowed

-- ---- and that buffers have it

roomy : (k : ℕ) (S : State) → k ≤ length S.re → k ≤ length S.im → room_for k S ≡ true
unfolding room_for
roomy k S h g = ap₂ (λ (a b : Bool). a && b) (le-leb k (length S.re) h) (le-leb k (length S.im) g)

-- no run is refused by 13 on buffers for the caller's widest state
pub widest_room : (caller : Caller) (m : Memory) → HasRoom caller.widest m.state → HasRoom (caller.widest - 1) m.scratch
    → (s : List ℕ) (R : Run) → run_of caller s ≡ accepted R → memory_row (survey_of R) m ≡ 0
unfolding memory_row room_row row room
widest_room caller m states mixtures s R e =
    let v = survey_of R in
    let w = run_within caller s R e in
    let wide : 2 ^ v.greatest ≤ 2 ^ caller.widest = pow_mono {i = v.greatest} {j = caller.widest} w.greatest in
    let here : room v.greatest m.state ≡ true
    = roomy (2 ^ v.greatest) m.state (omega (arith, wide, states.0)) (omega (arith, wide, states.1)) in
    let there : room_for v.scratch m.scratch ≡ true
    = roomy v.scratch m.scratch (omega (arith, w.scratch, mixtures.0)) (omega (arith, w.scratch, mixtures.1)) in
    rw (here, there)
