-- A Pauli goes past a list of steps: applied before them, or as carried after the carried ones, it leaves the same state.
use Rattle.std.specs.Prelude.{◌≡◌, true, List, [], ◌∷◌, Float}
use Rattle.std.proofs.Math.Path.{refl}
use Rattle.std.proofs.Common.{sym, ap, ◌∙◌, subst, le_trans, arith}
use Prim.Native.Nat.{ℕ, suc, ◌-◌, ◌^◌, ◌≤◌, ◌<◌}
use Rattle.std.specs.Int.Bits.{bit_xor}
use Rattle.bitlaws.specs.Xor.{xor_lt}
use Rattle.paulilaws.specs.Pauli.{Pauli}
use Rattle.paulilaws.specs.Fitting.{Fitting}
use Rattle.amplitudelaws.specs.Binary.{Point, binary}
use Rattle.amplitudelaws.specs.Correction.{corrected}
use Rattle.amplitudelaws.specs.State.{State, point, written, room}
use Rattle.amplitudelaws.specs.Steps as leaves
use Rattle.amplitudelaws.specs.Step.{Step, width_after, last_width}
use Rattle.amplitudelaws.specs.Step.Step.{rotation, promotion, projection, correction, quarter_turn}
use Rattle.framelaws.specs.Caller.{Caller}
use Rattle.framelaws.specs.Rows.{step_row}
use Rattle.framelaws.specs.Carrying.{carried_step, passed, carried_steps, end_pauli}
use Rattle.framelaws.specs.Survey.{survey}
use Rattle.framelaws.specs.Memory.{Memory, stepped, ran}
use Rattle.framelaws.specs.Alike.{Alike, Finite}
use Rattle.framelaws.specs.Allowed.{Placed, Allowed, FiniteState, FiniteSteps}
use Rattle.framelaws.specs.Framed.{Framed}
use Rattle.framelaws.proofs.Past.{framed_corrected, corrected_framed, past_correction, past_rotation, past_promotion}
use Rattle.framelaws.proofs.PastQuarterTurn.{past_quarter_turn}
use Rattle.framelaws.proofs.Projecting.{past_projection}
use Rattle.framelaws.specs.Kept.{written_lengths, stepped_sizes, room_kept, room_under, point_written}
use Rattle.framelaws.proofs.Kept.{ran_sizes}
use Rattle.framelaws.specs.Surveyed.{survey_greatest, survey_greatest_rest, survey_greatest_last}
use Rattle.framelaws.specs.Carried.{after_carried}
use Rattle.framelaws.specs.Passing.{rotation_fitting, correction_fitting, projection_measurable, quarter_turn_fitting, quarter_turn_real}
use Rattle.framelaws.proofs.Fitted.{fitting_passed, fitting_end}

-- only the amplitudes of the n qubits count
pub framed_only : (n : ℕ) (Q : Pauli) {F F' G G' : ℕ → Point} → Q.x < 2 ^ n → ((b : ℕ) → b < 2 ^ n → F' b ≡ F b)
    → ((b : ℕ) → b < 2 ^ n → G' b ≡ G b) → Framed n Q F G → Framed n Q F' G'
framed_only n Q hx f g w = record { at = λ b hb. rw (f (bit_xor b Q.x) (xor_lt n b Q.x hb hx), g b hb) (w.at b hb) }

module _ (n : ℕ) (Q : Pauli) (F G : ℕ → Point) (S U : State) (hx : Q.x < 2 ^ n) (rs : room n S ≡ true) (ru : room n U ≡ true) where
  -- the frame of two functions is that of the states that they are written in
  pub framed_written : (k : ℕ) → k ≡ n → Framed n Q F G → Framed n Q (point (written k F S)) (point (written k G U))
  framed_written k e w = framed_only n Q hx (point_written k n F S e rs) (point_written k n G U e ru) w

-- ---- one step

module _ (caller : Caller) (n : ℕ) (Q : Pauli) (m u : Memory) (width : Q.n ≡ n) (fits : Fitting Q) (finite : FiniteState n u.state)
    (w : Framed n Q (point m.state) (point u.state)) where
  -- whatever the two scratches hold
  pub past_step : (t : Step Float) → Placed n t → step_row caller n t ≡ 0 → (passed Q t).x < 2 ^ width_after n t
      → room (width_after n t) m.state ≡ true → room (width_after n t) u.state ≡ true
      → Framed (width_after n t) (passed Q t) (point (stepped n t m).state) (point (stepped n (carried_step Q t) u).state)
  unfolding step_row width_after passed carried_step stepped leaves.rotation leaves.promotion leaves.projection leaves.correction
  past_step (rotation P sign c s) h e hx rm ru =
      framed_written n Q _ _ m.state u.state hx rm ru P.n h
      (past_rotation n Q P sign c s (rw h at (rotation_fitting P sign c s e).xs) w)
  past_step (promotion c q) h e hx rm ru =
      framed_written (suc n) _ _ _ m.state u.state hx rm ru (suc n) refl
      (past_promotion n Q c q (rw width at fits.xs) (rw width at fits.zs) w)
  past_step (projection M p v invnorm) h e hx rm ru =
      let measurable = projection_measurable M p v invnorm e in
      let some : n ≡ suc (n - 1) = omega (arith, measurable.inside) in
      framed_written (n - 1) _ _ _ m.state u.state hx rm ru (M.n - 1) (ap (λ (k : ℕ). k - 1) h)
      (past_projection (n - 1) p Q M v invnorm (omega (arith, measurable.inside)) measurable.fitting (h ∙ some) measurable.real measurable.has
      (subst (λ (k : ℕ). Framed k Q (point m.state) (point u.state)) some w)
      (subst (λ (k : ℕ). (b : ℕ) → b < 2 ^ k → Finite (point u.state b)) some finite.at))
  past_step (correction P) h e hx rm ru =
      framed_written n _ _ _ m.state u.state hx rm ru P.n h
      (past_correction n Q P (rw h at (correction_fitting P e).xs) w)
  past_step (quarter_turn P) h e hx rm ru =
      framed_written n _ _ _ m.state u.state hx rm ru P.n h
      (past_quarter_turn n Q P (quarter_turn_fitting P e) h (quarter_turn_real P e) finite.at w)

-- ---- all of them

framed_ran : (caller : Caller) (g : ℕ) (ts : List (Step Float)) (n : ℕ) (Q : Pauli) (m u : Memory) → n ≤ caller.widest → Allowed caller n ts
    → Fitting Q → Q.n ≡ n → room g m.state ≡ true → room g u.state ≡ true → (survey n ts).greatest ≤ g → FiniteSteps n (carried_steps Q ts) u
    → Framed n Q (point m.state) (point u.state)
    → Framed (last_width n ts) (end_pauli Q ts) (point (ran n ts m).state) (point (ran n (carried_steps Q ts) u).state)
unfolding last_width carried_steps end_pauli ran
framed_ran caller g [] n Q m u within a f width rm ru wide finite w = w
framed_ran caller g (t ∷ ts) n Q m u within a f width rm ru wide finite w =
    let k : ℕ = width_after n t in
    let next = fitting_passed caller n Q t within a.0 a.1 f width in
    let rest : (survey k ts).greatest ≤ g = le_trans (survey_greatest_rest n t ts) wide in
    let under : k ≤ g = le_trans (survey_greatest k ts) rest in
    let framed = past_step caller n Q m u width f finite.0 w t a.0 a.1 (rw next.width at next.fitting.xs)
    (room_under k g m.state under rm) (room_under k g u.state under ru) in
    let P : Pauli = passed Q t in
    let m' : Memory = stepped n t m in
    let u' : Memory = stepped n (carried_step Q t) u in
    subst (λ (j : ℕ). Framed (last_width k ts) (end_pauli P ts) (point (ran k ts m').state) (point (ran j (carried_steps P ts) u').state))
    (sym (after_carried n Q t))
    (framed_ran caller g ts k P m' u' next.within a.2 next.fitting next.width
    (room_kept g (stepped_sizes n t m).state rm) (room_kept g (stepped_sizes n (carried_step Q t) u).state ru) rest
    (rw (after_carried n Q t) at finite.1) framed)

-- ---- Q fired as a correction before the steps, or the carried Q after the carried steps

pub point_correction : (n : ℕ) (P : Pauli) (S : State) → P.n ≡ n → room n S ≡ true → (b : ℕ) → b < 2 ^ n
    → point (leaves.correction P S) b ≡ corrected binary P (point S) b
unfolding leaves.correction
point_correction n P S e r b hb = point_written P.n n (corrected binary P (point S)) S e r b hb

module _ (caller : Caller) (g : ℕ) (ts : List (Step Float)) (n : ℕ) (Q : Pauli) (m u : Memory) (within : n ≤ caller.widest)
    (allowed : Allowed caller n ts) (fits : Fitting Q) (width : Q.n ≡ n) (rm : room g m.state ≡ true) (ru : room g u.state ≡ true)
    (wide : (survey n ts).greatest ≤ g) (finite : FiniteSteps n (carried_steps Q ts) u) (agree : (b : ℕ) → b < 2 ^ n → point m.state b ≡ point u.state b) where
  framed_first : Framed n Q (point (leaves.correction Q m.state)) (point u.state)
  framed_first =
      framed_only n Q (rw width at fits.xs)
      (point_correction n Q m.state width (room_under n g m.state (le_trans (survey_greatest n ts) wide) rm)) (λ b hb. sym (agree b hb))
      (framed_corrected n Q (point m.state))

  room_first : room g (leaves.correction Q m.state) ≡ true
  unfolding leaves.correction
  room_first = room_kept g (written_lengths Q.n (corrected binary Q (point m.state)) m.state) rm

  -- m and u may differ past the amplitudes of the n qubits, and in the scratch
  pub frame_over_steps : (b : ℕ) → b < 2 ^ last_width n ts
      → Alike (point (ran n ts (record { state = leaves.correction Q m.state; scratch = m.scratch })).state b)
      (point (leaves.correction (end_pauli Q ts) (ran n (carried_steps Q ts) u).state) b)
  frame_over_steps b hb =
      let last : ℕ = last_width n ts in
      let ending = fitting_end caller n Q ts within allowed fits width in
      let m' : Memory = record { state = leaves.correction Q m.state; scratch = m.scratch } in
      let U : State = (ran n (carried_steps Q ts) u).state in
      let enough : room last U ≡ true
      = room_under last g U (le_trans (survey_greatest_last n ts) wide) (room_kept g (ran_sizes n (carried_steps Q ts) u).state ru) in
      rw (point_correction last (end_pauli Q ts) U ending.width enough b hb)
      (corrected_framed last (end_pauli Q ts) (rw ending.width at ending.fitting.xs)
      (framed_ran caller g ts n Q m' u within allowed fits width room_first ru wide finite framed_first)
      b hb)
