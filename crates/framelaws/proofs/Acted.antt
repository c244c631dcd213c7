-- A run at binary64 is the formulas on amplitudes, step by step, at that arithmetic.
use Rattle.std.specs.Prelude.{◌≡◌, true, List, [], ◌∷◌, ℕ, suc, ◌-◌, ◌^◌, ◌≤◌, ◌<◌, Float}
use Rattle.std.proofs.Math.Path.{refl}
use Rattle.std.proofs.Common.{ap, ◌∙◌, le_trans}
use Rattle.amplitudelaws.specs.Binary.{binary}
use Rattle.amplitudelaws.specs.State.{point, room}
use Rattle.amplitudelaws.specs.Steps as leaves
use Rattle.amplitudelaws.specs.Step.{Step, width_after, last_width}
use Rattle.amplitudelaws.specs.Step.Step.{rotation, promotion, projection, correction, quarter_turn}
use Rattle.amplitudelaws.specs.Acting.{acts, acted, Proper, Propers}
use Rattle.amplitudelaws.proofs.Near.{acted_near}
use Rattle.framelaws.specs.Caller.{Caller}
use Rattle.framelaws.specs.Rows.{step_row}
use Rattle.framelaws.specs.Survey.{survey}
use Rattle.framelaws.specs.Memory.{Memory, stepped, ran}
use Rattle.framelaws.specs.Allowed.{Placed, Allowed}
use Rattle.framelaws.specs.Kept.{stepped_sizes, room_kept, room_under, point_written}
use Rattle.framelaws.specs.Surveyed.{survey_greatest, survey_greatest_rest}
use Rattle.framelaws.specs.Passing.{rotation_fitting, rotation_real, correction_fitting, projection_measurable, quarter_turn_fitting, quarter_turn_real}

-- ---- a step that no row refuses is proper

allowed_proper : (caller : Caller) (n : ℕ) (t : Step Float) → Placed n t → step_row caller n t ≡ 0 → Proper n t
unfolding step_row
allowed_proper caller n (rotation P sign c s) h e = (h, rotation_fitting P sign c s e, rotation_real P sign c s e)
allowed_proper caller n (promotion c q) h e = tt
allowed_proper caller n (projection M p v invnorm) h e = (h, projection_measurable M p v invnorm e)
allowed_proper caller n (correction P) h e = (h, correction_fitting P e)
allowed_proper caller n (quarter_turn P) h e = (h, quarter_turn_fitting P e, quarter_turn_real P e)

pub allowed_propers : (caller : Caller) (n : ℕ) (ts : List (Step Float)) → Allowed caller n ts → Propers n ts
allowed_propers caller n [] a = tt
allowed_propers caller n (t ∷ ts) (h, e, a) = (allowed_proper caller n t h e, allowed_propers caller (width_after n t) ts a)

-- ---- one step

module _ (n : ℕ) (m : Memory) where
  stepped_acts : (t : Step Float) → Placed n t → room (width_after n t) m.state ≡ true → (b : ℕ) → b < 2 ^ width_after n t
      → point (stepped n t m).state b ≡ acts binary n t (point m.state) b
  unfolding width_after stepped acts leaves.rotation leaves.promotion leaves.projection leaves.correction
  stepped_acts (rotation P sign c s) e r b h = point_written P.n n _ m.state e r b h
  stepped_acts (promotion c q) e r b h = point_written (suc n) (suc n) _ m.state refl r b h
  stepped_acts (projection M p v invnorm) e r b h = point_written (M.n - 1) (n - 1) _ m.state (ap (λ (k : ℕ). k - 1) e) r b h
  stepped_acts (correction P) e r b h = point_written P.n n _ m.state e r b h
  stepped_acts (quarter_turn P) e r b h = point_written P.n n _ m.state e r b h

-- ---- all of them

pub ran_acted : (caller : Caller) (g : ℕ) (ts : List (Step Float)) (n : ℕ) (m : Memory) → Allowed caller n ts → room g m.state ≡ true → (survey n ts).greatest ≤ g
    → (b : ℕ) → b < 2 ^ last_width n ts → point (ran n ts m).state b ≡ acted binary n ts (point m.state) b
unfolding last_width ran acted
ran_acted caller g [] n m a r wide b h = refl
ran_acted caller g (t ∷ ts) n m (placed, row, a) r wide b h =
    let k : ℕ = width_after n t in
    let m' : Memory = stepped n t m in
    let rest : (survey k ts).greatest ≤ g = le_trans (survey_greatest_rest n t ts) wide in
    ran_acted caller g ts k m' a (room_kept g (stepped_sizes n t m).state r) rest b h
    ∙ acted_near binary k ts (allowed_propers caller k ts a) (point m'.state) (acts binary n t (point m.state))
    (stepped_acts n m t placed (room_under k g m.state (le_trans (survey_greatest k ts) rest) r)) b h
