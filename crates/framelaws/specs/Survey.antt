-- Where a list of steps ends, and how much room it needs on the way.
use Rattle.std.specs.Prelude.{cond, List, [], ◌∷◌, ℕ, ◌+◌, ◌-◌, ◌^◌, max, eqb}
use Rattle.amplitudelaws.specs.Step.{Step, width_after}
use Rattle.amplitudelaws.specs.Step.Step.{rotation, promotion, projection, correction, quarter_turn}

-- `scratch` is the number of amplitudes of the largest state that a projection with an X part has left, 0 where there was none
pub record Survey : Type 0 where
  pub width : ℕ
  pub steps : ℕ
  pub greatest : ℕ
  pub scratch : ℕ

module _ {R : Type 0} where
  -- how many amplitudes a step at width n makes in the scratch
  unfoldable pub mixed_amplitudes : ℕ → Step R → ℕ
  mixed_amplitudes n (rotation P sign c s) = 0
  mixed_amplitudes n (promotion c q) = 0
  mixed_amplitudes n (projection M p v invnorm) = cond (eqb M.x 0) 0 (2 ^ (n - 1))
  mixed_amplitudes n (correction P) = 0
  mixed_amplitudes n (quarter_turn P) = 0

  -- one step further
  unfoldable pub surveyed : Survey → Step R → Survey
  surveyed v t = record {
    width = width_after v.width t;
    steps = v.steps + 1;
    greatest = max v.greatest (width_after v.width t);
    scratch = max v.scratch (mixed_amplitudes v.width t);
  }

  unfoldable pub survey_from : Survey → List (Step R) → Survey
  survey_from v [] = v
  survey_from v (t ∷ ts) = survey_from (surveyed v t) ts

abbrev pub outset : ℕ → Survey
outset n = record { width = n; steps = 0; greatest = n; scratch = 0 }

-- of steps that begin at width n
unfoldable pub survey : {R : Type 0} → ℕ → List (Step R) → Survey
survey n ts = survey_from (outset n) ts
