-- What an accepted run has computed: at binary64 the formulas on amplitudes, step by step; and without rounding these formulas are the product of the operators
-- of Nielsen and Chuang.
use Rattle.std.specs.Prelude.{◌≡◌, List, ℕ, ◌^◌, ◌<◌, Float, length}
use Rattle.std.proofs.Common.{ap, ◌∙◌, le_refl}
use Rattle.answers.specs.Answer.Answer.{accepted}
use Rattle.amplitudelaws.specs.Arithmetic.{Amplitude}
use Rattle.amplitudelaws.specs.Binary.{binary}
use Rattle.amplitudelaws.specs.State.{point}
use Rattle.amplitudelaws.specs.Step.{last_width}
use Rattle.amplitudelaws.specs.Acting.{acted}
use Rattle.amplitudelaws.specs.Valued.{valued_steps, last_valued, propers_valued}
use Rattle.amplitudelaws.specs.Book.Ring.{Ring}
use Rattle.amplitudelaws.specs.Book.Complex.{exact}
use Rattle.amplitudelaws.specs.Book.Matrix.{applied}
use Rattle.amplitudelaws.specs.Book.Operators.{operators}
use Rattle.amplitudelaws.proofs.Book.Theorem.{book}
use Rattle.framelaws.specs.Caller.{Caller}
use Rattle.framelaws.proofs.Acted.{allowed_propers, ran_acted}
use Rattle.framelaws.specs.Memory.{Memory}
use Rattle.framelaws.specs.Surveyed.{survey_width, survey_steps}
use Rattle.runlaws.specs.Run.{Run, run_of}
use Rattle.runlaws.specs.Calls.{Ending, survey_of, running}
use Rattle.runlaws.specs.Outcomes.{room_both, running_done}
use Rattle.runlaws.specs.WholeRun.{run_allowed}

-- Of bytes s that are run on m, and how the run ends.
pub record Exact (caller : Caller) (s : List ℕ) (m : Memory) (E : Ending) : Type 1 where
  -- the run that stands in s
  pub run : Run
  pub read : run_of caller s ≡ accepted run
  -- what is answered: the last width, and the number of steps done, which is, as 01 says, the number of fields between start and end
  pub width : E.width ≡ last_width run.width run.steps
  pub steps : E.steps ≡ length run.steps
  -- every amplitude that it leaves is the formulas' at binary64, from those that it was lent
  pub rounded : (b : ℕ) → b < 2 ^ E.width → point (running caller s m).lent.state b ≡ acted binary run.width run.steps (point m.state) b
  -- The same formulas in any commutative ring, where h h is a half, `value` reading the steps' floats in it: whatever the amplitudes are, the product of the
  -- steps' operators is applied to them.
  pub book : {R : Type 0} (𝓡 : Ring R) (h : R) → 𝓡.add (𝓡.mul h h) (𝓡.mul h h) ≡ 𝓡.one → (value : Float → R) (F : ℕ → Amplitude R) (b : ℕ)
      → b < 2 ^ E.width
      → let ts = valued_steps value run.steps in acted (exact 𝓡 h) run.width ts F b ≡ applied 𝓡 (2 ^ run.width) (operators 𝓡 h run.width ts) F b

pub run_exact : (caller : Caller) (s : List ℕ) (m : Memory) (E : Ending) → (running caller s m).answer ≡ accepted E → Exact caller s m E
unfolding survey_of
run_exact caller s m E e =
    let known = running_done caller s m E e in
    let R : Run = known.run in
    let allowed = (run_allowed caller s R known.was).allowed in
    let proper = allowed_propers caller R.width R.steps allowed in
    let width : E.width ≡ last_width R.width R.steps = ap (λ (D : Ending). D.width) known.value_is ∙ survey_width R.width R.steps in
    record {
      run = R;
      read = known.was;
      width = width;
      steps = ap (λ (D : Ending). D.steps) known.value_is ∙ survey_steps R.width R.steps;
      rounded = λ b l.
          rw known.lent_is
          (ran_acted caller (survey_of R).greatest R.steps R.width m allowed (room_both (survey_of R) m known.passed).0 (le_refl _) b (rw width at l));
      book = λ 𝓡 h half value F b l.
          (book 𝓡 h half).run R.width (valued_steps value R.steps) (propers_valued value R.width R.steps proper) F b
          (rw (last_valued value R.width R.steps) (rw width at l));
    }
