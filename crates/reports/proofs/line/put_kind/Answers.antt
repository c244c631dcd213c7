-- `put_kind`: each step by its own text.
-- t is the step u
use mathlib.Core.Path.{◌≡◌, sym, subst}
use mathlib.Core.List.{List}
use Prim.Native.Nat.{ℕ}
use native.Mathlib.Omega.{arith}
use Rattle.steps.specs.declared.Step.{Step}
use Rattle.steps.specs.Meaning.{step_of}
use Rattle.reports.specs.Narrow.{NarrowStep}
use Rattle.lines.specs.Stored.{Stored}
use Rattle.reports.specs.Text.{kind_text}
use Rattle.reports.proofs.line.put_kind.Goals as goal

narrow : {t u : Step} → t ≡ u → NarrowStep (step_of t) → NarrowStep (step_of u)
narrow e h = subst (λ (t : Step). NarrowStep (step_of t)) e h

told : (at : ℕ) (out : List ℕ) (end : ℕ) (left : List ℕ) {t u : Step} → t ≡ u → Stored (kind_text (step_of u)) at out end left → Stored (kind_text (step_of t)) at out end left
told at out end left e h = subst (λ (t : Step). Stored (kind_text (step_of t)) at out end left) (sym e) h

pub put_named-requires : goal.put_named-requires
put_named-requires c = (narrow c.in-Rotation.is c.requires.0, omega (arith, c.requires.1))

pub put_named-requires-in-Projection : goal.put_named-requires-in-Projection
put_named-requires-in-Projection c = (narrow c.in-Projection.is c.requires.0, omega (arith, c.requires.1))

pub put_named-requires-in-Correction : goal.put_named-requires-in-Correction
put_named-requires-in-Correction c = (narrow c.in-Correction.is c.requires.0, omega (arith, c.requires.1))

pub put_named-requires-in-QuarterTurn : goal.put_named-requires-in-QuarterTurn
put_named-requires-in-QuarterTurn c = (narrow c.in-QuarterTurn.is c.requires.0, omega (arith, c.requires.1))

pub returns-in-Rotation : goal.returns-in-Rotation
unfolding kind_text
returns-in-Rotation c =
    let done = c.put_named in
    told c.args.at c.args.out.now done.result done.new.out c.in-Rotation.is done.ensures

pub returns-in-Promotion : goal.returns-in-Promotion
unfolding kind_text
returns-in-Promotion c =
    let done = c.put in
    told c.args.at c.args.out.now done.result done.new.out c.in-Promotion.is done.ensures

pub returns-in-Projection : goal.returns-in-Projection
unfolding kind_text
returns-in-Projection c =
    let done = c.put_named-in-Projection in
    told c.args.at c.args.out.now done.result done.new.out c.in-Projection.is done.ensures

pub returns-in-Correction : goal.returns-in-Correction
unfolding kind_text
returns-in-Correction c =
    let done = c.put_named-in-Correction in
    told c.args.at c.args.out.now done.result done.new.out c.in-Correction.is done.ensures

pub returns-in-QuarterTurn : goal.returns-in-QuarterTurn
unfolding kind_text
returns-in-QuarterTurn c =
    let done = c.put_named-in-QuarterTurn in
    told c.args.at c.args.out.now done.result done.new.out c.in-QuarterTurn.is done.ensures
