use mathlib.Core.Path.{ap}
use lib.Ieee.{nan_bits}
use Rattle.amplitudelaws.specs.Memory.{memory_of}
use Rattle.steps.specs.Meaning.{step_of}
use Rattle.runner.proofs.Taken.{rotation_done, rotation_taken, promotion_done, promotion_taken, projection_done, projection_taken, correction_done, correction_taken, quarter_turn_done, quarter_turn_taken}
use Rattle.runner.proofs.take_step.Goals as goal

pub float_from_bits-h : goal.float_from_bits-h
unfolding nan_bits
float_from_bits-h c = tt

pub unwrap-requires : goal.unwrap-requires
unwrap-requires c =
    let a = c.args in
    let m = memory_of a.re.now a.im.now a.scratch_re.now a.scratch_im.now in
    rotation_done a.width (step_of a.step) m c.requires _ _ _ _ _
    (ap step_of c.in-Rotation.is) c.rotate_contiguous_active.ensures.0

pub returns-in-Rotation : goal.returns-in-Rotation
returns-in-Rotation c =
    let a = c.args in
    let m = memory_of a.re.now a.im.now a.scratch_re.now a.scratch_im.now in
    rotation_taken a.width (step_of a.step) m c.requires _ _ _ _
    (ap step_of c.in-Rotation.is) c.rotate_contiguous_active.ensures.1

pub unwrap-requires-in-Promotion : goal.unwrap-requires-in-Promotion
unwrap-requires-in-Promotion c =
    let a = c.args in
    let m = memory_of a.re.now a.im.now a.scratch_re.now a.scratch_im.now in
    promotion_done a.width (step_of a.step) m c.requires _ _ _
    (ap step_of c.in-Promotion.is) c.promote_contiguous_active.ensures.0

pub returns-in-Promotion : goal.returns-in-Promotion
returns-in-Promotion c =
    let a = c.args in
    let m = memory_of a.re.now a.im.now a.scratch_re.now a.scratch_im.now in
    promotion_taken a.width (step_of a.step) m c.requires _ _
    (ap step_of c.in-Promotion.is) c.promote_contiguous_active.ensures.1

pub unwrap-requires-in-Projection : goal.unwrap-requires-in-Projection
unwrap-requires-in-Projection c =
    let a = c.args in
    let m = memory_of a.re.now a.im.now a.scratch_re.now a.scratch_im.now in
    projection_done a.width (step_of a.step) m c.requires _ _ _ _ _
    (ap step_of c.in-Projection.is) c.project_contiguous.ensures.0

pub returns-in-Projection : goal.returns-in-Projection
returns-in-Projection c =
    let a = c.args in
    let m = memory_of a.re.now a.im.now a.scratch_re.now a.scratch_im.now in
    projection_taken a.width (step_of a.step) m c.requires _ _ _ _
    (ap step_of c.in-Projection.is) c.project_contiguous.ensures.1

pub unwrap-requires-in-Correction : goal.unwrap-requires-in-Correction
unwrap-requires-in-Correction c =
    let a = c.args in
    let m = memory_of a.re.now a.im.now a.scratch_re.now a.scratch_im.now in
    correction_done a.width (step_of a.step) m c.requires _ _
    (ap step_of c.in-Correction.is) c.correct_contiguous_active.ensures.0

pub returns-in-Correction : goal.returns-in-Correction
returns-in-Correction c =
    let a = c.args in
    let m = memory_of a.re.now a.im.now a.scratch_re.now a.scratch_im.now in
    correction_taken a.width (step_of a.step) m c.requires _
    (ap step_of c.in-Correction.is) c.correct_contiguous_active.ensures.1

pub unwrap-requires-in-QuarterTurn : goal.unwrap-requires-in-QuarterTurn
unwrap-requires-in-QuarterTurn c =
    let a = c.args in
    let m = memory_of a.re.now a.im.now a.scratch_re.now a.scratch_im.now in
    quarter_turn_done a.width (step_of a.step) m c.requires _ _
    (ap step_of c.in-QuarterTurn.is) c.rotate_contiguous_active-in-QuarterTurn.ensures.0

pub returns-in-QuarterTurn : goal.returns-in-QuarterTurn
returns-in-QuarterTurn c =
    let a = c.args in
    let m = memory_of a.re.now a.im.now a.scratch_re.now a.scratch_im.now in
    quarter_turn_taken a.width (step_of a.step) m c.requires _
    (ap step_of c.in-QuarterTurn.is) c.rotate_contiguous_active-in-QuarterTurn.ensures.1
