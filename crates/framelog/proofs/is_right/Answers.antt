use Rattle.std.proofs.Common.{◌≡◌, length, take, sym, ap, ◌∙◌, arith, length-take}
use Rattle.activepauli.specs.Active.{active_of}
use Rattle.callers.specs.Meaning.{limits_of}
use Rattle.runlaws.specs.FrameLog.{is_same}
use Rattle.framelog.specs.LogIn.{log_in}
use Rattle.framelog.proofs.Longest.{no_longer, alone, compared_bytes}
use Rattle.framelog.proofs.is_right.Goals as goal
use Rattle.framelog.proofs.is_right.Goals.{After-zeros-space}

-- the buffer's part for the right log is as long as the log
part : (c : After-zeros-space) → length c.args.log.now ≡ length (take (length c.args.log.now) c.zeros-space.result)
part c =
    let fits = no_longer c.args.log.now c.requires.on_start c.requires.log_len in
    simp length-take (omega (arith, fits, c.zeros-space.ensures))

pub slice_bounds-right-end : goal.slice_bounds-right-end
slice_bounds-right-end c = part (goal.at.slice_bounds-right-end c).After-zeros-space

pub write_log-requires-clause-pauli_in_bounds : goal.write_log-requires-clause-pauli_in_bounds
write_log-requires-clause-pauli_in_bounds c =
    omega (arith, part (goal.at.write_log-requires-clause-pauli_in_bounds c).After-zeros-space, c.requires.log_len)

pub returns : goal.returns
returns c =
    let a = c.args in
    let right = log_in (limits_of a.limits) a.run.now (active_of a.pauli) in
    let is = alone right _ _ (sym (part (goal.at.returns c).After-zeros-space) ∙ c.requires.log_len) c.write_log.ensures in
    c.eq.ensures ∙ compared_bytes a.log.now _ ∙ ap (is_same a.log.now) is

pub slice_bounds-space-end : goal.slice_bounds-space-end
slice_bounds-space-end c =
    let fits = no_longer c.args.log.now c.requires.on_start c.requires.log_len in
    omega (arith, fits, c.zeros-space.ensures)
