use Rattle.amplitudelaws.specs.Rows.{pivot_row}
use Rattle.rows.proofs.Behind.{asked_row, behind_row}
use Rattle.rows.proofs.pivot_row.Goals as goal

pub returns-in_err-refuse_if : goal.returns-in_err-refuse_if
unfolding pivot_row
returns-in_err-refuse_if c = asked_row _ 8 _ _ _ c.from_residual.ensures.1 c.in_err-refuse_if.ensures

pub returns-in_err-refuse_if-2 : goal.returns-in_err-refuse_if-2
unfolding pivot_row
returns-in_err-refuse_if-2 c =
    behind_row _ 8 _ c.in_ok-refuse_if.ensures
    (asked_row _ 9 _ _ _ c.from_residual-in_err-refuse_if-2.ensures.1 c.in_err-refuse_if-2.ensures)

pub returns-in_err-refuse_if-3 : goal.returns-in_err-refuse_if-3
unfolding pivot_row
returns-in_err-refuse_if-3 c =
    rw (← c.pivot_mask-mask.ensures)
    (behind_row _ 8 _ c.in_ok-refuse_if.ensures (behind_row _ 9 _ c.in_ok-refuse_if-2.ensures
    (asked_row _ 10 _ _ _ c.from_residual-in_err-refuse_if-3.ensures.1 c.in_err-refuse_if-3.ensures)))

pub returns : goal.returns
unfolding pivot_row
returns c =
    rw (← c.pivot_mask-mask.ensures, ← c.word_bit.ensures)
    (behind_row _ 8 _ c.in_ok-refuse_if.ensures (behind_row _ 9 _ c.in_ok-refuse_if-2.ensures
    (behind_row _ 10 _ c.in_ok-refuse_if-3.ensures c.refuse_if-4.ensures)))
