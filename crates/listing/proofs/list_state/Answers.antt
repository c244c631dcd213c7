-- `list_state`: the length first, then the width's line and the others behind it.
use Rattle.std.proofs.Common.{arith}
use Rattle.amplitudelaws.specs.State.{state_of}
use Rattle.bitlaws.specs.Digit.{one_shifted}
use Rattle.listing.proofs.State.{width_most, dim_most, count_most, state_short, width_ok, rest_fits, state_all}
use Rattle.listing.proofs.list_state.Goals as goal

pub overflow_add-len : goal.overflow_add-len
overflow_add-len c = omega (arith, width_most c.args.width c.decimal_length.result c.requires.0 c.decimal_length.ensures)

pub lines_length-requires : goal.lines_length-requires
lines_length-requires c = dim_most c.args.width _ c.requires.0 (one_shifted 64 c.args.width (omega (arith, c.requires.0)))

pub overflow_add-len-2 : goal.overflow_add-len-2
overflow_add-len-2 c =
    let width = c.args.width in
    let digits = c.decimal_length in
    let S = state_of c.args.re.now c.args.im.now in
    let dim = one_shifted 64 width (omega (arith, c.requires.0)) in
    omega (
      arith,
      width_most width digits.result c.requires.0 digits.ensures,
      count_most S width _ c.lines_length.result c.requires.0 dim (c.lines_length.ensures S),
    )

pub returns-then-out-len : goal.returns-then-out-len
returns-then-out-len c =
    let S = state_of c.args.re.now c.args.im.now in
    let dim = one_shifted 64 c.args.width (omega (arith, c.requires.0)) in
    state_short S c.args.width _ _ _ dim c.decimal_length.ensures (c.lines_length.ensures S) c.args.out.now c.if-out-len.true

pub unwrap-first-requires : goal.unwrap-first-requires
unwrap-first-requires c =
    let S = state_of c.args.re.now c.args.im.now in
    let dim = one_shifted 64 c.args.width (omega (arith, c.requires.0)) in
    width_ok S c.args.width _ _ _ dim c.decimal_length.ensures (c.lines_length.ensures S) c.args.out.now c.if-out-len.false c.qubits.ensures

pub put_lines-requires : goal.put_lines-requires
put_lines-requires c =
    let S = state_of c.args.re.now c.args.im.now in
    let dim = one_shifted 64 c.args.width (omega (arith, c.requires.0)) in
    record {
      dim_in_bounds = (omega (arith, dim, c.requires.1.0), omega (arith, dim, c.requires.1.1));
      dim_in_bounds_2 = rest_fits S c.args.width _ _ _ dim c.decimal_length.ensures (c.lines_length.ensures S) c.args.out.now
          c.if-out-len.false c.qubits.ensures c.unwrap-first.ensures;
    }

pub returns : goal.returns
returns c =
    let S = state_of c.args.re.now c.args.im.now in
    let dim = one_shifted 64 c.args.width (omega (arith, c.requires.0)) in
    state_all S c.args.width _ _ _ dim c.decimal_length.ensures (c.lines_length.ensures S) c.args.out.now
    c.if-out-len.false c.qubits.ensures c.unwrap-first.ensures c.put_lines.ensures
