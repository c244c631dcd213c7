-- `put_refused_at`: a row has three digits at most, and a place twenty.
use Rattle.std.proofs.Common.{◌≡◌, ◌<◌, ◌^◌, ◌∙◌, rules, arith}
use Rattle.refusals.specs.Refusal.{number_of}
use Rattle.lines.specs.Stored.{stored_next}
use Rattle.reports.specs.Lengths.{byte_digits, word_digits}
use Rattle.reports.specs.Text.{refusal_at_line}
use Rattle.reports.proofs.line.put_refused_at.Goals as goal

pub put_numbered-first-requires : goal.put_numbered-first-requires
put_numbered-first-requires c = omega (arith, byte_digits c.from.result (omega arith))

pub put_numbered-second-requires : goal.put_numbered-second-requires
put_numbered-second-requires c =
    let place : c.args.row_at.at < 2 ^ 64 = search rules in
    omega (arith, c.put_numbered-first.ensures.ends, byte_digits c.from.result (omega arith), word_digits c.args.row_at.at place)

pub put-requires : goal.put-requires
put-requires c =
    let place : c.args.row_at.at < 2 ^ 64 = search rules in
    omega (
      arith,
      c.put_numbered-first.ensures.ends,
      c.put_numbered-second.ensures.ends,
      byte_digits c.from.result (omega arith),
      word_digits c.args.row_at.at place,
    )

pub returns : goal.returns
unfolding refusal_at_line
returns c =
    let number : c.from.result ≡ number_of c.args.row_at.row = c.from.ensures ∙ c.from-number.ensures in
    rw (← number) (stored_next c.put_numbered-first.ensures (stored_next c.put_numbered-second.ensures c.put.ensures))
