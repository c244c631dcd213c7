use native.Mathlib.Omega.{arith}
use Rattle.std.proofs.lemmas.Option.{MatchOption-at_none}
use Rattle.fields.proofs.Fields.{tag_read, length_read, head_long, head_cut, head_whole}
use Rattle.fields.proofs.field.Goals as goal

pub returns-then-run-gt-MOST_BYTES : goal.returns-then-run-gt-MOST_BYTES
returns-then-run-gt-MOST_BYTES c = head_long _ _ (omega arith)

-- a place past the end
pub returns-in_default : goal.returns-in_default
returns-in_default c =
    let past = MatchOption-at_none _ _ c.in_default.is c.get.ensures.lookup.0 in
    head_cut _ _ (omega arith) (omega arith)

-- fewer bytes than a head has
pub returns-in_default-part : goal.returns-in_default-part
returns-in_default-part c =
    let part = c.in-Some.ensures.lookup.0 in
    head_cut _ _ (omega arith) (omega (arith, c.in_default-part.len_below))

pub returns-then-rest-size : goal.returns-then-rest-size
returns-then-rest-size c =
    let a = c.args in
    let part = c.in-Some.ensures.lookup.0 in
    head_cut _ _ (omega arith) (omega (arith, length_read a.run.now a.at _ part.2))

pub returns : goal.returns
returns c =
    let a = c.args in
    let part = c.in-Some.ensures.lookup.0 in
    let t = tag_read a.run.now a.at _ part.2 in
    let e = length_read a.run.now a.at _ part.2 in
    cc (head_whole a.run.now a.at (omega arith) (omega (arith, e)))
