use Rattle.std.specs.Prelude.{ℕ, eqb}
use Rattle.std.proofs.Common.{rules, tests, subst}
use Rattle.std.proofs.lemmas.Iterator.{YieldsList-from_slice}
use Rattle.std.proofs.lemmas.Iterator.Search.{position_from_yields_List}
use Rattle.octets.proofs.Parts.{Found, found_some, found_none}
use Rattle.octets.proofs.scan.find.Goals as goal
use Rattle.octets.proofs.scan.find.Goals.{After-position}

answered : (c : After-position) → let a = c.args in Found a.byte a.start a.end a.s.now c.requires.0 c.requires.1 c.position.result
answered c = position_from_yields_List (λ (x : ℕ). eqb x c.args.byte) _ _ c.position.result c.position.ensures.ran (YieldsList-from_slice _ c.iter.ensures.rest) (λ x b q k. search (rules, tests))

pub returns-in-Some : goal.returns-in-Some
returns-in-Some c =
    let a = c.args in
    found_some a.byte a.start a.end a.s.now c.requires.0 c.requires.1 c.in-Some.i
    (subst (Found a.byte a.start a.end a.s.now c.requires.0 c.requires.1) c.in-Some.is (answered (goal.at.returns-in-Some c).After-position))

pub returns-in-None : goal.returns-in-None
returns-in-None c =
    let a = c.args in
    found_none a.byte a.start a.end a.s.now c.requires.0 c.requires.1
    (subst (Found a.byte a.start a.end a.s.now c.requires.0 c.requires.1) c.in-None.is (answered (goal.at.returns-in-None c).After-position))
