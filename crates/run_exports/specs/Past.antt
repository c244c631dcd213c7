-- A Pauli taken past a step that another language hands over by its tag: what the call answers, and what is seen of it.
use Rattle.std.specs.Prelude.{◌≡◌, refl, Bool, true, false, not, cond, ◌&&◌, ◌||◌, ℕ, zero, suc, T, leb, eqb, Float}
use Rattle.std.proofs.Common.{sym, subst, arith, le-leb, ne_eqb}
use Rattle.std.proofs.lemmas.Bool.{lt-leb}
use Rattle.answers.specs.Answer.{Answer, refuse}
use Rattle.answers.specs.Answer.Answer.{accepted, refused, refused_at}
use Rattle.activepauli.specs.Active.{active_of}
use Rattle.amplitudelaws.specs.Step.{Step}
use Rattle.amplitudelaws.specs.Step.Step.{rotation, promotion, projection, correction, quarter_turn}
use Rattle.bitlaws.specs.Digit.{bit_of}
use Rattle.framelaws.specs.PassRow.{Passage, past_call}
use Rattle.paulilaws.specs.Pauli.{Pauli, identity}
use Rattle.verdicts.specs.Flag.{flag_row, behind}
use Rattle.verdicts.specs.Verdict.{verdict_of}
use Rattle.verdicts.specs.declared.Verdict.{Verdict}
use Rattle.run_exports.specs.declared.given.GivenStep.{GivenStep}
use Rattle.run_exports.specs.declared.given.SeenPast.{SeenPast}
use Rattle.run_exports.specs.Reading.{FieldSeen, step_seen, bare_seen, seen_field_of, step_back}

-- whether a step has this tag
unfoldable pub is_step_tag : ℕ → Bool
is_step_tag tag = (leb 2 tag && leb tag 5) || eqb tag 7

-- 14: a sign or a branch over 1; what else is given beside a step that has none is not looked at
unfoldable pub bit_row : Step Float → ℕ
bit_row (rotation P sign c s) = flag_row sign
bit_row (promotion c q) = 0
bit_row (projection M p v invnorm) = flag_row v
bit_row (correction P) = 0
bit_row (quarter_turn P) = 0

-- 14 too, before all: no step has this tag
unfoldable pub given_call : Pauli → FieldSeen → Answer (Passage Float)
given_call Q f = refuse (not (is_step_tag f.tag)) 14 (behind (past_call Q (step_back f)) (bit_row (step_back f)))

-- the step that is left behind as a field, and the Pauli then
pub record PastSeen : Type 0 where
  pub verdict : Verdict
  pub field : FieldSeen
  pub pauli : Pauli

abbrev pub none_seen : Verdict → PastSeen
none_seen v = record { verdict = v; field = bare_seen 0; pauli = identity 0 }

abbrev pub past_seen : Answer (Passage Float) → PastSeen
past_seen (accepted b) = record { verdict = verdict_of (accepted b); field = step_seen b.step; pauli = b.pauli }
past_seen (refused n) = none_seen (record { kind = 1; number = n; place = 0 })
past_seen (refused_at n at) = none_seen (record { kind = 2; number = n; place = at })

-- ---- the declared types

abbrev pub given_of : GivenStep → FieldSeen
given_of f = record { tag = f.tag; pauli = active_of f.pauli; flag = f.flag; pivot = f.pivot; first = f.first; second = f.second }

abbrev pub past_of : SeenPast → PastSeen
past_of r = record { verdict = r.verdict; field = seen_field_of r.field; pauli = active_of r.pauli }

-- with its sign or branch as the bit that a number which is not 1 is taken for
abbrev pub as_bit : FieldSeen → FieldSeen
as_bit f =
    record { tag = f.tag; pauli = f.pauli; flag = bit_of (eqb f.flag 1); pivot = f.pivot; first = f.first; second = f.second }

-- ---- what is seen tells the answer

unfoldable pub past_back : PastSeen → Answer (Passage Float)
past_back r =
    cond (eqb r.verdict.kind 0) (accepted (record { step = step_back r.field; pauli = r.pauli }))
    (cond (eqb r.verdict.kind 1) (refused r.verdict.number) (refused_at r.verdict.number r.verdict.place))

step_tells : (t : Step Float) → step_back (step_seen t) ≡ t
unfolding step_back
step_tells (rotation P sign c s) = refl
step_tells (promotion c q) = refl
step_tells (projection M p v invnorm) = refl
step_tells (correction P) = refl
step_tells (quarter_turn P) = refl

pub past_tells : (a : Answer (Passage Float)) → past_back (past_seen a) ≡ a
unfolding past_back
past_tells (accepted b) = rw (step_tells b.step)
past_tells (refused n) = refl
past_tells (refused_at n at) = refl

-- ---- the tags of steps are those by which a step is seen, and no others

pub seen_by_a_tag : (t : Step Float) → is_step_tag (step_seen t).tag ≡ true
unfolding is_step_tag
seen_by_a_tag (rotation P sign c s) = refl
seen_by_a_tag (promotion c q) = refl
seen_by_a_tag (projection M p v invnorm) = refl
seen_by_a_tag (correction P) = refl
seen_by_a_tag (quarter_turn P) = refl

over : (more : ℕ) → is_step_tag (suc (suc (suc (suc (suc (suc (suc (suc more)))))))) ≡ false
unfolding is_step_tag
over more =
    let tag : ℕ = suc (suc (suc (suc (suc (suc (suc (suc more))))))) in
    rw (le-leb 2 tag (omega arith), lt-leb tag 5 (omega arith), ne_eqb tag 7 (λ e. omega (arith, e)))

-- the step that is given by a tag is seen by it
pub seen_by_its_tag : (f : FieldSeen) → is_step_tag f.tag ≡ true → (step_seen (step_back f)).tag ≡ f.tag
unfolding is_step_tag step_back
seen_by_its_tag f h = go f.tag refl (subst T (sym h) tt)
  where
    go : (tag : ℕ) → f.tag ≡ tag → T (is_step_tag tag) → (step_seen (step_back f)).tag ≡ f.tag
    go zero e h = absurd h
    go (suc zero) e h = absurd h
    go (suc (suc zero)) e h = rw e
    go (suc (suc (suc zero))) e h = rw e
    go (suc (suc (suc (suc zero)))) e h = rw e
    go (suc (suc (suc (suc (suc zero))))) e h = rw e
    go (suc (suc (suc (suc (suc (suc zero)))))) e h = absurd h
    go (suc (suc (suc (suc (suc (suc (suc zero))))))) e h = rw e
    go (suc (suc (suc (suc (suc (suc (suc (suc more)))))))) e h = absurd (subst T (over more) h)
