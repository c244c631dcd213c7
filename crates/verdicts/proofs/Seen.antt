-- What is seen of a result is what is seen of its answer.
use Rattle.std.specs.Prelude.{◌≡◌, refl, Result, Ok, Err}
use Rattle.std.proofs.Common.{ap}
use Rattle.answers.specs.Answer.{Answer, value_or}
use Rattle.refusals.specs.declared.Row.{Row}
use Rattle.refusals.specs.declared.RowAt.{RowAt}
use Rattle.refusals.specs.declared.Refusal.{Refusal}
use Rattle.refusals.specs.declared.Refusal.TheVariants.{Whole, At}
use Rattle.refusals.specs.Refusal.{answer_of, row_at_answer_of, refusal_answer_of}
use Rattle.verdicts.specs.declared.Verdict.{Verdict}
use Rattle.verdicts.specs.Verdict.{Seen, seen_as, ResultSeen, verdict_on}

module _ {A B : Type 0} {value : A → B} {v : Verdict} {b other : B} {answer : Answer B} where
  pub row_seen : {x : Result A Row} → ResultSeen (λ r w. w ≡ verdict_on (Whole r)) value v b other x → answer_of value x ≡ answer → Seen v b other answer
  unfolding value_or
  row_seen {x} s e = seen_as (go x s) e
    where
      go : (x : Result A Row) → ResultSeen (λ r w. w ≡ verdict_on (Whole r)) value v b other x → Seen v b other (answer_of value x)
      go (Ok a) s = record { verdict = (s.accepted a refl).0; value = (s.accepted a refl).1 }
      go (Err r) s = record { verdict = (s.refused r refl).0; value = (s.refused r refl).1 }

  pub row_at_seen : {x : Result A RowAt} → ResultSeen (λ p w. w ≡ verdict_on (At p)) value v b other x → row_at_answer_of value x ≡ answer → Seen v b other answer
  unfolding value_or
  row_at_seen {x} s e = seen_as (go x s) e
    where
      go : (x : Result A RowAt) → ResultSeen (λ p w. w ≡ verdict_on (At p)) value v b other x → Seen v b other (row_at_answer_of value x)
      go (Ok a) s = record { verdict = (s.accepted a refl).0; value = (s.accepted a refl).1 }
      go (Err p) s = record { verdict = (s.refused p refl).0; value = (s.refused p refl).1 }

  pub refusal_seen : {x : Result A Refusal} → ResultSeen (λ r w. w ≡ verdict_on r) value v b other x → refusal_answer_of value x ≡ answer → Seen v b other answer
  unfolding value_or
  refusal_seen {x} s e = seen_as (go x s) e
    where
      go : (x : Result A Refusal) → ResultSeen (λ r w. w ≡ verdict_on r) value v b other x → Seen v b other (refusal_answer_of value x)
      go (Ok a) s = record { verdict = (s.accepted a refl).0; value = (s.accepted a refl).1 }
      go (Err (Whole r)) s = record { verdict = (s.refused (Whole r) refl).0; value = (s.refused (Whole r) refl).1 }
      go (Err (At p)) s = record { verdict = (s.refused (At p) refl).0; value = (s.refused (At p) refl).1 }

-- what is seen of a value is seen of what it means
pub meant : {A B E : Type 0} {On : E → Verdict → Type 0} {v : Verdict} {a other : A} {x : Result A E} → ResultSeen On (λ a. a) v a other x → (value : A → B) → ResultSeen On value v (value a) (value other) x
meant s value = record {
  accepted = λ a e. ((s.accepted a e).0, ap value (s.accepted a e).1);
  refused = λ r e. ((s.refused r e).0, ap value (s.refused r e).1);
}
