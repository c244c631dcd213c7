-- An answer as a caller in another language sees it: a verdict, and a value that is a fixed one beside a refusal.
use Rattle.std.specs.Prelude.{◌≡◌, Result, Ok, Err}
use Rattle.std.proofs.Common.{ap, sym, ◌∙◌, subst, arith}
use Rattle.answers.specs.Answer.{Answer, value_or}
use Rattle.answers.specs.Answer.Answer.{accepted, refused, refused_at}
use Rattle.refusals.specs.declared.Refusal.{Refusal}
use Rattle.refusals.specs.declared.Refusal.TheVariants.{Whole, At}
use Rattle.refusals.specs.Refusal.{number_of}
use Rattle.verdicts.specs.declared.Verdict.{Verdict}

-- the verdict on each answer; no two answers that differ in number or place have the same
abbrev pub verdict_of : {A : Type 0} → Answer A → Verdict
verdict_of (accepted a) = record { kind = 0; number = 0; place = 0 }
verdict_of (refused n) = record { kind = 1; number = n; place = 0 }
verdict_of (refused_at n at) = record { kind = 2; number = n; place = at }

-- that on a refusal of the code
abbrev pub verdict_on : Refusal → Verdict
verdict_on (Whole r) = record { kind = 1; number = number_of r; place = 0 }
verdict_on (At p) = record { kind = 2; number = number_of p.row; place = p.at }

-- the answer as it is seen: its verdict v and its value a, which is `other` beside a refusal
pub record Seen {A : Type 0} (v : Verdict) (a other : A) (answer : Answer A) : Type 0 where
  pub verdict : v ≡ verdict_of answer
  pub value : a ≡ value_or other answer

-- the same of a result of the code, whose value means what `value` says; On says which verdict a refusal has
pub record ResultSeen {A B E : Type 0} (On : E → Verdict → Type 0) (value : A → B) (v : Verdict) (b other : B) (answer : Result A E) : Type 0 where
  pub accepted : (a : A) → answer ≡ Ok a → (v ≡ record { kind = 0; number = 0; place = 0 }) × (b ≡ value a)
  pub refused : (e : E) → answer ≡ Err e → On e v × (b ≡ other)

-- what is seen of an answer is seen of its equal
pub seen_as : {A : Type 0} {v : Verdict} {a other : A} {answer same : Answer A} → Seen v a other answer → answer ≡ same → Seen v a other same
seen_as {A} {v} {a} {other} s e = subst (λ (x : Answer A). Seen v a other x) e s

-- ---- what is seen tells the answer: no two answers are seen alike

module _ {v w u : Verdict} (p : v ≡ w) (q : v ≡ u) where
  kinds : w.kind ≡ u.kind
  kinds = ap (λ (x : Verdict). x.kind) (sym p ∙ q)

  numbers : w.number ≡ u.number
  numbers = ap (λ (x : Verdict). x.number) (sym p ∙ q)

  places : w.place ≡ u.place
  places = ap (λ (x : Verdict). x.place) (sym p ∙ q)

pub seen_tells : {A : Type 0} {v : Verdict} {a other : A} (x y : Answer A) → Seen v a other x → Seen v a other y → x ≡ y
unfolding value_or
seen_tells (accepted p) (accepted q) s t = ap accepted (sym s.value ∙ t.value)
seen_tells (accepted p) (refused n) s t = absurd (omega (arith, kinds s.verdict t.verdict))
seen_tells (accepted p) (refused_at n at) s t = absurd (omega (arith, kinds s.verdict t.verdict))
seen_tells (refused n) (accepted q) s t = absurd (omega (arith, kinds s.verdict t.verdict))
seen_tells (refused n) (refused m) s t = ap refused (numbers s.verdict t.verdict)
seen_tells (refused n) (refused_at m at) s t = absurd (omega (arith, kinds s.verdict t.verdict))
seen_tells (refused_at n at) (accepted q) s t = absurd (omega (arith, kinds s.verdict t.verdict))
seen_tells (refused_at n at) (refused m) s t = absurd (omega (arith, kinds s.verdict t.verdict))
seen_tells (refused_at n at) (refused_at m bt) s t =
    rw (numbers s.verdict t.verdict, places s.verdict t.verdict)

-- ---- and an answer is seen in one way only: nothing beside a refusal is free

pub seen_once : {A : Type 0} {v w : Verdict} {a b other : A} {x : Answer A} → Seen v a other x → Seen w b other x → (v ≡ w) × (a ≡ b)
seen_once s t = (s.verdict ∙ sym t.verdict, s.value ∙ sym t.value)
