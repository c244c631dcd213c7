-- What is seen of an answer that is a qubit or none: whether there is one, and which, 0 where there is none.
use Rattle.std.specs.Prelude.{◌≡◌, refl, Bool, true, false, ℕ}
use Rattle.std.proofs.Common.{subst}
use Rattle.std.proofs.Math.Option.{Option, none, some}
use Rattle.answers.specs.Answer.{Answer, value_or}
use Rattle.verdicts.specs.Verdict.{verdict_of}
use Rattle.verdicts.specs.declared.Verdict.{Verdict}

abbrev pub is_some : Option ℕ → Bool
is_some none = false
is_some (some q) = true

abbrev pub qubit_or0 : Option ℕ → ℕ
qubit_or0 none = 0
qubit_or0 (some q) = q

pub record SeenQubit (v : Verdict) (b : Bool) (q : ℕ) (answer : Answer (Option ℕ)) : Type 0 where
  pub verdict : v ≡ verdict_of answer
  pub found : b ≡ is_some (value_or none answer)
  pub qubit : q ≡ qubit_or0 (value_or none answer)

pub seen_qubit_as : {v : Verdict} {b : Bool} {q : ℕ} {answer same : Answer (Option ℕ)} → SeenQubit v b q answer → answer ≡ same → SeenQubit v b q same
seen_qubit_as {v} {b} {q} s e = subst (λ (x : Answer (Option ℕ)). SeenQubit v b q x) e s

-- what is seen tells the qubit
unfoldable pub qubit_back : Bool → ℕ → Option ℕ
qubit_back true q = some q
qubit_back false q = none

pub qubit_tells : (o : Option ℕ) → qubit_back (is_some o) (qubit_or0 o) ≡ o
unfolding qubit_back
qubit_tells none = refl
qubit_tells (some q) = refl
