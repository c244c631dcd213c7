-- A step that is given by its tag: the row of a flag that is no bit, and that one which is a bit is taken for it.
use mathlib.Core.Path.{◌≡◌, refl, ap, ◌∙◌}
use mathlib.Core.Bool.{Bool, true, false, not, cond}
use Prim.Native.Nat.{ℕ, zero, suc, ◌<◌}
use native.Mathlib.Omega.{arith}
use lib.Dec.{eqb}
use lib.Ieee.{Float}
use borrow.Author.Tests.{lt-ltb}
use Rattle.answers.specs.Answer.{Answer, refuse}
use Rattle.answers.specs.Answer.Answer.{refused}
use Rattle.answers.specs.Row.{row, answered}
use Rattle.bitlaws.specs.Digit.{bit_of}
use Rattle.amplitudelaws.specs.Step.{Step}
use Rattle.amplitudelaws.specs.Step.Step.{rotation, promotion, projection, correction, quarter_turn}
use Rattle.framelaws.specs.Carrying.{carried_step, passed}
use Rattle.framelaws.specs.PassRow.{Passage, pair_row, pass_row, past_call}
use Rattle.paulilaws.specs.Pauli.{Pauli}
use Rattle.verdicts.specs.Flag.{flag_row, behind}
use Rattle.run_exports.specs.Reading.{FieldSeen, step_back}
use Rattle.run_exports.specs.Past.{is_step_tag, bit_row, as_bit, given_call}

-- ---- the row

module _ (f : FieldSeen) where
  pub rotation_bit : f.tag ≡ 2 → flag_row f.flag ≡ bit_row (step_back f)
  unfolding bit_row step_back
  rotation_bit e = rw e

  pub projection_bit : f.tag ≡ 4 → flag_row f.flag ≡ bit_row (step_back f)
  unfolding bit_row step_back
  projection_bit e = rw e

  pub no_bit : eqb f.tag 2 ≡ false → eqb f.tag 4 ≡ false → 0 ≡ bit_row (step_back f)
  unfolding bit_row step_back
  no_bit two four = rw (two, four) (go (eqb f.tag 3) (eqb f.tag 7))
    where
      go : (b d : Bool) → 0 ≡ bit_row (cond b (promotion f.first f.second) (cond d (quarter_turn f.pauli) (correction f.pauli)))
      go true d = refl
      go false true = refl
      go false false = refl

-- ---- the flag

-- a row behind an answer's own refuses it whatever its value is
behind_some : {A : Type 0} (own : ℕ) (a b : A) (r : ℕ) → behind (answered own a) (suc r) ≡ behind (answered own b) (suc r)
unfolding behind answered
behind_some zero a b r = refl
behind_some (suc own) a b r = refl

by_flag : {A : Type 0} (own : ℕ) (value : ℕ → A) (v : ℕ)
    → behind (answered own (value (bit_of (eqb v 1)))) (flag_row v) ≡ behind (answered own (value v)) (flag_row v)
by_flag own value zero = refl
by_flag own value (suc zero) = refl
by_flag own value (suc (suc v)) =
    let fourteen : flag_row (suc (suc v)) ≡ 14 = unfold flag_row row in rw (lt-ltb 1 (suc (suc v)) (omega arith)) in
    rw fourteen (behind_some own _ _ 13)

module _ (Q : Pauli) (f : FieldSeen) where
  -- its step with v for the flag, by how its tag's tests come out
  abbrev at : Bool → Bool → Bool → Bool → ℕ → Step Float
  at a b c d v =
      cond a (rotation f.pauli v f.first f.second)
      (cond b (promotion f.first f.second)
      (cond c (projection f.pauli f.pivot v f.first)
      (cond d (quarter_turn f.pauli) (correction f.pauli))))

  abbrev behind_it : (ℕ → Step Float) → ℕ → Passage Float
  behind_it t v = record { step = carried_step Q (t v); pauli = passed Q (t v) }

  pub given_same : behind (past_call Q (step_back (as_bit f))) (bit_row (step_back f)) ≡ behind (past_call Q (step_back f)) (bit_row (step_back f))
  unfolding step_back past_call pass_row bit_row
  given_same = go (eqb f.tag 2) (eqb f.tag 3) (eqb f.tag 4) (eqb f.tag 7)
    where
      go : (a b c d : Bool) → behind (past_call Q (at a b c d (bit_of (eqb f.flag 1)))) (bit_row (at a b c d f.flag))
          ≡ behind (past_call Q (at a b c d f.flag)) (bit_row (at a b c d f.flag))
      go true b c d = by_flag (pair_row Q f.pauli) (behind_it (at true b c d)) f.flag
      go false true c d = refl
      go false false true d = by_flag (pass_row Q (at false false true d 0)) (behind_it (at false false true d)) f.flag
      go false false false true = refl
      go false false false false = refl

-- ---- the tag's row, before all

module _ {A : Type 0} (a : Answer A) where
  pub by_tag : (t : Bool) (n : ℕ) → 0 < n → n ≡ row t 14 0 → refused n ≡ refuse t 14 a
  unfolding row refuse
  by_tag true n some e = ap refused e
  by_tag false n some e = absurd (omega arith)

  passed_tag : (t : Bool) → 0 ≡ row t 14 0 → a ≡ refuse t 14 a
  unfolding row refuse
  passed_tag true e = absurd (omega arith)
  passed_tag false e = refl

pub given_told : (Q : Pauli) (f : FieldSeen) (a : Answer (Passage Float)) → 0 ≡ row (not (is_step_tag f.tag)) 14 0
    → a ≡ past_call Q (step_back (as_bit f))
    → behind a (bit_row (step_back f)) ≡ given_call Q f
unfolding given_call
given_told Q f a none e =
    ap (λ (a : Answer (Passage Float)). behind a (bit_row (step_back f))) e ∙ given_same Q f ∙ passed_tag _ (not (is_step_tag f.tag)) none
