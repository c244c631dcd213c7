-- A carried run differs from the run in sign and branch bytes only, and these are the bytes that the steps' own signs and branches are written to.
use Rattle.std.specs.Prelude.{◌≡◌, Bool, true, false, ◌⊎◌, ℕ, ◌+◌, ◌<◌, eqb, length, set}
use Rattle.std.proofs.Math.Path.{refl}
use Rattle.std.proofs.Common.{◌∙◌, subst, length-set, get_or-set_same, eqb-true}
use mathlib.Core.List.{List, [], ◌∷◌}
use Rattle.std.proofs.Math.Logic.{inl, inr, ⊎_elim}
use Rattle.std.proofs.lemmas.Bool.{eqb-false}
use Rattle.paulilaws.specs.Pauli.{Pauli}
use Rattle.amplitudelaws.specs.Step.{Step}
use Rattle.amplitudelaws.specs.Step.Step.{rotation, promotion, projection, correction, quarter_turn}
use Rattle.framelaws.specs.Carrying.{carried_step, passed, carried_steps}
use Rattle.runlaws.specs.Bytes.{byte_at}
use Rattle.runlaws.specs.Flags.{field_size, flag_at, flagged, FlagOf, FlagIn}
use Rattle.runlaws.specs.Run.{Run}
use Rattle.runlaws.specs.Calls.{carried_run}
use Rattle.runlaws.specs.OwnBytes.{byte_kept}
use Rattle.runlaws.proofs.Flagged.{carried_size}

-- a byte is as it was, or it is the one that was written
set_or_kept : (s : List ℕ) (j i v : ℕ) → (byte_at (set s j v) i ≡ byte_at s i) ⊎ (i ≡ j)
set_or_kept s j i v = by (eqb i j) refl
  where
    by : (t : Bool) → eqb i j ≡ t → (byte_at (set s j v) i ≡ byte_at s i) ⊎ (i ≡ j)
    by true e = inr (eqb-true i j e)
    by false e = inl (byte_kept s j i v (eqb-false i j e))

-- a byte written twice
written : (s : List ℕ) (j i v w : ℕ) → i ≡ j → i < length s → byte_at (set (set s i v) j w) i ≡ byte_at (set s j w) i
written s j i v w e l = rw (← e, get_or-set_same (set s i v) i w 0 (rw (length-set s i v) l), get_or-set_same s i w 0 l)

module _ {R : Type 0} where
  pub flag_altered : (at : ℕ) (t : Step R) (s : List ℕ) (i : ℕ) → (byte_at (flag_at at t s) i ≡ byte_at s i) ⊎ FlagOf at t i
  unfolding flag_at
  flag_altered at (rotation P sign c q) s i = set_or_kept s (at + 20) i sign
  flag_altered at (promotion c q) s i = inl refl
  flag_altered at (projection M p v invnorm) s i = set_or_kept s (at + 21) i v
  flag_altered at (correction P) s i = inl refl
  flag_altered at (quarter_turn P) s i = inl refl

  -- what stood at the place of a flag is gone
  pub flag_own : (at : ℕ) (t : Step R) (s : List ℕ) (i v : ℕ) → FlagOf at t i → i < length s → byte_at (flag_at at t (set s i v)) i ≡ byte_at (flag_at at t s) i
  unfolding flag_at
  flag_own at (rotation P sign c q) s i v e l = written s (at + 20) i v sign e l
  flag_own at (promotion c q) s i v e l = absurd e
  flag_own at (projection M p branch invnorm) s i v e l = written s (at + 21) i v branch e l
  flag_own at (correction P) s i v e l = absurd e
  flag_own at (quarter_turn P) s i v e l = absurd e

  all : (at : ℕ) (ts : List (Step R)) (s : List ℕ) (i : ℕ) → (byte_at (flagged at ts s) i ≡ byte_at s i) ⊎ FlagIn at ts i
  unfolding flagged
  all at [] s i = inl refl
  all at (t ∷ ts) s i =
      ⊎_elim (λ e. ⊎_elim (λ f. inl (e ∙ f)) (λ f. inr (inl f)) (flag_altered at t s i)) (λ f. inr (inr f)) (all (at + field_size t) ts (flag_at at t s) i)

  -- the carried steps' flags stand where the steps' do
  one_carried : (at : ℕ) (Q : Pauli) (t : Step R) (i : ℕ) → FlagOf at (carried_step Q t) i → FlagOf at t i
  unfolding carried_step
  one_carried at Q (rotation P sign c q) i e = e
  one_carried at Q (promotion c q) i e = e
  one_carried at Q (projection M p v invnorm) i e = e
  one_carried at Q (correction P) i e = e
  one_carried at Q (quarter_turn P) i e = e

  all_carried : (at : ℕ) (Q : Pauli) (ts : List (Step R)) (i : ℕ) → FlagIn at (carried_steps Q ts) i → FlagIn at ts i
  unfolding carried_steps
  all_carried at Q [] i e = e
  all_carried at Q (t ∷ ts) i e =
      ⊎_elim (λ f. inl (one_carried at Q t i f))
      (λ f. inr (all_carried (at + field_size t) (passed Q t) ts i (subst (λ (n : ℕ). FlagIn (at + n) (carried_steps (passed Q t) ts) i) (carried_size Q t) f))) e

pub altered : (Q : Pauli) (R : Run) (s : List ℕ) (i : ℕ) → (byte_at (carried_run Q R s) i ≡ byte_at s i) ⊎ FlagIn 4 R.steps i
unfolding carried_run
altered Q R s i = ⊎_elim (λ e. inl e) (λ f. inr (all_carried 4 Q R.steps i f)) (all 4 (carried_steps Q R.steps) s i)
