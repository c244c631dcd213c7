-- Signs and branches written into a run: what they leave, and that they may be written into a copy in a longer list.
use Rattle.std.specs.Prelude.{◌≡◌, ℕ, ◌+◌, ◌-◌, ◌≤◌, ◌<◌, Float, length}
use Rattle.std.proofs.Math.Path.{refl, ap}
use Rattle.std.proofs.Common.{◌∙◌, arith}
use mathlib.Core.List.{List, [], ◌∷◌, ◌++◌}
use Rattle.std.proofs.Math.ListN.{length-set}
use Rattle.std.proofs.Math.Seq.{set-append_left}
use Rattle.answers.specs.Answer.Answer.{accepted}
use Rattle.paulilaws.specs.Pauli.{Pauli}
use Rattle.amplitudelaws.specs.Step.{Step}
use Rattle.amplitudelaws.specs.Step.Step.{rotation, promotion, projection, correction, quarter_turn}
use Rattle.framelaws.specs.Caller.{Caller}
use Rattle.framelaws.specs.Carrying.{carried_step, passed, carried_steps}
use Rattle.framelaws.specs.Carried.{flagless_carried}
use Rattle.runlaws.specs.Bytes.{byte_at}
use Rattle.runlaws.specs.Flags.{field_size, flag_at, flagged}
use Rattle.runlaws.specs.Reading.{Cursor}
use Rattle.runlaws.specs.Field.{most_bytes}
use Rattle.runlaws.specs.Run.{Run, walk, run_of}
use Rattle.runlaws.specs.Calls.{carried_run}
use Rattle.runlaws.specs.Fields.{step_read_lem}
use Rattle.runlaws.specs.Walk.{first_step}
use Rattle.runlaws.specs.WholeRun.{run_allowed}
use Rattle.runlaws.specs.OwnBytes.{byte_kept}

module _ {R : Type 0} where
  pub flag_length : (at : ℕ) (t : Step R) (s : List ℕ) → length (flag_at at t s) ≡ length s
  unfolding flag_at
  flag_length at (rotation P sign c q) s = length-set s (at + 20) sign
  flag_length at (promotion c q) s = refl
  flag_length at (projection M p v invnorm) s = length-set s (at + 21) v
  flag_length at (correction P) s = refl
  flag_length at (quarter_turn P) s = refl

  -- a flag stands in its own field
  pub flag_kept : (at : ℕ) (t : Step R) (s : List ℕ) (i : ℕ) → (at ≤ i → i < at + field_size t → ⊥) → byte_at (flag_at at t s) i ≡ byte_at s i
  unfolding flag_at field_size
  flag_kept at (rotation P sign c q) s i h = byte_kept s (at + 20) i sign (λ e. h (omega arith) (omega arith))
  flag_kept at (promotion c q) s i h = refl
  flag_kept at (projection M p v invnorm) s i h = byte_kept s (at + 21) i v (λ e. h (omega arith) (omega arith))
  flag_kept at (correction P) s i h = refl
  flag_kept at (quarter_turn P) s i h = refl

  pub flags_length : (at : ℕ) (ts : List (Step R)) (s : List ℕ) → length (flagged at ts s) ≡ length s
  unfolding flagged
  flags_length at [] s = refl
  flags_length at (t ∷ ts) s = flags_length (at + field_size t) ts (flag_at at t s) ∙ flag_length at t s

  -- the bytes before the first field stay
  pub flags_kept : (at : ℕ) (ts : List (Step R)) (s : List ℕ) (i : ℕ) → i < at → byte_at (flagged at ts s) i ≡ byte_at s i
  unfolding flagged
  flags_kept at [] s i h = refl
  flags_kept at (t ∷ ts) s i h = flags_kept (at + field_size t) ts (flag_at at t s) i (omega arith) ∙ flag_kept at t s i (λ b e. omega arith)

  pub carried_size : (Q : Pauli) (t : Step R) → field_size (carried_step Q t) ≡ field_size t
  unfolding field_size
  carried_size = flagless_carried field_size (λ P sign sign' c s. refl) (λ M p v v' invnorm. refl)

-- ---- flags written into a copy of the run in a longer buffer

-- the fields of the steps, the first beginning at `at`, lie in the first n bytes
abbrev Inside : {R : Type 0} → ℕ → List (Step R) → ℕ → Type 0
Inside at [] n = Unit
Inside at (t ∷ ts) n = (at + field_size t ≤ n) × Inside (at + field_size t) ts n

module _ {R : Type 0} where
  flag_append : (at : ℕ) (t : Step R) (s rest : List ℕ) → at + field_size t ≤ length s → flag_at at t (s ++ rest) ≡ flag_at at t s ++ rest
  unfolding flag_at field_size
  flag_append at (rotation P sign c q) s rest h = set-append_left s rest (at + 20) sign (omega arith)
  flag_append at (promotion c q) s rest h = refl
  flag_append at (projection M p v invnorm) s rest h = set-append_left s rest (at + 21) v (omega arith)
  flag_append at (correction P) s rest h = refl
  flag_append at (quarter_turn P) s rest h = refl

  flags_append : (at : ℕ) (ts : List (Step R)) (s rest : List ℕ) → Inside at ts (length s) → flagged at ts (s ++ rest) ≡ flagged at ts s ++ rest
  unfolding flagged
  flags_append at [] s rest h = refl
  flags_append at (t ∷ ts) s rest h =
      ap (flagged (at + field_size t) ts) (flag_append at t s rest h.0)
      ∙ flags_append (at + field_size t) ts (flag_at at t s) rest (rw (flag_length at t s) h.1)

  inside_carried : (at : ℕ) (ts : List (Step R)) (n : ℕ) (Q : Pauli) → Inside at ts n → Inside at (carried_steps Q ts) n
  unfolding carried_steps
  inside_carried at [] n Q h = tt
  inside_carried at (t ∷ ts) n Q h = rw (carried_size Q t) (h.0, inside_carried (at + field_size t) ts n (passed Q t) h.1)

walk_inside : (caller : Caller) (fuel : ℕ) (s : List ℕ) (c : Cursor) (ts : List (Step Float)) → length s ≤ most_bytes → length s ≤ c.at + fuel
    → walk caller fuel s c ≡ accepted ts → Inside c.at ts (length s)
walk_inside caller fuel s c [] short h e = tt
walk_inside caller fuel s c (t ∷ ts) short h e =
    let k = first_step caller fuel s c short h t ts e in
    let r = step_read_lem caller s c k.behind t k.read in
    rw (← r.next) (r.inside, walk_inside caller (fuel - 1) s k.behind ts short k.enough k.walked)

pub carried_append : (caller : Caller) (s rest : List ℕ) (Q : Pauli) (R : Run) → run_of caller s ≡ accepted R
    → flagged 4 (carried_steps Q R.steps) (s ++ rest) ≡ carried_run Q R s ++ rest
unfolding carried_run
carried_append caller s rest Q R e =
    let r = run_allowed caller s R e in
    flags_append 4 (carried_steps Q R.steps) s rest (inside_carried 4 R.steps (length s) Q
    (walk_inside caller (length s) s (record { at = 4; width = R.width }) R.steps r.short (omega arith) r.walked))
