-- Signs and branches written into a run over those that it has: carried ones leave nothing of what stood there, and the run's own leave it as it was.
use Rattle.std.specs.Prelude.{◌≡◌, Float, length, set}
use Rattle.std.proofs.Math.Path.{refl, sym, ap, subst}
use Rattle.std.proofs.Common.{◌∙◌, arith, get_or-take, get_or-drop}
use mathlib.Core.List.{List, [], ◌∷◌}
use Rattle.std.proofs.Math.Option.{some}
use Prim.Native.Nat.{ℕ, ◌+◌, ◌-◌, ◌≤◌, ◌<◌}
use Rattle.std.proofs.lemmas.List.{set-get_or}
use Rattle.std.proofs.Math.Seq.{set-set, set_comm}
use Rattle.answers.specs.Answer.Answer.{accepted}
use Rattle.paulilaws.specs.Pauli.{Pauli}
use Rattle.amplitudelaws.specs.Step.{Step}
use Rattle.amplitudelaws.specs.Step.Step.{rotation, promotion, projection, correction, quarter_turn}
use Rattle.framelaws.specs.Caller.{Caller}
use Rattle.framelaws.specs.Carrying.{carried_step, passed, carried_steps}
use Rattle.runlaws.specs.Bytes.{byte_at}
use Rattle.runlaws.specs.Field.{Field, most_bytes, body_length, field_at}
use Rattle.runlaws.specs.Fields.{Decodes, field_whole, step_field, step_read_lem}
use Rattle.runlaws.specs.Fields.Decodes.{rotates, promotes, projects, corrects, quarter_turns}
use Rattle.runlaws.specs.Flags.{field_size, flag_at, flagged}
use Rattle.runlaws.proofs.Flagged.{carried_size}
use Rattle.runlaws.specs.Reading.{Cursor}
use Rattle.runlaws.specs.Run.{Run, walk, run_of}
use Rattle.runlaws.specs.Walk.{first_step}
use Rattle.runlaws.specs.WholeRun.{run_allowed}

-- ---- carried flags over others

module _ {R : Type 0} where
  -- a byte before a field may be set before or after its flag is written
  flag_set : (at i v : ℕ) (t : Step R) (s : List ℕ) → i < at → flag_at at t (set s i v) ≡ set (flag_at at t s) i v
  unfolding flag_at
  flag_set at i v (rotation P sign c q) s h = set_comm s i (at + 20) v sign (λ e. omega arith)
  flag_set at i v (promotion c q) s h = refl
  flag_set at i v (projection M p branch invnorm) s h = set_comm s i (at + 21) v branch (λ e. omega arith)
  flag_set at i v (correction P) s h = refl
  flag_set at i v (quarter_turn P) s h = refl

  flags_set : (at i v : ℕ) (ts : List (Step R)) (s : List ℕ) → i < at → flagged at ts (set s i v) ≡ set (flagged at ts s) i v
  unfolding flagged
  flags_set at i v [] s h = refl
  flags_set at i v (t ∷ ts) s h = ap (flagged (at + field_size t) ts) (flag_set at i v t s h) ∙ flags_set (at + field_size t) i v ts (flag_at at t s) (omega arith)

  -- so a step's flag may be written after those of the fields behind it
  flag_last : (at : ℕ) (t : Step R) (ts : List (Step R)) (s : List ℕ) → flag_at at t (flagged (at + field_size t) ts s) ≡ flagged (at + field_size t) ts (flag_at at t s)
  unfolding flag_at field_size
  flag_last at (rotation P sign c q) ts s = sym (flags_set (at + 37) (at + 20) sign ts s (omega arith))
  flag_last at (promotion c q) ts s = refl
  flag_last at (projection M p v invnorm) ts s = sym (flags_set (at + 30) (at + 21) v ts s (omega arith))
  flag_last at (correction P) ts s = refl
  flag_last at (quarter_turn P) ts s = refl

  flag_over : (at : ℕ) (Q : Pauli) (t : Step R) (s : List ℕ) → flag_at at (carried_step Q t) (flag_at at t s) ≡ flag_at at (carried_step Q t) s
  unfolding flag_at carried_step
  flag_over at Q (rotation P sign c q) s = set-set s (at + 20) _ _
  flag_over at Q (promotion c q) s = refl
  flag_over at Q (projection M p v invnorm) s = set-set s (at + 21) _ _
  flag_over at Q (correction P) s = refl
  flag_over at Q (quarter_turn P) s = refl

  pub flags_over : (at : ℕ) (Q : Pauli) (ts : List (Step R)) (s : List ℕ) → flagged at (carried_steps Q ts) (flagged at ts s) ≡ flagged at (carried_steps Q ts) s
  unfolding flagged carried_steps
  flags_over at Q [] s = refl
  flags_over at Q (t ∷ ts) s =
      let u : Step R = carried_step Q t in
      let us : List (Step R) = carried_steps (passed Q t) ts in
      let next : ℕ = at + field_size t in
      let one : flag_at at u (flagged next ts (flag_at at t s)) ≡ flagged next ts (flag_at at u s)
      = ap (λ (n : ℕ). flag_at at u (flagged (at + n) ts (flag_at at t s))) (sym (carried_size Q t))
      ∙ flag_last at u ts (flag_at at t s)
      ∙ ap (λ (n : ℕ). flagged (at + n) ts (flag_at at u (flag_at at t s))) (carried_size Q t)
      ∙ ap (flagged next ts) (flag_over at Q t s) in
      subst (λ (n : ℕ). flagged (at + n) us (flag_at at u (flagged next ts (flag_at at t s))) ≡ flagged (at + n) us (flag_at at u s)) (sym (carried_size Q t))
      (ap (flagged next us) one ∙ flags_over next (passed Q t) ts (flag_at at u s))

-- ---- a run's own

-- a byte of the body, written where it stands
own_byte : (s : List ℕ) (at i : ℕ) (f : Field) → field_at s at ≡ some f → i < length f.body → set s (at + 3 + i) (byte_at f.body i) ≡ s
own_byte s at i f here h =
    let w = field_whole s at f here in
    let within : i < body_length s at = omega (arith, w.size) in
    let byte : byte_at f.body i ≡ byte_at s (at + 3 + i) = rw w.body (simp (get_or-take, get_or-drop)) in
    ap (set s (at + 3 + i)) byte ∙ set-get_or s (at + 3 + i) 0

pub own_flag : (s : List ℕ) (at n : ℕ) (f : Field) {t : Step Float} → field_at s at ≡ some f → Decodes n f t → flag_at at t s ≡ s
unfolding flag_at
own_flag s at n f here (rotates tag size) = let place : at + 20 ≡ at + 3 + 17 = omega arith in rw place (own_byte s at 17 f here (omega arith))
own_flag s at n f here (promotes tag size) = refl
own_flag s at n f here (projects tag size) = let place : at + 21 ≡ at + 3 + 18 = omega arith in rw place (own_byte s at 18 f here (omega arith))
own_flag s at n f here (corrects tag size) = refl
own_flag s at n f here (quarter_turns tag size) = refl

walk_own : (caller : Caller) (fuel : ℕ) (ts : List (Step Float)) (s : List ℕ) (c : Cursor) → length s ≤ most_bytes → length s ≤ c.at + fuel
    → walk caller fuel s c ≡ accepted ts → flagged c.at ts s ≡ s
unfolding flagged
walk_own caller fuel [] s c short h e = refl
walk_own caller fuel (t ∷ ts) s c short h e =
    let k = first_step caller fuel s c short h t ts e in
    let f = step_field caller s c k.behind t k.read in
    rw (own_flag s c.at c.width f.field f.here f.is, ← (step_read_lem caller s c k.behind t k.read).next)
    (walk_own caller (fuel - 1) ts s k.behind short k.enough k.walked)

pub flags_own : (caller : Caller) (s : List ℕ) (R : Run) → run_of caller s ≡ accepted R → flagged 4 R.steps s ≡ s
flags_own caller s R e =
    let r = run_allowed caller s R e in
    walk_own caller (length s) R.steps s (record { at = 4; width = R.width }) r.short (omega arith) r.walked
