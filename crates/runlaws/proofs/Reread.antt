-- A carried run reads as the carried steps: only sign and branch bytes change, and a new sign or branch is one that no row refuses.
use Rattle.std.specs.Prelude.{◌≡◌, List, [], ◌∷◌, Float, length}
use Rattle.std.proofs.Common.{sym, ap, ◌∙◌, subst, length-set, get_or-set_same}
use Rattle.std.proofs.Math.Option.{some}
use Prim.Native.Nat.{ℕ, ◌+◌, ◌-◌, ◌≤◌}
use native.Mathlib.Omega.{arith}
use Rattle.answers.specs.Answer.Answer.{accepted}
use Rattle.paulilaws.specs.Pauli.{Pauli}
use Rattle.amplitudelaws.specs.Step.{Step, width_after}
use Rattle.amplitudelaws.specs.Step.Step.{rotation, projection}
use Rattle.framelaws.specs.Caller.{Caller}
use Rattle.framelaws.specs.Rows.{step_row}
use Rattle.framelaws.specs.Carrying.{flipped, carried_step, passed, carried_steps}
use Rattle.framelaws.specs.Carried.{row_carried}
use Rattle.runlaws.specs.Bytes.{byte_at, float_at, pauli_at}
use Rattle.runlaws.specs.Field.{Field, most_bytes, field_at}
use Rattle.runlaws.specs.Flags.{field_size, flag_at, flagged}
use Rattle.runlaws.specs.Reading.{Cursor, read_field, read_at}
use Rattle.runlaws.specs.Reading.Read.{step_read}
use Rattle.runlaws.specs.Run.{Run, mapped, walk, start_width, run_of}
use Rattle.runlaws.specs.Calls.{carried_run}
use Rattle.runlaws.specs.Fields.{Decodes, field_whole, read_decodes, read_within, step_field, step_read_lem}
use Rattle.runlaws.specs.Walk.{first_step, walk_step}
use Rattle.runlaws.specs.WholeRun.{start_read, run_begun, run_allowed}
use Rattle.runlaws.specs.Fields.Decodes.{rotates, promotes, projects, corrects, quarter_turns}
use Rattle.runlaws.specs.OwnBytes.{byte_kept, float_kept, pauli_kept, with_byte, field_same, field_set, read_same, walk_same}
use Rattle.runlaws.proofs.Flagged.{flag_length, flag_kept, flags_length, flags_kept, carried_size}

module _ (n : ℕ) (f : Field) (v : ℕ) where
  pub resigned : f.tag ≡ 2 → length f.body ≡ 34
      → Decodes n (with_byte 17 v f) (rotation (pauli_at n f.body) v (float_at f.body 18) (float_at f.body 26))
  resigned tag size =
      let is : Decodes n (with_byte 17 v f) _ = rotates tag (length-set f.body 17 v ∙ size) in
      rw (
        pauli_kept n f.body 17 v (omega arith),
        get_or-set_same f.body 17 v 0 (omega arith),
        float_kept f.body 18 17 v (λ m b e. omega arith),
        float_kept f.body 26 17 v (λ m b e. omega arith),
      ) at is

  pub rebranched : f.tag ≡ 4 → length f.body ≡ 27
      → Decodes n (with_byte 18 v f) (projection (pauli_at n f.body) (byte_at f.body 17) v (float_at f.body 19))
  rebranched tag size =
      let is : Decodes n (with_byte 18 v f) _ = projects tag (length-set f.body 18 v ∙ size) in
      rw (
        pauli_kept n f.body 18 v (omega arith),
        byte_kept f.body 18 17 v (λ e. omega arith),
        get_or-set_same f.body 18 v 0 (omega arith),
        float_kept f.body 19 18 v (λ m b e. omega arith),
      ) at is

module _ (caller : Caller) (s : List ℕ) (c : Cursor) (Q : Pauli) where
  field_carried : (f : Field) {t : Step Float} → field_at s c.at ≡ some f → Decodes c.width f t → step_row caller c.width (carried_step Q t) ≡ 0
      → read_field caller c (field_at (flag_at c.at (carried_step Q t) s) c.at) ≡ step_read (carried_step Q t) (record { at = f.next; width = width_after c.width t })
  unfolding flag_at carried_step width_after
  field_carried f here (rotates tag size) e =
      let v : ℕ = flipped Q (pauli_at c.width f.body) (byte_at f.body 17) in
      let place : c.at + 20 ≡ c.at + 3 + 17 = omega arith in
      rw (place, field_set s c.at 17 v f here (omega arith)) (read_decodes caller c (with_byte 17 v f) (resigned c.width f v tag size) e)
  field_carried f here (promotes tag size) e = rw here (read_decodes caller c f (promotes tag size) e)
  field_carried f here (projects tag size) e =
      let v : ℕ = flipped Q (pauli_at c.width f.body) (byte_at f.body 18) in
      let place : c.at + 21 ≡ c.at + 3 + 18 = omega arith in
      rw (place, field_set s c.at 18 v f here (omega arith)) (read_decodes caller c (with_byte 18 v f) (rebranched c.width f v tag size) e)
  field_carried f here (corrects tag size) e = rw here (read_decodes caller c f (corrects tag size) e)
  field_carried f here (quarter_turns tag size) e = rw here (read_decodes caller c f (quarter_turns tag size) e)

  -- a field with the carried step's flag reads as the carried step
  pub step_carried : (d : Cursor) (t : Step Float) → read_at caller s c ≡ step_read t d
      → read_at caller (flag_at c.at (carried_step Q t) s) c ≡ step_read (carried_step Q t) d
  step_carried d t e =
      let k = step_field caller s c d t e in
      read_within caller (flag_at c.at (carried_step Q t) s) c (omega (arith, flag_length c.at (carried_step Q t) s, k.short)) k.within
      ∙ field_carried k.field k.here k.is (row_carried caller c.width Q t k.row)
      ∙ ap (step_read (carried_step Q t)) (sym k.behind)

-- ---- the whole run

-- flags behind a field do not touch it
read_before : (caller : Caller) (s : List ℕ) (c d : Cursor) (t : Step Float) (ts : List (Step Float)) → read_at caller s c ≡ step_read t d
    → read_at caller (flagged d.at ts s) c ≡ step_read t d
read_before caller s c d t ts e =
    let k = step_field caller s c d t e in
    let w = field_whole s c.at k.field k.here in
    let next : d.at ≡ k.field.next = ap (λ (d : Cursor). d.at) k.behind in
    read_same caller s (flagged d.at ts s) c (flags_length d.at ts s) (λ i b h. flags_kept d.at ts s i (omega (arith, next, w.next))) ∙ e

walk_carried : (caller : Caller) (fuel : ℕ) (ts : List (Step Float)) (s : List ℕ) (c : Cursor) (Q : Pauli) → length s ≤ most_bytes → length s ≤ c.at + fuel
    → walk caller fuel s c ≡ accepted ts → walk caller fuel (flagged c.at (carried_steps Q ts) s) c ≡ accepted (carried_steps Q ts)
unfolding flagged carried_steps
walk_carried caller fuel [] s c Q short h e = e
walk_carried caller fuel (t ∷ ts) s c Q short h e =
    let k = first_step caller fuel s c short h t ts e in
    let d : Cursor = k.behind in
    let t' : Step Float = carried_step Q t in
    let ts' : List (Step Float) = carried_steps (passed Q t) ts in
    let one : List ℕ = flag_at c.at t' s in
    let all : List ℕ = flagged d.at ts' one in
    let next : d.at ≡ c.at + field_size t' = omega (arith, carried_size Q t, (step_read_lem caller s c d t k.read).next) in
    let same : walk caller (fuel - 1) one d ≡ accepted ts
    = walk_same caller (fuel - 1) s one d (flag_length c.at t' s) (λ i behind. flag_kept c.at t' s i (λ b e. omega arith)) ∙ k.walked in
    let rest : walk caller (fuel - 1) all d ≡ accepted ts'
    = walk_carried caller (fuel - 1) ts one d (passed Q t) (omega (arith, flag_length c.at t' s)) (omega (arith, flag_length c.at t' s, k.enough)) same in
    subst (λ (n : ℕ). walk caller fuel (flagged n ts' one) c ≡ accepted (t' ∷ ts')) next
    (walk_step caller fuel all c d t' ts' (omega (arith, flags_length d.at ts' one, flag_length c.at t' s)) (omega (arith, flags_length d.at ts' one, flag_length c.at t' s))
    (read_before caller one c d t' ts' (step_carried caller s c Q d t k.read)) rest)

pub carried_length : (Q : Pauli) (R : Run) (s : List ℕ) → length (carried_run Q R s) ≡ length s
unfolding carried_run
carried_length Q R s = flags_length _ (carried_steps Q R.steps) s

pub reread : (caller : Caller) (s : List ℕ) (Q : Pauli) (R : Run) → run_of caller s ≡ accepted R
    → run_of caller (carried_run Q R s) ≡ accepted (record { width = R.width; steps = carried_steps Q R.steps })
unfolding carried_run mapped
reread caller s Q R e =
    let r = run_allowed caller s R e in
    let b = start_read s R.width r.start in
    let ts : List (Step Float) = carried_steps Q R.steps in
    let all : List ℕ = flagged 4 ts s in
    let long : length all ≡ length s = flags_length 4 ts s in
    let start : start_width (field_at all 0) ≡ some R.width
    = ap start_width (field_same s all 0 long (λ i h k. flags_kept 4 ts s i (omega (arith, b.size)))) ∙ r.start in
    let walked : walk caller (length all) all (record { at = 4; width = R.width }) ≡ accepted ts
    = rw long (walk_carried caller (length s) R.steps s (record { at = 4; width = R.width }) Q r.short (omega arith) r.walked) in
    run_begun caller all (omega (arith, r.short)) R.width start r.width ∙ rw walked
