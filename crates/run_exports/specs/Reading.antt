-- What is seen of a read: the verdict, the field that was read, and the cursor behind it.
use Rattle.std.specs.Prelude.{◌≡◌, refl, cond, List, ℕ, eqb, Float}
use Rattle.std.proofs.Common.{sym, ◌∙◌}
use Rattle.amplitudelaws.specs.Step.{Step}
use Rattle.amplitudelaws.specs.Step.Step.{rotation, promotion, projection, correction, quarter_turn}
use Rattle.activepauli.specs.Active.{active_of}
use Rattle.bitlaws.specs.Digit.{bit_of}
use Rattle.paulilaws.specs.Pauli.{Pauli, identity}
use Rattle.runlaws.specs.Bytes.{byte_at}
use Rattle.runlaws.specs.Field.{Field}
use Rattle.runlaws.specs.Fields.{Decodes, field_whole, step_field, end_field}
use Rattle.runlaws.specs.Fields.Decodes.{rotates, promotes, projects, corrects, quarter_turns}
use Rattle.runlaws.specs.Reading.{Read, Cursor, read_at}
use Rattle.runlaws.specs.Reading.Read.{step_read, end_read, refused_read}
use Rattle.verdicts.specs.declared.Verdict.{Verdict}
use Rattle.verdicts.specs.Nothing.{no_float}
use Rattle.framelaws.specs.Caller.{Caller}
use Rattle.run_exports.specs.declared.seen.SeenField.{SeenField}
use Rattle.run_exports.specs.declared.seen.SeenRead.{SeenRead}

-- A field by its tag; of its Pauli, its sign or branch, its pivot and its floats those that it does not have are the identity on no
-- qubits, 0 and +0. A projection's one float is the first.
pub record FieldSeen : Type 0 where
  pub tag : ℕ
  pub pauli : Pauli
  pub flag : ℕ
  pub pivot : ℕ
  pub first : Float
  pub second : Float

-- a field that has a Pauli and nothing else
abbrev pub pauli_seen : ℕ → Pauli → FieldSeen
pauli_seen tag P = record { tag = tag; pauli = P; flag = 0; pivot = 0; first = no_float; second = no_float }

abbrev pub step_seen : Step Float → FieldSeen
step_seen (rotation P sign c s) = record { tag = 2; pauli = P; flag = sign; pivot = 0; first = c; second = s }
step_seen (promotion c q) = record { tag = 3; pauli = identity 0; flag = 0; pivot = 0; first = c; second = q }
step_seen (projection M p v invnorm) = record { tag = 4; pauli = M; flag = v; pivot = p; first = invnorm; second = no_float }
step_seen (correction P) = pauli_seen 5 P
step_seen (quarter_turn P) = pauli_seen 7 P

-- the end field by its tag, 6, and by 0 what stands beside a refusal
abbrev pub bare_seen : ℕ → FieldSeen
bare_seen tag = pauli_seen tag (identity 0)

pub record ReadSeen : Type 0 where
  pub verdict : Verdict
  pub field : FieldSeen
  pub behind : Cursor

abbrev pub read_seen : Read → ReadSeen
read_seen (step_read t c) = record { verdict = record { kind = 0; number = 0; place = 0 }; field = step_seen t; behind = c }
read_seen (end_read c) = record { verdict = record { kind = 0; number = 0; place = 0 }; field = bare_seen 6; behind = c }
read_seen (refused_read n at) =
    record { verdict = record { kind = 2; number = n; place = at }; field = bare_seen 0; behind = record { at = 0; width = 0 } }

-- ---- the declared types

abbrev pub seen_field_of : SeenField → FieldSeen
seen_field_of f =
    record { tag = f.tag; pauli = active_of f.pauli; flag = bit_of f.flag; pivot = f.pivot; first = f.first; second = f.second }

abbrev pub seen_read_of : SeenRead → ReadSeen
seen_read_of r = record { verdict = r.verdict; field = seen_field_of r.field; behind = record { at = r.at; width = r.width } }

-- ---- what is seen tells the read

-- the step by its tag
unfoldable pub step_back : FieldSeen → Step Float
step_back f =
    cond (eqb f.tag 2) (rotation f.pauli f.flag f.first f.second)
    (cond (eqb f.tag 3) (promotion f.first f.second)
    (cond (eqb f.tag 4) (projection f.pauli f.pivot f.flag f.first)
    (cond (eqb f.tag 7) (quarter_turn f.pauli) (correction f.pauli))))

unfoldable pub read_back : ReadSeen → Read
read_back r =
    cond (eqb r.verdict.kind 2) (refused_read r.verdict.number r.verdict.place)
    (cond (eqb r.field.tag 6) (end_read r.behind) (step_read (step_back r.field) r.behind))

pub read_tells : (r : Read) → read_back (read_seen r) ≡ r
unfolding read_back step_back
read_tells (step_read (rotation P sign c s) at) = refl
read_tells (step_read (promotion c q) at) = refl
read_tells (step_read (projection M p v invnorm) at) = refl
read_tells (step_read (correction P) at) = refl
read_tells (step_read (quarter_turn P) at) = refl
read_tells (end_read at) = refl
read_tells (refused_read n at) = refl

-- ---- the tag that is seen is the run's byte at the cursor

decoded_tag : {n : ℕ} {f : Field} {t : Step Float} → Decodes n f t → (step_seen t).tag ≡ f.tag
decoded_tag (rotates tag size) = sym tag
decoded_tag (promotes tag size) = sym tag
decoded_tag (projects tag size) = sym tag
decoded_tag (corrects tag size) = sym tag
decoded_tag (quarter_turns tag size) = sym tag

module _ (caller : Caller) (s : List ℕ) (c d : Cursor) where
  pub step_tag : (t : Step Float) → read_at caller s c ≡ step_read t d → (read_seen (read_at caller s c)).field.tag ≡ byte_at s c.at
  step_tag t e =
      let k = step_field caller s c d t e in
      rw e (decoded_tag k.is ∙ (field_whole s c.at k.field k.here).tag)

  pub end_tag : read_at caller s c ≡ end_read d → (read_seen (read_at caller s c)).field.tag ≡ byte_at s c.at
  end_tag e =
      let k = end_field caller s c d e in
      rw e (sym k.tag ∙ (field_whole s c.at k.field k.here).tag)
