-- How long a frame unit's log is, and what equal logs are.
use Rattle.std.specs.Prelude.{◌≡◌, Bool, true, false, eqb, Float, length}
use Rattle.std.proofs.Math.Path.{refl, sym, ap₂}
use Rattle.std.proofs.Common.{ap, ◌∙◌, subst, eqb-true, eq-eqb}
use Rattle.std.proofs.lemmas.Bool.{false≢true}
use mathlib.Core.List.{List, [], ◌∷◌, ◌++◌, append_assoc}
use Prim.Native.Nat.{ℕ, ◌+◌, ◌*◌, ◌≤◌}
use native.Mathlib.Omega.{arith}
use Rattle.std.proofs.Math.ListN.{length-append}
use Rattle.answers.specs.Answer.Answer.{accepted}
use Rattle.paulilaws.specs.Pauli.{Pauli}
use Rattle.paulilaws.specs.Fitting.{both_left, both_right}
use Rattle.amplitudelaws.specs.Step.{Step, width_after}
use Rattle.amplitudelaws.specs.Step.Step.{rotation, promotion, projection, correction, quarter_turn}
use Rattle.framelaws.specs.Caller.{Caller}
use Rattle.framelaws.specs.Carrying.{carried_step, passed, carried_steps, end_pauli}
use Rattle.runlaws.specs.Flags.{field_size}
use Rattle.runlaws.specs.FrameLog.{flag_of, flags_of, frame_log, is_same}
use Rattle.runlaws.specs.PauliBytes.{pauli_bytes, pauli_length}
use Rattle.runlaws.specs.Pieces.{Pieces}
use Rattle.runlaws.proofs.Pieces.{piece_size}
use Rattle.runlaws.specs.Run.{Run, run_of}
use Rattle.runlaws.proofs.RunPieces.{run_pieces}

-- ---- the length, whatever Pauli is carried

module _ {R : Type 0} where
  carried_flag : (Q : Pauli) (t : Step R) → length (flag_of (carried_step Q t)) ≡ length (flag_of t)
  unfolding flag_of carried_step
  carried_flag Q (rotation P sign c s) = refl
  carried_flag Q (promotion c q) = refl
  carried_flag Q (projection M p v invnorm) = refl
  carried_flag Q (correction P) = refl
  carried_flag Q (quarter_turn P) = refl

  pub flag_most : (t : Step R) → length (flag_of t) ≤ 1
  unfolding flag_of
  flag_most (rotation P sign c s) = omega arith
  flag_most (promotion c q) = omega arith
  flag_most (projection M p v invnorm) = omega arith
  flag_most (correction P) = omega arith
  flag_most (quarter_turn P) = omega arith

  pub flags_step : (t : Step R) (ts : List (Step R)) → length (flags_of (t ∷ ts)) ≡ length (flag_of t) + length (flags_of ts)
  unfolding flags_of
  flags_step t ts = length-append (flag_of t) (flags_of ts)

  pub carried_flags : (Q : Pauli) (ts : List (Step R)) → length (flags_of (carried_steps Q ts)) ≡ length (flags_of ts)
  unfolding carried_steps
  carried_flags Q [] = refl
  carried_flags Q (t ∷ ts) =
      flags_step (carried_step Q t) (carried_steps (passed Q t) ts) ∙ ap₂ ◌+◌ (carried_flag Q t) (carried_flags (passed Q t) ts) ∙ sym (flags_step t ts)

  pub log_length : (Q : Pauli) (ts : List (Step R)) → length (frame_log Q ts) ≡ length (flags_of ts) + 17
  unfolding frame_log
  log_length Q ts =
      length-append (flags_of (carried_steps Q ts)) (pauli_bytes (end_pauli Q ts)) ∙ ap₂ ◌+◌ (carried_flags Q ts) (pauli_length (end_pauli Q ts))

  -- ---- step by step

  pub log_step : (Q : Pauli) (t : Step R) (ts : List (Step R)) → frame_log Q (t ∷ ts) ≡ flag_of (carried_step Q t) ++ frame_log (passed Q t) ts
  unfolding frame_log flags_of carried_steps end_pauli
  log_step Q t ts = append_assoc (flag_of (carried_step Q t)) (flags_of (carried_steps (passed Q t) ts)) (pauli_bytes (end_pauli (passed Q t) ts))

pub log_end : (Q : Pauli) → frame_log {R = Float} Q [] ≡ pauli_bytes Q
unfolding frame_log flags_of carried_steps end_pauli
log_end Q = refl

-- ---- no log is longer: a sign or a branch stands in a field of 30 bytes or more, of at most 65,536

flag_size : (t : Step Float) → 30 * length (flag_of t) ≤ field_size t
unfolding flag_of field_size
flag_size (rotation P sign c s) = omega arith
flag_size (promotion c q) = omega arith
flag_size (projection M p v invnorm) = omega arith
flag_size (correction P) = omega arith
flag_size (quarter_turn P) = omega arith

pieces_flags : (caller : Caller) (n : ℕ) (ts : List (Step Float)) (bytes : List ℕ) → Pieces caller n ts bytes → 30 * length (flags_of ts) + 3 ≤ length bytes
unfolding flags_of
pieces_flags caller n [] bytes p = omega (arith, ap length p.is)
pieces_flags caller n (t ∷ ts) bytes p =
    let rest = pieces_flags caller (width_after n t) ts p.rest p.that in
    omega (arith, rest, flag_size t, piece_size p.this, flags_step t ts, ap length p.both, length-append p.first p.rest)

pub flags_most : (caller : Caller) (s : List ℕ) (R : Run) → run_of caller s ≡ accepted R → length (flags_of R.steps) ≤ 2184
flags_most caller s R e =
    let p = run_pieces caller s R e in
    omega (arith, pieces_flags caller R.width R.steps p.bytes p.pieces, ap length p.whole, p.short)

-- ---- byte for byte

pub same_bytes : (s t : List ℕ) → is_same s t ≡ true → s ≡ t
unfolding is_same
same_bytes [] [] e = refl
same_bytes [] (b ∷ t) e = absurd (false≢true e)
same_bytes (a ∷ s) [] e = absurd (false≢true e)
same_bytes (a ∷ s) (b ∷ t) e = ap₂ ◌∷◌ (eqb-true a b (both_left (eqb a b) (is_same s t) e)) (same_bytes s t (both_right (eqb a b) (is_same s t) e))

pub bytes_same : (s : List ℕ) → is_same s s ≡ true
unfolding is_same
bytes_same [] = refl
bytes_same (a ∷ s) = rw (eq-eqb a a refl) (bytes_same s)

-- a test that tells whether they are equal
pub same_test : (s t : List ℕ) (b : Bool) → (b ≡ true → s ≡ t) → (s ≡ t → b ≡ true) → b ≡ is_same s t
same_test s t true f g = sym (subst (λ (u : List ℕ). is_same s u ≡ true) (f refl) (bytes_same s))
same_test s t false f g = by (is_same s t) refl
  where
    by : (a : Bool) → is_same s t ≡ a → false ≡ is_same s t
    by true e = absurd (false≢true (g (same_bytes s t e)))
    by false e = sym e
