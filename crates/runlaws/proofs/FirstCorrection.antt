-- A run whose only correction is its first step: folding it is carrying that correction's Pauli through the rest.
use Rattle.std.specs.Prelude.{◌≡◌, refl, ℕ, ◌+◌, ◌%◌, ◌≤◌, ◌<◌, Float, length, set}
use Rattle.std.proofs.Math.Path.{sym, ap, ap₂}
use Rattle.std.proofs.Common.{◌∙◌, zero-add, suc-add, mod-eq_of_lt, arith, length-append, take-append-drop, drop_at, le-ltb}
use mathlib.Core.List.{List, [], ◌∷◌, ◌++◌, append_assoc}
use Rattle.std.specs.Int.Bits.{xor_zero_r}
use Rattle.std.proofs.Math.ListN.{take, drop}
use Rattle.std.proofs.lemmas.List.{set-append_left}
use Rattle.answers.specs.Answer.Answer.{accepted}
use Rattle.answers.specs.Row.{row, first}
use Rattle.bitlaws.proofs.Parity.{overlap_zero_r}
use Rattle.paulilaws.specs.Pauli.{Pauli, product, identity, same}
use Rattle.paulilaws.specs.Fitting.{Fitting, Admitted}
use Rattle.paulilaws.proofs.Fitting.{admitted_fits}
use Rattle.amplitudelaws.specs.Rows.{width_row, widest_kernel}
use Rattle.amplitudelaws.specs.Step.{Step, width_after}
use Rattle.amplitudelaws.specs.Step.Step.{rotation, promotion, projection, correction, quarter_turn}
use Rattle.framelaws.specs.Caller.{Caller}
use Rattle.framelaws.specs.Carrying.{carried_step, passed, carried_steps, end_pauli}
use Rattle.framelaws.specs.Folded.{kept_past}
use Rattle.framelaws.specs.FoldedSteps.{bare_end}
use Rattle.framelaws.specs.Folding.{fires, folded_by, folded_past, folded_end, Bare}
use Rattle.framelaws.specs.Rows.{step_row}
use Rattle.runlaws.specs.Calls.{carried_run}
use Rattle.runlaws.specs.Field.{most_bytes}
use Rattle.runlaws.specs.Flags.{field_size, flag_at, flagged}
use Rattle.runlaws.proofs.Flagged.{flag_length, carried_size}
use Rattle.runlaws.proofs.FoldedBytes.{behind_piece, piece_long}
use Rattle.runlaws.specs.FoldedRun.{kept_of, left_bytes, folded_fields, folded_run}
use Rattle.runlaws.specs.PauliBytes.{correction_field, field_length}
use Rattle.runlaws.proofs.PauliBytes.{correction_piece}
use Rattle.runlaws.specs.Pieces.{Piece, Pieces}
use Rattle.runlaws.specs.Run.{Run, run_of}
use Rattle.runlaws.specs.RunPieces.{start_bytes, RunPieces}
use Rattle.runlaws.proofs.RunPieces.{run_pieces, pieces_run}
use Rattle.runlaws.specs.WholeRun.{run_allowed}
use Rattle.runlaws.specs.WithCorrection.{behind_start, behind_length}

-- ---- without corrections the fields that are left are the carried run's

-- a byte written behind other bytes
set_behind : (pre l : List ℕ) (i v : ℕ) → set (pre ++ l) (length pre + i) v ≡ pre ++ set l i v
set_behind [] l i v = ap (λ (n : ℕ). set l n v) (zero-add i)
set_behind (x ∷ pre) l i v = ap (λ (n : ℕ). set (x ∷ (pre ++ l)) n v) (suc-add (length pre) i) ∙ ap (λ (r : List ℕ). x ∷ r) (set_behind pre l i v)

-- a flag in the middle of three parts
set_between : (pre f rest : List ℕ) (i v : ℕ) → i < length f → set (pre ++ (f ++ rest)) (length pre + i) v ≡ pre ++ (set f (0 + i) v ++ rest)
set_between pre f rest i v h =
    set_behind pre (f ++ rest) i v ∙ ap (λ (l : List ℕ). pre ++ l) (set-append_left f rest i v h ∙ ap (λ (n : ℕ). set f n v ++ rest) (sym (zero-add i)))

flag_between : (u : Step Float) (pre f rest : List ℕ) → length f ≡ field_size u → flag_at (length pre) u (pre ++ (f ++ rest)) ≡ pre ++ (flag_at 0 u f ++ rest)
unfolding flag_at field_size
flag_between (rotation P sign c s) pre f rest long = set_between pre f rest 20 sign (omega (arith, long))
flag_between (promotion c q) pre f rest long = refl
flag_between (projection M p v invnorm) pre f rest long = set_between pre f rest 21 v (omega (arith, long))
flag_between (correction P) pre f rest long = refl
flag_between (quarter_turn P) pre f rest long = refl

bare_flagged : (caller : Caller) (ts : List (Step Float)) (n : ℕ) (Q : Pauli) (pre bytes : List ℕ) → Pieces caller n ts bytes → Bare ts
    → flagged (length pre) (carried_steps Q ts) (pre ++ bytes) ≡ pre ++ folded_fields Q ts bytes
unfolding flagged carried_steps folded_fields left_bytes kept_of
bare_flagged caller [] n Q pre bytes p bare = refl
bare_flagged caller (t ∷ ts) n Q pre bytes p bare =
    let u : Step Float = carried_step Q t in
    let f : List ℕ = take (field_size t) bytes in
    let rest : List ℕ = drop (field_size t) bytes in
    let long : length f ≡ field_size u = piece_long caller n t ts bytes p ∙ sym (carried_size Q t) in
    let whole : pre ++ bytes ≡ pre ++ (f ++ rest) = ap (λ (l : List ℕ). pre ++ l) (sym (take-append-drop (field_size t) bytes)) in
    let one : flag_at (length pre) u (pre ++ bytes) ≡ (pre ++ flag_at 0 u f) ++ rest
    = ap (flag_at (length pre) u) whole ∙ flag_between u pre f rest long ∙ sym (append_assoc pre (flag_at 0 u f) rest) in
    let at : length pre + field_size u ≡ length (pre ++ flag_at 0 u f) = omega (arith, length-append pre (flag_at 0 u f), flag_length 0 u f, long) in
    let next = bare_flagged caller ts (width_after n t) (passed Q t) (pre ++ flag_at 0 u f) rest (behind_piece caller n t ts bytes p) bare.1 in
    ap₂ (λ (k : ℕ) (l : List ℕ). flagged k (carried_steps (passed Q t) ts) l) at one ∙ next ∙ append_assoc pre (flag_at 0 u f) (folded_fields (passed Q t) ts rest)
    ∙ rw (bare.0, kept_past Q t bare.0)

-- ---- the correction before them

-- the identity times Q, which acts second
times_identity : (Q : Pauli) → Fitting Q → folded_past {R = Float} (identity Q.n) (correction Q) ≡ Q
unfolding folded_past fires folded_by product
times_identity Q fits =
    same refl (rw (overlap_zero_r Q.z) (ap (λ (k : ℕ). k % 4) (omega arith) ∙ mod-eq_of_lt (omega (arith, fits.phase)))) (xor_zero_r Q.x) (xor_zero_r Q.z)

-- no row refuses the correction
pub correction_allowed : (caller : Caller) (n : ℕ) (Q : Pauli) → Admitted Q → Q.n ≤ widest_kernel → step_row caller n (correction Q) ≡ 0
unfolding step_row width_row row first
correction_allowed caller n Q a h = rw (admitted_fits Q a, le-ltb widest_kernel Q.n h)

module _ (caller : Caller) (narrow : caller.widest ≤ widest_kernel) (s : List ℕ) (R : Run) (reads : run_of caller s ≡ accepted R) (Q : Pauli) (admitted : Admitted Q)
    (width : Q.n ≡ R.width) where
  -- the run that begins with the correction
  abbrev pub begun : Run
  begun = record { width = R.width; steps = correction Q ∷ R.steps }

  parts : RunPieces caller s R
  parts = run_pieces caller s R reads

  abbrev start : List ℕ
  start = start_bytes R.width

  whole : behind_start Q s ≡ start ++ (correction_field Q ++ parts.bytes)
  unfolding behind_start
  whole = ap (λ (l : List ℕ). take 4 l ++ (correction_field Q ++ drop 4 l)) parts.whole

  first_piece : Piece caller R.width (correction Q) (correction_field Q)
  first_piece =
      let within = (run_allowed caller s R reads).width in
      correction_piece caller R.width Q width within (correction_allowed caller R.width Q admitted (omega (arith, width, within, narrow)))

  pub begun_read : length s + 20 ≤ most_bytes → run_of caller (behind_start Q s) ≡ accepted begun
  unfolding width_after
  begun_read short = pieces_run caller (behind_start Q s) begun (record {
    short = rw (behind_length Q s) short;
    bytes = correction_field Q ++ parts.bytes;
    whole = whole;
    pieces = record { first = correction_field Q; rest = parts.bytes; both = refl; this = first_piece; that = parts.pieces };
  })

  module _ (bare : Bare R.steps) where
    past : folded_past {R = Float} (identity R.width) (correction Q) ≡ Q
    past = ap (λ (n : ℕ). folded_past {R = Float} (identity n) (correction Q)) (sym width) ∙ times_identity Q admitted.fitting

    pub begun_folded : folded_run begun (behind_start Q s) ≡ carried_run Q R s
    unfolding folded_run folded_fields left_bytes kept_of fires field_size carried_run
    begun_folded =
        ap (λ (l : List ℕ). take 4 l ++ folded_fields (identity R.width) (correction Q ∷ R.steps) (drop 4 l)) whole
        ∙ ap₂ (λ (P : Pauli) (l : List ℕ). start ++ folded_fields P R.steps l) past (drop_at (correction_field Q) parts.bytes 20 (field_length Q))
        ∙ sym (bare_flagged caller R.steps R.width Q start parts.bytes parts.pieces bare)
        ∙ ap (flagged 4 (carried_steps Q R.steps)) (sym parts.whole)

    pub begun_end : folded_end (identity R.width) begun.steps ≡ end_pauli Q R.steps
    unfolding folded_end
    begun_end = ap (λ (P : Pauli). folded_end P R.steps) past ∙ bare_end R.steps Q bare
