-- The bytes that folding leaves are read as the steps that it leaves; how many they are; and that a run without corrections is left as it was.
use Rattle.std.specs.Prelude.{◌≡◌, refl, ℕ, ◌+◌, ◌*◌, Float, length, drop}
use Rattle.std.proofs.Common.{sym, ap₂, ◌∙◌, arith, length-append, take-append-drop}
use Rattle.std.proofs.Math.Path.{ap}
use mathlib.Core.List.{List, [], ◌∷◌, ◌++◌}
use Rattle.std.proofs.Math.Option.{none}
use Rattle.std.proofs.Math.ListN.{take}
use Rattle.std.proofs.Math.Seq.{take-append_seam, drop-append_seam}
use Rattle.answers.specs.Answer.Answer.{accepted}
use Rattle.paulilaws.specs.Pauli.{Pauli, identity}
use Rattle.amplitudelaws.specs.Step.{Step, width_after, last_width}
use Rattle.amplitudelaws.specs.Step.Step.{correction}
use Rattle.framelaws.specs.Caller.{Caller}
use Rattle.framelaws.specs.Carried.{after_carried}
use Rattle.framelaws.specs.Carrying.{carried_step, passed}
use Rattle.framelaws.specs.Folded.{kept_past, kept_steps, firing_of, Firing}
use Rattle.framelaws.specs.Folding.{one_fired, fires, left_of, folded_past, folded_steps, folded_end, corrections, Bare}
use Rattle.framelaws.specs.FoldedSteps.{bare_end}
use Rattle.framelaws.proofs.Identity.{phase_step, phase_passed, unchanged}
use Rattle.framelaws.specs.Folded.Firing.{firing, keeping}
use Rattle.runlaws.specs.Fields.{step_field, step_read_lem}
use Rattle.runlaws.specs.Flags.{field_size, flag_at}
use Rattle.runlaws.proofs.Flagged.{flag_length}
use Rattle.runlaws.specs.FoldedRun.{kept_of, left_bytes, folded_fields, folded_run}
use Rattle.runlaws.proofs.Overwritten.{own_flag}
use Rattle.runlaws.specs.Pieces.{Piece, Pieces}
use Rattle.runlaws.proofs.Pieces.{piece_size}
use Rattle.runlaws.proofs.Reread.{step_carried}
use Rattle.runlaws.specs.Run.{Run, run_of}
use Rattle.runlaws.specs.RunPieces.{start_bytes, RunPieces}
use Rattle.runlaws.proofs.RunPieces.{run_pieces, pieces_run}
use Rattle.runlaws.specs.WholeRun.{run_allowed}

-- ---- pieces

-- a piece with the flag that Q leaves is the carried step's
piece_carried : (caller : Caller) (n : ℕ) (Q : Pauli) (t : Step Float) (f : List ℕ) → Piece caller n t f → Piece caller n (carried_step Q t) (flag_at 0 (carried_step Q t) f)
piece_carried caller n Q t f p = record {
  read = rw (flag_length 0 (carried_step Q t) f, after_carried n Q t) (step_carried caller f (record { at = 0; width = n }) Q _ t p.read);
}

-- so is what is left of a step that stays
piece_left : (caller : Caller) (n : ℕ) (Q : Pauli) (t : Step Float) (f : List ℕ) → fires t ≡ none → Piece caller n t f → Piece caller n (carried_step Q t) (left_bytes Q t f)
unfolding left_bytes kept_of
piece_left caller n Q t f stays p = rw stays (piece_carried caller n Q t f p)

module _ (caller : Caller) (n : ℕ) (t : Step Float) (ts : List (Step Float)) (bytes : List ℕ) (p : Pieces caller n (t ∷ ts) bytes) where
  -- a piece and what stands behind it are found by the step's size
  takes : take (field_size t) bytes ≡ p.first
  takes = ap₂ take (sym (piece_size p.this)) p.both ∙ take-append_seam p.first p.rest

  drops : drop (field_size t) bytes ≡ p.rest
  drops = ap₂ drop (sym (piece_size p.this)) p.both ∙ drop-append_seam p.first p.rest

  pub behind_piece : Pieces caller (width_after n t) ts (drop (field_size t) bytes)
  behind_piece = rw drops p.that

  pub piece_long : length (take (field_size t) bytes) ≡ field_size t
  piece_long = ap length takes ∙ piece_size p.this

  pieces_long : length bytes ≡ field_size t + length (drop (field_size t) bytes)
  pieces_long = ap length p.both ∙ length-append p.first p.rest ∙ rw (piece_size p.this, drops)

-- ---- the bytes that are left are the pieces of the steps that are left

module _ (caller : Caller) (ts : List (Step Float)) where
  -- what is known of the steps behind, whatever the Pauli is there
  abbrev Behind : ℕ → Type 0
  Behind n = (Q : Pauli) (bytes : List ℕ) → Pieces caller n ts bytes → Pieces caller n (folded_steps Q ts) (folded_fields Q ts bytes)

  one_folded : (t : Step Float) → Firing t → (n : ℕ) (Q : Pauli) (bytes : List ℕ) → Pieces caller n (t ∷ ts) bytes → Behind (width_after n t)
      → Pieces caller n (folded_steps Q (t ∷ ts)) (folded_fields Q (t ∷ ts) bytes)
  unfolding folded_steps folded_fields left_of left_bytes kept_of fires width_after
  one_folded _ (firing P) n Q bytes p rest = rest _ _ (behind_piece caller n (correction P) ts bytes p)
  one_folded t (keeping stays) n Q bytes p rest =
      let behind = rest (passed Q t) (drop (field_size t) bytes) (behind_piece caller n t ts bytes p) in
      rw (kept_steps Q t stays ts, kept_past Q t stays)
      (record {
        first = left_bytes Q t (take (field_size t) bytes);
        rest = folded_fields (passed Q t) ts (drop (field_size t) bytes);
        both = refl;
        this = piece_left caller n Q t _ stays (rw (takes caller n t ts bytes p) p.this);
        that = rw (after_carried n Q t) behind;
      })

pieces_folded : (caller : Caller) (ts : List (Step Float)) (n : ℕ) (Q : Pauli) (bytes : List ℕ) → Pieces caller n ts bytes
    → Pieces caller n (folded_steps Q ts) (folded_fields Q ts bytes)
unfolding folded_steps folded_fields
pieces_folded caller [] n Q bytes p = p
pieces_folded caller (t ∷ ts) n Q bytes p = one_folded caller ts t (firing_of t) n Q bytes p (pieces_folded caller ts (width_after n t))

-- ---- how many they are: twenty fewer for each correction

one_length : (t : Step Float) → Firing t → (Q : Pauli) (f : List ℕ) → length f ≡ field_size t → length (left_bytes Q t f) + 20 * one_fired (fires t) ≡ field_size t
unfolding left_bytes kept_of fires one_fired field_size
one_length _ (firing P) Q f e = refl
one_length t (keeping stays) Q f e = rw stays (omega (arith, flag_length 0 (carried_step Q t) f, e))

fields_length : (caller : Caller) (ts : List (Step Float)) (n : ℕ) (Q : Pauli) (bytes : List ℕ) → Pieces caller n ts bytes
    → length (folded_fields Q ts bytes) + 20 * corrections ts ≡ length bytes
unfolding folded_fields corrections
fields_length caller [] n Q bytes p = omega arith
fields_length caller (t ∷ ts) n Q bytes p =
    let left : List ℕ = left_bytes Q t (take (field_size t) bytes) in
    let rest : List ℕ = folded_fields (folded_past Q t) ts (drop (field_size t) bytes) in
    omega (
      arith,
      length-append left rest,
      one_length t (firing_of t) Q (take (field_size t) bytes) (piece_long caller n t ts bytes p),
      fields_length caller ts (width_after n t) (folded_past Q t) (drop (field_size t) bytes) (behind_piece caller n t ts bytes p),
      pieces_long caller n t ts bytes p,
    )

-- ---- the whole run

module _ (caller : Caller) (s : List ℕ) (R : Run) (e : run_of caller s ≡ accepted R) where
  -- in pieces: the start field's four bytes, and those that are left
  parts : RunPieces caller s R
  parts = run_pieces caller s R e

  abbrev left : List ℕ
  left = folded_fields (identity R.width) R.steps parts.bytes

  whole : folded_run R s ≡ start_bytes R.width ++ left
  unfolding folded_run
  whole = ap (λ (l : List ℕ). take 4 l ++ folded_fields (identity R.width) R.steps (drop 4 l)) parts.whole

  pub folded_length : length (folded_run R s) + 20 * corrections R.steps ≡ length s
  folded_length =
      omega (arith, ap length whole, ap length parts.whole, fields_length caller R.steps R.width (identity R.width) parts.bytes parts.pieces)

  -- it is read as the steps that are left
  pub refold : run_of caller (folded_run R s) ≡ accepted (record { width = R.width; steps = folded_steps (identity R.width) R.steps })
  refold = pieces_run caller (folded_run R s) _ (record {
    short = omega (arith, folded_length, parts.short);
    bytes = left;
    whole = whole;
    pieces = pieces_folded caller R.steps R.width (identity R.width) parts.bytes parts.pieces;
  })

-- ---- a run without corrections is left as it was

-- a piece has its own step's flag
piece_own : (caller : Caller) (n : ℕ) (t : Step Float) (f : List ℕ) → Piece caller n t f → flag_at 0 t f ≡ f
piece_own caller n t f p = let k = step_field caller f (record { at = 0; width = n }) _ t p.read in own_flag f 0 n k.field k.here k.is

bare_fields : (caller : Caller) (ts : List (Step Float)) (n : ℕ) (bytes : List ℕ) → Pieces caller n ts bytes → Bare ts → folded_fields (identity n) ts bytes ≡ bytes
unfolding folded_fields left_bytes kept_of
bare_fields caller [] n bytes p bare = refl
bare_fields caller (t ∷ ts) n bytes p bare =
    let row = (step_read_lem caller p.first (record { at = 0; width = n }) _ t p.this.read).row in
    let steady : carried_step (identity n) t ≡ t = phase_step n 0 caller t row in
    let past : folded_past (identity n) t ≡ identity (width_after n t) = kept_past (identity n) t bare.0 ∙ phase_passed n 0 (omega arith) t in
    let f : List ℕ = take (field_size t) bytes in
    let own : flag_at 0 t f ≡ f = piece_own caller n t f (rw (takes caller n t ts bytes p) p.this) in
    rw (bare.0, steady, own, past, bare_fields caller ts (width_after n t) (drop (field_size t) bytes) (behind_piece caller n t ts bytes p) bare.1)
    (take-append-drop (field_size t) bytes)

module _ (caller : Caller) (s : List ℕ) (R : Run) (e : run_of caller s ≡ accepted R) (bare : Bare R.steps) where
  pub bare_run : folded_run R s ≡ s
  bare_run =
      let p = parts caller s R e in
      whole caller s R e ∙ ap (λ (l : List ℕ). start_bytes R.width ++ l) (bare_fields caller R.steps R.width p.bytes p.pieces bare) ∙ sym p.whole

  pub bare_identity : folded_end (identity R.width) R.steps ≡ identity (last_width R.width R.steps)
  bare_identity = bare_end R.steps (identity R.width) bare ∙ (unchanged caller R.width 0 R.steps (omega arith) (run_allowed caller s R e).allowed).end
