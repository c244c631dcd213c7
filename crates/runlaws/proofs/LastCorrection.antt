-- A run with a correction right before its end field: it is read as the run's steps and then the correction, which acts on what they leave.
use Rattle.std.specs.Prelude.{◌≡◌, ℕ, ◌+◌, ◌-◌, ◌≤◌, Float, length, take, drop}
use Rattle.std.proofs.Math.Path.{refl, ap}
use Rattle.std.proofs.Common.{◌∙◌, arith, length-append}
use mathlib.Core.List.{List, [], ◌∷◌, ◌++◌, append_assoc}
use Rattle.std.proofs.Math.Seq.{take-append-add, drop-append-add}
use Rattle.answers.specs.Answer.Answer.{accepted}
use Rattle.paulilaws.specs.Pauli.{Pauli}
use Rattle.paulilaws.specs.Fitting.{Admitted}
use Rattle.amplitudelaws.specs.Rows.{widest_kernel}
use Rattle.amplitudelaws.specs.Step.{Step, width_after, last_width}
use Rattle.amplitudelaws.specs.Step.Step.{correction}
use Rattle.framelaws.specs.Caller.{Caller}
use Rattle.framelaws.specs.Memory.{Memory, stepped, ran}
use Rattle.runlaws.specs.Field.{most_bytes}
use Rattle.runlaws.proofs.FirstCorrection.{correction_allowed}
use Rattle.runlaws.specs.PauliBytes.{correction_field}
use Rattle.runlaws.proofs.PauliBytes.{correction_piece}
use Rattle.runlaws.specs.Pieces.{end_bytes, Pieces}
use Rattle.runlaws.specs.Run.{Run, run_of}
use Rattle.runlaws.specs.RunPieces.{start_bytes}
use Rattle.runlaws.proofs.RunPieces.{run_pieces, pieces_run}
use Rattle.runlaws.specs.WithCorrection.{put_in, before_end, before_length}

-- ---- the bytes

-- bytes put in so far from the end, behind others
put_behind : (a b f : List ℕ) (k : ℕ) → k ≤ length b → put_in (length (a ++ b) - k) f (a ++ b) ≡ a ++ put_in (length b - k) f b
put_behind a b f k h =
    let place : length (a ++ b) - k ≡ length a + (length b - k) = omega (arith, length-append a b) in
    rw (place, take-append-add, drop-append-add) (append_assoc a (take (length b - k) b) (f ++ drop (length b - k) b))

end_behind : (E : Pauli) (a b : List ℕ) → 3 ≤ length b → before_end E (a ++ b) ≡ a ++ before_end E b
unfolding before_end
end_behind E a b h = put_behind a b (correction_field E) _ (omega (arith, h))

end_left : (caller : Caller) (n : ℕ) (ts : List (Step Float)) (bytes : List ℕ) → Pieces caller n ts bytes → 3 ≤ length bytes
end_left caller n [] bytes p = omega (arith, ap length p.is)
end_left caller n (t ∷ ts) bytes p =
    omega (arith, ap length p.both, length-append p.first p.rest, end_left caller (width_after n t) ts p.rest p.that)

-- ---- the steps

module _ (caller : Caller) (narrow : caller.widest ≤ widest_kernel) (E : Pauli) (admitted : Admitted E) where
  pieces_last : (n : ℕ) (ts : List (Step Float)) (bytes : List ℕ) → E.n ≡ last_width n ts → Pieces caller n ts bytes
      → Pieces caller n (ts ++ correction E ∷ []) (before_end E bytes)
  unfolding last_width width_after before_end
  pieces_last n [] bytes width p =
      let row = correction_allowed caller n E admitted (omega (arith, width, p.within, narrow)) in
      rw p.is (record {
        first = correction_field E;
        rest = end_bytes;
        both = refl;
        this = correction_piece caller n E width p.within row;
        that = record { within = p.within; is = refl };
      })
  pieces_last n (t ∷ ts) bytes width p = record {
    first = p.first;
    rest = before_end E p.rest;
    both = ap (before_end E) p.both ∙ end_behind E p.first p.rest (end_left caller (width_after n t) ts p.rest p.that);
    this = p.this;
    that = pieces_last (width_after n t) ts p.rest width p.that;
  }

  module _ (s : List ℕ) (R : Run) (reads : run_of caller s ≡ accepted R) (width : E.n ≡ last_width R.width R.steps) where
    -- the run that ends with the correction
    abbrev pub ended : Run
    ended = record { width = R.width; steps = R.steps ++ correction E ∷ [] }

    pub ended_read : length s + 20 ≤ most_bytes → run_of caller (before_end E s) ≡ accepted ended
    ended_read short =
        let parts = run_pieces caller s R reads in
        let start : List ℕ = start_bytes R.width in
        let last = end_left caller R.width R.steps parts.bytes parts.pieces in
        pieces_run caller (before_end E s) ended (record {
          short = rw (before_length E s) short;
          bytes = before_end E parts.bytes;
          whole = ap (before_end E) parts.whole ∙ end_behind E start parts.bytes last;
          pieces = pieces_last R.width R.steps parts.bytes width parts.pieces;
        })

-- ---- what they leave

pub ran_last : (n : ℕ) (ts : List (Step Float)) (t : Step Float) (m : Memory) → ran n (ts ++ t ∷ []) m ≡ stepped (last_width n ts) t (ran n ts m)
unfolding ran last_width
ran_last n [] t m = refl
ran_last n (u ∷ ts) t m = ran_last (width_after n u) ts t (stepped n u m)

pub width_last : (n : ℕ) (ts : List (Step Float)) (t : Step Float) → last_width n (ts ++ t ∷ []) ≡ width_after (last_width n ts) t
unfolding last_width
width_last n [] t = refl
width_last n (u ∷ ts) t = width_last (width_after n u) ts t
