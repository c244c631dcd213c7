-- How long a report can be: no buffer of `most_text` bytes is too short.
use Rattle.std.specs.Prelude.{◌≡◌, Bool, true, false, cond, List, [], ◌∷◌, ◌++◌, ℕ, suc, ◌+◌, ◌*◌, ◌^◌, ◌≤◌, ◌<◌, Float}
use Rattle.std.proofs.Math.Path.{refl}
use Rattle.std.proofs.Common.{sym, ◌∙◌}
use Rattle.std.proofs.Math.Option.{Option, none, some}
use native.Mathlib.Omega.{arith}
use Rattle.std.proofs.Math.ListN.{length, length-append, get_elem?}
use Rattle.answers.specs.Answer.{Answer}
use Rattle.answers.specs.Answer.Answer.{accepted, refused, refused_at}
use Rattle.answers.specs.Row.{answered, accepted_row, refused_accepted, refused_at_accepted}
use Rattle.paulilaws.specs.Pauli.{Pauli}
use Rattle.paulitext.specs.Calls.{read_call}
use Rattle.std.specs.Prelude.{Result}
use Rattle.refusals.specs.declared.Row.{Row}
use Rattle.std.specs.Prelude.{Ok}
use Rattle.amplitudelaws.specs.Step.{Step, width_after}
use Rattle.amplitudelaws.specs.Step.Step.{rotation, promotion, projection, correction, quarter_turn}
use Rattle.framelaws.specs.Caller.{Caller, service}
use Rattle.framelaws.specs.Carrying.{passed, end_pauli}
use Rattle.framelaws.specs.PassRow.{placed_row}
use Rattle.framelaws.specs.Reporting.{Framed, framed_steps}
use Rattle.framelaws.specs.Reported.{framed_none}
use Rattle.runlaws.specs.Found.{finding_found}
use Rattle.lines.specs.Calls.{Lined}
use Rattle.lines.specs.Lengths.{refusal_length}
use Rattle.lines.specs.Pieces.{lined_fits}
use Rattle.runlaws.specs.Calls.{Frames, frames_of, on_run, of_run, framing, finding}
use Rattle.runlaws.specs.Field.{most_bytes}
use Rattle.runlaws.specs.Flags.{field_size}
use Rattle.runlaws.specs.Pieces.{Pieces}
use Rattle.runlaws.proofs.Pieces.{piece_size}
use Rattle.runlaws.specs.Run.{Run, run_of}
use Rattle.runlaws.specs.RunPieces.{start_bytes}
use Rattle.runlaws.proofs.RunPieces.{run_pieces}
use Rattle.reports.specs.Input.{before, after, has, is_digit, grown, no_step, number_from, number}
use Rattle.reports.specs.Lengths.{byte_digits, step_most, end_most, refusal_at_most}
use Rattle.reports.specs.Listing.{step_lines, frames_text, answer_text, step_listed, steps_listed, asked, report_listed}
use Rattle.reports.specs.NarrowRun.{NarrowFramed, run_frames_narrow, run_end_narrow, found_narrow}
use Rattle.reports.specs.Places.{Small, read_small, framing_small, finding_small}
use Rattle.reports.specs.Text.{step_line, end_line}

-- 3,448 lines of at most 128 bytes for the steps, and one of 26 for the end
abbrev pub most_text : ℕ
most_text = 441370

-- ---- how many steps a run has: the shortest field has 19 bytes, the start field 4 and the end field 3

size_most : (t : Step Float) → 19 ≤ field_size t
unfolding field_size
size_most (rotation P sign c s) = omega arith
size_most (promotion c q) = omega arith
size_most (projection M p v invnorm) = omega arith
size_most (correction P) = omega arith
size_most (quarter_turn P) = omega arith

pieces_long : (caller : Caller) (n : ℕ) (ts : List (Step Float)) (bytes : List ℕ) → Pieces caller n ts bytes → 19 * length ts + 3 ≤ length bytes
pieces_long caller n [] bytes p = rw p.is (omega arith)
pieces_long caller n (t ∷ ts) bytes p =
    rw p.both
    (omega (arith, length-append p.first p.rest, piece_size p.this, size_most t, pieces_long caller (width_after n t) ts p.rest p.that))

steps_most : (caller : Caller) (s : List ℕ) (R : Run) → run_of caller s ≡ accepted R → length R.steps ≤ 3448
steps_most caller s R e =
    let p = run_pieces caller s R e in
    let long = pieces_long caller R.width R.steps p.bytes p.pieces in
    let short : length (start_bytes R.width ++ p.bytes) ≤ most_bytes = rw p.whole at p.short in
    omega (arith, long, short)

-- no run has a step of the number that stands for what is no number, so none is listed for it
pub none_numbered : (s : List ℕ) (Q : Pauli) (f : Framed Float) → finding service s Q no_step ≡ accepted f → ⊥
none_numbered s Q f e =
    let k = finding_found service s Q no_step f e in
    none_some (sym (framed_none Q k.run.steps no_step (omega (arith, steps_most service s k.run k.read))) ∙ k.is)
  where
    none_some : {g : Framed Float} → ◌≡◌ {A = Option (Framed Float)} none (some g) → ⊥
    none_some e = let z : ◌≡◌ {A = ℕ} 0 1 = cc in omega arith

-- ---- the lines of a run's steps

framed_length : (Q : Pauli) (ts : List (Step Float)) → length (framed_steps Q ts) ≡ length ts
unfolding framed_steps
framed_length Q [] = refl
framed_length Q (t ∷ ts) = omega (arith, framed_length (passed Q t) ts)

lines_most : (i : ℕ) (fs : List (Framed Float)) → i + length fs < 2 ^ 64 → ((j : ℕ) (f : Framed Float) → get_elem? fs j ≡ some f → NarrowFramed f)
    → length (step_lines i fs) ≤ 128 * length fs
unfolding step_lines
lines_most i [] h narrow = omega arith
lines_most i (f ∷ fs) h narrow =
    let k = narrow 0 f refl in
    omega (
      arith,
      length-append (step_line i f) (step_lines (suc i) fs),
      step_most i f (omega (arith, h)) k.frame k.step,
      lines_most (suc i) fs (omega (arith, h)) (λ j. narrow (suc j)),
    )

module _ (s : List ℕ) (Q : Pauli) where
  frames_most : (R : Run) → run_of service s ≡ accepted R → placed_row Q R.width ≡ 0 → length (frames_text (frames_of Q R)) ≤ most_text
  unfolding frames_text
  frames_most R read placed =
      let few = steps_most service s R read in
      let size = framed_length Q R.steps in
      omega (
        arith,
        length-append (step_lines 0 (framed_steps Q R.steps)) (end_line (end_pauli Q R.steps)),
        lines_most 0 (framed_steps Q R.steps) (omega (arith, few, size)) (run_frames_narrow service (omega arith) s Q R read placed),
        end_most (end_pauli Q R.steps) (run_end_narrow service (omega arith) s Q R read placed).narrow,
        few,
        size,
      )

  framing_most : (F : Frames) → framing service s Q ≡ accepted F → length (frames_text F) ≤ most_text
  unfolding framing of_run on_run
  framing_most F e = by (run_of service s) refl e
    where
      by : (a : Answer Run) → run_of service s ≡ a → of_run a (λ R. answered (placed_row Q R.width) (frames_of Q R)) ≡ accepted F → length (frames_text F) ≤ most_text
      by (accepted R) read e =
          let k = accepted_row (placed_row Q R.width) (frames_of Q R) F (sym e) in
          rw k.1 (frames_most R read k.0)
      by (refused n) read e = absurd (refused_accepted e)
      by (refused_at n at) read e = absurd (refused_at_accepted e)

-- ---- a refusal is shorter

answer_most : {A : Type 0} (text : A → List ℕ) (a : Answer A) → Small a → ((v : A) → a ≡ accepted v → length (text v) ≤ most_text) → length (answer_text text a) ≤ most_text
unfolding answer_text Small
answer_most text (accepted v) h most = most v refl
answer_most text (refused n) h most = omega (arith, refusal_length n, byte_digits n h)
answer_most text (refused_at n at) h most = omega (arith, refusal_at_most n at h.0 (omega (arith, h.1)))

-- ---- what is asked for

pub steps_listed_most : (s : List ℕ) (Q : Pauli) → length (steps_listed s Q) ≤ most_text
unfolding steps_listed
steps_listed_most s Q = answer_most frames_text (framing service s Q) (framing_small s Q) (framing_most s Q)

pub step_listed_most : (s : List ℕ) (Q : Pauli) (i : ℕ) → i < 2 ^ 64 → length (step_listed s Q i) ≤ most_text
unfolding step_listed
step_listed_most s Q i h = answer_most (step_line i) (finding service s Q i) (finding_small s Q i)
    (λ f e. let k = found_narrow service (omega arith) s Q i f e in omega (arith, step_most i f h k.frame k.step))

number_from_most : (v : ℕ) (s : List ℕ) → v ≤ no_step → number_from v s ≤ no_step
unfolding number_from grown
number_from_most v [] h = h
number_from_most v (d ∷ s) h = by (is_digit d) (number_from_most (grown v d) s (omega arith))
  where
    by : (t : Bool) → number_from (grown v d) s ≤ no_step → cond t (number_from (grown v d) s) no_step ≤ no_step
    by true k = k
    by false k = omega arith

number_most : (s : List ℕ) → number s ≤ no_step
unfolding number
number_most [] = omega arith
number_most (d ∷ s) = number_from_most 0 (d ∷ s) (omega arith)

asked_most : (line s : List ℕ) (Q : Pauli) → length (asked line s Q) ≤ most_text
unfolding asked
asked_most line s Q = by (has 32 line)
  where
    i : ℕ
    i = number (after 32 line)

    by : (t : Bool) → length (cond t (step_listed s Q i) (steps_listed s Q)) ≤ most_text
    by true = step_listed_most s Q i (omega (arith, number_most (after 32 line)))
    by false = steps_listed_most s Q

pub report_most : (input : List ℕ) → length (report_listed input) ≤ most_text
unfolding report_listed
report_most input =
    let line : List ℕ = before 10 input in
    let s : List ℕ = after 10 input in
    answer_most (asked line s) (read_call (before 32 line)) (read_small (before 32 line)) (λ Q e. asked_most line s Q)

-- ---- so writing it there is not refused

pub report_fits : (input out : List ℕ) (r : Result ℕ Row) (left : List ℕ) → most_text ≤ length out → Lined (report_listed input) out r left → r ≡ Ok (length (report_listed input))
report_fits input out r left h l = (lined_fits (report_listed input) out r left (omega (arith, h, report_most input)) l).0
