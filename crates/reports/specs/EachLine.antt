-- The text of one step is a line of the text of all: the line whose number is the step's, as both count from 0.
use Rattle.std.specs.Prelude.{◌≡◌, Bool, true, false, cond, List, [], ◌∷◌, ◌++◌, ℕ, zero, suc, ◌+◌, eqb, Float, length}
use Rattle.std.proofs.Math.Path.{refl}
use Rattle.std.proofs.Common.{sym, ap, ◌∙◌, append-nil, append_assoc, add-zero, zero-add, arith}
use Rattle.std.proofs.Math.Option.{some}
use Rattle.std.proofs.Math.ListN.{get_elem?}
use Rattle.answers.specs.Answer.Answer.{accepted}
use Rattle.bitlaws.specs.Digit.{digit}
use Rattle.paulilaws.specs.Pauli.{Pauli, coefficient}
use Rattle.paulilaws.specs.Letter.{Letter, letter_at}
use Rattle.amplitudelaws.specs.Step.{Step}
use Rattle.amplitudelaws.specs.Step.Step.{rotation, promotion, projection, correction, quarter_turn}
use Rattle.framelaws.specs.Caller.{service}
use Rattle.framelaws.specs.Carrying.{end_pauli}
use Rattle.framelaws.specs.Reporting.{Framed, Report, framed_steps, report_of}
use Rattle.framelaws.specs.Reporting.Report.{no_flag, flagged}
use Rattle.lines.specs.Lines.{decimal, width_line}
use Rattle.lines.specs.Newlines.{line_count, count_append, width_one}
use Rattle.paulitext.specs.Text.{prefix, byte_of, letters_from, body, shown}
use Rattle.runlaws.specs.Calls.{finding}
use Rattle.runlaws.specs.Found.{finding_found, framing_is}
use Rattle.runlaws.specs.Pieces.{Split}
use Rattle.reports.specs.Listing.{step_lines, frames_text, answer_text, step_listed, steps_listed}
use Rattle.reports.specs.Text.{qubit_text, qubits_from, qubits_text, flag_text, kind_text, step_text, frame_text, step_line, end_line}

-- ---- lines

-- a newline ends it, and stands nowhere else in it
pub record IsLine (line : List ℕ) : Type 0 where
  pub text : List ℕ
  pub is : line ≡ text ++ 10 ∷ []
  pub bare : line_count text ≡ 0

-- n lines, one behind the other, and nothing else
abbrev pub Lines : ℕ → List ℕ → Type 0
Lines zero text = text ≡ []
Lines (suc n) text = Split IsLine (Lines n) text

-- Line i of a text of n lines: i lines are before it.
pub record LineAt (n i : ℕ) (text line : List ℕ) : Type 0 where
  pub before : List ℕ
  pub after : List ℕ
  pub behind : ℕ
  pub whole : text ≡ before ++ (line ++ after)
  pub number : Lines i before
  pub this : IsLine line
  pub rest : Lines behind after
  pub count : i + suc behind ≡ n

-- ---- the pieces of a line have no newline

none_append : (s t : List ℕ) → line_count s ≡ 0 → line_count t ≡ 0 → line_count (s ++ t) ≡ 0
none_append s t p q = count_append s t ∙ omega (arith, p, q)

decimal_none : (n : ℕ) → line_count (decimal n) ≡ 0
unfolding width_line line_count
decimal_none n =
    let ended : line_count (decimal n ++ 10 ∷ []) ≡ 1 = omega (arith, width_one n) in
    omega (arith, ended, count_append (decimal n) (10 ∷ []))

letters_none : (q count : ℕ) (P : Pauli) → line_count (letters_from q count P) ≡ 0
unfolding letters_from line_count
letters_none q zero P = refl
letters_none q (suc count) P = omega (arith, by (letter_at q P), letters_none (suc q) count P)
  where
    by : (l : Letter) → ◌≡◌ {A = ℕ} (cond (eqb (byte_of l) 10) 1 0) 0
    by Letter.I = refl
    by Letter.X = refl
    by Letter.Z = refl
    by Letter.Y = refl

body_none : (n : ℕ) (P : Pauli) → line_count (body n P) ≡ 0
unfolding body
body_none zero P = unfold line_count in refl
body_none (suc n) P = letters_none 0 (suc n) P

prefix_none : (c : ℕ) → line_count (prefix c) ≡ 0
unfolding prefix line_count
prefix_none zero = refl
prefix_none (suc zero) = refl
prefix_none (suc (suc zero)) = refl
prefix_none (suc (suc (suc c))) = refl

shown_none : (P : Pauli) → line_count (shown P) ≡ 0
unfolding shown
shown_none P = none_append (prefix (coefficient P)) (body P.n P) (prefix_none (coefficient P)) (body_none P.n P)

qubits_none : (q count mask : ℕ) → line_count (qubits_from q count mask) ≡ 0
unfolding qubits_from line_count
qubits_none q zero mask = refl
qubits_none q (suc count) mask = none_append (qubit_text q mask) (qubits_from (suc q) count mask) one (qubits_none (suc q) count mask)
  where
    by : (t : Bool) → line_count (cond t (32 ∷ decimal q) []) ≡ 0
    by true = omega (arith, decimal_none q)
    by false = refl

    one : line_count (qubit_text q mask) ≡ 0
    one = unfold qubit_text in by (eqb (digit q mask) 1)

mask_none : (n mask : ℕ) → line_count (qubits_text n mask) ≡ 0
unfolding qubits_text line_count
mask_none n mask = by (eqb mask 0)
  where
    by : (t : Bool) → line_count (cond t [] (32 ∷ 113 ∷ 117 ∷ 98 ∷ 105 ∷ 116 ∷ 115 ∷ qubits_from 0 n mask)) ≡ 0
    by true = refl
    by false = omega (arith, qubits_none 0 n mask)

flag_none : (n : ℕ) (r : Report) → line_count (flag_text n r) ≡ 0
unfolding flag_text line_count
flag_none n no_flag = refl
flag_none n (flagged true mask) = omega (arith, mask_none n mask)
flag_none n (flagged false mask) = omega (arith, mask_none n mask)

kind_none : (t : Step Float) → line_count (kind_text t) ≡ 0
unfolding kind_text line_count
kind_none (rotation P sign c s) = omega (arith, shown_none P)
kind_none (promotion c q) = refl
kind_none (projection M p v invnorm) = omega (arith, shown_none M)
kind_none (correction P) = omega (arith, shown_none P)
kind_none (quarter_turn P) = omega (arith, shown_none P)

text_none : (i : ℕ) (t : Step Float) → line_count (step_text i t) ≡ 0
unfolding step_text line_count
text_none i t = omega (arith, count_append (decimal i) (32 ∷ kind_text t), decimal_none i, kind_none t)

frame_none : (Q : Pauli) → line_count (frame_text Q) ≡ 0
unfolding frame_text line_count
frame_none Q = omega (arith, shown_none Q)

-- ---- the lines

step_is : (i : ℕ) (f : Framed Float) → IsLine (step_line i f)
unfolding step_line
step_is i f =
    let label : List ℕ = step_text i f.step in
    let frame : List ℕ = frame_text f.frame in
    let flag : List ℕ = flag_text f.frame.n (report_of f) in
    record {
      text = label ++ (frame ++ flag);
      is = ap (λ (l : List ℕ). label ++ l) (sym (append_assoc frame flag (10 ∷ []))) ∙ sym (append_assoc label (frame ++ flag) (10 ∷ []));
      bare = none_append label (frame ++ flag) (text_none i f.step) (none_append frame flag (frame_none f.frame) (flag_none f.frame.n (report_of f)));
    }

end_is : (E : Pauli) → IsLine (end_line E)
unfolding end_line
end_is E = record { text = 101 ∷ 110 ∷ 100 ∷ frame_text E; is = refl; bare = unfold line_count in omega (arith, frame_none E) }

-- the lines from number i on, and the end's
rest_lines : (i : ℕ) (fs : List (Framed Float)) (E : Pauli) → Lines (suc (length fs)) (step_lines i fs ++ end_line E)
unfolding step_lines
rest_lines i [] E = record { first = end_line E; rest = []; both = sym (append-nil (end_line E)); this = end_is E; that = refl }
rest_lines i (f ∷ fs) E = record {
  first = step_line i f;
  rest = step_lines (suc i) fs ++ end_line E;
  both = append_assoc (step_line i f) (step_lines (suc i) fs) (end_line E);
  this = step_is i f;
  that = rest_lines (suc i) fs E;
}

line_at : (k : ℕ) (fs : List (Framed Float)) (E : Pauli) (i : ℕ) (f : Framed Float) → get_elem? fs i ≡ some f
    → LineAt (suc (length fs)) i (step_lines k fs ++ end_line E) (step_line (k + i) f)
unfolding step_lines
line_at k [] E i f e = absurd (let z : ◌≡◌ {A = ℕ} 0 1 = cc in omega arith)
line_at k (g ∷ fs) E zero f e =
    let is : g ≡ f = cc in
    rw (add-zero k, ← is) (record {
      before = [];
      after = step_lines (suc k) fs ++ end_line E;
      behind = suc (length fs);
      whole = append_assoc (step_line k g) (step_lines (suc k) fs) (end_line E);
      number = refl;
      this = step_is k g;
      rest = rest_lines (suc k) fs E;
      count = omega arith;
    })
line_at k (g ∷ fs) E (suc i) f e =
    let r = line_at (suc k) fs E i f e in
    let same : suc k + i ≡ k + suc i = omega arith in
    rw (← same) (record {
      before = step_line k g ++ r.before;
      after = r.after;
      behind = r.behind;
      whole =
          append_assoc (step_line k g) (step_lines (suc k) fs) (end_line E) ∙ ap (λ (l : List ℕ). step_line k g ++ l) r.whole
          ∙ sym (append_assoc (step_line k g) r.before (step_line (suc k + i) f ++ r.after));
      number = record { first = step_line k g; rest = r.before; both = refl; this = step_is k g; that = r.number };
      this = r.this;
      rest = r.rest;
      count = omega (arith, r.count);
    })

-- ---- the texts

-- A step that is found: what list_step lists of it is the line of its number in what list_steps lists, which has a line more than there are steps.
pub record OwnLine (s : List ℕ) (Q : Pauli) (i : ℕ) : Type 0 where
  pub steps : ℕ
  pub line : LineAt (suc steps) i (steps_listed s Q) (step_listed s Q i)

pub own_line : (s : List ℕ) (Q : Pauli) (i : ℕ) (f : Framed Float) → finding service s Q i ≡ accepted f → OwnLine s Q i
unfolding steps_listed step_listed answer_text frames_text
own_line s Q i f e =
    let k = finding_found service s Q i f e in
    let frames = framing_is service s Q k.run k.read k.placed in
    let fs = framed_steps Q k.run.steps in
    record { steps = length fs; line = rw (frames, e) (rw (zero-add i) at (line_at 0 fs (end_pauli Q k.run.steps) i f k.is)) }
