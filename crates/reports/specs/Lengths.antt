-- How long the texts are at most.
use Rattle.std.specs.Prelude.{◌≡◌, refl, Bool, cond, ℕ, zero, suc, ◌+◌, ◌*◌, ◌^◌, ◌≤◌, ◌<◌, max, eqb, Float}
use Rattle.std.proofs.Common.{◌∙◌, length-append}
use Rattle.std.proofs.Math.Bool.{true, false}
use mathlib.Core.List.{List, [], ◌∷◌, ◌++◌}
use native.Mathlib.Omega.{arith}
use Rattle.std.proofs.Math.ListN.{length}
use Rattle.bitlaws.specs.Digit.{digit}
use Rattle.paulilaws.specs.Pauli.{Pauli, coefficient}
use Rattle.paulitext.specs.Laws.{letters_length}
use Rattle.paulitext.specs.Text.{prefix, body, shown}
use Rattle.amplitudelaws.specs.Step.{Step}
use Rattle.amplitudelaws.specs.Step.Step.{rotation, promotion, projection, correction, quarter_turn}
use Rattle.framelaws.specs.Caller.{widest_run}
use Rattle.framelaws.specs.Reporting.{Report, Framed, report_of}
use Rattle.framelaws.specs.Reporting.Report.{no_flag, flagged}
use Rattle.lines.specs.Lengths.{decimal_most}
use Rattle.lines.specs.Lines.{decimal}
use Rattle.reports.specs.Narrow.{NarrowPauli, NarrowStep}
use Rattle.reports.specs.Text.{qubit_text, qubits_from, qubits_text, flag_text, kind_text, step_text, frame_text, step_line, end_line, refusal_at_line}

-- ---- a number

pub word_digits : (n : ℕ) → n < 2 ^ 64 → length (decimal n) ≤ 20
word_digits n h = decimal_most 19 n (omega (arith, h))

pub byte_digits : (n : ℕ) → n < 256 → length (decimal n) ≤ 3
byte_digits n h = decimal_most 2 n (omega (arith, h))

-- ---- a Pauli

prefix_most : (c : ℕ) → length (prefix c) ≤ 3
unfolding prefix
prefix_most zero = omega arith
prefix_most (suc zero) = omega arith
prefix_most (suc (suc zero)) = omega arith
prefix_most (suc (suc (suc c))) = omega arith

body_length_lem : (n : ℕ) (P : Pauli) → length (body n P) ≡ max n 1
unfolding body
body_length_lem zero P = refl
body_length_lem (suc n) P = letters_length 0 (suc n) P ∙ omega arith

pub shown_most : (P : Pauli) → length (shown P) ≤ 3 + max P.n 1
unfolding shown
shown_most P = omega (arith, length-append (prefix (coefficient P)) (body P.n P), prefix_most (coefficient P), body_length_lem P.n P)

pub narrow_most : (P : Pauli) → P.n ≤ widest_run → length (shown P) ≤ 15
narrow_most P h = omega (arith, shown_most P)

-- ---- the qubits of a mask: each below 100 has two digits at most

pub qubit_most : (q mask : ℕ) → q < 100 → length (qubit_text q mask) ≤ 3
unfolding qubit_text
qubit_most q mask h = by (eqb (digit q mask) 1)
  where
    by : (t : Bool) → length (cond t (32 ∷ decimal q) []) ≤ 3
    by true = omega (arith, decimal_most 1 q (omega (arith, h)))
    by false = omega arith

pub qubits_most : (q count mask : ℕ) → q + count ≤ 100 → length (qubits_from q count mask) ≤ 3 * count
unfolding qubits_from
qubits_most q zero mask h = omega arith
qubits_most q (suc count) mask h =
    omega (arith, length-append (qubit_text q mask) (qubits_from (suc q) count mask), qubit_most q mask (omega (arith, h)), qubits_most (suc q) count mask (omega (arith, h)))

module _ (n : ℕ) (h : n ≤ widest_run) where
  pub mask_most : (mask : ℕ) → length (qubits_text n mask) ≤ 43
  unfolding qubits_text
  mask_most mask = by (eqb mask 0)
    where
      by : (t : Bool) → length (cond t [] (32 ∷ 113 ∷ 117 ∷ 98 ∷ 105 ∷ 116 ∷ 115 ∷ qubits_from 0 n mask)) ≤ 43
      by true = omega arith
      by false = omega (arith, qubits_most 0 n mask (omega (arith, h)))

  pub flag_most : (r : Report) → length (flag_text n r) ≤ 51
  unfolding flag_text
  flag_most no_flag = omega arith
  flag_most (flagged true mask) = omega (arith, mask_most mask)
  flag_most (flagged false mask) = omega (arith, mask_most mask)

-- ---- a step

pub kind_most : (t : Step Float) → NarrowStep t → length (kind_text t) ≤ 28
unfolding kind_text
kind_most (rotation P sign c s) h = omega (arith, narrow_most P h.narrow)
kind_most (promotion c q) h = omega arith
kind_most (projection M p v invnorm) h = omega (arith, narrow_most M h.narrow)
kind_most (correction P) h = omega (arith, narrow_most P h.narrow)
kind_most (quarter_turn P) h = omega (arith, narrow_most P h.narrow)

pub text_most : (i : ℕ) (t : Step Float) → i < 2 ^ 64 → NarrowStep t → length (step_text i t) ≤ 54
unfolding step_text
text_most i t h k = omega (arith, length-append (decimal i) (32 ∷ kind_text t), word_digits i h, kind_most t k)

pub frame_most : (Q : Pauli) → Q.n ≤ widest_run → length (frame_text Q) ≤ 22
unfolding frame_text
frame_most Q h = omega (arith, narrow_most Q h)

-- ---- the lines

pub step_most : (i : ℕ) (f : Framed Float) → i < 2 ^ 64 → NarrowPauli f.frame → NarrowStep f.step → length (step_line i f) ≤ 128
unfolding step_line
step_most i f h p t =
    let flag : List ℕ = flag_text f.frame.n (report_of f) in
    let frame : List ℕ = frame_text f.frame in
    omega (
      arith,
      length-append (step_text i f.step) (frame ++ (flag ++ 10 ∷ [])),
      length-append frame (flag ++ 10 ∷ []),
      length-append flag (10 ∷ []),
      text_most i f.step h t,
      frame_most f.frame p.narrow,
      flag_most f.frame.n p.narrow (report_of f),
    )

pub end_most : (E : Pauli) → E.n ≤ widest_run → length (end_line E) ≤ 26
unfolding end_line
end_most E h = omega (arith, length-append (frame_text E) (10 ∷ []), frame_most E h)

pub refusal_at_most : (number place : ℕ) → number < 256 → place < 2 ^ 64 → length (refusal_at_line number place) ≤ 36
unfolding refusal_at_line
refusal_at_most number place h l =
    omega (arith, length-append (decimal number) (32 ∷ 97 ∷ 116 ∷ 32 ∷ (decimal place ++ 10 ∷ [])), length-append (decimal place) (10 ∷ []), byte_digits number h, word_digits place l)
