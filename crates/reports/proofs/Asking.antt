-- What is found and read of the input that asks for a report makes the text that is listed for it.
use mathlib.Core.Path.{◌≡◌, sym, ap, ap₂, ◌∙◌, subst}
use mathlib.Core.Bool.{true, false}
use mathlib.Core.List.{List}
use mathlib.Core.Logic.{⊎_elim}
use Prim.Native.Nat.{ℕ, suc, ◌+◌, ◌-◌, ◌≤◌, ◌<◌, min}
use native.Mathlib.Numerals.{add-one}
use native.Mathlib.Omega.{arith}
use borrow.Author.Tests.{lt-ltb, le-ltb}
use lib.ListN.{length, take, drop, length-drop, drop_of_length-le}
use lib.Seq.{take_all}
use Rattle.bitlaws.specs.Order.{le_or_lt}
use Rattle.octets.specs.Bytes.{index_of, slice}
use Rattle.paulilaws.specs.Pauli.{Pauli}
use Rattle.paulis.specs.Strings.{pauli_of}
use Rattle.paulitext.specs.Calls.{read_call}
use Rattle.refusals.specs.declared.Refusal.{Refusal}
use Rattle.refusals.specs.Refusal.{refusal_answer_of}
use Rattle.activepauli.specs.Narrowed.{narrowed}
use Rattle.answers.specs.Answer.{Answer}
use Rattle.answers.specs.Answer.Answer.{accepted}
use Rattle.std.specs.Prelude.{Result, Err}
use Rattle.refusals.specs.declared.Row.{Row}
use Rattle.lines.specs.Calls.{Lined}
use Rattle.reports.specs.Found.{found_before, found_after, found_has}
use Rattle.reports.specs.Input.{before, after, has, number}
use Rattle.reports.specs.Listing.{answer_text, step_listed, steps_listed, asked, report_listed}
use Rattle.reports.specs.Narrowed.{asked_narrowed, read_fitting}
use Rattle.reports.specs.Refused.{refusal_text, refused_text}

-- an equal text is written
pub written : {s t old left : List ℕ} {r : Result ℕ Row} → s ≡ t → Lined s old r left → Lined t old r left
written {s} {t} {old} {left} {r} e l = subst (λ (x : List ℕ). Lined x old r left) e l

-- the part of a text from a place on
rest : (s : List ℕ) (from : ℕ) → take (length s - from) (drop from s) ≡ drop from s
rest s from = take_all (length s - from) (drop from s) (omega (arith, length-drop from s))

-- ---- by the line, for a Pauli

module _ (line s : List ℕ) (Q : Pauli) (space : ℕ) (found : space ≡ 0 + index_of 32 (slice 0 (length line) line)) where
  pub one_asked : (i : ℕ) → space < length line → i ≡ number (take (length line - (space + 1)) (drop (space + 1) line)) → step_listed s Q i ≡ asked line s Q
  unfolding asked
  one_asked i h e =
      let yes : has 32 line ≡ true = sym (found_has 32 line space found) ∙ lt-ltb space (length line) h in
      let text : take (length line - (space + 1)) (drop (space + 1) line) ≡ after 32 line
      = rest line (space + 1) ∙ ap (λ (n : ℕ). drop n line) (add-one space) ∙ found_after 32 line space found in
      rw yes (ap (step_listed s Q) (e ∙ ap number text))

  pub all_asked : length line ≤ space → steps_listed s Q ≡ asked line s Q
  unfolding asked
  all_asked h =
      let no : has 32 line ≡ false = sym (found_has 32 line space found) ∙ le-ltb space (length line) h in
      rw no

-- ---- by the line

module _ (line s : List ℕ) (space : ℕ) (found : space ≡ 0 + index_of 32 (slice 0 (length line) line)) where
  call : {a : Answer Pauli} → a ≡ read_call (take space line) → read_call (before 32 line) ≡ a
  call read = ap read_call (sym (found_before 32 line space found)) ∙ sym read

  abbrev text : List ℕ
  text = answer_text (asked line s) (read_call (before 32 line))

  pub read_done : {Q P : Pauli} → accepted Q ≡ read_call (take space line) → P ≡ narrowed Q → asked line s P ≡ text
  unfolding answer_text
  read_done {Q} read n = rw (call read) (ap (asked line s) n ∙ asked_narrowed Q (read_fitting (before 32 line) Q (call read)) line s)

  pub read_refused : (r : Refusal) → refusal_answer_of pauli_of (Err r) ≡ read_call (take space line) → refusal_text r ≡ text
  read_refused r read = refused_text pauli_of (asked line s) r ∙ ap (answer_text (asked line s)) (sym (call read))

-- ---- the line, and the run behind it

module _ (input : List ℕ) (end : ℕ) (found : end ≡ 0 + index_of 10 (slice 0 (length input) input)) (from : ℕ) (place : from ≡ min (end + 1) (length input)) where
  behind_end : drop from input ≡ drop (suc end) input
  behind_end = ⊎_elim
      (λ (h : suc end ≤ length input). let is : from ≡ suc end = omega (arith, place, h) in ap (λ (n : ℕ). drop n input) is)
      (λ (h : length input < suc end). drop_of_length-le input {i = from} (omega (arith, place, h)) ∙ sym (drop_of_length-le input {i = suc end} (omega (arith, h))))
      (le_or_lt (suc end) (length input))

  pub input_parts : let line = take end input in answer_text (asked line (take (length input - from) (drop from input))) (read_call (before 32 line)) ≡ report_listed input
  unfolding report_listed
  input_parts = ap₂ (λ (line s : List ℕ). answer_text (asked line s) (read_call (before 32 line))) (found_before 10 input end found)
      (rest input from ∙ behind_end ∙ found_after 10 input end found)
