-- A text put together piece by piece in a buffer, and what writing a whole text answers.
use Rattle.std.specs.Prelude.{◌≡◌, refl, List, [], ◌++◌, ℕ, ◌+◌, ◌-◌, ◌≤◌, ◌<◌, length, take, Result, Ok, Err}
use Rattle.std.proofs.Math.Path.{sym, ap}
use Rattle.std.proofs.Common.{◌∙◌, append-nil, append_assoc, zero-add, arith, lt-ltb, le-ltb, length-drop, drop_of_length-le, take_all, length-take-le, drop-drop, take_at, drop_at}
use Rattle.std.proofs.Math.ListN.{drop}
use Rattle.std.proofs.lemmas.List.Edits.{sets}
use Rattle.std.proofs.Math.Seq.{sets-eq, take-length}
use Rattle.answers.specs.Answer.{Answer, refuse}
use Rattle.answers.specs.Answer.Answer.{accepted, refused}
use Rattle.answers.specs.Row.{refused_accepted, accepted_same}
use Rattle.answers.specs.Stores.{sets_sets}
use Rattle.paulitext.specs.Calls.{buffer_after}
use Rattle.refusals.specs.declared.Row.{Row}
use Rattle.refusals.specs.declared.Row.TheVariants as row
use Rattle.refusals.specs.Refusal.{answer_of}
use Rattle.lines.specs.Calls.{Lined, line_call}

-- equal texts in two parts, the first of one length: both parts are equal
pub parts_same : {s t u v : List ℕ} → length s ≡ length u → s ++ t ≡ u ++ v → (s ≡ u) × (t ≡ v)
parts_same {s} {t} {u} {v} e h =
    let n : ℕ = length u in
    (sym (take_at s t n e) ∙ ap (take n) h ∙ take_at u v n refl, sym (drop_at s t n e) ∙ ap (drop n) h ∙ drop_at u v n refl)

-- t stored behind s, where the buffers are known by equations
pub sets_next : (out : List ℕ) (at end : ℕ) (s t x y : List ℕ) → x ≡ sets out at s → end ≡ at + length s → y ≡ sets x end t → y ≡ sets out at (s ++ t)
sets_next out at end s t x y w e n = n ∙ ap (λ (l : List ℕ). sets l end t) w ∙ sets_sets out at end s t e

-- a piece copied to the start of what stands from `at` on
pub sets_copied : (out : List ℕ) (at k : ℕ) (s : List ℕ) → k ≡ length out - at → at + length s ≤ length out
    → take at out ++ ((take (length s) s ++ drop (length s) (take k (drop at out))) ++ drop k (drop at out)) ≡ sets out at s
sets_copied out at k s d h =
    let rest : List ℕ = drop at out in
    let long : length rest ≡ k = length-drop at out ∙ sym d in
    let whole : take k rest ≡ rest = take_all k rest (omega (arith, long)) in
    let none : drop k rest ≡ [] = drop_of_length-le rest {i = k} (omega (arith, long)) in
    ap (λ (l : List ℕ). take at out ++ ((take (length s) s ++ drop (length s) l) ++ drop k rest)) whole
    ∙ ap (λ (l : List ℕ). take at out ++ ((take (length s) s ++ drop (length s) rest) ++ l)) none
    ∙ ap (λ (l : List ℕ). take at out ++ l) (append-nil (take (length s) s ++ drop (length s) rest))
    ∙ ap (λ (l : List ℕ). take at out ++ (l ++ drop (length s) rest)) (take-length s)
    ∙ ap (λ (l : List ℕ). take at out ++ (s ++ l)) (drop-drop (length s) at out)
    ∙ sym (append_assoc (take at out) s (drop (at + length s) out))
    ∙ sym (sets-eq s out at h)

-- a buffer of just the length of s holds s and nothing else
pub sets_whole : (out s : List ℕ) → length s ≡ length out → sets out 0 s ≡ s
sets_whole out s e =
    sets-eq s out 0 (omega (arith, e)) ∙ ap (λ (l : List ℕ). s ++ l) (drop_of_length-le out {i = 0 + length s} (omega (arith, e))) ∙ append-nil s

-- ---- what writing a text answers

module _ (line out : List ℕ) where
  pub lined_short : length out < length line → Lined line out (Err row.OutputTooShort) out
  unfolding line_call refuse buffer_after
  lined_short h =
      let call : line_call line out ≡ refused 16 = rw (lt-ltb (length out) (length line) h) in
      record { told = sym call; buffer = rw call }

  pub lined_all : (len : ℕ) (left : List ℕ) → len ≡ length line → length line ≤ length out → left ≡ sets out 0 line → Lined line out (Ok len) left
  unfolding line_call refuse buffer_after
  lined_all len left l h w =
      let call : line_call line out ≡ accepted (length line) = rw (le-ltb (length out) (length line) h) in
      record {
        told = ap accepted l ∙ sym call;
        buffer = rw call (w ∙ sets-eq line out 0 (omega (arith, h)) ∙ ap (λ (n : ℕ). line ++ drop n out) (zero-add (length line)));
      }

  -- a text that fits is never refused
  pub lined_fits : (r : Result ℕ Row) (left : List ℕ) → length line ≤ length out → Lined line out r left → (r ≡ Ok (length line)) × (left ≡ sets out 0 line)
  unfolding line_call refuse buffer_after
  lined_fits r left h l =
      let call : line_call line out ≡ accepted (length line) = rw (le-ltb (length out) (length line) h) in
      let put : left ≡ line ++ drop (length line) out = l.buffer ∙ ap (λ (a : Answer ℕ). buffer_after a line out) call in
      (answer r (l.told ∙ call), put ∙ ap (λ (n : ℕ). line ++ drop n out) (sym (zero-add (length line))) ∙ sym (sets-eq line out 0 (omega (arith, h))))
    where
      answer : (r : Result ℕ Row) → answer_of (λ n. n) r ≡ accepted (length line) → r ≡ Ok (length line)
      answer (Ok n) e = ap Ok (accepted_same e)
      answer (Err n) e = absurd (refused_accepted e)

-- a text written to the start of what stands from `at` on, where it fits
pub lined_at : (line out : List ℕ) (at : ℕ) (r : Result ℕ Row) (left : List ℕ) → at + length line ≤ length out
    → Lined line (take (length out - at) (drop at out)) r left
    → (r ≡ Ok (length line)) × (take at out ++ (left ++ drop (length out - at) (drop at out)) ≡ sets out at line)
lined_at line out at r left h l =
    let k : ℕ = length out - at in
    let part : List ℕ = take k (drop at out) in
    let long : length part ≡ k = length-take-le k (drop at out) (omega (arith, length-drop at out)) in
    let done = lined_fits line part r left (omega (arith, long, h)) l in
    let put : left ≡ take (length line) line ++ drop (length line) part
    = done.1 ∙ sets-eq line part 0 (omega (arith, long, h)) ∙ ap (λ (n : ℕ). line ++ drop n part) (zero-add (length line)) ∙ ap (λ (s : List ℕ). s ++ drop (length line) part) (sym (take-length line)) in
    (done.0, ap (λ (s : List ℕ). take at out ++ (s ++ drop k (drop at out))) put ∙ sets_copied out at k line refl h)

-- ---- an answer that is a length is that one, and no refusal

pub length_same : {r : Result ℕ Row} {n m : ℕ} → r ≡ Ok n → r ≡ Ok m → m ≡ n
length_same p q = cc

pub length_refused : {r : Result ℕ Row} {n : ℕ} {e : Row} → r ≡ Ok n → r ≡ Err e → ⊥
length_refused p q = cc
