-- The proof of what FrameLogs says. What is judged a yes is the log that carrying gives; and no two logs agree with carrying, since every byte is a step's or the end Pauli's.
use Rattle.std.specs.Prelude.{◌≡◌, Bool, true, false, Float, take, drop}
use Rattle.std.proofs.Math.Path.{refl, sym, ap}
use Rattle.std.proofs.Common.{ap₂, ◌∙◌, subst, mod-lt, arith, lit<, take-append-drop, take_at, get_or-take, ext_get_or, length-take-le}
use Rattle.std.proofs.lemmas.Bool.{false≢true}
use mathlib.Core.List.{List, [], ◌∷◌, ◌++◌, append_assoc, append-nil}
use Prim.Native.Nat.{ℕ, zero, suc, ◌+◌, ◌≤◌, ◌<◌}
use Rattle.std.proofs.Math.ListN.{length, get_or-append}
use Rattle.std.proofs.Math.Seq.{drop_at, get_or_at}
use borrow.Author.Tests.{eq-eqb, ne_eqb, le-ltb, lt-ltb}
use Rattle.answers.specs.Answer.{Answer}
use Rattle.answers.specs.Answer.Answer.{accepted, refused, refused_at}
use Rattle.answers.specs.Row.{row, first, answered, first_passed, first_some, accepted_row, accepted_same, answered_some, refused_accepted, refused_at_accepted}
use Rattle.paulilaws.specs.Pauli.{Pauli, fits}
use Rattle.paulilaws.proofs.Fitting.{fits_admitted, admitted_fits}
use Rattle.amplitudelaws.specs.Step.{Step, last_width}
use Rattle.amplitudelaws.specs.Step.Step.{rotation, promotion, projection, correction, quarter_turn}
use Rattle.framelaws.specs.Caller.{Caller, service, emulator}
use Rattle.framelaws.specs.Carrying.{flipped, carried_step, passed, carried_steps, end_pauli}
use Rattle.framelaws.specs.Fitted.{Fitted}
use Rattle.framelaws.proofs.Fitted.{fitting_end}
use Rattle.framelaws.specs.PassRow.{placed_row}
use Rattle.framelaws.specs.Reported.{carried_at}
use Rattle.framelaws.specs.Suited.{placed_row_lem}
use Rattle.runlaws.specs.Bytes.{byte_at, pauli_at}
use Rattle.runlaws.specs.Calls.{on_run, of_run, carrying_row, carrying, logging, judging_row, judging}
use Rattle.runlaws.proofs.CarriedFields.{step_of, carrying_passes, left_flag}
use Rattle.runlaws.specs.Flags.{FlagOf}
use Rattle.runlaws.specs.FrameLog.{flag_of, flags_of, frame_log, is_same}
use Rattle.runlaws.specs.FrameLogs.{flag_count, Agrees, Asked, Suits, FrameLogs}
use Rattle.runlaws.proofs.Logged.{carried_flags, log_length, flags_most, same_bytes, bytes_same}
use Rattle.runlaws.specs.Outcomes.{carrying_answers, carrying_done, logging_done, logging_kept}
use Rattle.runlaws.specs.PauliBytes.{pauli_bytes}
use Rattle.runlaws.proofs.PauliBytes.{pauli_read}
use Rattle.runlaws.specs.Run.{Run, run_of}
use Rattle.runlaws.specs.WholeRun.{run_allowed}

-- ---- the bytes of rotations and projections

count_is : (ts : List (Step Float)) → length (flags_of ts) ≡ flag_count ts
unfolding flags_of flag_of
count_is [] = refl
count_is (rotation P sign c q ∷ ts) = ap suc (count_is ts)
count_is (promotion c q ∷ ts) = count_is ts
count_is (projection M p v invnorm ∷ ts) = ap suc (count_is ts)
count_is (correction P ∷ ts) = count_is ts
count_is (quarter_turn P ∷ ts) = count_is ts

flags_append : (ts us : List (Step Float)) → flags_of (ts ++ us) ≡ flags_of ts ++ flags_of us
unfolding flags_of
flags_append [] us = refl
flags_append (t ∷ ts) us = ap (λ (l : List ℕ). flag_of t ++ l) (flags_append ts us) ∙ sym (append_assoc (flag_of t) (flags_of ts) (flags_of us))

-- carried ones are 0 or 1
flags_small : (Q : Pauli) (ts : List (Step Float)) (i : ℕ) → byte_at (flags_of (carried_steps Q ts)) i < 2
unfolding flags_of flag_of carried_steps carried_step flipped
flags_small Q [] i = lit< tt
flags_small Q (rotation P sign c q ∷ ts) zero = mod-lt _ (lit< tt)
flags_small Q (rotation P sign c q ∷ ts) (suc i) = flags_small (passed Q (rotation P sign c q)) ts i
flags_small Q (promotion c q ∷ ts) i = flags_small (passed Q (promotion c q)) ts i
flags_small Q (projection M p v invnorm ∷ ts) zero = mod-lt _ (lit< tt)
flags_small Q (projection M p v invnorm ∷ ts) (suc i) = flags_small (passed Q (projection M p v invnorm)) ts i
flags_small Q (correction P ∷ ts) i = flags_small (passed Q (correction P)) ts i
flags_small Q (quarter_turn P ∷ ts) i = flags_small (passed Q (quarter_turn P)) ts i

-- the step that a byte of the log is of
record Flagging (ts : List (Step Float)) (p : ℕ) : Type 0 where
  before : List (Step Float)
  step : Step Float
  after : List (Step Float)
  steps : ts ≡ before ++ step ∷ after
  count : flag_count before ≡ p
  place : ℕ → ℕ
  is : (at : ℕ) → FlagOf at step (place at)

flagging_next : (t : Step Float) {ts : List (Step Float)} {p : ℕ} (k : Flagging ts p) (q : ℕ) → flag_count (t ∷ k.before) ≡ q → Flagging (t ∷ ts) q
flagging_next t k q count = record {
  before = t ∷ k.before;
  step = k.step;
  after = k.after;
  steps = ap (λ (l : List (Step Float)). t ∷ l) k.steps;
  count = count;
  place = k.place;
  is = k.is;
}

flagging : (ts : List (Step Float)) (p : ℕ) → p < flag_count ts → Flagging ts p
flagging [] p h = absurd (omega arith)
flagging (rotation P sign c q ∷ ts) zero h =
    record { before = []; step = rotation P sign c q; after = ts; steps = refl; count = refl; place = λ at. at + 20; is = λ at. refl }
flagging (rotation P sign c q ∷ ts) (suc p) h = let k = flagging ts p (omega arith) in flagging_next (rotation P sign c q) k (suc p) (ap suc k.count)
flagging (promotion c q ∷ ts) p h = let k = flagging ts p h in flagging_next (promotion c q) k p k.count
flagging (projection M p v invnorm ∷ ts) zero h =
    record { before = []; step = projection M p v invnorm; after = ts; steps = refl; count = refl; place = λ at. at + 21; is = λ at. refl }
flagging (projection M p v invnorm ∷ ts) (suc i) h = let k = flagging ts i (omega arith) in flagging_next (projection M p v invnorm) k (suc i) (ap suc k.count)
flagging (correction P ∷ ts) p h = let k = flagging ts p h in flagging_next (correction P) k p k.count
flagging (quarter_turn P ∷ ts) p h = let k = flagging ts p h in flagging_next (quarter_turn P) k p k.count

-- ---- logs that agree with carrying

module _ (caller : Caller) (s : List ℕ) (Q : Pauli) (R : Run) (read : run_of caller s ≡ accepted R) where
  abbrev right : List ℕ
  right = frame_log Q R.steps

  abbrev count : ℕ
  count = flag_count R.steps

  -- another reading of the same bytes
  same_run : (run : Run) → run_of caller s ≡ accepted run → run ≡ R
  same_run run is = accepted_same (sym is ∙ read)

  right_size : length right ≡ count + 17
  right_size = log_length Q R.steps ∙ ap (λ (n : ℕ). n + 17) (count_is R.steps)

  flags_long : length (flags_of (carried_steps Q R.steps)) ≡ count
  flags_long = carried_flags Q R.steps ∙ count_is R.steps

  right_tail : drop count right ≡ pauli_bytes (end_pauli Q R.steps)
  unfolding frame_log
  right_tail = drop_at (flags_of (carried_steps Q R.steps)) (pauli_bytes (end_pauli Q R.steps)) count flags_long

  -- the byte of a step
  right_flag : (before : List (Step Float)) (t : Step Float) (after : List (Step Float)) → R.steps ≡ before ++ t ∷ after → (v : ℕ)
      → flag_of (carried_step (end_pauli Q before) t) ≡ v ∷ [] → byte_at right (flag_count before) ≡ v
  unfolding frame_log flags_of
  right_flag before t after e v is =
      let end : List ℕ = pauli_bytes (end_pauli Q R.steps) in
      let front : List ℕ = flags_of (carried_steps Q before) in
      let rest : List ℕ = flags_of (carried_steps (passed (end_pauli Q before) t) after) in
      let split : flags_of (carried_steps Q R.steps) ≡ front ++ (v ∷ rest)
      = ap (λ (ts : List (Step Float)). flags_of (carried_steps Q ts)) e ∙ ap flags_of (carried_at Q before t after)
      ∙ flags_append (carried_steps Q before) _ ∙ ap (λ (l : List ℕ). front ++ (l ++ rest)) is in
      ap (λ (l : List ℕ). byte_at (l ++ end) (flag_count before)) split
      ∙ ap (λ (l : List ℕ). byte_at l (flag_count before)) (append_assoc front (v ∷ rest) end)
      ∙ get_or_at front v (rest ++ end) 0 (flag_count before) (carried_flags Q before ∙ count_is before)

  module _ (placed : placed_row Q R.width ≡ 0) where
    right_agrees : Agrees caller s Q right
    right_agrees = record {
      run = R;
      is = read;
      flags = λ i t step flag is out room.
          let before = step.at.before in
          let steps : R.steps ≡ before ++ t ∷ step.at.after = ap (λ (r : Run). r.steps) (sym (same_run step.run step.is)) ∙ step.at.steps in
          right_flag before t step.at.after steps _
          (left_flag caller s Q R read placed before t step.at.after steps flag (subst (λ (at : ℕ). FlagOf at t flag) step.begins is) out room);
      end = end_pauli Q R.steps;
      ends = λ out room. (carrying_answers caller s Q out R read (carrying_passes caller s Q R read placed out room)).0;
      tail = right_tail;
      size = right_size;
    }

-- two of them are the same
module _ {caller : Caller} {s : List ℕ} {Q : Pauli} {a b : List ℕ} (A : Agrees caller s Q a) (B : Agrees caller s Q b) where
  one_run : B.run ≡ A.run
  one_run = same_run caller s Q A.run A.is B.run B.is

  abbrev bytes_before : ℕ
  bytes_before = flag_count A.run.steps

  other_count : flag_count B.run.steps ≡ bytes_before
  other_count = ap (λ (R : Run). flag_count R.steps) one_run

  one_flag : (p : ℕ) → p < bytes_before → byte_at a p ≡ byte_at b p
  one_flag p h =
      let k = flagging A.run.steps p h in
      let step = step_of caller s A.run k.before k.step k.after A.is k.steps (length k.before) refl in
      let flag : ℕ = k.place step.place in
      let left : ℕ = byte_at (carrying caller s Q s).lent flag in
      let this : byte_at a (flag_count k.before) ≡ left = A.flags (length k.before) k.step step flag (k.is step.place) s (omega arith) in
      let that : byte_at b (flag_count k.before) ≡ left = B.flags (length k.before) k.step step flag (k.is step.place) s (omega arith) in
      subst (λ (p : ℕ). byte_at a p ≡ byte_at b p) k.count (this ∙ sym that)

  pub one_log : a ≡ b
  one_log =
      let n : ℕ = bytes_before in
      let ends : A.end ≡ B.end = accepted_same (sym (A.ends s (omega arith)) ∙ B.ends s (omega arith)) in
      let tails : drop n a ≡ drop n b = A.tail ∙ ap pauli_bytes ends ∙ sym (ap (λ (m : ℕ). drop m b) (sym other_count) ∙ B.tail) in
      let a-long : n ≤ length a = omega (arith, A.size) in
      let b-long : n ≤ length b = omega (arith, B.size, other_count) in
      let this : length (take n a) ≡ n = length-take-le n a a-long in
      let fronts : take n a ≡ take n b
      = ext_get_or 0 (take n a) (take n b) (this ∙ sym (length-take-le n b b-long))
      (λ p h. let below : p < n = omega (arith, h, this) in get_or-take n a p 0 below ∙ one_flag p below ∙ sym (get_or-take n b p 0 below)) in
      sym (take-append-drop n a) ∙ ap₂ ◌++◌ fronts tails ∙ take-append-drop n b

-- ---- the answers

-- a log that is judged a yes: the run that was read, and no row refuses Q
record Yes (caller : Caller) (s : List ℕ) (Q : Pauli) (log : List ℕ) : Type 0 where
  run : Run
  read : run_of caller s ≡ accepted run
  placed : placed_row Q run.width ≡ 0
  is : log ≡ frame_log Q run.steps

module _ (caller : Caller) (s : List ℕ) (Q : Pauli) (log : List ℕ) where
  judging_by : (R : Run) → run_of caller s ≡ accepted R
      → judging caller s Q log ≡ answered (judging_row Q R.width (length (frame_log Q R.steps)) (length log)) (is_same log (frame_log Q R.steps))
  unfolding judging of_run on_run
  judging_by R read = rw read

  yes_by : judging caller s Q log ≡ accepted true → Yes caller s Q log
  unfolding judging_row judging of_run on_run
  yes_by e = by (run_of caller s) refl
    where
      by : (a : Answer Run) → run_of caller s ≡ a → Yes caller s Q log
      by (accepted R) read =
          let k = accepted_row _ _ _ (sym e ∙ judging_by R read) in
          record { run = R; read = read; placed = (first_passed (placed_row Q R.width) _ k.0).0; is = same_bytes log (frame_log Q R.steps) (sym k.1) }
      by (refused n) read = absurd (refused_accepted (rw read at e))
      by (refused_at n at) read = absurd (refused_at_accepted (rw read at e))

  run_refused : (r at : ℕ) → run_of caller s ≡ refused_at r at → judging caller s Q log ≡ refused_at r at
  unfolding judging of_run on_run
  run_refused r at e = rw e

  module _ (R : Run) (read : run_of caller s ≡ accepted R) where
    -- a row of Q's
    pauli_refused : (r : ℕ) → placed_row Q R.width ≡ r → 0 < r → judging caller s Q log ≡ refused r
    unfolding judging_row
    pauli_refused r is h =
        let some : 0 < placed_row Q R.width = omega (arith, is, h) in
        judging_by R read ∙ ap (λ (n : ℕ). answered n (is_same log (frame_log Q R.steps))) (first_some (placed_row Q R.width) _ some ∙ is) ∙ answered_some r _ h

    module _ (placed : placed_row Q R.width ≡ 0) where
      length_refused : (Suits R log → ⊥) → judging caller s Q log ≡ refused 24
      unfolding judging_row first row answered
      length_refused other =
          judging_by R read ∙ rw (placed, ne_eqb (length log) (length (frame_log Q R.steps)) (λ e. other (e ∙ right_size caller s Q R read)))

      judged : Suits R log → judging caller s Q log ≡ accepted (is_same log (frame_log Q R.steps))
      unfolding judging_row first row answered
      judged suits = judging_by R read ∙ rw (placed, eq-eqb (length log) (length (frame_log Q R.steps)) (suits ∙ sym (right_size caller s Q R read)))

      right_judged : log ≡ frame_log Q R.steps → judging caller s Q log ≡ accepted true
      right_judged is =
          judged (ap length is ∙ right_size caller s Q R read)
          ∙ ap accepted (ap (λ (l : List ℕ). is_same l (frame_log Q R.steps)) is ∙ bytes_same (frame_log Q R.steps))

      other_judged : Suits R log → (log ≡ frame_log Q R.steps → ⊥) → judging caller s Q log ≡ accepted false
      other_judged suits other = judged suits ∙ ap accepted (by (is_same log (frame_log Q R.steps)) refl)
        where
          by : (b : Bool) → is_same log (frame_log Q R.steps) ≡ b → is_same log (frame_log Q R.steps) ≡ false
          by true e = absurd (other (same_bytes log (frame_log Q R.steps) e))
          by false e = e

three_row : (Q : Pauli) (n : ℕ) → fits Q ≡ false → placed_row Q n ≡ 3
unfolding placed_row row
three_row Q n unfit = rw unfit

four_row : (Q : Pauli) (n : ℕ) → fits Q ≡ true → (Q.n ≡ n → ⊥) → placed_row Q n ≡ 4
unfolding placed_row row
four_row Q n fit other = rw (fit, ne_eqb Q.n n other)

placed_by : {caller : Caller} {s : List ℕ} {R : Run} {Q : Pauli} → Asked caller s R Q → placed_row Q R.width ≡ 0
placed_by {caller} {s} {R} {Q} a = placed_row_lem Q R.width (fits_admitted Q a.pauli) a.width

-- ---- what a right log has none of

module _ (caller : Caller) (s : List ℕ) (Q : Pauli) (R : Run) (a : Asked caller s R Q) (log : List ℕ) (suits : Suits R log) where
  over_one : (i : ℕ) → i < flag_count R.steps → 1 < byte_at log i → judging caller s Q log ≡ accepted false
  unfolding frame_log
  over_one i below over = other_judged caller s Q log R a.read (placed_by a) suits (λ is.
      let flags : List ℕ = flags_of (carried_steps Q R.steps) in
      let byte : byte_at log i ≡ byte_at flags i
      = ap (λ (l : List ℕ). byte_at l i) is
      ∙ get_or-append flags (pauli_bytes (end_pauli Q R.steps)) 0 i (omega (arith, below, flags_long caller s Q R a.read)) in
      omega (arith, byte, over, flags_small Q R.steps i))

  module _ (narrow : caller.widest ≤ 64) where
    end_fitted : Fitted caller (last_width R.width R.steps) (end_pauli Q R.steps)
    end_fitted =
        let known = run_allowed caller s R a.read in
        fitting_end caller R.width Q R.steps known.width known.allowed (fits_admitted Q a.pauli).fitting a.width

    no_pauli : fits (pauli_at (last_width R.width R.steps) (drop (flag_count R.steps) log)) ≡ false → judging caller s Q log ≡ accepted false
    no_pauli unfit = other_judged caller s Q log R a.read (placed_by a) suits (λ is.
        let E : Pauli = end_pauli Q R.steps in
        let last : ℕ = last_width R.width R.steps in
        let few : E.n ≤ 64 = omega (arith, end_fitted.width, end_fitted.within, narrow) in
        let tail : drop (flag_count R.steps) log ≡ pauli_bytes E ++ []
        = ap (drop (flag_count R.steps)) is ∙ right_tail caller s Q R a.read ∙ sym (append-nil (pauli_bytes E)) in
        let back : pauli_at last (drop (flag_count R.steps) log) ≡ E = ap₂ pauli_at (sym end_fitted.width) tail ∙ pauli_read E [] end_fitted.fitting few in
        let good : fits E ≡ true = admitted_fits E (record { fitting = end_fitted.fitting; width = omega (arith, few) }) in
        false≢true (sym unfit ∙ ap fits back ∙ good))

-- ---- the log that is written

placed_first : (Q : Pauli) (width size room : ℕ) → carrying_row Q width size room ≡ 0 → placed_row Q width ≡ 0
unfolding carrying_row
placed_first Q width size room e = (first_passed (placed_row Q width) _ e).0

module _ (caller : Caller) (s : List ℕ) (Q : Pauli) (out : List ℕ) where
  written : (size : ℕ) → (logging caller s Q out).answer ≡ accepted size → judging caller s Q (take size (logging caller s Q out).lent) ≡ accepted true
  written size e =
      let k = logging_done caller s Q out size e in
      let log : List ℕ = frame_log Q k.run.steps in
      right_judged caller s Q (take size (logging caller s Q out).lent) k.run k.was (placed_first Q k.run.width (length log) (length out) k.passed)
      (ap (take size) k.lent_is ∙ take_at log (drop (length log) out) size (sym k.value_is))

  past : (size : ℕ) → (logging caller s Q out).answer ≡ accepted size → drop size (logging caller s Q out).lent ≡ drop size out
  past size e =
      let k = logging_done caller s Q out size e in
      let log : List ℕ = frame_log Q k.run.steps in
      ap (drop size) k.lent_is ∙ drop_at log (drop (length log) out) size (sym k.value_is) ∙ ap (λ (n : ℕ). drop n out) (sym k.value_is)

  log_run_refused : (r at : ℕ) → run_of caller s ≡ refused_at r at → (logging caller s Q out).answer ≡ refused_at r at
  unfolding logging on_run
  log_run_refused r at e = rw e

  module _ (R : Run) (read : run_of caller s ≡ accepted R) where
    logging_by : (logging caller s Q out).answer ≡ answered (carrying_row Q R.width (length (frame_log Q R.steps)) (length out)) (length (frame_log Q R.steps))
    unfolding logging on_run
    logging_by = rw read

    log_pauli_refused : (r : ℕ) → placed_row Q R.width ≡ r → 0 < r → (logging caller s Q out).answer ≡ refused r
    unfolding carrying_row
    log_pauli_refused r is h =
        let some : 0 < placed_row Q R.width = omega (arith, is, h) in
        logging_by ∙ ap (λ (n : ℕ). answered n (length (frame_log Q R.steps))) (first_some (placed_row Q R.width) _ some ∙ is) ∙ answered_some r _ h

    module _ (placed : placed_row Q R.width ≡ 0) where
      roomy : flag_count R.steps + 17 ≤ length out → (logging caller s Q out).answer ≡ accepted (flag_count R.steps + 17)
      unfolding carrying_row first row answered
      roomy room =
          let enough : length (frame_log Q R.steps) ≤ length out = omega (arith, room, right_size caller s Q R read) in
          logging_by ∙ rw (placed, le-ltb (length out) (length (frame_log Q R.steps)) enough) (ap accepted (right_size caller s Q R read))

      short : length out < flag_count R.steps + 17 → (logging caller s Q out).answer ≡ refused 16
      unfolding carrying_row first row answered
      short h =
          let less : length out < length (frame_log Q R.steps) = omega (arith, h, right_size caller s Q R read) in
          logging_by ∙ rw (placed, lt-ltb (length out) (length (frame_log Q R.steps)) less)

-- ---- JUDGING THE CHIP'S FRAME LOG

-- 17 bytes hold a Pauli on 64 qubits at most
pub frame_logs : (caller : Caller) → caller.widest ≤ 64 → FrameLogs caller
frame_logs caller narrow = record {
  yes = λ s Q log e. let k = yes_by caller s Q log e in subst (Agrees caller s Q) (sym k.is) (right_agrees caller s Q k.run k.read k.placed);
  whenever = λ s Q log A.
      let known = carrying_done caller s Q s A.end (A.ends s (omega arith)) in
      let placed = placed_first Q known.run.width (length s) (length s) known.passed in
      right_judged caller s Q log known.run known.was placed (one_log A (right_agrees caller s Q known.run known.was placed));
  no = λ s R Q log a suits other.
      other_judged caller s Q log R a.read (placed_by a) suits
      (λ is. other (subst (Agrees caller s Q) (sym is) (right_agrees caller s Q R a.read (placed_by a))));
  bytes = λ s R Q log a. (
    (λ e. let k = yes_by caller s Q log e in k.is ∙ ap (λ (r : Run). frame_log Q r.steps) (same_run caller s Q R a.read k.run k.read)),
    right_judged caller s Q log R a.read (placed_by a),
  );
  run_first = λ s Q log. run_refused caller s Q log;
  three = λ s R Q log read unfit. pauli_refused caller s Q log R read 3 (three_row Q R.width unfit) (lit< tt);
  four = λ s R Q log read fit other. pauli_refused caller s Q log R read 4 (four_row Q R.width fit other) (lit< tt);
  twenty_four = λ s R Q log a. length_refused caller s Q log R a.read (placed_by a);
  each = λ s R Q log a suits. record { says = _; is = judged caller s Q log R a.read (placed_by a) suits };
  over_one = λ s R Q log a suits. over_one caller s Q R a log suits;
  no_pauli = λ s R Q log a suits. no_pauli caller s Q R a log suits narrow;
  written = λ s Q out. written caller s Q out;
  past = λ s Q out. past caller s Q out;
  room = λ s R Q out a. roomy caller s Q out R a.read (placed_by a);
  short = λ s R Q out a. short caller s Q out R a.read (placed_by a);
  log_run_first = λ s Q out. log_run_refused caller s Q out;
  log_three = λ s R Q out read unfit. log_pauli_refused caller s Q out R read 3 (three_row Q R.width unfit) (lit< tt);
  log_four = λ s R Q out read fit other. log_pauli_refused caller s Q out R read 4 (four_row Q R.width fit other) (lit< tt);
  kept = λ s Q out. logging_kept caller s Q out;
  longest = λ s R read. omega (arith, flags_most caller s R read, count_is R.steps);
}

-- and so of what judge_log and log_run promise to the service, and to the emulator
pub frame_logs_at_the_service : FrameLogs service
frame_logs_at_the_service = frame_logs service (omega arith)

pub frame_logs_at_the_emulator : FrameLogs emulator
frame_logs_at_the_emulator = frame_logs emulator (omega arith)
