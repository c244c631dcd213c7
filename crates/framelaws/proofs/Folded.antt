-- Folding gives the state of all steps: the steps that are left, and then the end Pauli, from any start state.
use Rattle.std.specs.Prelude.{◌≡◌, refl, true}
use Rattle.std.proofs.Math.Path.{sym, subst}
use Rattle.std.proofs.Common.{ap, ◌∙◌, le_trans, arith}
use mathlib.Core.List.{List, [], ◌∷◌}
use Rattle.std.proofs.Math.Option.{none, some}
use Prim.Native.Nat.{ℕ, ◌+◌, ◌*◌, ◌%◌, ◌^◌, ◌≤◌, ◌<◌}
use Rattle.std.specs.Int.Bits.{bit_xor, xor_zero_r}
use Rattle.std.specs.Float.Ieee.{Float}
use Rattle.bitlaws.specs.Parity.{overlap, overlap_comm}
use Rattle.bitlaws.proofs.Parity.{overlap_xor_l, overlap_xor_r, overlap_zero_r}
use Rattle.bitlaws.specs.Xor.{xor_assoc, xor_swap, xor_twice}
use Rattle.paulilaws.specs.Pauli.{Pauli, product, identity}
use Rattle.paulilaws.specs.Fitting.{Fitting, Admitted, product_fitting, identity_fitting}
use Rattle.amplitudelaws.specs.Binary.{Point, binary}
use Rattle.amplitudelaws.specs.Correction.{corrected}
use Rattle.amplitudelaws.specs.State.{point, room}
use Rattle.amplitudelaws.specs.Steps as leaves
use Rattle.amplitudelaws.specs.Step.{Step, width_after, last_width}
use Rattle.amplitudelaws.specs.Step.Step.{correction}
use Rattle.framelaws.specs.Caller.{Caller}
use Rattle.framelaws.specs.Rows.{step_row}
use Rattle.framelaws.specs.Carrying.{carried_step, passed}
use Rattle.framelaws.specs.Folding.{fires, left_of, folded_by, folded_past, folded_steps, folded_end}
use Rattle.framelaws.specs.Survey.{survey}
use Rattle.framelaws.specs.Memory.{Memory, stepped, ran}
use Rattle.framelaws.specs.Alike.{Alike, alike_trans, alike_eq}
use Rattle.framelaws.specs.Allowed.{Placed, Allowed, FiniteSteps}
use Rattle.framelaws.specs.Turns.{turns, turns_add, turns_mod, alike_turns}
use Rattle.framelaws.specs.Framed.{Framed}
use Rattle.framelaws.proofs.Past.{corrected_turns, corrected_framed}
use Rattle.framelaws.specs.Kept.{stepped_sizes, room_kept, room_under}
use Rattle.framelaws.proofs.Kept.{ran_sizes}
use Rattle.framelaws.specs.Surveyed.{survey_greatest, survey_greatest_rest, survey_greatest_last}
use Rattle.framelaws.specs.Carried.{after_carried}
use Rattle.framelaws.specs.Passing.{correction_fitting}
use Rattle.framelaws.specs.Fitted.{Fitted}
use Rattle.framelaws.proofs.Fitted.{fitting_passed}
use Rattle.framelaws.specs.PassRow.{pass_row}
use Rattle.framelaws.proofs.Suited.{passed_suited, passed_width, passed_admitted}
use Rattle.framelaws.proofs.List.{framed_only, point_correction, past_step}
use Rattle.framelaws.specs.Folded.{Firing, kept_past, kept_steps, firing_of}
use Rattle.framelaws.specs.Folded.Firing.{firing, keeping}

-- a correction is none of the steps that are left
fired_steps : (Q P : Pauli) (ts : List (Step Float)) → folded_steps Q (correction P ∷ ts) ≡ folded_steps (folded_past {R = Float} Q (correction P)) ts
unfolding folded_steps left_of fires
fired_steps Q P ts = refl

-- ---- a frame behind a correction that only one side fires

-- Q behind a correction of P
abbrev behind : Pauli → Pauli → Pauli
behind P Q = folded_past {R = Float} Q (correction P)

-- The exponents of i at a basis b, whichever of the two stands first in the product.
exponents : (b : ℕ) (P Q : Pauli) → (P.k + 2 * overlap (bit_xor b Q.x) P.z + (Q.k + 2 * overlap b Q.z)) % 4 ≡ ((behind P Q).k + 2 * overlap b (behind P Q).z) % 4
unfolding folded_past fires folded_by product
exponents b P Q =
    omega (
      arith,
      overlap_xor_l b Q.x P.z,
      overlap_xor_r b P.z Q.z,
      overlap_xor_r b Q.z P.z,
      overlap_comm P.z Q.x,
    )

-- Nothing need be finite.
framed_folded : (n : ℕ) (Q P : Pauli) {F G : ℕ → Point} → Framed n Q F G → Framed n (behind P Q) (corrected binary P F) G
unfolding folded_past fires folded_by product
framed_folded n Q P {F} {G} w = record {
  at = λ b hb.
      let back : bit_xor (bit_xor b (bit_xor P.x Q.x)) P.x ≡ bit_xor b Q.x
      = ap (λ (m : ℕ). bit_xor m P.x) (sym (xor_assoc b P.x Q.x) ∙ xor_swap b P.x Q.x) ∙ xor_twice (bit_xor b Q.x) P.x in
      let e : ℕ = P.k + 2 * overlap (bit_xor b Q.x) P.z in
      let f : ℕ = Q.k + 2 * overlap b Q.z in
      alike_trans (alike_eq (corrected_turns P F _ ∙ ap (λ (m : ℕ). turns (P.k + 2 * overlap m P.z) (F m)) back))
      (alike_trans (alike_turns e (w.at b hb)) (alike_eq (sym (turns_add e f (G b)) ∙ turns_mod (e + f) _ (G b) (exponents b P Q))));
}

-- ---- the Pauli stays one on the state's qubits

-- Which of the two stands first plays no part here: the law of the frame says it.
module _ (P Q : Pauli) (e : P.n ≡ Q.n) (t : Step Float) where
  fired_fitting : Fitting P → Fitting Q → Fitting (folded_by (some P) Q t)
  unfolding folded_by
  fired_fitting f g = search (product_fitting, sym, e)

  fired_width : (folded_by (some P) Q t).n ≡ Q.n
  unfolding folded_by product
  fired_width = omega (arith, e)

module _ (caller : Caller) (n : ℕ) (Q : Pauli) (within : n ≤ caller.widest) (f : Fitting Q) (width : Q.n ≡ n) where
  fitting_by : (t : Step Float) → Firing t → Placed n t → step_row caller n t ≡ 0 → Fitted caller (width_after n t) (folded_past Q t)
  unfolding folded_past folded_by fires width_after step_row
  fitting_by _ (firing P) h e = record {
    fitting = fired_fitting P Q (h ∙ sym width) (correction P) (correction_fitting P e) f;
    width = fired_width P Q (h ∙ sym width) (correction P) ∙ width;
    within = within;
  }
  fitting_by t (keeping stays) h e = rw stays (fitting_passed caller n Q t within h e f width)

  fitting_folded : (t : Step Float) → Placed n t → step_row caller n t ≡ 0 → Fitted caller (width_after n t) (folded_past Q t)
  fitting_folded t = fitting_by t (firing_of t)

pub fitting_folded_end : (caller : Caller) (ts : List (Step Float)) (n : ℕ) (Q : Pauli) → n ≤ caller.widest → Allowed caller n ts → Fitting Q → Q.n ≡ n
    → Fitted caller (last_width n ts) (folded_end Q ts)
unfolding last_width folded_end
fitting_folded_end caller [] n Q within a f width = record { fitting = f; width = width; within = within }
fitting_folded_end caller (t ∷ ts) n Q within a f width =
    let next = fitting_folded caller n Q within f width t a.0 a.1 in
    fitting_folded_end caller ts (width_after n t) (folded_past Q t) next.within a.2 next.fitting next.width

-- the same of any Pauli and any step where no row refuses to take the one past the other
module _ (Q : Pauli) where
  by_firing_admitted : (t : Step Float) → Firing t → pass_row Q t ≡ 0 → Admitted (folded_past Q t) × ((folded_past Q t).n ≡ width_after Q.n t)
  unfolding folded_past fires width_after
  by_firing_admitted _ (firing P) e =
      let pair = passed_suited Q {R = Float} (correction P) e in
      let width = fired_width P Q (sym pair.width) (correction P) in
      (record { fitting = fired_fitting P Q (sym pair.width) (correction P) pair.second pair.first.fitting; width = omega (arith, width, pair.first.width) }, width)
  by_firing_admitted t (keeping stays) e = rw (kept_past Q t stays) (passed_admitted Q t e, passed_width Q t e)

  pub folded_admitted : (t : Step Float) → pass_row Q t ≡ 0 → Admitted (folded_past Q t)
  folded_admitted t e = (by_firing_admitted t (firing_of t) e).0

  pub folded_width : (t : Step Float) → pass_row Q t ≡ 0 → (folded_past Q t).n ≡ width_after Q.n t
  folded_width t e = (by_firing_admitted t (firing_of t) e).1

-- ---- all steps

-- Of the steps that are left from n qubits on: on m they are all run, on u those that folding leaves. g is a width that both have room for.
module _ (caller : Caller) (g : ℕ) where
  record Ready (ts : List (Step Float)) (n : ℕ) (Q : Pauli) (m u : Memory) : Type 0 where
    within : n ≤ caller.widest
    allowed : Allowed caller n ts
    fits : Fitting Q
    width : Q.n ≡ n
    room_m : room g m.state ≡ true
    room_u : room g u.state ≡ true
    wide : (survey n ts).greatest ≤ g
    framed : Framed n Q (point m.state) (point u.state)

  abbrev Ends : List (Step Float) → ℕ → Pauli → Memory → Memory → Type 0
  Ends ts n Q m u = Framed (last_width n ts) (folded_end Q ts) (point (ran n ts m).state) (point (ran n (folded_steps Q ts) u).state)

  -- what is known of the steps behind t, whatever the Pauli and the memories are there
  abbrev Behind : Step Float → List (Step Float) → ℕ → Type 0
  Behind t ts n = (Q : Pauli) (m u : Memory) → Ready ts (width_after n t) Q m u → FiniteSteps (width_after n t) (folded_steps Q ts) u → Ends ts (width_after n t) Q m u

  module _ (ts : List (Step Float)) (n : ℕ) (Q : Pauli) (m u : Memory) where
    -- the same behind t, but for the second memory and the frame, which are u' and framed
    readied : (t : Step Float) → Ready (t ∷ ts) n Q m u → (u' : Memory) → room g u'.state ≡ true
        → Framed (width_after n t) (folded_past Q t) (point (stepped n t m).state) (point u'.state)
        → Ready ts (width_after n t) (folded_past Q t) (stepped n t m) u'
    readied t r u' room-u' framed =
        let next = fitting_folded caller n Q r.within r.fits r.width t r.allowed.0 r.allowed.1 in
        record {
          within = next.within;
          allowed = r.allowed.2;
          fits = next.fitting;
          width = next.width;
          room_m = room_kept g (stepped_sizes n t m).state r.room_m;
          room_u = room-u';
          wide = le_trans (survey_greatest_rest n t ts) r.wide;
          framed = framed;
        }

    -- both memories have room behind t
    under : (t : Step Float) → Ready (t ∷ ts) n Q m u → width_after n t ≤ g
    under t r = le_trans (survey_greatest (width_after n t) ts) (le_trans (survey_greatest_rest n t ts) r.wide)

    -- a step that stays
    kept_step : (t : Step Float) → fires t ≡ none → Ready (t ∷ ts) n Q m u → Behind t ts n → FiniteSteps n (folded_steps Q (t ∷ ts)) u → Ends (t ∷ ts) n Q m u
    unfolding folded_steps folded_end last_width ran
    kept_step t stays r rest finite =
        let k : ℕ = width_after n t in
        let next = fitting_passed caller n Q t r.within r.allowed.0 r.allowed.1 r.fits r.width in
        let is = kept_past Q t stays in
        let steps = kept_steps Q t stays ts in
        let left = subst (λ (us : List (Step Float)). FiniteSteps n us u) steps finite in
        let framed = past_step caller n Q m u r.width r.fits left.0 r.framed t r.allowed.0 r.allowed.1 (rw next.width at next.fitting.xs)
        (room_under k g m.state (under t r) r.room_m) (room_under k g u.state (under t r) r.room_u) in
        let u' : Memory = stepped n (carried_step Q t) u in
        let behind = rest (passed Q t) (stepped n t m) u'
        (subst (λ (P : Pauli). Ready ts k P (stepped n t m) u') is
        (readied t r u' (room_kept g (stepped_sizes n (carried_step Q t) u).state r.room_u) (rw is framed)))
        (rw (after_carried n Q t) at left.1) in
        rw (steps, is)
        (subst (λ (j : ℕ). Framed (last_width k ts) (folded_end (passed Q t) ts) (point (ran k ts (stepped n t m)).state) (point (ran j (folded_steps (passed Q t) ts) u').state))
        (sym (after_carried n Q t)) behind)

    -- and a correction, at which the second memory stays
    folded_step : (P : Pauli) → Ready (correction P ∷ ts) n Q m u → Behind (correction P) ts n → FiniteSteps n (folded_steps Q (correction P ∷ ts)) u → Ends (correction P ∷ ts) n Q m u
    unfolding folded_end last_width ran width_after stepped
    folded_step P r rest finite =
        let t : Step Float = correction P in
        let next = fitting_folded caller n Q r.within r.fits r.width t r.allowed.0 r.allowed.1 in
        rw (fired_steps Q P ts)
        (rest (folded_past Q t) (stepped n t m) u
        (readied t r u r.room_u
        (framed_only n (folded_past Q t) (rw next.width at next.fitting.xs)
        (point_correction n P m.state r.allowed.0 (room_under n g m.state (under t r) r.room_m)) (λ b h. refl)
        (framed_folded n Q P r.framed)))
        (subst (λ (us : List (Step Float)). FiniteSteps n us u) (fired_steps Q P ts) finite))

    by_firing : (t : Step Float) → Firing t → Ready (t ∷ ts) n Q m u → Behind t ts n → FiniteSteps n (folded_steps Q (t ∷ ts)) u → Ends (t ∷ ts) n Q m u
    by_firing _ (firing P) r rest finite = folded_step P r rest finite
    by_firing t (keeping stays) r rest finite = kept_step t stays r rest finite

  framed_ran : (ts : List (Step Float)) (n : ℕ) (Q : Pauli) (m u : Memory) → Ready ts n Q m u → FiniteSteps n (folded_steps Q ts) u → Ends ts n Q m u
  unfolding last_width folded_steps folded_end ran
  framed_ran [] n Q m u r finite = r.framed
  framed_ran (t ∷ ts) n Q m u r finite = by_firing ts n Q m u t (firing_of t) r (framed_ran ts (width_after n t)) finite

-- ---- from two states that agree: the steps that are left and then the end Pauli, or all the steps

module _ (caller : Caller) (g : ℕ) (ts : List (Step Float)) (n : ℕ) (m u : Memory) (within : n ≤ caller.widest) (allowed : Allowed caller n ts)
    (rm : room g m.state ≡ true) (ru : room g u.state ≡ true) (wide : (survey n ts).greatest ≤ g) (finite : FiniteSteps n (folded_steps (identity n) ts) u)
    (agree : (b : ℕ) → b < 2 ^ n → point m.state b ≡ point u.state b) where
  abbrev left : Memory
  left = ran n (folded_steps (identity n) ts) u

  abbrev end : Pauli
  end = folded_end (identity n) ts

  outset : Ready caller g ts n (identity n) m u
  outset = record {
    within = within;
    allowed = allowed;
    fits = identity_fitting n;
    width = refl;
    room_m = rm;
    room_u = ru;
    wide = wide;
    framed = record { at = λ b h. let none : 0 + 2 * overlap b 0 ≡ 0 = omega (arith, overlap_zero_r b) in rw (xor_zero_r b, none) (alike_eq (agree b h)) };
  }

  -- m and u may differ past the amplitudes of the n qubits, and in the scratch
  pub fold_over_steps : (b : ℕ) → b < 2 ^ last_width n ts → Alike (point (ran n ts m).state b) (point (leaves.correction end left.state) b)
  fold_over_steps b hb =
      let last : ℕ = last_width n ts in
      let ending = fitting_folded_end caller ts n (identity n) within allowed (identity_fitting n) refl in
      let enough : room last left.state ≡ true
      = room_under last g left.state (le_trans (survey_greatest_last n ts) wide) (room_kept g (ran_sizes n (folded_steps (identity n) ts) u).state ru) in
      rw (point_correction last end left.state ending.width enough b hb)
      (corrected_framed last end (rw ending.width at ending.fitting.xs) (framed_ran caller g ts n (identity n) m u outset finite) b hb)
