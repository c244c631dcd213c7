-- Masks of a start, carried: what the walk asks for, and what comes of it.
use mathlib.Core.Path.{◌≡◌, sym, ap, ◌∙◌, subst}
use mathlib.Core.Bool.{true, not}
use mathlib.Core.List.{List}
use Prim.Native.Nat.{ℕ, ◌+◌, ◌*◌, ◌/◌, ◌%◌, ◌^◌, ◌≤◌}
use native.Mathlib.Nat.{mod-add-mod, add-mul-mod_self_left, div-add-mod}
use native.Mathlib.Omega.{arith}
use borrow.Author.Tests.{eq-eqb, ne_eqb}
use Rattle.answers.specs.Answer.{Answer, is_accepted, value_or}
use Rattle.answers.specs.Answer.Answer.{accepted, refused}
use Rattle.answers.specs.Row.{row, answered, accepted_value}
use Rattle.std.specs.Prelude.{Float}
use Rattle.amplitudelaws.specs.Step.{Step, last_width}
use Rattle.framelaws.specs.Caller.{Caller, widest_run}
use Rattle.paulilaws.specs.Fitting.{Admitted}
use Rattle.framelaws.specs.Carrying.{end_pauli}
use Rattle.framelaws.specs.Seeking.{image, with_image, remainder, is_reached, with_phase_for, start_for}
use Rattle.paulilaws.specs.Pauli.{Pauli}
use Rattle.runlaws.specs.OnStart.{run_in}
use Rattle.runlaws.specs.Run.{run_of}
use Rattle.paulilaws.specs.MaskWord.{mask_word, with_masks, masks_admitted, masks_width}

-- the run is what an accepted reading gives
pub read_run : (caller : Caller) (s : List ℕ) → is_accepted (run_of caller s) ≡ true → run_of caller s ≡ accepted (run_in caller s)
unfolding run_in value_or
read_run caller s e = let v = accepted_value (run_of caller s) e in rw v.is

-- a Pauli made of masks is on these qubits
pub masks_placed : (n : ℕ) → n ≤ widest_run → (c : ℕ) {Q : Pauli} → Q ≡ with_masks n 0 c → Admitted Q × (Q.n ≡ n)
masks_placed n narrow c is =
    (subst Admitted (sym is) (masks_admitted n 0 c (omega (arith, narrow)) (omega arith)), ap (λ (P : Pauli). P.n) is ∙ masks_width n 0 c)

module _ (n : ℕ) {m : ℕ} (steps : List (Step Float)) (ends : m ≡ last_width n steps) where
  -- where it ends, below its masks
  pub image_is : (c : ℕ) {Q P : Pauli} {word : ℕ} → Q ≡ with_masks n 0 c → P ≡ end_pauli Q steps → word ≡ mask_word m P
      → c * 2 ^ (m + m) + word ≡ with_image n steps c
  unfolding with_image image
  image_is c start carried is = rw (is, carried, start, sym ends)

  module _ (E : Pauli) {left : ℕ} (is : left ≡ remainder n steps E) where
    abbrev Told : Answer Pauli → Type 0
    Told a = a ≡ answered (row (not (is_reached n steps E)) 25 0) (start_for n steps E)

    pub none_told : (left % 2 ^ (m + m) ≡ 0 → ⊥) → Told (refused 25)
    unfolding is_reached row answered
    none_told some = rw (sym is, sym ends, ne_eqb (left % 2 ^ (m + m)) 0 some)

    pub start_told : left % 2 ^ (m + m) ≡ 0 → {Q P A : Pauli} → Q ≡ with_masks n 0 (left / 2 ^ (m + m)) → P ≡ end_pauli Q steps
        → A ≡ with_masks n ((E.k % 4 + 3 * (P.k % 4)) % 4) (left / 2 ^ (m + m)) → Told (accepted A)
    unfolding is_reached row answered start_for with_phase_for
    start_told none start carried made =
        rw (sym is, sym ends, eq-eqb (left % 2 ^ (m + m)) 0 none) (ap accepted (made ∙ rw (carried, start) (ap (λ (e : ℕ). with_masks n e (left / 2 ^ (m + m))) (phase E.k _))))
      where
        phase : (e p : ℕ) → (e % 4 + 3 * (p % 4)) % 4 ≡ (e + 3 * p) % 4
        phase e p =
            mod-add-mod e 4 (3 * (p % 4)) ∙ sym (add-mul-mod_self_left (e + 3 * (p % 4)) 4 (3 * (p / 4))) ∙ ap (λ (a : ℕ). a % 4) (omega (arith, div-add-mod p 4))
