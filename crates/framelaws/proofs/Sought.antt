-- What is found by Seeking's elimination is carried to the given Pauli, phase included; and where it finds none, no Pauli on the start qubits is.
use Rattle.std.specs.Prelude.{◌≡◌, true, List, Float}
use Rattle.std.proofs.Math.Path.{refl, sym, ap, ap₂}
use Rattle.std.proofs.Common.{◌∙◌, mod-eq_of_lt, zero-add, arith, pow_pos}
use Prim.Native.Nat.{ℕ, ◌+◌, ◌*◌, ◌/◌, ◌%◌, ◌^◌, ◌≤◌, ◌<◌}
use Rattle.std.proofs.Math.Nat.{div-eq_of_lt, zero-mod, zero-div}
use Rattle.std.proofs.Math.Arith.{digits_div, digits_mod}
use Rattle.std.specs.Int.Bits.{bit_xor, xor_mod, xor_zero_l, xor_zero_r}
use Rattle.std.proofs.lemmas.Nat.{xor_block, xor_shr}
use borrow.Author.Tests.{eqb-true, eq-eqb}
use Rattle.bitlaws.specs.Digit.{digit, digit_above, digit_low, digits_same, mod_power}
use Rattle.bitlaws.specs.Elimination.{words_of}
use Rattle.bitlaws.specs.Eliminated.{Clear}
use Rattle.bitlaws.proofs.Eliminated.{complete, sound}
use Rattle.bitlaws.proofs.LinearWords.{linear_zero, reach_linear, words_all}
use Rattle.bitlaws.specs.Xor.{xor_self}
use Rattle.paulilaws.specs.Pauli.{Pauli, most_qubits, same}
use Rattle.paulilaws.specs.Fitting.{Fitting, phase_small}
use Rattle.paulilaws.specs.Frame.{raised}
use Rattle.paulilaws.specs.MaskWord.{mask_word, with_masks, Masked, masked_trans, word_lt, word_masked, masked_word, word_product, masks_admitted, masks_width, masks_word, masks_xor}
use Rattle.amplitudelaws.specs.Step.{Step, last_width}
use Rattle.framelaws.specs.Caller.{Caller}
use Rattle.framelaws.specs.Carrying.{end_pauli}
use Rattle.framelaws.specs.Allowed.{Allowed}
use Rattle.framelaws.proofs.CarriedMasks.{end_masked, end_product}
use Rattle.framelaws.proofs.CarriedPhase.{end_raised}
use Rattle.framelaws.proofs.Fitted.{fitting_end}
use Rattle.framelaws.specs.Seeking.{end_bits, image, with_image, remainder, is_reached, with_phase_for, start_for}
use Rattle.framelaws.specs.Sought.{Start}

-- ---- the lowest digits of a number

clear_mod : (k a : ℕ) → Clear k a → a % 2 ^ k ≡ 0
clear_mod k a h =
    digits_same k (a % 2 ^ k) 0 (mod_power k a) (pow_pos k) (λ i l. digit_low k i a l ∙ h i l ∙ sym (digit_above 0 i 0 (pow_pos 0) (omega arith)))

mod_clear : (k a : ℕ) → a % 2 ^ k ≡ 0 → Clear k a
mod_clear k a h i l = sym (digit_low k i a l) ∙ ap (digit i) h ∙ digit_above 0 i 0 (pow_pos 0) (omega arith)

module _ (caller : Caller) (n : ℕ) (ts : List (Step Float)) (narrow : n ≤ most_qubits) (allowed : Allowed caller n ts) where
  abbrev m : ℕ
  m = last_width n ts

  abbrev bits : ℕ
  bits = end_bits n ts

  -- ---- the masks at the end are a linear function of those at the start

  image_xor : (a b : ℕ) → image n ts (bit_xor a b) ≡ bit_xor (image n ts a) (image n ts b)
  unfolding image
  image_xor a b =
      let A : Pauli = with_masks n 0 a in
      let B : Pauli = with_masks n 0 b in
      word_masked m (masked_trans (end_masked ts (masks_xor n a b))
      (end_product caller n ts A B (masks_admitted n 0 a narrow (omega arith)) (masks_width n 0 a) allowed))
      ∙ word_product m (end_pauli A ts) (end_pauli B ts)

  image_lt : (c : ℕ) → image n ts c < 2 ^ bits
  unfolding image
  image_lt c = word_lt m (end_pauli (with_masks n 0 c) ts)

  with_image_xor : (a b : ℕ) → with_image n ts (bit_xor a b) ≡ bit_xor (with_image n ts a) (with_image n ts b)
  unfolding with_image
  with_image_xor a b =
      ap (λ (i : ℕ). bit_xor a b * 2 ^ bits + i) (image_xor a b) ∙ sym (xor_block bits a b (image n ts a) (image n ts b) (image_lt a) (image_lt b))

  -- a word whose lowest digits are the image of the others
  abbrev Imaged : ℕ → Type 0
  Imaged a = a % 2 ^ bits ≡ image n ts (a / 2 ^ bits)

  image_low : (c : ℕ) → with_image n ts c % 2 ^ bits ≡ image n ts c
  unfolding with_image
  image_low c = digits_mod c (image_lt c)

  with_image_imaged : (c : ℕ) → Imaged (with_image n ts c)
  with_image_imaged c = image_low c ∙ ap (image n ts) (sym (unfold with_image in digits_div c (image_lt c)))

  zero_imaged : Imaged 0
  zero_imaged = zero-mod (2 ^ bits) ∙ sym (ap (image n ts) (zero-div (2 ^ bits)) ∙ linear_zero (image n ts) image_xor)

  xor_imaged : (a b : ℕ) → Imaged a → Imaged b → Imaged (bit_xor a b)
  xor_imaged a b ha hb =
      xor_mod a b bits ∙ ap₂ bit_xor ha hb ∙ sym (image_xor (a / 2 ^ bits) (b / 2 ^ bits)) ∙ ap (image n ts) (sym (xor_shr a b bits))

  -- ---- elimination finds masks with E's image exactly where there are any

  module _ (E : Pauli) where
    abbrev target : ℕ
    target = mask_word m E

    abbrev found : ℕ
    found = remainder n ts E / 2 ^ bits

    found_image : remainder n ts E % 2 ^ bits ≡ 0 → image n ts found ≡ target
    unfolding remainder
    found_image low =
        let r : ℕ = remainder n ts E in
        let words = words_of (with_image n ts) (n + n) in
        let sum : Imaged (bit_xor target r)
        = sound Imaged zero_imaged xor_imaged bits words target (words_all (with_image n ts) Imaged with_image_imaged (n + n)) in
        let small : target < 2 ^ bits = word_lt m E in
        ap (image n ts) (sym (xor_shr target r bits ∙ ap (λ (a : ℕ). bit_xor a (r / 2 ^ bits)) (div-eq_of_lt small) ∙ xor_zero_l (r / 2 ^ bits)))
        ∙ sym sum
        ∙ xor_mod target r bits ∙ ap₂ bit_xor (mod-eq_of_lt small) low ∙ xor_zero_r target

    image_found : (c : ℕ) → c < 2 ^ (n + n) → image n ts c ≡ target → remainder n ts E % 2 ^ bits ≡ 0
    unfolding remainder
    image_found c h e =
        let word : ℕ = with_image n ts c in
        let goal : ℕ = bit_xor target word in
        let low : goal % 2 ^ bits ≡ 0
        = xor_mod target word bits ∙ ap₂ bit_xor (mod-eq_of_lt (word_lt m E)) (image_low c ∙ e) ∙ xor_self target in
        clear_mod bits _
        (complete bits (words_of (with_image n ts) (n + n)) target goal (mod_clear bits goal low)
        (reach_linear (with_image n ts) with_image_xor (n + n) target c h))

  -- ---- and so a Pauli, its phase made up for

  module _ (within : n ≤ caller.widest) (E : Pauli) (fits : Fitting E) (width : E.n ≡ m) where
    -- masks with E's image, and the phase that is wanted: the end is E
    ends_in : (c : ℕ) → image n ts c ≡ mask_word m E → end_pauli (with_phase_for n ts E c) ts ≡ E
    unfolding image with_phase_for
    ends_in c e =
        let Q : Pauli = with_masks n 0 c in
        let P : Pauli = end_pauli Q ts in
        let end = fitting_end caller n Q ts within allowed (masks_admitted n 0 c narrow (omega arith)).fitting (masks_width n 0 c) in
        let masks : Masked P E
        = masked_word m P E (rw end.width at end.fitting.xs) (rw end.width at end.fitting.zs) (rw width at fits.xs) (rw width at fits.zs) e in
        let turned : (up : ℕ) → with_masks n (up % 4) c ≡ raised up Q = λ up. unfold with_masks raised in same refl (ap (λ (a : ℕ). a % 4) (sym (zero-add up))) refl refl in
        let made_up : (up : ℕ) → (P.k + up) % 4 ≡ E.k → end_pauli (with_masks n (up % 4) c) ts ≡ E
        = λ up phase. ap (λ (A : Pauli). end_pauli A ts) (turned up) ∙ end_raised up Q ts ∙ (unfold raised in same (end.width ∙ sym width) phase masks.xs masks.zs) in
        made_up _ (omega (arith, fits.phase))

    pub start_found : is_reached n ts E ≡ true → Start caller n ts narrow allowed within E fits width (start_for n ts E)
    unfolding is_reached start_for
    start_found e =
        let low : remainder n ts E % 2 ^ bits ≡ 0 = eqb-true _ _ e in
        record {
          admitted = unfold with_phase_for in masks_admitted n _ _ narrow (phase_small _);
          on = unfold with_phase_for in masks_width n _ _;
          ends = ends_in (found E) (found_image E low);
        }

    -- a Pauli on the start qubits that ends in E: then one is found
    pub start_reached : (Q : Pauli) → Fitting Q → Q.n ≡ n → end_pauli Q ts ≡ E → is_reached n ts E ≡ true
    unfolding is_reached
    start_reached Q f w e =
        let c : ℕ = mask_word n Q in
        let own : Masked (with_masks n 0 c) Q = masks_word n 0 Q (rw w at f.xs) (rw w at f.zs) in
        let is : image n ts c ≡ mask_word m E = unfold image in (word_masked m (end_masked ts own) ∙ ap (mask_word m) e) in
        eq-eqb (remainder n ts E % 2 ^ bits) 0 (image_found E c (word_lt n Q) is)
