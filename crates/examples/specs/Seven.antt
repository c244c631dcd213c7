-- A ring in which 1 is not 0 and some h has h h + h h = 1, as the book theorem asks: the numbers modulo 7, where h = 2; and a run over it.
use Rattle.std.specs.Prelude.{◌≡◌, refl, [], ◌∷◌}
use Rattle.std.proofs.Common.{sym, ap, add_comm, mul_comm, mul_assoc, mul-add, add-mul, mod-lt, suc-ne-zero, arith}
use Prim.Native.Nat.{ℕ, ◌+◌, ◌*◌, ◌-◌, ◌/◌, ◌%◌, Fin}
use Rattle.std.proofs.Math.Nat.{add-mod, div-add-mod, mul-add-mod_self_left}
use Rattle.std.specs.Int.Count.{ones}
use Rattle.bitlaws.specs.Opening.{open_bit}
use Rattle.bitlaws.specs.Parity.{overlap}
use Rattle.amplitudelaws.specs.Arithmetic.{Amplitude, power, times, conjugate, times_power, direction, negated, scale, scaled, mixed}
use Rattle.amplitudelaws.specs.Rotation.{rotation_coefficient, rotated_alone, rotated_by, rotated}
use Rattle.amplitudelaws.specs.Promotion.{raised, promoted}
use Rattle.amplitudelaws.specs.Projection.{projection_coefficient, remaining_by, remaining, projected}
use Rattle.amplitudelaws.specs.Correction.{corrected}
use Rattle.amplitudelaws.specs.Step.{width_after}
use Rattle.amplitudelaws.specs.Step.Step.{rotation, promotion, projection, correction, quarter_turn}
use Rattle.amplitudelaws.specs.Acting.{acts, acted}
use Rattle.amplitudelaws.specs.Book.Ring.{Ring}
use Rattle.amplitudelaws.specs.Book.Complex.{exact}
use Rattle.amplitudelaws.specs.Book.Theorem.{Book}
use Rattle.amplitudelaws.proofs.Book.Theorem.{book}

-- a factor may be reduced first: a is 7 (a / 7) + a % 7
mod_times : (a b : ℕ) → a % 7 * b % 7 ≡ a * b % 7
mod_times a b = rw (sym (mul-add-mod_self_left 7 (a / 7 * b) (a % 7 * b)), sym (mul_assoc 7 (a / 7) b), sym (add-mul (7 * (a / 7)) (a % 7) b), div-add-mod a 7)

times_mod : (a b : ℕ) → a * (b % 7) % 7 ≡ a * b % 7
times_mod a b = rw (mul_comm a (b % 7), mod_times b a, mul_comm b a)

unfoldable residue : ℕ → Fin 7
residue n = (n % 7, mod-lt n (omega arith))

unfoldable seven : Ring (Fin 7)
unfolding residue
seven = record {
  zero = residue 0;
  one = residue 1;
  neg = λ a. residue (7 - a.0);
  add = λ a b. residue (a.0 + b.0);
  mul = λ a b. residue (a.0 * b.0);
  add_assoc = λ a b c. native.Mathlib.Fin.val_path (omega arith);
  add_comm = λ a b. ap residue (add_comm a.0 b.0);
  zero_add = λ a. native.Mathlib.Fin.val_path (omega (arith, a.1));
  neg_add_cancel = λ a. native.Mathlib.Fin.val_path (omega (arith, a.1));
  mul_assoc = λ a b c. native.Mathlib.Fin.val_path (rw (mod_times (a.0 * b.0) c.0, times_mod a.0 (b.0 * c.0), mul_assoc a.0 b.0 c.0));
  mul_comm = λ a b. ap residue (mul_comm a.0 b.0);
  one_mul = λ a. native.Mathlib.Fin.val_path (omega (arith, a.1));
  left_distrib = λ a b c. native.Mathlib.Fin.val_path (rw (times_mod a.0 (b.0 + c.0), mul-add a.0 b.0 c.0) (add-mod (a.0 * b.0) (a.0 * c.0) 7));
}

half_of_one : seven.add (seven.mul (residue 2) (residue 2)) (seven.mul (residue 2) (residue 2)) ≡ seven.one
unfolding seven
half_of_one = native.Mathlib.Fin.val_path refl

apart : seven.one ≡ seven.zero → ⊥
unfolding seven
apart e = suc-ne-zero 0 (ap (λ (a : Fin 7). a.0) e)

-- so the theorem speaks of something
holds : Book seven (residue 2)
holds = book seven (residue 2) half_of_one

-- A run from basis 0: turned by Y to (1, 1) h, a qubit (1, i) h put above it, X measured on the lower one, Z fired, which leaves (1, -i) h, and a quarter turn
-- of Z, which leaves (1 - i, 1 - i) h h, where h h is a half.
abbrev ended : ℕ → Amplitude (Fin 7)
ended =
    acted (exact seven (residue 2)) 1
    (rotation (record { n = 1; k = 1; x = 1; z = 1 }) 0 (residue 2) (residue 2)
    ∷ promotion (residue 2) (residue 2)
    ∷ projection (record { n = 2; k = 0; x = 1; z = 0 }) 0 0 (residue 1)
    ∷ correction (record { n = 1; k = 0; x = 0; z = 1 })
    ∷ quarter_turn (record { n = 1; k = 0; x = 0; z = 1 }) ∷ [])
    (λ b. record { re = residue (1 - b); im = residue 0 })

runs : ((ended 0).re.0 ≡ 4) × ((ended 0).im.0 ≡ 3) × ((ended 1).re.0 ≡ 4) × ((ended 1).im.0 ≡ 3)
unfolding seven acted acts width_after rotated rotated_by rotated_alone rotation_coefficient promoted raised projected remaining remaining_by projection_coefficient corrected power times conjugate times_power direction negated scale scaled mixed open_bit overlap ones
runs = (refl, refl, refl, refl)
