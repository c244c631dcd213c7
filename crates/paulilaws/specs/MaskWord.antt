-- Both masks of a Pauli as one number, the Z mask above the X mask: xor of two such numbers is what a product does to masks.
use Rattle.std.specs.Prelude.{◌≡◌, ℕ, ◌+◌, ◌*◌, ◌/◌, ◌%◌, ◌^◌, ◌≤◌, ◌<◌}
use Rattle.std.proofs.Math.Path.{refl, ap}
use Rattle.std.proofs.Common.{sym, ◌∙◌, pow-add}
use Rattle.std.proofs.Math.Nat.{mod-eq_of_lt}
use Rattle.std.proofs.Math.Arith.{digits_div, digits_lt, digits_mod}
use Rattle.std.specs.Int.Bits.{bit_xor, xor_mod}
use Rattle.std.proofs.lemmas.Nat.{xor_block, xor_shr}
use Rattle.bitlaws.specs.Digit.{mod_power}
use Rattle.paulilaws.specs.Pauli.{Pauli, product, most_qubits}
use Rattle.paulilaws.specs.Fitting.{Admitted}

-- the masks on the lowest m qubits
unfoldable pub mask_word : ℕ → Pauli → ℕ
mask_word m P = P.z % 2 ^ m * 2 ^ m + P.x % 2 ^ m

-- i^k times the Pauli on n qubits with these masks
unfoldable pub with_masks : ℕ → ℕ → ℕ → Pauli
with_masks n k c = record { n = n; k = k; x = c % 2 ^ n; z = c / 2 ^ n % 2 ^ n }

-- two Paulis with the same masks, whatever their widths and phases
pub record Masked (A B : Pauli) : Type 0 where
  pub xs : A.x ≡ B.x
  pub zs : A.z ≡ B.z

pub masked_same : {A : Pauli} → Masked A A
masked_same = record { xs = refl; zs = refl }

pub masked_sym : {A B : Pauli} → Masked A B → Masked B A
masked_sym h = record { xs = sym h.xs; zs = sym h.zs }

pub masked_trans : {A B C : Pauli} → Masked A B → Masked B C → Masked A C
masked_trans h k = record { xs = h.xs ∙ k.xs; zs = h.zs ∙ k.zs }

-- ---- the number

module _ (m : ℕ) where
  word_x : (P : Pauli) → mask_word m P % 2 ^ m ≡ P.x % 2 ^ m
  unfolding mask_word
  word_x P = digits_mod (P.z % 2 ^ m) (mod_power m P.x)

  word_z : (P : Pauli) → mask_word m P / 2 ^ m ≡ P.z % 2 ^ m
  unfolding mask_word
  word_z P = digits_div (P.z % 2 ^ m) (mod_power m P.x)

  -- it has 2 m digits
  pub word_lt : (P : Pauli) → mask_word m P < 2 ^ (m + m)
  unfolding mask_word
  word_lt P = rw (pow-add 2 m m) (digits_lt (mod_power m P.z) (mod_power m P.x))

  pub word_masked : {A B : Pauli} → Masked A B → mask_word m A ≡ mask_word m B
  unfolding mask_word
  word_masked h = rw (h.xs, h.zs)

  -- and tells the masks, where they are on m qubits
  pub masked_word : (A B : Pauli) → A.x < 2 ^ m → A.z < 2 ^ m → B.x < 2 ^ m → B.z < 2 ^ m → mask_word m A ≡ mask_word m B → Masked A B
  masked_word A B ax az bx bz e = record {
    xs = sym (word_x A ∙ mod-eq_of_lt ax) ∙ ap (λ (a : ℕ). a % 2 ^ m) e ∙ word_x B ∙ mod-eq_of_lt bx;
    zs = sym (word_z A ∙ mod-eq_of_lt az) ∙ ap (λ (a : ℕ). a / 2 ^ m) e ∙ word_z B ∙ mod-eq_of_lt bz;
  }

  -- of a product
  pub word_product : (A B : Pauli) → mask_word m (product A B) ≡ bit_xor (mask_word m A) (mask_word m B)
  unfolding mask_word product
  word_product A B =
      rw (xor_mod A.x B.x m, xor_mod A.z B.z m)
      (sym (xor_block m (A.z % 2 ^ m) (B.z % 2 ^ m) (A.x % 2 ^ m) (B.x % 2 ^ m) (mod_power m A.x) (mod_power m B.x)))

-- ---- and back

module _ (n : ℕ) where
  pub masks_admitted : (k c : ℕ) → n ≤ most_qubits → k ≤ 3 → Admitted (with_masks n k c)
  unfolding with_masks
  masks_admitted k c h l = record { fitting = record { phase = l; xs = mod_power n c; zs = mod_power n (c / 2 ^ n) }; width = h }

  pub masks_width : (k c : ℕ) → (with_masks n k c).n ≡ n
  unfolding with_masks
  masks_width k c = refl

  -- a Pauli's own masks
  pub masks_word : (k : ℕ) (Q : Pauli) → Q.x < 2 ^ n → Q.z < 2 ^ n → Masked (with_masks n k (mask_word n Q)) Q
  unfolding with_masks
  masks_word k Q hx hz = record {
    xs = word_x n Q ∙ mod-eq_of_lt hx;
    zs = ap (λ (a : ℕ). a % 2 ^ n) (word_z n Q ∙ mod-eq_of_lt hz) ∙ mod-eq_of_lt hz;
  }

  -- of a sum: those of a product
  pub masks_xor : (a b : ℕ) → Masked (with_masks n 0 (bit_xor a b)) (product (with_masks n 0 a) (with_masks n 0 b))
  unfolding with_masks product
  masks_xor a b = record { xs = xor_mod a b n; zs = ap (λ (d : ℕ). d % 2 ^ n) (xor_shr a b n) ∙ xor_mod (a / 2 ^ n) (b / 2 ^ n) n }
