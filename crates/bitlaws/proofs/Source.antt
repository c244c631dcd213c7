-- The basis that a diagonal projection reads.
use Rattle.std.specs.Prelude.{◌≡◌, ℕ, suc, ◌+◌, ◌*◌, ◌%◌, ◌^◌, ◌≤◌, ◌<◌}
use Rattle.std.proofs.Math.Path.{sym, ap}
use Rattle.std.proofs.Common.{◌∙◌, mul-one, arith}
use Rattle.std.proofs.Math.Nat.{mod-add-mod}
use Rattle.bitlaws.specs.Digit.{digit, put, mod_two, digit_lt}
use Rattle.bitlaws.specs.Parity.{overlap}
use Rattle.bitlaws.specs.Opening.{open_bit, drop_bit}
use Rattle.bitlaws.proofs.Opening.{open_clear, drop_open, open_lt}
use Rattle.bitlaws.specs.Writing.{put_lt}
use Rattle.bitlaws.proofs.Pivot.{open_ge, put_clear, drop_put, open_drop_sum, overlap_pivot}
use Rattle.bitlaws.specs.Source.{source}

-- of the two bits the one that, added to o, makes e's parity
made : (e o : ℕ) → (o + (e + o) % 2) % 2 ≡ e % 2
made e o = omega arith

only : (e o c : ℕ) → c < 2 → (o + c) % 2 ≡ e % 2 → c ≡ (e + o) % 2
only e o c h q = omega arith

module _ (p z e j : ℕ) where
  -- the pivot's bit
  abbrev bit : ℕ
  bit = (e + overlap (open_bit p j) z) % 2

  small : bit < 2
  small = mod_two (e + overlap (open_bit p j) z)

  written : source p z e j ≡ put p bit (open_bit p j)
  unfolding source
  written = sym (put_clear p bit (open_bit p j) (open_clear p j))

  pub source_drop : drop_bit p (source p z e j) ≡ j
  source_drop = ap (drop_bit p) written ∙ drop_put p bit (open_bit p j) small ∙ drop_open p j

  -- with bit d at the pivot
  parity_with : (d : ℕ) → d < 2 → digit p z ≡ 1 → overlap (open_bit p j + d * 2 ^ p) z ≡ (overlap (open_bit p j) z + d) % 2
  parity_with d h set =
      overlap_pivot p d (open_bit p j) z h (open_clear p j) ∙ ap (λ (m : ℕ). (overlap (open_bit p j) z + m) % 2) (ap (λ (m : ℕ). d * m) set ∙ mul-one d)

  pub source_parity : digit p z ≡ 1 → overlap (source p z e j) z ≡ e % 2
  unfolding source
  source_parity set = parity_with bit small set ∙ made e (overlap (open_bit p j) z)

  -- and no other basis is so
  pub source_only : (b : ℕ) → digit p z ≡ 1 → drop_bit p b ≡ j → overlap b z ≡ e % 2 → b ≡ source p z e j
  unfolding source
  source_only b set rest even =
      let sum : open_bit p j + digit p b * 2 ^ p ≡ b = ap (λ (m : ℕ). open_bit p m + digit p b * 2 ^ p) (sym rest) ∙ open_drop_sum p b in
      let same : digit p b ≡ bit
      = only e (overlap (open_bit p j) z) (digit p b) (digit_lt p b) (sym (parity_with (digit p b) (digit_lt p b) set) ∙ ap (λ (m : ℕ). overlap m z) sum ∙ even) in
      sym sum ∙ ap (λ (m : ℕ). open_bit p j + m * 2 ^ p) same

  pub source_ge : j ≤ source p z e j
  unfolding source
  source_ge = omega (arith, open_ge p j)

  pub source_lt : (n : ℕ) → p ≤ n → j < 2 ^ n → source p z e j < 2 ^ suc n
  source_lt n fits h = rw written (put_lt p (suc n) bit (open_bit p j) (omega arith) small (open_lt p n fits j h))

-- e counts modulo 2
pub source_mod : (p z e e' j : ℕ) → e % 2 ≡ e' % 2 → source p z e j ≡ source p z e' j
unfolding source
source_mod p z e e' j h =
    let o : ℕ = overlap (open_bit p j) z in
    ap (λ (m : ℕ). open_bit p j + m * 2 ^ p) (sym (mod-add-mod e 2 o) ∙ ap (λ (m : ℕ). (m + o) % 2) h ∙ mod-add-mod e' 2 o)
