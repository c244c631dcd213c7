-- The basis that a projection reads, against masks and against xor.
use Rattle.std.specs.Prelude.{◌≡◌, ℕ, ◌+◌, ◌*◌, ◌%◌}
use Rattle.std.proofs.Common.{sym, ap, ap₂, ◌∙◌, arith}
use Rattle.std.specs.Int.Bits.{bit_xor}
use Rattle.bitlaws.specs.Digit.{digit}
use Rattle.bitlaws.specs.Opening.{open_bit, drop_bit}
use Rattle.bitlaws.proofs.Opening.{open_drop_clear}
use Rattle.bitlaws.specs.Parity.{overlap}
use Rattle.bitlaws.proofs.Parity.{overlap_lt, overlap_xor_l}
use Rattle.bitlaws.proofs.Pivot.{open_xor, drop_xor, overlap_drop}
use Rattle.bitlaws.specs.Source.{source}
use Rattle.bitlaws.proofs.Source.{source_drop, source_parity, source_only}

-- a mask without the pivot moves the opened basis
pub open_moves : (p j x : ℕ) → digit p x ≡ 0 → open_bit p (bit_xor j (drop_bit p x)) ≡ bit_xor (open_bit p j) x
open_moves p j x clear = open_xor p j (drop_bit p x) ∙ ap (bit_xor (open_bit p j)) (open_drop_clear p x clear)

-- it has no pivot to meet in a diagonal projection's basis
pub source_clear : (p z e j y : ℕ) → digit p y ≡ 0 → overlap (source p z e j) y ≡ overlap j (drop_bit p y)
source_clear p z e j y clear =
    overlap_drop p (source p z e j) y
    ∙ ap₂ (λ (m n : ℕ). (overlap m (drop_bit p y) + digit p (source p z e j) * n) % 2) (source_drop p z e j) clear
    ∙ omega (arith, overlap_lt j (drop_bit p y))

-- any mask moves that basis, with the parity that it has against z
pub source_moves : (p z e e' j x : ℕ) → digit p z ≡ 1 → (e + overlap x z) % 2 ≡ e' % 2 → source p z e (bit_xor j (drop_bit p x)) ≡ bit_xor (source p z e' j) x
source_moves p z e e' j x set parity =
    let b : ℕ = source p z e' j in
    sym (source_only p z e (bit_xor j (drop_bit p x)) (bit_xor b x) set
    (drop_xor p b x ∙ ap (λ (m : ℕ). bit_xor m (drop_bit p x)) (source_drop p z e' j))
    (overlap_xor_l b x z ∙ omega (arith, source_parity p z e' j set)))
