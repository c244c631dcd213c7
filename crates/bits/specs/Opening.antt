-- What insert_zero_bit answers, and what its answer says.
use Rattle.std.proofs.Math.Path.{◌≡◌}
use Rattle.std.specs.Prelude.{Bool, ℕ, ◌%◌, ◌^◌, ◌<◌, ltb}
use Rattle.std.proofs.Math.Bool.{true, false}
use Rattle.std.proofs.Common.{arith}
use borrow.Author.Tests.{ltb-true}
use Rattle.answers.specs.Answer.{Answer, refuse}
use Rattle.answers.specs.Answer.Answer.{accepted, refused}
use Rattle.bitlaws.specs.Opening.{open_bit}

-- row 5 past bit 63, else the 64-bit index with the bit opened: what moves past bit 63 is lost
unfoldable pub opening : ℕ → ℕ → Answer ℕ
opening packed bit = refuse (ltb 63 bit) 5 (accepted (open_bit bit packed % 2 ^ 64))

module _ (packed bit : ℕ) where
  -- an index is the one with the bit opened
  pub opening_index : (i : ℕ) → accepted i ≡ opening packed bit → i ≡ open_bit bit packed % 2 ^ 64
  unfolding opening refuse
  opening_index i e = go (ltb 63 bit) e
    where
      go : (t : Bool) → accepted i ≡ refuse t 5 (accepted (open_bit bit packed % 2 ^ 64)) → i ≡ open_bit bit packed % 2 ^ 64
      go true e = absurd (let z : ◌≡◌ {A = ℕ} 0 1 = cc in omega arith)
      go false e = cc

  -- a refusal says that there is no such bit
  pub opening_past : (n : ℕ) → refused n ≡ opening packed bit → 63 < bit
  unfolding opening refuse
  opening_past n e = ltb-true 63 bit (go (ltb 63 bit) e)
    where
      go : (t : Bool) → refused n ≡ refuse t 5 (accepted (open_bit bit packed % 2 ^ 64)) → t ≡ true
      go true e = cc
      go false e = absurd (let z : ◌≡◌ {A = ℕ} 0 1 = cc in omega arith)
