-- A bit comes from another language as a number; over 1 it is none, and refuses the call by 14. That row stands behind the call's own, which
-- have the lower numbers.
use Rattle.std.specs.Prelude.{◌≡◌, refl, ℕ, zero, suc, ◌≤◌, ltb}
use Rattle.std.proofs.Common.{lit<, ltb-false}
use Rattle.answers.specs.Answer.{Answer}
use Rattle.answers.specs.Answer.Answer.{accepted, refused, refused_at}
use Rattle.answers.specs.Row.{row, first, answered, row_passed}

-- 14: over 1
unfoldable pub flag_row : ℕ → ℕ
flag_row flag = row (ltb 1 flag) 14 0

-- an answer, and a row that stands behind its own: where these let it pass, that one decides
unfoldable pub behind : {A : Type 0} → Answer A → ℕ → Answer A
behind (accepted a) r = answered r a
behind (refused n) r = refused n
behind (refused_at n at) r = refused_at n at

-- of an answer by its row it is the first of the two
behind_row : {A : Type 0} (own : ℕ) (a : A) (r : ℕ) → behind (answered own a) r ≡ answered (first own r) a
unfolding behind answered first
behind_row zero a r = refl
behind_row (suc own) a r = refl

-- what passes is a bit
pub flag_passed : (flag : ℕ) → flag_row flag ≡ 0 → flag ≤ 1
unfolding flag_row
flag_passed flag e = ltb-false 1 flag (row_passed (ltb 1 flag) 14 0 (lit< tt) e).0
