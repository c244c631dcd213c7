-- What is read of the text that asks for a report: what stands before a byte and behind it, and a step's number.
use Rattle.std.specs.Prelude.{Bool, true, false, cond, ◌&&◌, List, [], ◌∷◌, ℕ, ◌+◌, ◌-◌, ◌*◌, min, eqb, leb}

-- ---- a byte that parts a text

-- the bytes before the first b; all of them where there is none
unfoldable pub before : ℕ → List ℕ → List ℕ
before b [] = []
before b (x ∷ s) = cond (eqb x b) [] (x ∷ before b s)

-- the bytes behind it; none where there is none
unfoldable pub after : ℕ → List ℕ → List ℕ
after b [] = []
after b (x ∷ s) = cond (eqb x b) s (after b s)

unfoldable pub has : ℕ → List ℕ → Bool
has b [] = false
has b (x ∷ s) = cond (eqb x b) true (has b s)

-- ---- a number

-- no run has a step of this number: a larger one is taken for it, and so is what is no number
abbrev pub no_step : ℕ
no_step = 65536

unfoldable pub is_digit : ℕ → Bool
is_digit d = leb 48 d && leb d 57

-- v, and the digit d behind it
unfoldable pub grown : ℕ → ℕ → ℕ
grown v d = min no_step (10 * v + (d - 48))

unfoldable pub number_from : ℕ → List ℕ → ℕ
number_from v [] = v
number_from v (d ∷ s) = cond (is_digit d) (number_from (grown v d) s) no_step

unfoldable pub number : List ℕ → ℕ
number [] = no_step
number (d ∷ s) = number_from 0 (d ∷ s)
