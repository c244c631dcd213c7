-- A run's fields as pieces of bytes, each by itself: a walk is accepted exactly where it goes over its steps' pieces and the end field.
use Rattle.std.specs.Prelude.{◌≡◌, List, [], ◌∷◌, ◌++◌, ℕ, ◌≤◌, Float, length}
use Rattle.amplitudelaws.specs.Step.{Step, width_after}
use Rattle.framelaws.specs.Caller.{Caller}
use Rattle.runlaws.specs.Reading.{read_at}
use Rattle.runlaws.specs.Reading.Read.{step_read}
use Rattle.runlaws.specs.Fields.{step_field}

-- the bytes f, read by themselves at width n, are the step t, and none is left
pub record Piece (caller : Caller) (n : ℕ) (t : Step Float) (f : List ℕ) : Type 0 where
  pub read : read_at caller f (record { at = 0; width = n }) ≡ step_read t (record { at = length f; width = width_after n t })

-- the end field's bytes, which may stand at any width within the caller's greatest
abbrev pub end_bytes : List ℕ
end_bytes = 6 ∷ 0 ∷ 0 ∷ []

pub record Ends (caller : Caller) (n : ℕ) (bytes : List ℕ) : Type 0 where
  pub within : n ≤ caller.widest
  pub is : bytes ≡ end_bytes

-- bytes in two parts, of which P and Q hold
pub record Split (P Q : List ℕ → Type 0) (bytes : List ℕ) : Type 0 where
  pub first : List ℕ
  pub rest : List ℕ
  pub both : bytes ≡ first ++ rest
  pub this : P first
  pub that : Q rest

-- a piece for each step, one after the other, and the end field
abbrev pub Pieces : Caller → ℕ → List (Step Float) → List ℕ → Type 0
Pieces caller n [] bytes = Ends caller n bytes
Pieces caller n (t ∷ ts) bytes = Split (Piece caller n t) (Pieces caller (width_after n t) ts) bytes

-- ---- pieces, wherever they stand

-- pieces stand at a width within the caller's greatest
pub pieces_within : (caller : Caller) (n : ℕ) (ts : List (Step Float)) (bytes : List ℕ) → Pieces caller n ts bytes → n ≤ caller.widest
pieces_within caller n [] bytes p = p.within
pieces_within caller n (t ∷ ts) bytes p = (step_field caller p.first (record { at = 0; width = n }) _ t p.this.read).within
