-- Which Pauli is carried to a given one (change request E12). A phase that is raised at the start is raised at the end, and the masks at the end are a linear
-- function of those at the start: so masks are sought by elimination, and the phase is made up for. Sought has the laws.
use Rattle.std.specs.Prelude.{Bool, List, ℕ, ◌+◌, ◌*◌, ◌/◌, ◌%◌, ◌^◌, eqb}
use Rattle.bitlaws.specs.Elimination.{word_after, words_of}
use Rattle.paulilaws.specs.Pauli.{Pauli}
use Rattle.paulilaws.specs.MaskWord.{mask_word, with_masks}
use Rattle.amplitudelaws.specs.Step.{Step, last_width}
use Rattle.framelaws.specs.Carrying.{end_pauli}

-- steps that begin at width n
module _ {R : Type 0} (n : ℕ) (ts : List (Step R)) where
  -- the mask bits at the end
  abbrev pub end_bits : ℕ
  end_bits = last_width n ts + last_width n ts

  -- the masks at the end, of the masks c at the start
  unfoldable pub image : ℕ → ℕ
  image c = mask_word (last_width n ts) (end_pauli (with_masks n 0 c) ts)

  -- c, and below it its image
  unfoldable pub with_image : ℕ → ℕ
  with_image c = c * 2 ^ end_bits + image c

  -- What elimination leaves of E's masks, over the masks of one bit and their images. Where one of its lowest digits is left, no start's masks end in E's; where none is,
  -- the masks of one stand above them.
  unfoldable pub remainder : Pauli → ℕ
  remainder E = word_after end_bits (words_of with_image (n + n)) (mask_word (last_width n ts) E)

  unfoldable pub is_reached : Pauli → Bool
  is_reached E = eqb (remainder E % 2 ^ end_bits) 0

  -- the masks c at the start, with the phase that ends in E's (3 is -1 modulo 4)
  unfoldable pub with_phase_for : Pauli → ℕ → Pauli
  with_phase_for E c = with_masks n ((E.k + 3 * (end_pauli (with_masks n 0 c) ts).k) % 4) c

  unfoldable pub start_for : Pauli → Pauli
  start_for E = with_phase_for E (remainder E / 2 ^ end_bits)
