-- Every amplitude that steps leave is representable in binary64, where those before them are: both parts are floats of the format, written in their one way.
use Rattle.std.specs.Prelude.{Bool, true, false, cond, List, [], ◌∷◌, ℕ, zero, suc, ◌+◌, ◌*◌, ◌-◌, ◌%◌, ◌^◌, T, eqb, ltb, Float, get_or}
use Rattle.std.specs.Int.Bits.{bit_xor}
use Rattle.std.specs.Float.{nan, binary64}
use Rattle.std.specs.Float.Ieee.{fits}
use Rattle.std.specs.Float.Ieee.Fits.{neg-fits, add-fits, sub-fits, mul-fits}
use Rattle.bitlaws.specs.Parity.{overlap}
use Rattle.paulilaws.specs.Pauli.{Pauli}
use Rattle.statelaws.specs.Over.{over}
use Rattle.amplitudelaws.specs.Arithmetic.{times_power, scale, scaled, mixed}
use Rattle.amplitudelaws.specs.Binary.{Point, binary}
use Rattle.amplitudelaws.specs.Correction.{corrected}
use Rattle.amplitudelaws.specs.Projection.{projected}
use Rattle.amplitudelaws.specs.Promotion.{raised, promoted}
use Rattle.amplitudelaws.specs.Rotation.{rotated_alone, rotated_with, rotated_by, rotated}
use Rattle.amplitudelaws.specs.State.{State, point, written}
use Rattle.amplitudelaws.specs.Step.{Step, width_after}
use Rattle.amplitudelaws.specs.Step.Step.{rotation, promotion, projection, correction, quarter_turn}
use Rattle.amplitudelaws.specs.Steps as leaves
use Rattle.framelaws.specs.Memory.{Memory, stepped, ran}
use Rattle.framelaws.specs.Representable.{Representable, RepresentableState}

-- ---- what is written

over_representable : (n : ℕ) (f : ℕ → Float) (l : List Float) → ((k : ℕ) → T (fits binary64 (f k))) → ((k : ℕ) → T (fits binary64 (get_or l k nan)))
    → (k : ℕ) → T (fits binary64 (get_or (over n f l) k nan))
unfolding over
over_representable zero f l new old k = old k
over_representable (suc n) f [] new old k = old k
over_representable (suc n) f (x ∷ xs) new old zero = new 0
over_representable (suc n) f (x ∷ xs) new old (suc k) = over_representable n (λ j. f (suc j)) xs (λ j. new (suc j)) (λ j. old (suc j)) k

written_representable : (n : ℕ) (F : ℕ → Point) (S : State) → ((b : ℕ) → Representable (F b)) → RepresentableState S → RepresentableState (written n F S)
unfolding written point
written_representable n F S new old = record {
  at = λ b. (over_representable (2 ^ n) (λ b. (F b).re) S.re (λ b. (new b).0) (λ b. (old.at b).0) b, over_representable (2 ^ n) (λ b. (F b).im) S.im (λ b. (new b).1) (λ b. (old.at b).1) b);
}

-- ---- one amplitude: sums, differences and products are rounded to the format, and a part that is only moved or negated stays in it

rotated_representable : (P : Pauli) (sign : ℕ) (c s : Float) (F : ℕ → Point) (b : ℕ) → Representable (rotated binary P sign c s F b)
unfolding rotated rotated_by rotated_alone rotated_with mixed
rotated_representable P sign c s F b = by (eqb P.x 0) (eqb P.z 0) _
  where
    by : (t u : Bool) (m : Point) → Representable (rotated_by binary t u P.x P.z sign c m F b)
    by true u m = (sub-fits binary64 _ _, add-fits binary64 _ _)
    by false true m = (sub-fits binary64 _ _, add-fits binary64 _ _)
    by false false m = (sub-fits binary64 _ _, add-fits binary64 _ _)

promoted_representable : (n : ℕ) (c q : Float) (F : ℕ → Point) (b : ℕ) → Representable (promoted binary n c q F b)
unfolding promoted scale raised
promoted_representable n c q F b = by (ltb b (2 ^ n))
  where
    by : (t : Bool) → Representable (cond t (scale binary c (F b)) (raised binary q (F (b - 2 ^ n))))
    by true = (mul-fits binary64 _ _, mul-fits binary64 _ _)
    by false = (mul-fits binary64 _ _, mul-fits binary64 _ _)

projected_representable : (M : Pauli) (p v : ℕ) (invnorm : Float) (F : ℕ → Point) (b : ℕ) → Representable (projected binary M p v invnorm F b)
unfolding projected scaled
projected_representable M p v invnorm F b = (mul-fits binary64 _ _, mul-fits binary64 _ _)

turned_representable : (e : ℕ) (p : Point) → Representable p → Representable (times_power binary e p)
unfolding times_power
turned_representable zero p h = h
turned_representable (suc zero) p h = (neg-fits binary64 p.im h.1, h.0)
turned_representable (suc (suc zero)) p h = (neg-fits binary64 p.re h.0, neg-fits binary64 p.im h.1)
turned_representable (suc (suc (suc e))) p h = (h.1, neg-fits binary64 p.re h.0)

corrected_representable : (P : Pauli) (F : ℕ → Point) → ((b : ℕ) → Representable (F b)) → (b : ℕ) → Representable (corrected binary P F b)
unfolding corrected
corrected_representable P F h b = let from : ℕ = bit_xor b P.x in turned_representable ((P.k + 2 * overlap from P.z) % 4) (F from) (h from)

-- ---- the steps

stepped_representable : (n : ℕ) (t : Step Float) (m : Memory) → RepresentableState m.state → RepresentableState (stepped n t m).state
unfolding stepped leaves.rotation leaves.promotion leaves.projection leaves.correction
stepped_representable n (rotation P sign c s) m h = written_representable _ _ m.state (rotated_representable P sign c s (point m.state)) h
stepped_representable n (promotion c q) m h = written_representable _ _ m.state (promoted_representable n c q (point m.state)) h
stepped_representable n (projection M p v invnorm) m h = written_representable _ _ m.state (projected_representable M p v invnorm (point m.state)) h
stepped_representable n (correction P) m h = written_representable _ _ m.state (corrected_representable P (point m.state) h.at) h
stepped_representable n (quarter_turn P) m h = written_representable _ _ m.state (rotated_representable P 0 binary.h binary.h (point m.state)) h

pub ran_representable : (n : ℕ) (ts : List (Step Float)) (m : Memory) → RepresentableState m.state → RepresentableState (ran n ts m).state
unfolding ran
ran_representable n [] m h = h
ran_representable n (t ∷ ts) m h = ran_representable (width_after n t) ts (stepped n t m) (stepped_representable n t m h)
