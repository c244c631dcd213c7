-- Only the amplitudes of the n qubits count: a step, or a list of steps, makes the same of two vectors that agree in them.
use Rattle.std.specs.Prelude.{◌≡◌, Bool, ℕ, suc, ◌+◌, ◌-◌, ◌^◌, ◌≤◌, ◌<◌}
use Rattle.std.proofs.Math.Path.{refl, subst}
use Rattle.std.proofs.Math.Bool.{true, false, cond}
use mathlib.Core.List.{List, [], ◌∷◌}
use Rattle.std.proofs.Common.{pow-suc, arith, ltb-true, ltb-false}
use Rattle.std.specs.Int.Bits.{bit_xor}
use Rattle.std.proofs.Math.Dec.{ltb}
use Rattle.bitlaws.specs.Opening.{open_bit}
use Rattle.bitlaws.proofs.Opening.{open_lt}
use Rattle.bitlaws.specs.Source.{source}
use Rattle.bitlaws.proofs.Source.{source_lt}
use Rattle.bitlaws.specs.Xor.{xor_lt}
use Rattle.amplitudelaws.specs.Arithmetic.{Amplitude, Arithmetic, scale}
use Rattle.amplitudelaws.specs.Rotation.{rotated_by, rotated}
use Rattle.amplitudelaws.specs.Promotion.{promoted, raised}
use Rattle.amplitudelaws.specs.Projection.{remaining_by, remaining, projected}
use Rattle.amplitudelaws.specs.Correction.{corrected}
use Rattle.amplitudelaws.specs.Step.{Step, width_after, last_width}
use Rattle.amplitudelaws.specs.Step.Step.{rotation, promotion, projection, correction, quarter_turn}
use Rattle.amplitudelaws.specs.Acting.{acts, acted, Proper, Propers}

above : (n b : ℕ) → 2 ^ n ≤ b → b < 2 ^ suc n → b - 2 ^ n < 2 ^ n
above n b g h = omega (arith, pow-suc 2 n)

whole : (n p : ℕ) → p < n → suc (n - 1) ≡ n
whole n p h = omega arith

under : (n p : ℕ) → p < n → p ≤ n - 1
under n p h = omega arith

module _ {R : Type 0} (A : Arithmetic R) where
  module _ (F G : ℕ → Amplitude R) (n : ℕ) (near : (b : ℕ) → b < 2 ^ n → F b ≡ G b) where
    rotated_near : (t u : Bool) (x z sign : ℕ) (c : R) (m : Amplitude R) (b : ℕ) → x < 2 ^ n → b < 2 ^ n
        → rotated_by A t u x z sign c m F b ≡ rotated_by A t u x z sign c m G b
    unfolding rotated_by
    rotated_near true u x z sign c m b hx h = rw (near b h)
    rotated_near false true x z sign c m b hx h = rw (near b h, near (bit_xor b x) (xor_lt n b x h hx))
    rotated_near false false x z sign c m b hx h = rw (near b h, near (bit_xor b x) (xor_lt n b x h hx))

    promoted_near : (c q : R) (b : ℕ) → b < 2 ^ suc n → promoted A n c q F b ≡ promoted A n c q G b
    unfolding promoted
    promoted_near c q b h = go (ltb b (2 ^ n)) refl
      where
        go : (t : Bool) → ltb b (2 ^ n) ≡ t
            → cond t (scale A c (F b)) (raised A q (F (b - 2 ^ n))) ≡ cond t (scale A c (G b)) (raised A q (G (b - 2 ^ n)))
        go true e = rw (near b (ltb-true b (2 ^ n) e))
        go false e = rw (near (b - 2 ^ n) (above n b (ltb-false b (2 ^ n) e) h))

    -- j with a bit at p is on the n qubits
    remaining_near : (t : Bool) (x z minus : ℕ) (coefficient : Amplitude R) (p v j : ℕ) → x < 2 ^ n → p < n → j < 2 ^ (n - 1)
        → remaining_by A t x z minus coefficient p v F j ≡ remaining_by A t x z minus coefficient p v G j
    unfolding remaining_by
    remaining_near true x z minus coefficient p v j hx hp h =
        near (source p z (minus + v) j) (subst (λ (k : ℕ). source p z (minus + v) j < 2 ^ k) (whole n p hp) (source_lt p z (minus + v) j (n - 1) (under n p hp) h))
    remaining_near false x z minus coefficient p v j hx hp h =
        let hb : open_bit p j < 2 ^ n = subst (λ (k : ℕ). open_bit p j < 2 ^ k) (whole n p hp) (open_lt p (n - 1) (under n p hp) j h) in
        rw (near (open_bit p j) hb, near (bit_xor (open_bit p j) x) (xor_lt n (open_bit p j) x hb hx))

  acts_near : (n : ℕ) (t : Step R) → Proper n t → (F G : ℕ → Amplitude R) → ((b : ℕ) → b < 2 ^ n → F b ≡ G b)
      → (b : ℕ) → b < 2 ^ width_after n t → acts A n t F b ≡ acts A n t G b
  unfolding acts width_after rotated corrected projected remaining
  acts_near n (rotation P sign c s) (e, fits, real) F G near b h = rotated_near F G n near _ _ P.x P.z sign c _ b (rw e at fits.xs) h
  acts_near n (promotion c q) ok F G near b h = promoted_near F G n near c q b h
  acts_near n (projection M p v invnorm) (e, ok) F G near b h =
      rw (remaining_near F G n near _ M.x M.z _ _ p v b (rw e at ok.fitting.xs) (rw e at ok.inside) h)
  acts_near n (correction P) (e, fits) F G near b h = rw (near (bit_xor b P.x) (xor_lt n b P.x h (rw e at fits.xs)))
  acts_near n (quarter_turn P) (e, fits, real) F G near b h = rotated_near F G n near _ _ P.x P.z 0 A.h _ b (rw e at fits.xs) h

  pub acted_near : (n : ℕ) (ts : List (Step R)) → Propers n ts → (F G : ℕ → Amplitude R) → ((b : ℕ) → b < 2 ^ n → F b ≡ G b)
      → (b : ℕ) → b < 2 ^ last_width n ts → acted A n ts F b ≡ acted A n ts G b
  unfolding acted last_width
  acted_near n [] ok F G near b h = near b h
  acted_near n (t ∷ ts) (ok, oks) F G near b h = acted_near (width_after n t) ts oks (acts A n t F) (acts A n t G) (acts_near n t ok F G near) b h
