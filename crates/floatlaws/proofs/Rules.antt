-- The laws as lists for the tactics, and terms that change places.
use Rattle.std.specs.Prelude.{◌⊎◌, T, Float}
use Rattle.std.proofs.Common.{⊎_elim}
use Rattle.std.specs.Float.{Format}
use Rattle.std.specs.Float.Ieee.{add, fits}
use Rattle.std.specs.Float.Ieee.Fits.{add-fits}
use Rattle.floatlaws.specs.Same.{Same, same, same_sym, ◌⨾◌, is_zero}
use Rattle.floatlaws.specs.Sign.{neg_neg, same_neg, mul_neg_left, mul_neg_right}
use Rattle.floatlaws.proofs.Sum.{same_add, same_sub}
use Rattle.floatlaws.proofs.Product.{same_mul}
use Rattle.floatlaws.proofs.Fit.{add_none_right}

-- for `grw`: a step of `Same` inside sums, differences, products and negations
pub ruleset same_cong = (◌⨾◌, same, same_add, same_sub, same_mul, same_neg)

-- for `simp`: signs out of products, and two of them gone
pub ruleset sign_simp = (neg_neg, mul_neg_left, mul_neg_right)

-- a sum of three rounds twice, and which two terms go first counts; not where one of the later two is a zero
pub zero_swap : (f : Format) (a b c : Float) → T (fits f a) → T (is_zero b) ⊎ T (is_zero c) → Same (add f (add f a b) c) (add f (add f a c) b)
zero_swap f a b c h = ⊎_elim (λ k. first b c k) (λ k. same_sym (first c b k))
  where
    first : (z d : Float) → T (is_zero z) → Same (add f (add f a z) d) (add f (add f a d) z)
    first z d k = grw (same_cong, add_none_right f a z h k) (same_sym (add_none_right f (add f a d) z (add-fits f a d) k))
