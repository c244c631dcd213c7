-- The start, amplitude by amplitude: (1, 0) at basis 0, (+0, +0) at every other.
use Rattle.std.specs.Prelude.{◌≡◌, refl, ℕ, zero, suc, ◌^◌, ◌<◌, T, Float, get_or, replicate}
use Rattle.std.proofs.Common.{ap₂, ◌∙◌, arith, get_or-set_other}
use Rattle.std.specs.Float.{nan, binary64}
use Rattle.std.specs.Float.Ieee.{fits}
use Rattle.std.specs.Float.Ieee.Bits.{of_bits-fits}
use Rattle.std.specs.Float.Ieee.Fits.{nan-fits}
use Rattle.std.proofs.lemmas.List.{get_or-replicate}
use Rattle.amplitudelaws.specs.Binary.{binary}
use Rattle.amplitudelaws.specs.State.{point}
use Rattle.framelaws.specs.Caller.{widest_run}
use Rattle.framelaws.specs.Representable.{Representable, RepresentableState}
use Rattle.listing.specs.Listing.{states, fresh}

pub fresh_first : point fresh.state 0 ≡ record { re = binary.one; im = binary.nought }
unfolding fresh point
fresh_first = refl

pub fresh_others : (b : ℕ) → suc b < 2 ^ widest_run → point fresh.state (suc b) ≡ record { re = binary.nought; im = binary.nought }
unfolding fresh point
fresh_others b h =
    ap₂ (λ (x y : Float). record { re = x; im = y })
    (get_or-set_other states 0 (suc b) binary.one nan (λ e. omega arith) ∙ get_or-replicate (2 ^ widest_run) (suc b) binary.nought nan h)
    (get_or-replicate (2 ^ widest_run) (suc b) binary.nought nan h)

-- ---- and each of them is a float of binary64

noughts_representable : (n k : ℕ) → T (fits binary64 (get_or (replicate n binary.nought) k nan))
noughts_representable zero k = nan-fits binary64
noughts_representable (suc n) zero = of_bits-fits binary64 0
noughts_representable (suc n) (suc k) = noughts_representable n k

pub fresh_representable : RepresentableState fresh.state
unfolding fresh point
fresh_representable = record { at = at }
  where
    at : (b : ℕ) → Representable (point fresh.state b)
    at zero = (of_bits-fits binary64 0x3FF0000000000000, noughts_representable (2 ^ widest_run) 0)
    at (suc b) =
        (rw (get_or-set_other states 0 (suc b) binary.one nan (λ e. omega arith)) (noughts_representable (2 ^ widest_run) (suc b)), noughts_representable (2 ^ widest_run) (suc b))
