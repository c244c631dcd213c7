-- What steps keep of the four buffers, their lengths and so their room, and what is read where amplitudes were written.
use Rattle.std.specs.Prelude.{List, [], ◌∷◌, ℕ, Float}
use Rattle.std.proofs.Common.{◌∙◌}
use Rattle.amplitudelaws.specs.State.{State}
use Rattle.framelaws.specs.Memory.{Memory, stepped, ran}
use Rattle.amplitudelaws.specs.Step.{Step, width_after}
use Rattle.framelaws.specs.Kept.{SameLengths, SameSizes, unwritten, stepped_sizes}

-- ---- lengths

lengths_trans : {S T U : State} → SameLengths S T → SameLengths T U → SameLengths S U
lengths_trans h k = record { res = h.res ∙ k.res; ims = h.ims ∙ k.ims }

pub ran_sizes : (n : ℕ) (ts : List (Step Float)) (m : Memory) → SameSizes (ran n ts m) m
unfolding ran
ran_sizes n [] m = record { state = unwritten; scratch = unwritten }
ran_sizes n (t ∷ ts) m =
    let first = stepped_sizes n t m in
    let rest = ran_sizes (width_after n t) ts (stepped n t m) in
    record { state = lengths_trans rest.state first.state; scratch = lengths_trans rest.scratch first.scratch }
