use Rattle.std.proofs.Common.{◌≡◌, ℕ, ◌+◌, ◌-◌, ◌^◌, ◌<◌, get_or}
use Rattle.framelaws.specs.Seeking.{with_image}
use Rattle.seeker.specs.Steps.{steps_of}
use Rattle.seeker.proofs.search.Search.write_words.Given as goal

abbrev pub invariant-loop-i : goal.invariant-loop-i
invariant-loop-i l =
    (k : ℕ) → k < l.i → get_or l.words k 0 ≡ with_image l.self.width (steps_of l.self) (2 ^ (l.self.width + l.self.width - 1 - k))
