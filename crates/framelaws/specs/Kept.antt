-- What steps keep of the four buffers, their lengths and so their room, and what is read where amplitudes were written.
use Rattle.std.specs.Prelude.{◌≡◌, refl, Bool, true, false, ℕ, ◌^◌, ◌≤◌, ◌<◌, eqb, Float, length}
use Rattle.std.proofs.Common.{le_trans, lt_of_lt_of_le, pow_mono, le-leb}
use Rattle.std.specs.Float.{nan}
use Rattle.paulilaws.specs.Pauli.{Pauli}
use Rattle.statelaws.specs.Over.{length_over}
use Rattle.statelaws.proofs.Over.{over_at}
use Rattle.amplitudelaws.specs.Binary.{Point}
use Rattle.amplitudelaws.specs.State.{State, point, written, room_for, room}
use Rattle.amplitudelaws.specs.Passed.{room_lengths}
use Rattle.amplitudelaws.specs.Steps as leaves
use Rattle.amplitudelaws.specs.Sweeping.{point_same}
use Rattle.framelaws.specs.Memory.{Memory, stepped}
use Rattle.amplitudelaws.specs.Step.{Step}
use Rattle.amplitudelaws.specs.Step.Step.{rotation, promotion, projection, correction, quarter_turn}

-- ---- lengths

pub record SameLengths (S T : State) : Type 0 where
  pub res : length S.re ≡ length T.re
  pub ims : length S.im ≡ length T.im

-- all four buffers
pub record SameSizes (m u : Memory) : Type 0 where
  pub state : SameLengths m.state u.state
  pub scratch : SameLengths m.scratch u.scratch

pub written_lengths : (n : ℕ) (F : ℕ → Point) (S : State) → SameLengths (written n F S) S
unfolding written
written_lengths n F S = record { res = length_over (2 ^ n) (λ b. (F b).re) S.re; ims = length_over (2 ^ n) (λ b. (F b).im) S.im }

pub unwritten : {S : State} → SameLengths S S
unwritten = record { res = refl; ims = refl }

scratch_lengths : (diagonal : Bool) (M : Pauli) (p v : ℕ) (invnorm : Float) (S scratch : State)
    → SameLengths (leaves.scratch_by diagonal M p v invnorm S scratch) scratch
unfolding leaves.scratch_by
scratch_lengths true M p v invnorm S scratch = unwritten
scratch_lengths false M p v invnorm S scratch = written_lengths _ _ scratch

pub stepped_sizes : (n : ℕ) (t : Step Float) (m : Memory) → SameSizes (stepped n t m) m
unfolding stepped leaves.rotation leaves.promotion leaves.projection leaves.scratch_after leaves.correction
stepped_sizes n (rotation P sign c s) m = record { state = written_lengths _ _ m.state; scratch = unwritten }
stepped_sizes n (promotion c q) m = record { state = written_lengths _ _ m.state; scratch = unwritten }
stepped_sizes n (projection M p v invnorm) m = record {
  state = written_lengths _ _ m.state;
  scratch = scratch_lengths (eqb M.x 0) M p v invnorm m.state m.scratch;
}
stepped_sizes n (correction P) m = record { state = written_lengths _ _ m.state; scratch = unwritten }
stepped_sizes n (quarter_turn P) m = record { state = written_lengths _ _ m.state; scratch = unwritten }

-- ---- room

-- for as many amplitudes in lists as long, and for fewer
pub room_for_kept : (k : ℕ) {S T : State} → SameLengths S T → room_for k T ≡ true → room_for k S ≡ true
unfolding room_for
room_for_kept k h r = rw (h.res, h.ims) r

pub room_for_under : (j k : ℕ) (S : State) → j ≤ k → room_for k S ≡ true → room_for j S ≡ true
unfolding room_for
room_for_under j k S h r =
    let lengths = room_lengths k S r in
    rw (le-leb j (length S.re) (le_trans h lengths.0), le-leb j (length S.im) (le_trans h lengths.1))

-- and so for qubits
pub room_kept : (g : ℕ) {S T : State} → SameLengths S T → room g T ≡ true → room g S ≡ true
unfolding room
room_kept g h r = room_for_kept (2 ^ g) h r

pub room_under : (n g : ℕ) (S : State) → n ≤ g → room g S ≡ true → room n S ≡ true
unfolding room
room_under n g S h r = room_for_under (2 ^ n) (2 ^ g) S (pow_mono h) r

-- ---- what was written is read

-- k is the width that was written, n the one that is read
pub point_written : (k n : ℕ) (F : ℕ → Point) (S : State) → k ≡ n → room n S ≡ true → (b : ℕ) → b < 2 ^ n → point (written k F S) b ≡ F b
unfolding point written room
point_written k n F S e r b h =
    let lengths = room_lengths (2 ^ n) S r in
    rw e
    (point_same
    (over_at (2 ^ n) (λ c. (F c).re) S.re b nan h (lt_of_lt_of_le h lengths.0))
    (over_at (2 ^ n) (λ c. (F c).im) S.im b nan h (lt_of_lt_of_le h lengths.1)))
