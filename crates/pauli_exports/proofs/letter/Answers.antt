use Rattle.std.specs.Prelude.{◌≡◌, refl, ℕ, zero, suc}
use Rattle.paulilaws.specs.Letter.{Letter, letter_of}
use Rattle.pauli_exports.proofs.letter.Goals as goal

z_alone : (z : ℕ) → (z ≡ 0 → ⊥) → Letter.Z ≡ letter_of 0 z
z_alone zero h = absurd (h refl)
z_alone (suc z) h = refl

x_alone : (x : ℕ) → (x ≡ 0 → ⊥) → Letter.X ≡ letter_of x 0
x_alone zero h = absurd (h refl)
x_alone (suc x) h = refl

both : (x z : ℕ) → (x ≡ 0 → ⊥) → (z ≡ 0 → ⊥) → Letter.Y ≡ letter_of x z
both zero z h k = absurd (h refl)
both (suc x) zero h k = absurd (k refl)
both (suc x) (suc z) h k = refl

pub returns-in-0-default : goal.returns-in-0-default
returns-in-0-default c = rw c.in-0-default.is-0 (z_alone c.args.z c.in-0-default.is-1.1)

pub returns-in_default-eq0 : goal.returns-in_default-eq0
returns-in_default-eq0 c = rw c.in_default-eq0.is-1 (x_alone c.args.x c.in_default-eq0.is-0.1)

pub returns-in_default : goal.returns-in_default
returns-in_default c = both c.args.x c.args.z c.in_default.is-0.1 c.in_default.is-1.1
