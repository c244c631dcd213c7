-- `put_mask`: nothing of a mask that is 0.
use mathlib.Core.Path.{◌≡◌, sym, subst}
use mathlib.Core.List.{List, [], ◌∷◌}
use Prim.Native.Nat.{ℕ}
use borrow.Author.Tests.{eq-eqb, ne_eqb}
use Rattle.lines.specs.Stored.{Stored, stored_none, stored_next}
use Rattle.reports.specs.Text.{qubits_from, qubits_text}
use Rattle.reports.proofs.line.put_mask.Goals as goal

module _ (n mask : ℕ) where
  none : mask ≡ 0 → qubits_text n mask ≡ []
  unfolding qubits_text
  none e = rw (eq-eqb mask 0 e)

  some : (mask ≡ 0 → ⊥) → qubits_text n mask ≡ 32 ∷ 113 ∷ 117 ∷ 98 ∷ 105 ∷ 116 ∷ 115 ∷ qubits_from 0 n mask
  unfolding qubits_text
  some h = rw (ne_eqb mask 0 h)

pub returns-then-mask-eq0 : goal.returns-then-mask-eq0
returns-then-mask-eq0 c =
    subst (λ (t : List ℕ). Stored t c.args.at c.args.out.now c.args.at c.args.out.now) (sym (none c.args.width c.args.mask c.if-mask-eq0.true)) stored_none

pub returns : goal.returns
returns c =
    let done = c.put_qubits in
    subst (λ (t : List ℕ). Stored t c.args.at c.args.out.now done.result done.new.out) (sym (some c.args.width c.args.mask c.if-mask-eq0.false))
    (stored_next c.put-end.ensures done.ensures)
