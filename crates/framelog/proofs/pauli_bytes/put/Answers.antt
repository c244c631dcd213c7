use mathlib.Core.Path.{sym, ◌∙◌, subst}
use Prim.Native.Nat.{ℕ, ◌+◌, ◌≤◌}
use native.Mathlib.Omega.{arith}
use lib.ListN.{length-set}
use Rattle.activepauli.specs.Active.{active_of}
use Rattle.framelog.proofs.PauliStored.{set_fits, pauli_stored}
use Rattle.framelog.proofs.pauli_bytes.put.Goals as goal

pub put_word-requires : goal.put_word-requires
put_word-requires c = set_fits c.args.out.now _ _ (omega (arith, c.requires))

pub put_word-requires-2 : goal.put_word-requires-2
put_word-requires-2 c =
    let a = c.args in
    subst (λ (n : ℕ). a.to + 9 + 8 ≤ n) (sym c.out-1.given) (set_fits a.out.now _ _ (omega (arith, c.requires)))

pub shape_of-out : goal.shape_of-out
shape_of-out c =
    let a = c.args in
    c.out-2-1.given ∙ c.out-1.given ∙ length-set a.out.now _ _

pub returns : goal.returns
returns c =
    let a = c.args in
    pauli_stored (active_of a.pauli) a.out.now a.to c.put_word.ensures c.put_word-2.ensures
