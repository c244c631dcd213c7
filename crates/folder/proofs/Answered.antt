-- What folding answers and leaves in the output, from what the check and the loops say.
use mathlib.Core.Path.{◌≡◌, refl, sym, ap, ◌∙◌, subst}
use mathlib.Core.List.{List, ◌++◌}
use Prim.Native.Nat.{ℕ, ◌≤◌, ◌<◌}
use native.Mathlib.Omega.{arith}
use lib.ListN.{length, drop}
use borrow.Author.Tests.{le-ltb, lt-ltb}
use Rattle.answers.specs.Answer.{Answer}
use Rattle.answers.specs.Answer.Answer.{accepted, refused, refused_at}
use Rattle.answers.specs.Row.{row, refusing, passing}
use Rattle.paulilaws.specs.Pauli.{Pauli, identity}
use Rattle.framelaws.specs.Caller.{Caller, widest_run}
use Rattle.framelaws.specs.Folding.{folded_end}
use Rattle.framelaws.specs.Survey.{Survey}
use Rattle.runlaws.specs.Calls.{on_run, Folding, checked_run_of, checking_with_start, folding_of, folding_row, folding}
use Rattle.runlaws.specs.FoldedRun.{folded_run}
use Rattle.runlaws.specs.Mapped.{mapped_refused}
use Rattle.runlaws.specs.OnStart.{run_in, checked_read, checked_start}
use Rattle.runlaws.specs.Run.{Run, run_of}
use Rattle.runlaws.specs.WholeRun.{run_allowed}
use Rattle.folder.specs.Foldable.{Foldable}

module _ (caller : Caller) (s out : List ℕ) where
  -- the answer a, and u left
  abbrev pub Folds : Answer Folding → List ℕ → Type 0
  Folds a u = (a ≡ (folding caller s out).answer) × (u ≡ (folding caller s out).lent)

  pub run_refused : (n at : ℕ) → checking_with_start caller s ≡ refused_at n at → Folds (refused_at n at) out
  unfolding folding on_run checking_with_start
  run_refused n at e = rw (mapped_refused checked_run_of (run_of caller s) n at e) (refl, refl)

  module _ {width : ℕ} {v : Survey} (checked : checking_with_start caller s ≡ accepted (record { start = width; survey = v })) where
    abbrev R : Run
    R = run_in caller s

    pub foldable : caller.widest ≤ widest_run → Foldable caller s width
    foldable narrow =
        let read = checked_read caller s checked in
        record {
          read = read;
          start = checked_start caller s checked;
          narrow = omega (arith, checked_start caller s checked, (run_allowed caller s R read).width, narrow);
        }

    -- by the number of bytes that are left
    module _ {size : ℕ} (is : size ≡ length (folded_run R s)) where
      abbrev new : List ℕ
      new = folded_run R s ++ drop (length (folded_run R s)) out

      row_is : folding_row size (length out) ≡ folding_row (length (folded_run R s)) (length out)
      row_is = ap (λ (n : ℕ). folding_row n (length out)) is

      pub too_short : length out < size → Folds (refused 16) out
      unfolding folding on_run
      too_short h =
          let sixteen : 16 ≡ folding_row size (length out) = unfold folding_row row in rw (lt-ltb (length out) size h) in
          rw (checked_read caller s checked) (refusing (folding_row (length (folded_run R s)) (length out)) (folding_of s R) new out 16 (sixteen ∙ row_is) (λ e. omega (arith, e)))

      pub done : size ≤ length out → (Q : Pauli) (out' : List ℕ) → Q ≡ folded_end (identity R.width) R.steps → out' ≡ new
          → Folds (accepted (record { end = Q; size = size })) out'
      unfolding folding on_run
      done h Q out' ends writes =
          let zero : folding_row size (length out) ≡ 0 = unfold folding_row row in rw (le-ltb (length out) size h) in
          let value : ◌≡◌ {A = Folding} (record { end = Q; size = size }) (folding_of s R) = λ i. record { end = ends i; size = is i } in
          rw (checked_read caller s checked, value) (passing (folding_row (length (folded_run R s)) (length out)) (folding_of s R) new out out' (sym row_is ∙ zero) writes)

-- callers under whom the same may be asked
pub under : (s out : List ℕ) {k l : Caller} {a : Answer Folding} {u : List ℕ} → k ≡ l → Folds k s out a u → Folds l s out a u
under s out {k} {l} {a} {u} same did = subst (λ (c : Caller). Folds c s out a u) same did
