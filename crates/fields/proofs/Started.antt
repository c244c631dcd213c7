-- What the answer of `start` says about a run.
use mathlib.Core.Path.{◌≡◌, refl, sym, ap}
use mathlib.Core.Bool.{Bool, true, false, cond}
use mathlib.Core.List.{List}
use mathlib.Core.Option.{Option, none, some, none-ne-some}
use Prim.Native.Nat.{ℕ, ◌≤◌}
use lib.Dec.{ltb}
use lib.ListN.{length}
use borrow.Author.Tests.{ltb-true, ltb-false}
use Rattle.answers.specs.Answer.Answer.{accepted, refused_at}
use Rattle.answers.specs.Row.{accepted_same, refused_at_accepted}
use Rattle.framelaws.specs.Caller.{Caller}
use Rattle.runlaws.specs.Field.{most_bytes, field_at}
use Rattle.runlaws.specs.Run.{start_width, run_of}
use Rattle.runlaws.specs.WholeRun.{run_long}
use Rattle.runlaws.proofs.WholeRun.{run_unbegun}
use Rattle.fields.specs.Meaning.{field_in, start_call}

start_some : (o : Option ℕ) (n : ℕ) → accepted n ≡ start_call o → o ≡ some n
unfolding start_call
start_some none n e = absurd (refused_at_accepted (sym e))
start_some (some m) n e = ap some (accepted_same (sym e))

start_none : (o : Option ℕ) {n i : ℕ} → refused_at n i ≡ start_call o → (o ≡ none) × ((n ≡ 14) × (i ≡ 0))
unfolding start_call
start_none none e = (refl, (cc, cc))
start_none (some n) e = absurd (refused_at_accepted e)

module _ (s : List ℕ) where
  -- a width: the run is not too long, and its start field gives it
  pub started : {n : ℕ} → accepted n ≡ start_call (start_width (field_in s 0)) → (length s ≤ most_bytes) × (start_width (field_at s 0) ≡ some n)
  unfolding field_in start_width
  started {n} e = go (ltb most_bytes (length s)) refl (start_some _ n e)
    where
      go : (q : Bool) → ltb most_bytes (length s) ≡ q → start_width (cond q none (field_at s 0)) ≡ some n
          → (length s ≤ most_bytes) × (start_width (field_at s 0) ≡ some n)
      go true h e = absurd (none-ne-some _ e)
      go false h e = (ltb-false most_bytes (length s) h, e)

  -- none: the run is refused there at its start, whoever calls
  pub unstarted : {n i : ℕ} → refused_at n i ≡ start_call (start_width (field_in s 0)) → (caller : Caller) → run_of caller s ≡ refused_at n i
  unfolding field_in
  unstarted e caller =
      let told = start_none (start_width (field_in s 0)) e in
      rw (told.1.0, told.1.1) (go (ltb most_bytes (length s)) refl told.0)
    where
      go : (q : Bool) → ltb most_bytes (length s) ≡ q → start_width (cond q none (field_at s 0)) ≡ none → run_of caller s ≡ refused_at 14 0
      go true h e = run_long caller s (ltb-true most_bytes (length s) h)
      go false h e = run_unbegun caller s (ltb-false most_bytes (length s) h) e
