-- What the walk that counts a log's signs and branches keeps, and that a turn keeps it.
use mathlib.Core.Path.{◌≡◌, sym, ap, ◌∙◌, subst}
use mathlib.Core.List.{List, []}
use Prim.Native.Nat.{ℕ, ◌+◌, ◌-◌, ◌≤◌, ◌<◌}
use native.Mathlib.Omega.{arith}
use lib.Ieee.{Float}
use lib.ListN.{length}
use Rattle.answers.specs.Answer.Answer.{accepted}
use Rattle.amplitudelaws.specs.Step.{Step}
use Rattle.framelaws.specs.Caller.{Caller}
use Rattle.runlaws.specs.Fields.{step_read_lem, size_ge}
use Rattle.runlaws.specs.FrameLog.{flag_of, flags_of}
use Rattle.runlaws.proofs.Logged.{flags_step, flags_most}
use Rattle.runlaws.specs.OnStart.{run_in}
use Rattle.runlaws.specs.Reading.{Cursor, read_at}
use Rattle.runlaws.specs.Reading.Read.{step_read}
use Rattle.runlaws.specs.Run.{walk}
use Rattle.runlaws.specs.Walk.{Left, left_outset, accepted_step}
use Rattle.runlaws.specs.WholeRun.{run_allowed}
use Rattle.framelog.specs.LogIn.{Started}

-- at a cursor, before which so many were counted
pub record Counting (caller : Caller) (s : List ℕ) (total : ℕ) (c : Cursor) (count : ℕ) : Type 0 where
  pub steps : List (Step Float)
  pub left : Left caller s c (accepted steps)
  pub counts : count + length (flags_of steps) ≡ total
  pub few : total ≤ 2184

-- before the first step
pub counting_outset : (caller : Caller) (s : List ℕ) (width : ℕ) → Started caller s width
    → Counting caller s (length (flags_of (run_in caller s).steps)) (record { at = 4; width = width }) 0
counting_outset caller s width b =
    let r = run_allowed caller s (run_in caller s) b.read in
    let c : Cursor = record { at = 4; width = width } in
    record {
      steps = (run_in caller s).steps;
      left = subst (Left caller s c) (ap (λ (n : ℕ). walk caller (length s) s (record { at = 4; width = n })) b.start ∙ r.walked)
          (left_outset caller s c r.short r.begins);
      counts = omega arith;
      few = flags_most caller s (run_in caller s) b.read;
    }

module _ {caller : Caller} {s : List ℕ} {total : ℕ} {c : Cursor} {count : ℕ} (w : Counting caller s total c count) where
  -- behind a step that has so many, none or one
  pub record Counted (t : Step Float) (d : Cursor) (one : ℕ) : Type 0 where
    pub few : count + one ≤ 2184
    pub next : Counting caller s total d (count + one)
    pub less : length s - d.at < length s - c.at

  pub counted : (t : Step Float) (d : Cursor) (one : ℕ) → read_at caller s c ≡ step_read t d → one ≡ length (flag_of t) → Counted t d one
  counted t d one e is =
      let r = step_read_lem caller s c d t e in
      let k = accepted_step w.left t d e in
      let all : length (flags_of w.steps) ≡ one + length (flags_of k.after)
      = ap (λ (ts : List (Step Float)). length (flags_of ts)) k.rest_is ∙ flags_step t k.after ∙ ap (λ (n : ℕ). n + length (flags_of k.after)) (sym is) in
      record {
        few = omega (arith, w.counts, w.few, all);
        next = record { steps = k.after; left = k.left; counts = omega (arith, w.counts, all); few = w.few };
        less = omega (arith, r.next, r.inside, size_ge t);
      }

  pub all_counted : w.steps ≡ [] → count ≡ total
  unfolding flags_of
  all_counted e = omega (arith, w.counts, ap (λ (ts : List (Step Float)). length (flags_of ts)) e)
