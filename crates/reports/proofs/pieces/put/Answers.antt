-- `put` stores the text from `at` on, by `octets::copy` on what stands from there.
use mathlib.Core.Path.{refl, ap, ◌∙◌}
use mathlib.Core.List.{List, ◌++◌}
use Prim.Native.Nat.{ℕ, ◌+◌, ◌-◌}
use lib.ListN.{length, take, drop}
use Rattle.lines.specs.Pieces.{sets_copied}
use Rattle.reports.proofs.pieces.put.Goals as goal

pub returns : goal.returns
returns c =
    let out = c.args.out.now in
    let at = c.args.at in
    let copied = c.copy in
    record {
      ends = ap (λ (n : ℕ). at + n) copied.ensures.0;
      stands = ap (λ (l : List ℕ). take at out ++ (l ++ drop (length out - at) (drop at out))) copied.ensures.1
          ∙ sets_copied out at (length out - at) c.args.text.now refl c.requires;
    }
