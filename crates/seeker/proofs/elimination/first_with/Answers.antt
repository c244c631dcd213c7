-- The word that is found, or 0, is the definition's, by cases on the first word.
use Rattle.std.proofs.Common.{◌≡◌, cond, ℕ, Some, None, Bool, true, false, List, [], ◌∷◌, eqb, unwrap_or, refl, ap, ◌∙◌, rules, tests}
use Rattle.std.specs.Prelude.{Option}
use Rattle.std.specs.List.{find}
use Rattle.std.specs.Option.{option_map}
use Rattle.std.proofs.lemmas.Iterator.{YieldsList-from_slice}
use Rattle.std.proofs.lemmas.Iterator.Consumers.{YieldsList-from_copied}
use Rattle.std.proofs.lemmas.Iterator.Search.{find_from_yields_List}
use Rattle.bitlaws.specs.Digit.{digit}
use Rattle.bitlaws.specs.Elimination as law
use Rattle.seeker.proofs.elimination.first_with.Goals as goal

found_or : (t : Bool) (k : ℕ) (o : Option ℕ) → unwrap_or (cond t (Some k) o) 0 ≡ cond t k (unwrap_or o 0)
found_or true k o = refl
found_or false k o = refl

found_is : (j : ℕ) (ks : List ℕ) (o : Option ℕ) → option_map (λ k. k) o ≡ find (λ k. eqb (digit j k) 1) ks → unwrap_or o 0 ≡ law.first_with j ks
unfolding law.first_with
found_is j ks o e = same o ∙ ap (λ (o : Option ℕ). unwrap_or o 0) e ∙ by ks
  where
    same : (o : Option ℕ) → unwrap_or o 0 ≡ unwrap_or (option_map (λ k. k) o) 0
    same (Some k) = refl
    same None = refl

    by : (ks : List ℕ) → unwrap_or (find (λ k. eqb (digit j k) 1) ks) 0 ≡ law.first_with j ks
    by [] = refl
    by (k ∷ ks) = found_or (eqb (digit j k) 1) k _ ∙ ap (cond (eqb (digit j k) 1) k) (by ks)

pub returns : goal.returns
returns c =
    let j = c.args.j in
    let words = c.args.words.now in
    let found = find_from_yields_List (λ k. eqb (digit j k) 1) _ _ c.find.result c.find.ensures.ran (YieldsList-from_copied (YieldsList-from_slice words cc)) (λ x b q k. search (rules, tests)) in
    c.unwrap_or.ensures ∙ found_is j words _ found
