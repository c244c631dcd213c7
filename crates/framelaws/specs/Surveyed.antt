-- What the survey of a list of steps says: the last width, the number of steps, and the greatest of two numbers on the way, the width and the amplitudes that a
-- projection makes in the scratch.
use Rattle.std.specs.Prelude.{◌≡◌, length}
use Rattle.std.proofs.Math.Path.{refl}
use Rattle.std.proofs.Common.{ap, ◌∙◌}
use mathlib.Core.List.{List, [], ◌∷◌}
use Prim.Native.Nat.{ℕ, ◌+◌, ◌≤◌, max}
use Rattle.std.proofs.Math.Nat.{le_refl, le_trans, le-max_left, le-max_right, zero-add}
use native.Mathlib.Omega.{arith}
use Rattle.amplitudelaws.specs.Step.{Step, width_after, last_width}
use Rattle.framelaws.specs.Survey.{Survey, mixed_amplitudes, surveyed, survey_from, outset, survey}

module _ {R : Type 0} where
  -- the greatest of the numbers that steps give, each at its width; 0 of none
  unfoldable pub most_given : (ℕ → Step R → ℕ) → ℕ → List (Step R) → ℕ
  most_given given n [] = 0
  most_given given n (t ∷ ts) = max (given n t) (most_given given (width_after n t) ts)

  from_width : (v : Survey) (ts : List (Step R)) → (survey_from v ts).width ≡ last_width v.width ts
  unfolding survey_from surveyed last_width
  from_width v [] = refl
  from_width v (t ∷ ts) = from_width (surveyed v t) ts

  from_steps : (v : Survey) (ts : List (Step R)) → (survey_from v ts).steps ≡ v.steps + length ts
  unfolding survey_from surveyed
  from_steps v [] = omega arith
  from_steps v (t ∷ ts) = omega (arith, from_steps (surveyed v t) ts)

  -- what a survey holds the greatest of: `given` is the number that a step gives at its width
  module _ (held : Survey → ℕ) (given : ℕ → Step R → ℕ) (next : (v : Survey) (t : Step R) → held (surveyed v t) ≡ max (held v) (given v.width t)) where
    from_ge : (v : Survey) (ts : List (Step R)) → held v ≤ held (survey_from v ts)
    unfolding survey_from
    from_ge v [] = le_refl (held v)
    from_ge v (t ∷ ts) = le_trans (rw (next v t) (le-max_left (held v) (given v.width t))) (from_ge (surveyed v t) ts)

    from_most : (v : Survey) (ts : List (Step R)) → held (survey_from v ts) ≡ max (held v) (most_given given v.width ts)
    unfolding survey_from most_given
    from_most v [] = omega arith
    from_most v (t ∷ ts) =
        from_most (surveyed v t) ts
        ∙ unfold surveyed in (ap (λ (k : ℕ). max k (most_given given (width_after v.width t) ts)) (next v t)
        ∙ grouped (held v) (given v.width t) (most_given given (width_after v.width t) ts))
      where
        grouped : (a b c : ℕ) → max (max a b) c ≡ max a (max b c)
        grouped a b c = omega arith

    -- of two surveys at one width, the one that holds no more goes on to hold no more
    from_le : (v w : Survey) (ts : List (Step R)) → v.width ≡ w.width → held v ≤ held w → held (survey_from v ts) ≤ held (survey_from w ts)
    unfolding survey_from
    from_le v w [] e h = h
    from_le v w (t ∷ ts) e h = from_le (surveyed v t) (surveyed w t) ts (unfold surveyed in rw e) (rw (next v t, next w t) (larger _ _ (ap (λ (n : ℕ). given n t) e)))
      where
        larger : (j k : ℕ) → j ≡ k → max (held v) j ≤ max (held w) k
        larger j k e = omega arith

  module _ (n : ℕ) (ts : List (Step R)) where
    pub survey_width : (survey n ts).width ≡ last_width n ts
    unfolding survey
    survey_width = from_width (outset n) ts

    pub survey_steps : (survey n ts).steps ≡ length ts
    unfolding survey
    survey_steps = from_steps (outset n) ts ∙ zero-add (length ts)

    -- the greatest width is the start's or a step's, and none is greater; so too the scratch
    pub survey_most : (survey n ts).greatest ≡ max n (most_given width_after n ts)
    unfolding survey surveyed
    survey_most = from_most (λ v. v.greatest) width_after (λ v t. refl) (outset n) ts

    pub survey_most_scratch : (survey n ts).scratch ≡ most_given mixed_amplitudes n ts
    unfolding survey surveyed
    survey_most_scratch = from_most (λ v. v.scratch) mixed_amplitudes (λ v t. refl) (outset n) ts ∙ none (most_given mixed_amplitudes n ts)
      where
        none : (a : ℕ) → max 0 a ≡ a
        none a = omega arith

    pub survey_greatest : n ≤ (survey n ts).greatest
    unfolding survey surveyed
    survey_greatest = from_ge (λ v. v.greatest) width_after (λ v t. refl) (outset n) ts

  -- a step before the others
  module _ (n : ℕ) (t : Step R) (ts : List (Step R)) where
    pub survey_greatest_rest : (survey (width_after n t) ts).greatest ≤ (survey n (t ∷ ts)).greatest
    unfolding survey survey_from surveyed
    survey_greatest_rest = from_le (λ v. v.greatest) width_after (λ v t. refl) (outset (width_after n t)) (surveyed (outset n) t) ts refl (le-max_right n (width_after n t))

    pub survey_scratch_rest : (survey (width_after n t) ts).scratch ≤ (survey n (t ∷ ts)).scratch
    unfolding survey survey_from surveyed
    survey_scratch_rest =
        from_le (λ v. v.scratch) mixed_amplitudes (λ v t. refl) (outset (width_after n t)) (surveyed (outset n) t) ts refl (le-max_left 0 (mixed_amplitudes n t))

    pub survey_scratch : mixed_amplitudes n t ≤ (survey n (t ∷ ts)).scratch
    unfolding survey survey_from surveyed
    survey_scratch = le_trans (le-max_right 0 (mixed_amplitudes n t)) (from_ge (λ v. v.scratch) mixed_amplitudes (λ v t. refl) (surveyed (outset n) t) ts)

  pub survey_greatest_last : (n : ℕ) (ts : List (Step R)) → last_width n ts ≤ (survey n ts).greatest
  unfolding last_width
  survey_greatest_last n [] = survey_greatest n []
  survey_greatest_last n (t ∷ ts) = le_trans (survey_greatest_last (width_after n t) ts) (survey_greatest_rest n t ts)
