-- An answer whose value is changed: what it says of the answer that it was.
use Rattle.std.specs.Prelude.{◌≡◌, refl, ℕ}
use Rattle.std.proofs.Common.{sym, arith}
use Rattle.answers.specs.Answer.{Answer}
use Rattle.answers.specs.Answer.Answer.{accepted, refused, refused_at}
use Rattle.answers.specs.Row.{refused_accepted, refused_at_accepted}
use Rattle.runlaws.specs.Run.{mapped}

module _ {A B : Type 0} (f : A → B) where
  -- an accepted value comes from one
  pub record From (a : Answer A) (b : B) : Type 0 where
    pub value : A
    pub was : a ≡ accepted value
    pub is : b ≡ f value

  pub mapped_accepted : (a : Answer A) (b : B) → mapped f a ≡ accepted b → From a b
  unfolding mapped
  mapped_accepted (accepted a) b e = record { value = a; was = refl; is = cc }
  mapped_accepted (refused n) b e = absurd (refused_accepted e)
  mapped_accepted (refused_at n i) b e = absurd (refused_at_accepted e)

-- and a refusal is one
pub mapped_refused : {A B : Type 0} (f : A → B) (a : Answer A) (n i : ℕ) → mapped f a ≡ refused_at n i → a ≡ refused_at n i
unfolding mapped
mapped_refused f (accepted a) n i e = absurd (refused_at_accepted (sym e))
mapped_refused f (refused m) n i e = absurd (let z : ◌≡◌ {A = ℕ} 0 1 = cc in omega arith)
mapped_refused f (refused_at m j) n i e = cc

pub mapped_mapped : {A B C : Type 0} (g : B → C) (f : A → B) (a : Answer A) → mapped g (mapped f a) ≡ mapped (λ x. g (f x)) a
unfolding mapped
mapped_mapped g f (accepted a) = refl
mapped_mapped g f (refused n) = refl
mapped_mapped g f (refused_at n i) = refl
