-- A Pauli's masks as they are carried: they depend on its masks alone, not on its phase, and not on the steps' signs and branches; and those of a product are the
-- product's of the two.
use Rattle.std.specs.Prelude.{◌≡◌, Bool, true, false, ℕ, eqb, Float}
use Rattle.std.proofs.Common.{sym}
use mathlib.Core.List.{List, [], ◌∷◌}
use Rattle.bitlaws.specs.Digit.{digit}
use Rattle.paulilaws.specs.Pauli.{Pauli, product, anti}
use Rattle.paulilaws.specs.Fitting.{Admitted}
use Rattle.paulilaws.specs.Frame.{raised, dropped}
use Rattle.paulilaws.specs.MaskWord.{Masked, masked_same, masked_sym, masked_trans}
use Rattle.amplitudelaws.specs.Step.{Step}
use Rattle.amplitudelaws.specs.Step.Step.{rotation, promotion, projection, correction, quarter_turn}
use Rattle.framelaws.specs.Caller.{Caller}
use Rattle.framelaws.specs.Carrying.{deciding, meets, absorbed, widened, turned_by, turned_past, carried_step, passed, carried_steps, end_pauli}
use Rattle.framelaws.specs.Allowed.{Allowed}
use Rattle.framelaws.proofs.Merging.{merged_steps}

-- ---- what a step looks at

meets_masked : (M : Pauli) (p : ℕ) {A B : Pauli} → Masked A B → meets M p A ≡ meets M p B
unfolding meets deciding
meets_masked M p {A} {B} h = by (eqb M.x 0)
  where
    by : (t : Bool) → eqb (digit p (deciding t A)) 1 ≡ eqb (digit p (deciding t B)) 1
    by true = rw h.zs
    by false = rw h.xs

absorbed_masked : (M : Pauli) (p v w : ℕ) {A B : Pauli} → Masked A B → (t : Bool) → Masked (dropped p (absorbed t M v A)) (dropped p (absorbed t M w B))
unfolding absorbed raised product dropped
absorbed_masked M p v w h true = record { xs = rw h.xs; zs = rw h.zs }
absorbed_masked M p v w h false = record { xs = rw h.xs; zs = rw h.zs }

anti_masked : (P : Pauli) {A B : Pauli} → Masked A B → anti A P ≡ anti B P
unfolding anti
anti_masked P h = rw (h.xs, h.zs)

turned_masked : (P : Pauli) {A B : Pauli} → Masked A B → (t : Bool) → Masked (turned_by t P A) (turned_by t P B)
unfolding turned_by raised product
turned_masked P h true = record { xs = rw h.xs; zs = rw h.zs }
turned_masked P h false = h

-- ---- past a step, and past all, with the flags that some Pauli C has left there

module _ {R : Type 0} where
  passed_masked : (C : Pauli) {A B : Pauli} (t : Step R) → Masked A B → Masked (passed A (carried_step C t)) (passed B t)
  unfolding passed carried_step raised widened turned_past
  passed_masked C (rotation P sign c s) h = h
  passed_masked C (promotion c q) h = record { xs = h.xs; zs = h.zs }
  passed_masked C {A} {B} (projection M p v invnorm) h = rw (meets_masked M p h) (absorbed_masked M p _ _ h (meets M p B))
  passed_masked C (correction P) h = record { xs = h.xs; zs = h.zs }
  passed_masked C {A} {B} (quarter_turn P) h = rw (anti_masked P h) (turned_masked P h (eqb (anti B P) 1))

  end_behind : (C : Pauli) {A B : Pauli} (ts : List (Step R)) → Masked A B → Masked (end_pauli A (carried_steps C ts)) (end_pauli B ts)
  unfolding carried_steps end_pauli
  end_behind C [] h = h
  end_behind C (t ∷ ts) h = end_behind (passed C t) ts (passed_masked C t h)

  pub end_masked : {A B : Pauli} (ts : List (Step R)) → Masked A B → Masked (end_pauli A ts) (end_pauli B ts)
  end_masked {A} ts h = masked_trans (masked_sym (end_behind A ts masked_same)) (end_behind A ts h)

-- ---- the masks of a product

pub end_product : (caller : Caller) (n : ℕ) (ts : List (Step Float)) (B A : Pauli) → Admitted B → B.n ≡ n → Allowed caller n ts
    → Masked (end_pauli (product B A) ts) (product (end_pauli B ts) (end_pauli A ts))
end_product caller n ts B A admitted width allowed =
    let law = (merged_steps caller n ts B A admitted width allowed).end in
    let behind : Masked (end_pauli A (carried_steps B ts)) (end_pauli A ts) = end_behind B ts masked_same in
    rw (sym law) (unfold product in record { xs = rw behind.xs; zs = rw behind.zs })
