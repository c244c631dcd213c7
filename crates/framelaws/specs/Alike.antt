-- Two amplitudes are alike where both parts are the same number, the two zeros counting as equal.
use Rattle.std.specs.Prelude.{◌≡◌, T}
use Rattle.std.proofs.Common.{subst}
use Rattle.std.specs.Float.Ieee.Scale.{finite}
use Rattle.floatlaws.specs.Same.{Same, same, same_sym, ◌⨾◌}
use Rattle.floatlaws.specs.Finite.{finite_same}
use Rattle.amplitudelaws.specs.Binary.{Point}

pub record Alike (p q : Point) : Type 0 where
  pub res : Same p.re q.re
  pub ims : Same p.im q.im

pub alike : {p : Point} → Alike p p
alike = record { res = same; ims = same }

pub alike_sym : {p q : Point} → Alike p q → Alike q p
alike_sym h = record { res = same_sym h.res; ims = same_sym h.ims }

pub alike_trans : {p q r : Point} → Alike p q → Alike q r → Alike p r
alike_trans h k = record { res = h.res ⨾ k.res; ims = h.ims ⨾ k.ims }

pub alike_eq : {p q : Point} → p ≡ q → Alike p q
alike_eq {p} {q} h = subst (λ (r : Point). Alike p r) h alike

-- neither part an infinity or a NaN
abbrev pub Finite : Point → Type 0
Finite p = T (finite p.re) × T (finite p.im)

pub finite_alike : {p q : Point} → Alike p q → Finite q → Finite p
finite_alike h f = (finite_same (same_sym h.res) f.0, finite_same (same_sym h.ims) f.1)
