-- What a Pauli does to a basis state, as Nielsen and Chuang have it: a phase, and another basis state.
use Rattle.std.specs.Prelude.{◌≡◌, refl, ◌↔◌, ℕ, ◌+◌, ◌*◌, ◌%◌, ◌<◌}
use Rattle.std.proofs.Common.{sym, ap, ◌∙◌, ⊎_elim, mod-lt, zero-lt-suc, arith}
use Rattle.std.proofs.Math.Nat.{add-mul-mod_self_right}
use Rattle.std.specs.Int.Bits.{bit_xor}
use Rattle.bitlaws.specs.Digit.{mod_two}
use Rattle.bitlaws.specs.Order.{last_or_before}
use Rattle.bitlaws.specs.Xor.{xor_comm, xor_assoc, xor_swap}
use Rattle.bitlaws.specs.Parity.{overlap, overlap_comm}
use Rattle.bitlaws.proofs.Parity.{overlap_xor_l, overlap_xor_r}
use Rattle.paulilaws.specs.Pauli.{Pauli, product, anti}
use Rattle.paulilaws.specs.Action.{Ket, ket_same, on_ket, turned, half_turns_within}

-- B and then A, as one phase: u and v against b, w between the two
composed : (s a b u v w : ℕ) → (s + (a + b + 2 * w) % 4 + 2 * ((u + v) % 2)) % 4 ≡ ((s + b + 2 * v) % 4 + a + 2 * ((u + w) % 2)) % 4
composed s a b u v w =
    let first : s + (a + b + 2 * w) % 4 ≡ (a + b + 2 * w) % 4 + s = omega arith in
    let same : a + b + 2 * w + s + 2 * (u + v) ≡ s + b + 2 * v + a + 2 * (u + w) = omega arith in
    ap (λ (m : ℕ). (m + 2 * ((u + v) % 2)) % 4) first
    ∙ half_turns_within (a + b + 2 * w) s (u + v)
    ∙ ap (λ (m : ℕ). m % 4) same
    ∙ sym (half_turns_within (s + b + 2 * v) a (u + w))

-- the product is the composition of the actions
pub product_acts : (A B : Pauli) (s : Ket) → on_ket (product A B) s ≡ on_ket A (on_ket B s)
unfolding on_ket product
product_acts A B s =
    let b : ℕ = s.basis in
    ket_same
    (ap (λ (m : ℕ). (s.phase + (A.k + B.k + 2 * overlap A.z B.x) % 4 + 2 * m) % 4) (overlap_xor_r b A.z B.z)
    ∙ composed s.phase A.k B.k (overlap b A.z) (overlap b B.z) (overlap A.z B.x)
    ∙ ap (λ (m : ℕ). ((s.phase + B.k + 2 * overlap b B.z) % 4 + A.k + 2 * m) % 4)
    (ap (λ (m : ℕ). (overlap b A.z + m) % 2) (overlap_comm A.z B.x) ∙ sym (overlap_xor_l b B.x A.z)))
    (ap (bit_xor b) (xor_comm A.x B.x) ∙ sym (xor_assoc b B.x A.x))

-- what exchanging two Paulis costs, in the phases of the two orders
exchanged : (s a b u v p q : ℕ) → ((s + b + 2 * v) % 4 + a + 2 * ((u + q) % 2)) % 4 ≡ (((s + a + 2 * u) % 4 + b + 2 * ((v + p) % 2)) % 4 + 2 * ((p + q) % 2)) % 4
exchanged s a b u v p q =
    let left : ((s + b + 2 * v) % 4 + a + 2 * ((u + q) % 2)) % 4 ≡ (s + b + 2 * v + a + 2 * (u + q)) % 4 = half_turns_within (s + b + 2 * v) a (u + q) in
    let right : ((s + a + 2 * u) % 4 + b + 2 * ((v + p) % 2)) % 4 ≡ (s + a + 2 * u + b + 2 * (v + p)) % 4 = half_turns_within (s + a + 2 * u) b (v + p) in
    let none : (s + a + 2 * u + b + 2 * (v + p)) % 4 ≡ (s + a + 2 * u + b + 2 * (v + p)) % 4 + 0 = omega arith in
    let more : s + a + 2 * u + b + 2 * (v + p) + 0 + 2 * (p + q) ≡ s + b + 2 * v + a + 2 * (u + q) + p * 4 = omega arith in
    left
    ∙ sym (add-mul-mod_self_right (s + b + 2 * v + a + 2 * (u + q)) p 4)
    ∙ sym (ap (λ (m : ℕ). (m + 2 * ((p + q) % 2)) % 4) (right ∙ none)
    ∙ half_turns_within (s + a + 2 * u + b + 2 * (v + p)) 0 (p + q)
    ∙ ap (λ (m : ℕ). m % 4) more)

-- A B = (-1)^(anti A B) B A
pub exchange : (A B : Pauli) (s : Ket) → on_ket A (on_ket B s) ≡ turned (2 * anti A B) (on_ket B (on_ket A s))
unfolding on_ket turned anti
exchange A B s =
    let b : ℕ = s.basis in
    ket_same
    (ap (λ (m : ℕ). ((s.phase + B.k + 2 * overlap b B.z) % 4 + A.k + 2 * m) % 4)
    (overlap_xor_l b B.x A.z ∙ ap (λ (m : ℕ). (overlap b A.z + m) % 2) (overlap_comm B.x A.z))
    ∙ exchanged s.phase A.k B.k (overlap b A.z) (overlap b B.z) (overlap A.x B.z) (overlap A.z B.x)
    ∙ ap (λ (m : ℕ). (((s.phase + A.k + 2 * overlap b A.z) % 4 + B.k + 2 * m) % 4 + 2 * ((overlap A.x B.z + overlap A.z B.x) % 2)) % 4)
    (sym (overlap_xor_l b A.x B.z)))
    (xor_swap b B.x A.x)

pub anti_lt : (A B : Pauli) → anti A B < 2
unfolding anti
anti_lt A B = mod_two (overlap A.x B.z + overlap A.z B.x)

acts_phase : (P : Pauli) (s : Ket) → (on_ket P s).phase < 4
unfolding on_ket
acts_phase P s = mod-lt (s.phase + P.k + 2 * overlap s.basis P.z) (zero-lt-suc 3)

turned_none : (s : Ket) → s.phase < 4 → turned 0 s ≡ s
unfolding turned
turned_none s h = let e : (s.phase + 0) % 4 ≡ s.phase = omega arith in ket_same e refl

never_half : (s : Ket) → s.phase < 4 → s ≡ turned 2 s → ⊥
unfolding turned
never_half s h e = let p : s.phase ≡ (s.phase + 2) % 4 = ap (λ (t : Ket). t.phase) e in omega arith

module _ (A B : Pauli) where
  -- the state on which both directions are read off
  start : Ket
  start = record { phase = 0; basis = 0 }

  when_even : anti A B ≡ 0 → (s : Ket) → on_ket A (on_ket B s) ≡ on_ket B (on_ket A s)
  when_even e s = exchange A B s ∙ ap (λ (t : ℕ). turned (2 * t) (on_ket B (on_ket A s))) e ∙ turned_none (on_ket B (on_ket A s)) (acts_phase B (on_ket A s))

  when_odd : anti A B ≡ 1 → (s : Ket) → on_ket A (on_ket B s) ≡ turned 2 (on_ket B (on_ket A s))
  when_odd e s = exchange A B s ∙ ap (λ (t : ℕ). turned (2 * t) (on_ket B (on_ket A s))) e

  -- anti is 1 exactly when A B = - B A
  pub anticommute : (anti A B ≡ 1) ↔ ((s : Ket) → on_ket A (on_ket B s) ≡ turned 2 (on_ket B (on_ket A s)))
  anticommute = (
    when_odd,
    λ h. ⊎_elim (λ (e : anti A B ≡ 1). e)
        (λ (l : anti A B < 1). absurd (never_half (on_ket B (on_ket A start)) (acts_phase B (on_ket A start)) (sym (when_even (omega arith) start) ∙ h start)))
        (last_or_before (anti_lt A B)),
  )

  -- and 0 exactly when A B = B A
  pub commute : (anti A B ≡ 0) ↔ ((s : Ket) → on_ket A (on_ket B s) ≡ on_ket B (on_ket A s))
  commute = (
    when_even,
    λ h. ⊎_elim (λ (e : anti A B ≡ 1). absurd (never_half (on_ket B (on_ket A start)) (acts_phase B (on_ket A start)) (sym (h start) ∙ when_odd e start)))
        (λ (l : anti A B < 1). omega arith)
        (last_or_before (anti_lt A B)),
  )
