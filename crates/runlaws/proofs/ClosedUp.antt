-- What folding leaves of a run differs from the run without its corrections' fields, closed up, in sign and branch bytes only.
use Rattle.std.specs.Prelude.{◌≡◌, refl, Bool, true, false, List, [], ◌∷◌, ◌++◌, ◌⊎◌, ℕ, zero, suc, ◌+◌, ◌-◌, ◌<◌, ltb, length, take, drop}
use Rattle.std.proofs.Math.Path.{sym}
use Rattle.std.proofs.Common.{ap, ◌∙◌, subst, inl, inr, ⊎_elim, arith, length-append, get_or-append-add, ltb-true, ltb-false}
use Rattle.std.specs.Float.Ieee.{Float}
use Rattle.std.proofs.Math.ListN.{get_or-append}
use Rattle.answers.specs.Answer.Answer.{accepted}
use Rattle.paulilaws.specs.Pauli.{Pauli, identity}
use Rattle.amplitudelaws.specs.Step.{Step, width_after}
use Rattle.amplitudelaws.specs.Step.Step.{rotation, promotion, projection, correction, quarter_turn}
use Rattle.framelaws.specs.Caller.{Caller}
use Rattle.framelaws.specs.Carrying.{carried_step, passed}
use Rattle.framelaws.specs.Folded.{kept_past, kept_steps, firing_of, Firing}
use Rattle.framelaws.specs.Folding.{fires, left_of, folded_steps}
use Rattle.framelaws.specs.Folded.Firing.{firing, keeping}
use Rattle.runlaws.proofs.Altered.{flag_altered}
use Rattle.runlaws.specs.Bytes.{byte_at}
use Rattle.runlaws.specs.Flags.{field_size, flag_at, FlagOf, FlagIn}
use Rattle.runlaws.proofs.Flagged.{flag_length, carried_size}
use Rattle.runlaws.proofs.FoldedBytes.{behind_piece, piece_long}
use Rattle.runlaws.specs.FoldedRun.{kept_of, kept_fields, kept_run, left_bytes, folded_fields, folded_run}
use Rattle.runlaws.specs.Pieces.{Pieces}
use Rattle.runlaws.specs.Run.{Run, run_of}
use Rattle.runlaws.specs.RunPieces.{start_bytes}
use Rattle.runlaws.proofs.RunPieces.{run_pieces}
use Rattle.runlaws.specs.ClosedUp.{Unlike}

-- ---- one field

-- the place of a flag, the field standing further on
flag_moved : {R : Type 0} (at : ℕ) (t : Step R) (i : ℕ) → FlagOf 0 t i → FlagOf at t (at + i)
flag_moved at (rotation P sign c s) i e = omega arith
flag_moved at (promotion c q) i e = e
flag_moved at (projection M p v invnorm) i e = omega arith
flag_moved at (correction P) i e = e
flag_moved at (quarter_turn P) i e = e

-- a field with another flag, and what stands behind it
module _ (at : ℕ) (u : Step Float) (us : List (Step Float)) (f a b : List ℕ) (long : length f ≡ field_size u) (rest : Unlike (at + field_size u) us a b) where
  abbrev g : List ℕ
  g = flag_at 0 u f

  joined_byte : (i : ℕ) → (byte_at (g ++ a) i ≡ byte_at (f ++ b) i) ⊎ FlagIn at (u ∷ us) (at + i)
  joined_byte i = by (ltb i (length f)) refl
    where
      by : (q : Bool) → ltb i (length f) ≡ q → (byte_at (g ++ a) i ≡ byte_at (f ++ b) i) ⊎ FlagIn at (u ∷ us) (at + i)
      by true e =
          let inside : i < length f = ltb-true i (length f) e in
          ⊎_elim (λ same. inl (get_or-append g a 0 i (rw (flag_length 0 u f) inside) ∙ same ∙ sym (get_or-append f b 0 i inside)))
          (λ flag. inr (inl (flag_moved at u i flag))) (flag_altered 0 u f i)
      by false e =
          let j : ℕ = i - length f in
          let place : i ≡ length f + j = omega (arith, ltb-false i (length f) e) in
          let here : byte_at (g ++ a) i ≡ byte_at a j = ap (byte_at (g ++ a)) (place ∙ ap (λ (n : ℕ). n + j) (sym (flag_length 0 u f))) ∙ get_or-append-add g a j 0 in
          let there : byte_at (f ++ b) i ≡ byte_at b j = ap (byte_at (f ++ b)) place ∙ get_or-append-add f b j 0 in
          let further : at + field_size u + j ≡ at + i = omega (arith, long) in
          ⊎_elim (λ same. inl (here ∙ same ∙ sym there)) (λ flag. inr (inr (subst (FlagIn (at + field_size u) us) further flag))) (rest.byte j)

  joined : Unlike at (u ∷ us) (g ++ a) (f ++ b)
  joined = record { size = simp length-append (omega (arith, flag_length 0 u f, rest.size)); byte = joined_byte }

-- ---- all fields

module _ (caller : Caller) (ts : List (Step Float)) where
  -- what is known of the steps behind, whatever the Pauli is there
  abbrev Behind : ℕ → Type 0
  Behind n = (Q : Pauli) (bytes : List ℕ) → Pieces caller n ts bytes → (at : ℕ) → Unlike at (folded_steps Q ts) (folded_fields Q ts bytes) (kept_fields ts bytes)

  one_unlike : (t : Step Float) → Firing t → (n : ℕ) (Q : Pauli) (bytes : List ℕ) → Pieces caller n (t ∷ ts) bytes → Behind (width_after n t)
      → (at : ℕ) → Unlike at (folded_steps Q (t ∷ ts)) (folded_fields Q (t ∷ ts) bytes) (kept_fields (t ∷ ts) bytes)
  unfolding folded_steps folded_fields kept_fields left_of left_bytes kept_of fires
  one_unlike _ (firing P) n Q bytes p rest at = rest _ _ (behind_piece caller n (correction P) ts bytes p) at
  one_unlike t (keeping stays) n Q bytes p rest at =
      let u : Step Float = carried_step Q t in
      let behind = rest (passed Q t) (drop (field_size t) bytes) (behind_piece caller n t ts bytes p) (at + field_size u) in
      rw (kept_steps Q t stays ts, stays, kept_past Q t stays)
      (joined at u (folded_steps (passed Q t) ts) (take (field_size t) bytes) _ _ (piece_long caller n t ts bytes p ∙ sym (carried_size Q t)) behind)

fields_unlike : (caller : Caller) (ts : List (Step Float)) (n : ℕ) (Q : Pauli) (bytes : List ℕ) → Pieces caller n ts bytes
    → (at : ℕ) → Unlike at (folded_steps Q ts) (folded_fields Q ts bytes) (kept_fields ts bytes)
unfolding folded_steps folded_fields kept_fields
fields_unlike caller [] n Q bytes p at = record { size = refl; byte = λ i. inl refl }
fields_unlike caller (t ∷ ts) n Q bytes p at = one_unlike caller ts t (firing_of t) n Q bytes p (fields_unlike caller ts (width_after n t)) at

-- ---- the whole run

-- behind the start field's four bytes
behind_start_lem : (n : ℕ) (us : List (Step Float)) (a b : List ℕ) → Unlike 4 us a b → (i : ℕ)
    → (byte_at (start_bytes n ++ a) i ≡ byte_at (start_bytes n ++ b) i) ⊎ FlagIn 4 us i
behind_start_lem n us a b d zero = inl refl
behind_start_lem n us a b d (suc zero) = inl refl
behind_start_lem n us a b d (suc (suc zero)) = inl refl
behind_start_lem n us a b d (suc (suc (suc zero))) = inl refl
behind_start_lem n us a b d (suc (suc (suc (suc i)))) =
    let place : 4 + i ≡ suc (suc (suc (suc i))) = omega arith in
    subst (λ (k : ℕ). (byte_at a i ≡ byte_at b i) ⊎ FlagIn 4 us k) place (d.byte i)

module _ (caller : Caller) (s : List ℕ) (R : Run) (e : run_of caller s ≡ accepted R) where
  abbrev us : List (Step Float)
  us = folded_steps (identity R.width) R.steps

  abbrev folded : List ℕ → List ℕ
  folded l = take 4 l ++ folded_fields (identity R.width) R.steps (drop 4 l)

  abbrev kept : List ℕ → List ℕ
  kept l = take 4 l ++ kept_fields R.steps (drop 4 l)

  both : (length (folded s) ≡ length (kept s)) × ((i : ℕ) → (byte_at (folded s) i ≡ byte_at (kept s) i) ⊎ FlagIn 4 us i)
  both =
      let p = run_pieces caller s R e in
      let d = fields_unlike caller R.steps R.width (identity R.width) p.bytes p.pieces 4 in
      subst (λ (l : List ℕ). (length (folded l) ≡ length (kept l)) × ((i : ℕ) → (byte_at (folded l) i ≡ byte_at (kept l) i) ⊎ FlagIn 4 us i)) (sym p.whole)
      (omega (arith, d.size), behind_start_lem R.width us _ _ d)

  pub closed_size : length (folded_run R s) ≡ length (kept_run R s)
  unfolding folded_run kept_run
  closed_size = both.0

  pub closed_up : (i : ℕ) → (byte_at (folded_run R s) i ≡ byte_at (kept_run R s) i) ⊎ FlagIn 4 us i
  unfolding folded_run kept_run
  closed_up = both.1
