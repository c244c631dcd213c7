-- Two corrections, one carry, proved: TwoCorrections.antt states it. For any caller, and so for the service and for the emulator.
use Rattle.std.specs.Prelude.{◌≡◌, true, List, [], ◌∷◌, ℕ, ◌≤◌, length}
use Rattle.std.proofs.Common.{sym, ap, ap₂, ◌∙◌}
use Rattle.answers.specs.Answer.{is_accepted}
use Rattle.answers.specs.Answer.Answer.{accepted}
use Rattle.answers.specs.Row.{accepted_same}
use Rattle.paulilaws.specs.Pauli.{Pauli, product}
use Rattle.framelaws.specs.Caller.{Caller, service, emulator}
use Rattle.framelaws.specs.Identity.{phase_on}
use Rattle.runlaws.specs.Calls.{carrying}
use Rattle.runlaws.specs.Frame.{sent}
use Rattle.runlaws.proofs.OneCarry.{carried_once, alike_sent, refused_sent}
use Rattle.runlaws.proofs.Undoing.{carried_back, phase_checked}
use Rattle.runlaws.proofs.Sent.{sent_accepted, elsewhere}
use Rattle.runlaws.specs.TwoCorrections.{product_of, InTurn, TwoCorrections}
use Rattle.runlaws.specs.TwoCorrections.InTurn.{alone, next}

-- ---- any number of them

merged_in_turn : (caller : Caller) (s out : List ℕ) (Q ends : Pauli) (last : List ℕ) (Qs : List Pauli) → InTurn caller s Q Qs ends last → length s ≤ length out
    → ((carrying caller s (product_of Q Qs) out).answer ≡ accepted ends) × (sent caller s (product_of Q Qs) out ≡ last)
unfolding product_of is_accepted
merged_in_turn caller s out Q ends last [] (alone first e) room = elsewhere caller s first out Q ends e room
merged_in_turn caller s out Q ends last (P ∷ Ps) (next {end = end} {ends = rest} first e turn) room =
    let t : List ℕ = sent caller s Q first in
    let A : Pauli = product_of P Ps in
    let one = sent_accepted caller s Q first (rw e) in
    let known = one.known in
    let behind = merged_in_turn caller t out P rest last Ps turn (rw known.size room) in
    let through : is_accepted (carrying caller s A out).answer ≡ true = sym (alike_sent caller s first out Q A one.run known) ∙ ap is_accepted behind.0 in
    let law = carried_once caller s first out Q A one (sent_accepted caller s A out through) out room in
    let end_b : law.end_b ≡ end = accepted_same (sym law.first_ends ∙ e) in
    let end_a : law.end_a ≡ rest = accepted_same (sym law.second_ends ∙ behind.0) in
    (law.merged_ends ∙ ap₂ (λ (P Q : Pauli). accepted (product P Q)) end_b end_a, sym law.same ∙ behind.1)

-- TWO CORRECTIONS, ONE CARRY, for any caller
pub two_corrections : (caller : Caller) → TwoCorrections caller
two_corrections caller = record {
  accepts = λ s first second third B A c.
      carried_once caller s first second B A (sent_accepted caller s B first c.carries_B) (sent_accepted caller s A second c.carries_A) third c.room;
  alike = λ s first second B A e. let one = sent_accepted caller s B first e in alike_sent caller s first second B A one.run one.known;
  refuses = λ s first second B A e. let one = sent_accepted caller s B first e in refused_sent caller s first second B A one.run one.known;
  unchanged = λ s out n k v e h. phase_checked caller s out n k v e (sent_accepted caller s (phase_on n k) out h);
  undoes = λ s first second B A xs zs e h. carried_back caller s first second B A (sent_accepted caller s B first e) (sent_accepted caller s A second h) xs zs;
  in_turn = λ s out last Q ends Qs. merged_in_turn caller s out Q ends last Qs;
}

-- and so of what carry_run promises to the service, and to the emulator
pub two_corrections_at_the_service : TwoCorrections service
two_corrections_at_the_service = two_corrections service

pub two_corrections_at_the_emulator : TwoCorrections emulator
two_corrections_at_the_emulator = two_corrections emulator
