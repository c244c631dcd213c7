-- A run is accepted exactly where it is not too long and its bytes are the start field's four, its steps' pieces and the end field.
use Rattle.std.specs.Prelude.{◌≡◌, refl, List, [], ◌∷◌, ◌++◌, ℕ, ◌≤◌, length, drop}
use Rattle.std.proofs.Common.{ap, ◌∙◌, arith}
use Rattle.std.proofs.Math.Option.{some}
use Rattle.answers.specs.Answer.Answer.{accepted}
use Rattle.framelaws.specs.Caller.{Caller}
use Rattle.runlaws.specs.Bytes.{byte_at}
use Rattle.runlaws.specs.Field.{most_bytes, body_length, is_whole, field_at}
use Rattle.runlaws.specs.Run.{Run, mapped, start_width, run_of}
use Rattle.runlaws.specs.WholeRun.{start_read, run_begun, run_allowed}
use Rattle.runlaws.specs.Anywhere.{field_in_lem}
use Rattle.runlaws.specs.Pieces.{pieces_within}
use Rattle.runlaws.proofs.Pieces.{pieces_walk, walk_pieces}
use Rattle.runlaws.specs.RunPieces.{start_bytes, RunPieces}

four_bytes : (s : List ℕ) (n : ℕ) → 4 ≤ length s → byte_at s 0 ≡ 1 → body_length s 0 ≡ 1 → byte_at s 3 ≡ n → s ≡ start_bytes n ++ drop 4 s
unfolding body_length
four_bytes [] n long tag size is = absurd (omega arith)
four_bytes (a ∷ []) n long tag size is = absurd (omega arith)
four_bytes (a ∷ b ∷ []) n long tag size is = absurd (omega arith)
four_bytes (a ∷ b ∷ c ∷ []) n long tag size is = absurd (omega arith)
four_bytes (a ∷ b ∷ c ∷ d ∷ s) n long tag size is =
    let low : b ≡ 1 = omega arith in
    let high : c ≡ 0 = omega arith in
    rw (tag, low, high, is)

pub run_pieces : (caller : Caller) (s : List ℕ) (R : Run) → run_of caller s ≡ accepted R → RunPieces caller s R
run_pieces caller s R e =
    let r = run_allowed caller s R e in
    let b = start_read s R.width r.start in
    record {
      short = r.short;
      bytes = drop 4 s;
      whole = four_bytes s R.width b.begins b.tag b.size b.is;
      pieces = walk_pieces caller (length s) R.steps s (record { at = 4; width = R.width }) r.short (omega arith) r.walked;
    }

start_bytes_lem : (n : ℕ) (bytes : List ℕ) → start_width (field_at (start_bytes n ++ bytes) 0) ≡ some n
unfolding start_width field_at is_whole body_length
start_bytes_lem n bytes = ap start_width (field_in_lem [] (start_bytes n) bytes 0 _ refl)

pub pieces_run : (caller : Caller) (s : List ℕ) (R : Run) → RunPieces caller s R → run_of caller s ≡ accepted R
unfolding mapped
pieces_run caller s R p =
    let n : ℕ = R.width in
    let all : List ℕ = start_bytes n ++ p.bytes in
    let short : length all ≤ most_bytes = rw p.whole at p.short in
    let within = pieces_within caller n R.steps p.bytes p.pieces in
    let walked = pieces_walk caller n (length all) R.steps (start_bytes n) p.bytes short (omega arith) p.pieces in
    rw p.whole (run_begun caller all short n (start_bytes_lem n p.bytes) within ∙ rw walked)
