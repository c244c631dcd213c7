use Rattle.std.proofs.Common.{◌∙◌}
use Rattle.framelog.proofs.WordBytes.{word_stored}
use Rattle.framelog.proofs.pauli_bytes.put_word.Goals as goal

pub returns : goal.returns
returns c =
    let a = c.args in
    word_stored a.word a.to a.out.now _ c.requires (c.copy_from_slice.ensures.after ∙ c.to_le_bytes.ensures)
