use Rattle.paulilaws.specs.Pauli.{fits}
use Rattle.activepauli.proofs.ActivePauli.is_pauli.Goals as goal

pub returns : goal.returns
unfolding fits
returns c = rw (c.word_fits.ensures, c.word_fits-2.ensures)
