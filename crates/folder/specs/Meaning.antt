-- What the folder's declared types mean.
use Rattle.activepauli.specs.Active.{active_of}
use Rattle.runlaws.specs.Calls.{Folding}
use Rattle.folder.specs.declared.Folded.{Folded}

abbrev pub folded_of : Folded → Folding
folded_of f = record { end = active_of f.end; size = f.size }
