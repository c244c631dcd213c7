-- What the declared type means.
use Rattle.amplitudelaws.specs.Binary.{Point}
use Rattle.complex.specs.declared.Complex64.{Complex64}

abbrev pub complex_of : Complex64 → Point
complex_of a = record { re = a.re; im = a.im }
