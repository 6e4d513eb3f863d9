-- A reference to a string: its text, by where it lies in the image, or nothing where it is undecodable. Assumes nothing.
use Rattle.std.specs.Prelude.{Option}
use Rattle.octets.specs.declared.Span.{Span}

abbrev pub Reference : Type 0
Reference = Option Span
