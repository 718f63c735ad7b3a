-- What is proved of a trace that arrives in pieces; the document's examples as text. Assumes nothing.
use mathlib.Core.Path.{refl}
use Rattle.digits.specs.Digits.{decimal_up_to}
use Rattle.replay.specs.Text.{text_of, texts_of}
use Rattle.replay.specs.Statements.{Streams, Example}
use Rattle.replay.proofs.StreamLaws as pieces

pub streams : Streams
streams = pieces.streams

pub example : Example
unfolding decimal_up_to text_of texts_of
example = (refl, refl)
