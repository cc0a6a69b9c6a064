-- The item that the head comes to next. Assumes nothing.
use Rattle.std.specs.Prelude.{◌<◌, length, slice_index_or}
use Rattle.tape.specs.Items.{Item, mark}
use Rattle.tape.specs.Tape.{here}
use Rattle.line.specs.declared.line_transport.LineTransport.{LineTransport}
use Rattle.line.specs.Meaning.{line_tape}

-- there is one
abbrev pub HasNext : LineTransport → Type 0
HasNext x = x.head.item < length (here (line_tape x)).items

-- and it is this
abbrev pub next : LineTransport → Item
next x = slice_index_or (here (line_tape x)).items x.head.item mark
