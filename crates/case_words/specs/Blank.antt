-- A tape that looks new. Assumes nothing.
use Rattle.std.specs.Prelude.{◌≡◌, ℕ, false, [], length}
use Rattle.tape.specs.declared.place.Place.{Place}
use Rattle.tape.specs.declared.status.Status.{Status}
use Rattle.tape.specs.Tape.{Tape, status_of}
use Rattle.line_text.specs.Layout.{text_of}

abbrev pub front : Place
front = record { volume = 1; track = 1; item = 1 }

-- what a tape of one volume with so many tracks tells where nothing is recorded
abbrev pub new_status : ℕ → Status
new_status tracks = record { place = front; tracks = tracks; marked = false; failed = false; recorded = false }

-- it has no text, and all its tracks are those of one volume
abbrev pub LooksNew : Tape → Type 0
LooksNew t = (text_of t ≡ []) × (status_of t ≡ new_status (length t.image))
