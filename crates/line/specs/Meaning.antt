-- What a line transport stands for. Assumes nothing.
use Rattle.std.specs.Prelude.{ℕ, suc, ◌+◌, ◌-◌, ◌/◌, false, not, length, vec_items, ◌==◌, nat_le}
use Rattle.tape.specs.Items.{Item}
use Rattle.tape.specs.Tape.{Tape, Choice, here}
use Rattle.line_text.specs.Lines.{line_size}
use Rattle.line_text.specs.Layout.{tape_in}
use Rattle.line.specs.declared.line_transport.LineTransport.{LineTransport}
use Rattle.line.specs.declared.settings.Settings.{Settings}

-- the volumes still to be mounted
abbrev pub volumes_left : LineTransport → ℕ
volumes_left x = x.settings.volumes - length (vec_items x.spans) / x.settings.tracks

abbrev pub line_tape : LineTransport → Tape
line_tape x = tape_in x.settings.tracks (vec_items x.text) (vec_items x.spans) x.head.at x.head.item (volumes_left x) x.failed

-- Nothing of a line transport is open: it meets each track's marker at one write,
-- and fails exactly where the next line does not fit its text.
abbrev pub line_choice : LineTransport → Item → Choice
line_choice x i = record {
  meets = (suc (length (here (line_tape x)).items) == x.settings.marker);
  fails = not (nat_le (length (vec_items x.text) + line_size i) x.settings.room);
}

-- at every other function there is nothing to choose, and it never fails
abbrev pub sure : Choice
sure = record { meets = false; fails = false }

-- the settings that it was made with
abbrev pub settings_of : LineTransport → Settings
settings_of x = x.settings
