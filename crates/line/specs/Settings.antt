-- Which settings of a line transport are lawful. Assumes nothing.
use Rattle.std.specs.Prelude.{◌≤◌, Bool, ◌&&◌, nat_le}
use Rattle.tape.specs.Tape.{lawful_size, most_tracks, most_volumes, first_marker, last_marker}
use Rattle.line.specs.declared.settings.Settings.{Settings}

abbrev pub lawful_settings : Settings → Bool
lawful_settings s = lawful_size s.tracks s.volumes && nat_le first_marker s.marker && nat_le s.marker last_marker

-- what they are, bound by bound
pub record Lawful (s : Settings) : Type 0 where
  pub some_track : 1 ≤ s.tracks
  pub few_tracks : s.tracks ≤ most_tracks
  pub some_volume : 1 ≤ s.volumes
  pub few_volumes : s.volumes ≤ most_volumes
  pub late : first_marker ≤ s.marker
  pub early : s.marker ≤ last_marker
