-- What the meaning of every transport keeps. Assumes nothing.
use Rattle.std.specs.Prelude.{◌≡◌, ◌+◌, ◌-◌, ◌%◌, ◌<◌, ◌≤◌, Bool, true, false, ◌&&◌, List, [], ◌∷◌, length}
use Rattle.tape.specs.Items.{Item, proper}
use Rattle.tape.specs.Tape.{Track, Tape, here, volumes, most_tracks, most_volumes, most_items, last_marker, writes_after}

abbrev pub all_proper : List Item → Bool
all_proper [] = true
all_proper (i ∷ is) = proper i && all_proper is

-- Blocks of 1 to 256 bytes; at most 99,999 items, with room for the writes that may still come.
-- An unmarked track may still meet its marker; a marked one has items and took at most eight writes since.
pub record SoundTrack (x : Track) : Type 0 where
  pub blocks : all_proper x.items ≡ true
  pub few : length x.items ≤ most_items
  pub unmarked : x.marked ≡ false → (length x.items < last_marker) × (x.since ≡ 0)
  pub marked : x.marked ≡ true → (1 ≤ length x.items) × (x.since ≤ writes_after) × (length x.items + (writes_after - x.since) ≤ most_items)

abbrev pub EveryTrack : List Track → Type 0
EveryTrack [] = Unit {0}
EveryTrack (x ∷ xs) = SoundTrack x × EveryTrack xs

pub record Sound (t : Tape) : Type 0 where
  pub some_track : 1 ≤ t.tracks
  pub few_tracks : t.tracks ≤ most_tracks
  pub whole_volumes : length t.image % t.tracks ≡ 0
  pub few_volumes : volumes t + t.left ≤ most_volumes
  pub head_track : t.at < length t.image
  pub head_item : t.item ≤ length (here t).items
  pub every_track : EveryTrack t.image
