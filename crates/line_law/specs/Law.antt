-- Which images a text records, and that a line transport takes their texts and no others. Assumes nothing.
use Rattle.std.specs.Prelude.{◌≡◌, ℕ, ◌-◌, ◌*◌, ◌/◌, ◌%◌, ◌≤◌, Bool, true, false, ◌&&◌, ◌⊎◌, List, [], ◌∷◌, length, drop, Some}
use Rattle.tape.specs.Items.{Item}
use Rattle.tape.specs.Sound.{all_proper}
use Rattle.tape.specs.Tape.{Track, Tape, blank_track, all_blank, most_tracks, most_volumes, most_items, writes_after}
use Rattle.line_text.specs.Lines.{small_item}
use Rattle.line_text.specs.Layout.{text_from}
use Rattle.line.specs.declared.settings.Settings.{Settings}
use Rattle.line.specs.Taken.{taken}

-- every block's bytes are below 256
abbrev pub all_bytes : List Item → Bool
all_bytes [] = true
all_bytes (i ∷ is) = small_item i && all_bytes is

-- a track with 1 to 99,999 items, which is marked and has taken all eight writes behind its marker
pub record Filled (x : Track) : Type 0 where
  pub some : 1 ≤ length x.items
  pub few : length x.items ≤ most_items
  pub blocks : all_proper x.items ≡ true
  pub bytes : all_bytes x.items ≡ true
  pub marked : x.marked ≡ true
  pub since : x.since ≡ writes_after

-- a track of a recorded image is blank or filled
abbrev pub RecordedTrack : Track → Type 0
RecordedTrack x = (x ≡ blank_track) ⊎ Filled x

abbrev pub EachRecorded : List Track → Type 0
EachRecorded [] = Unit {0}
EachRecorded (x ∷ xs) = RecordedTrack x × EachRecorded xs

-- An image of 1 to V whole volumes of w tracks.
-- Its last volume has an item, unless it is the first.
pub record Recorded (w V : ℕ) (image : List Track) : Type 0 where
  pub whole : length image % w ≡ 0
  pub some : w ≤ length image
  pub few : length image ≤ V * w
  pub each : EachRecorded image
  pub ends : all_blank (drop (length image - w) image) ≡ true → length image ≡ w

-- the tape of an image, with its head at the first item and the other volumes still to be mounted
abbrev pub tape_of : Settings → List Track → Tape
tape_of s image = record {
  tracks = s.tracks;
  image = image;
  at = 0;
  item = 0;
  left = s.volumes - length image / s.tracks;
  failed = false;
}

-- one or two tracks to a volume, and 1 to 49 volumes
pub record Bounded (s : Settings) : Type 0 where
  pub some_track : 1 ≤ s.tracks
  pub few_tracks : s.tracks ≤ most_tracks
  pub some_volume : 1 ≤ s.volumes
  pub few_volumes : s.volumes ≤ most_volumes

-- the text is the lines of a recorded image, and there is room for it
pub record Spells (s : Settings) (text : List ℕ) (image : List Track) : Type 0 where
  pub recorded : Recorded s.tracks s.volumes image
  pub lines : text ≡ text_from s.tracks 0 image
  pub room : length text ≤ s.room

-- Every text of a recorded image is taken, and gives exactly that image.
abbrev pub EveryTextTaken : Type 0
EveryTextTaken = (s : Settings) (text : List ℕ) (image : List Track) → Bounded s → Spells s text image → taken s text ≡ Some (tape_of s image)

-- What is taken is the text of a recorded image, and gives exactly that image.
abbrev pub NoOtherTaken : Type 0
NoOtherTaken = (s : Settings) (text : List ℕ) (t : Tape) → Bounded s → taken s text ≡ Some t → Spells s text t.image × (t ≡ tape_of s t.image)
