-- Worked examples of the rules, which compute. Assumes nothing.
use Rattle.std.specs.Prelude.{◌≡◌, ℕ, ◌+◌, true, false, List, [], ◌∷◌, replicate, Some, None, Ok, Err}
use Rattle.tape.specs.declared.item.Kind.TheVariants as told
use Rattle.tape.specs.declared.transport.Fault.TheVariants.{TurnedDown, Failed}
use Rattle.tape.specs.Items.{Item, mark, block}
use Rattle.tape.specs.Tape.{Track, Tape, Choice, blank_track, meets_at, write, next_track, mount, following, rewind, look, read, head_place, marker_met, any_items, status_of, fresh}
use Rattle.tape.specs.Runs.{writes, goes_to_next_track, mounts, rewinds, run}

-- What the transport chooses: nothing, that the marker is met where it may be, that the function fails.
abbrev pub plain : Choice
plain = record { meets = false; fails = false }

abbrev pub meeting : Choice
meeting = record { meets = true; fails = false }

abbrev pub breaking : Choice
breaking = record { meets = false; fails = true }

-- a block of n bytes
abbrev pub bytes : ℕ → Item
bytes n = block (replicate n 7)

-- a track with these items that has not met its marker
abbrev pub holding : List Item → Track
holding is = record { items = is; marked = false; since = 0 }

-- a tape of so many tracks to a volume, the head on the track of this index behind so many items; one volume is left
abbrev pub tape_of : ℕ → List Track → ℕ → ℕ → Tape
tape_of n all k passed = record { tracks = n; image = all; at = k; item = passed; left = 1; failed = false }

-- the same on a transport that has failed
abbrev pub broken_tape : ℕ → List Track → ℕ → ℕ → Tape
broken_tape n all k passed = record { tracks = n; image = all; at = k; item = passed; left = 1; failed = true }

-- a tape of one track that holds n marks, the head behind them
abbrev pub marks : ℕ → Tape
marks n = tape_of 1 (holding (replicate n mark) ∷ []) 0 n

-- a tape of one track that met its marker at its third mark and took n more marks since, the head behind them
abbrev pub behind_marker : ℕ → Tape
behind_marker n = tape_of 1 (record { items = replicate (3 + n) mark; marked = true; since = n } ∷ []) 0 (3 + n)

-- one volume of two tracks, of which the first holds a mark
abbrev pub mark_and_blank : List Track
mark_and_blank = holding (mark ∷ []) ∷ blank_track ∷ []

abbrev pub two_tracks : ℕ → ℕ → Tape
two_tracks = tape_of 2 mark_and_blank

-- two volumes of one track: a mark on the first, the bytes 1, 2, 3 on the second
abbrev pub mark_and_block : List Track
mark_and_block = holding (mark ∷ []) ∷ holding (block (1 ∷ 2 ∷ 3 ∷ []) ∷ []) ∷ []

abbrev pub two_volumes : ℕ → ℕ → Tape
two_volumes = tape_of 1 mark_and_block

abbrev pub broken : ℕ → ℕ → Tape
broken = broken_tape 1 mark_and_block

-- The third write meets the marker where the transport chooses so, and only there; the second never does.
abbrev pub ThirdWrite : Type 0
ThirdWrite =
    (write meeting (marks 2) mark ≡ (Ok true, behind_marker 0))
    × (write plain (marks 2) mark ≡ (Ok false, marks 3))
    × (write meeting (marks 1) mark ≡ (Ok false, marks 2))

-- The 60,000th write meets the marker whatever the transport chooses; the 59,999th only where it chooses so.
abbrev pub LastMarker : Type 0
LastMarker = ((c : Choice) → meets_at c 60000 ≡ true) × (meets_at plain 59999 ≡ false) × (meets_at meeting 59999 ≡ true)

-- Behind the marker the eighth write is taken and the ninth turned down.
abbrev pub EighthWrite : Type 0
EighthWrite = (write plain (behind_marker 7) mark ≡ (Ok true, behind_marker 8)) × (write plain (behind_marker 8) mark ≡ (Err TurnedDown, behind_marker 8))

-- Behind the marker a block of 32 bytes is taken and one of 33 turned down.
abbrev pub LabelBehindMarker : Type 0
LabelBehindMarker = ((write plain (behind_marker 0) (bytes 32)).0 ≡ Ok true) × (write plain (behind_marker 0) (bytes 33) ≡ (Err TurnedDown, behind_marker 0))

-- A block has 1 to 256 bytes: an empty one and one of 257 are turned down.
abbrev pub BlockSizes : Type 0
BlockSizes =
    (write plain (marks 0) (bytes 0) ≡ (Err TurnedDown, marks 0))
    × ((write plain (marks 0) (bytes 1)).0 ≡ Ok false)
    × ((write plain (marks 0) (bytes 256)).0 ≡ Ok false)
    × (write plain (marks 0) (bytes 257) ≡ (Err TurnedDown, marks 0))

-- Nothing is written where an item stands at the head, or on a later track.
abbrev pub NoOverwriting : Type 0
NoOverwriting =
    (write plain (two_tracks 0 0) mark ≡ (Err TurnedDown, two_tracks 0 0))
    × (write plain (two_volumes 0 1) mark ≡ (Err TurnedDown, two_volumes 0 1))

-- Next track: from a track with an item to its volume's next; not from a blank track, nor from a last track.
abbrev pub NextTrack : Type 0
NextTrack =
    (next_track plain (two_tracks 0 1) ≡ (Ok tt, two_tracks 1 0))
    × ((next_track plain (tape_of 2 (blank_track ∷ blank_track ∷ []) 0 0)).0 ≡ Err TurnedDown)
    × (next_track plain (two_volumes 0 1) ≡ (Err TurnedDown, two_volumes 0 1))

-- Mount: after the last item on a last track, it adds a blank volume, goes there, and leaves one volume fewer.
abbrev pub Mounting : Type 0
Mounting =
    mount plain (marks 1)
    ≡ (Ok tt, record { tracks = 1; image = holding (mark ∷ []) ∷ blank_track ∷ []; at = 1; item = 0; left = 0; failed = false })

-- Mount is turned down before the last item, on a blank tape, on a track that is not a last one, and where no volume is left.
abbrev pub NoMounting : Type 0
NoMounting =
    (mount plain (two_volumes 1 0) ≡ (Err TurnedDown, two_volumes 1 0))
    × (mount plain (marks 0) ≡ (Err TurnedDown, marks 0))
    × (mount plain (two_tracks 0 1) ≡ (Err TurnedDown, two_tracks 0 1))
    × ((mount plain (mount plain (marks 1)).1).0 ≡ Err TurnedDown)

-- Following: to the next volume's first item, or the answer that there is none.
abbrev pub Following : Type 0
Following =
    (following plain (two_volumes 0 1) ≡ (Ok true, two_volumes 1 0))
    × (following plain (two_volumes 1 1) ≡ (Ok false, two_volumes 1 1))

-- Rewind: to the first item of the first volume.
abbrev pub Rewinding : Type 0
Rewinding = rewind plain (two_volumes 1 1) ≡ (Ok tt, two_volumes 0 0)

-- Look: the next item's kind and length, or that the track has no more.
abbrev pub Looking : Type 0
Looking =
    (look plain (two_volumes 0 0) ≡ (Ok (Some told.Mark), two_volumes 0 0))
    × (look plain (two_volumes 1 0) ≡ (Ok (Some (told.Block 3)), two_volumes 1 0))
    × (look plain (two_volumes 1 1) ≡ (Ok None, two_volumes 1 1))

-- Read passes the item; a block goes to the front of the buffer, whose rest stays, and a mark leaves all of it.
abbrev pub Reading : Type 0
Reading =
    (read plain (two_volumes 1 0) (9 ∷ 9 ∷ 9 ∷ 8 ∷ 7 ∷ []) ≡ (Ok (told.Block 3), 1 ∷ 2 ∷ 3 ∷ 8 ∷ 7 ∷ [], two_volumes 1 1))
    × (read plain (two_volumes 0 0) (9 ∷ []) ≡ (Ok told.Mark, 9 ∷ [], two_volumes 0 1))

-- Read is turned down at the track's end, and where the buffer is one byte too short, which then stays as it was.
abbrev pub NoReading : Type 0
NoReading =
    (read plain (two_volumes 0 1) (9 ∷ []) ≡ (Err TurnedDown, 9 ∷ [], two_volumes 0 1))
    × (read plain (two_volumes 1 0) (9 ∷ 8 ∷ []) ≡ (Err TurnedDown, 9 ∷ 8 ∷ [], two_volumes 1 0))

-- A function that fails changes only the failed state.
abbrev pub Failing : Type 0
Failing =
    (write breaking (two_volumes 1 1) mark ≡ (Err Failed, broken 1 1))
    × (next_track breaking (two_tracks 0 1) ≡ (Err Failed, broken_tape 2 mark_and_blank 0 1))
    × (mount breaking (two_volumes 1 1) ≡ (Err Failed, broken 1 1))
    × (following breaking (two_volumes 0 1) ≡ (Err Failed, broken 0 1))
    × (rewind breaking (two_volumes 1 1) ≡ (Err Failed, broken 1 1))
    × (look breaking (two_volumes 0 0) ≡ (Err Failed, broken 0 0))
    × (read breaking (two_volumes 1 0) (9 ∷ 9 ∷ 9 ∷ []) ≡ (Err Failed, 9 ∷ 9 ∷ 9 ∷ [], broken 1 0))

-- A function that cannot apply does not fail: it is turned down.
abbrev pub TurnedDownFirst : Type 0
TurnedDownFirst = (next_track breaking (two_volumes 0 1) ≡ (Err TurnedDown, two_volumes 0 1)) × (mount breaking (marks 0) ≡ (Err TurnedDown, marks 0))

-- A failed transport turns every function down, whatever it chooses.
abbrev pub AfterFailure : Type 0
AfterFailure =
    (c : Choice)
    → (write c (broken 1 1) mark ≡ (Err TurnedDown, broken 1 1))
    × (next_track c (broken_tape 2 mark_and_blank 0 1) ≡ (Err TurnedDown, broken_tape 2 mark_and_blank 0 1))
    × (mount c (broken 1 1) ≡ (Err TurnedDown, broken 1 1))
    × (following c (broken 0 0) ≡ (Err TurnedDown, broken 0 0))
    × (rewind c (broken 1 1) ≡ (Err TurnedDown, broken 1 1))
    × (look c (broken 0 0) ≡ (Err TurnedDown, broken 0 0))
    × (read c (broken 0 0) [] ≡ (Err TurnedDown, [], broken 0 0))

-- It still answers every question.
abbrev pub Questions : Type 0
Questions =
    (head_place (broken 1 0) ≡ record { volume = 2; track = 1; item = 1 })
    × (head_place (broken_tape 2 mark_and_blank 1 0) ≡ record { volume = 1; track = 2; item = 1 })
    × ((broken 1 0).tracks ≡ 1)
    × (marker_met (broken 1 0) ≡ false)
    × ((broken 1 0).failed ≡ true)
    × (any_items (broken 1 0) ≡ true)

-- All the answers at once: of the transport that has failed, and of a new one.
abbrev pub AllAnswers : Type 0
AllAnswers =
    (status_of (broken 1 0) ≡ record { place = record { volume = 2; track = 1; item = 1 }; tracks = 1; marked = false; failed = true; recorded = true })
    × (status_of (fresh 2 1) ≡ record { place = record { volume = 1; track = 1; item = 1 }; tracks = 2; marked = false; failed = false; recorded = false })

-- A run from a new transport of two tracks and two volumes: an item on each track, then the second volume, and back.
abbrev pub OneRun : Type 0
OneRun =
    run ((writes mark, plain) ∷ (goes_to_next_track, plain) ∷ (writes (bytes 1), plain) ∷ (mounts, plain) ∷ (rewinds, plain) ∷ []) (fresh 2 2)
    ≡ record {
      tracks = 2;
      image = holding (mark ∷ []) ∷ holding (bytes 1 ∷ []) ∷ blank_track ∷ blank_track ∷ [];
      at = 0;
      item = 0;
      left = 0;
      failed = false;
    }

pub record WorkedExamples : Type 0 where
  pub third_write : ThirdWrite
  pub last_marker_forced : LastMarker
  pub eighth_write : EighthWrite
  pub label_behind_marker : LabelBehindMarker
  pub block_sizes : BlockSizes
  pub no_overwriting : NoOverwriting
  pub next_tracks : NextTrack
  pub mounting : Mounting
  pub no_mounting : NoMounting
  pub following_volumes : Following
  pub rewinding : Rewinding
  pub looking : Looking
  pub reading : Reading
  pub no_reading : NoReading
  pub failing_functions : Failing
  pub turned_down_first : TurnedDownFirst
  pub after_failure : AfterFailure
  pub questions : Questions
  pub all_answers : AllAnswers
  pub one_run : OneRun
