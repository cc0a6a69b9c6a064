-- What the walk does at each step: the account so far and the tape, set beside what they were. Assumes nothing.
use Rattle.std.specs.Prelude.{◌≡◌, ℕ, suc, List, ◌++◌, length, vec_items, Some, None, Option, slice_index_or}
use Rattle.tape.specs.Items.{Item, kind_of}
use Rattle.tape.specs.Tape.{Tape, blank_track, here, next_item, head_place, head_to}
use Rattle.line.specs.Meaning.{line_tape}
use Rattle.inspection.specs.declared.totals.Totals.{Totals}
use Rattle.inspection.specs.declared.totals.Sums.{Sums}
use Rattle.inspection.specs.declared.walk.Walk.{Walk}
use Rattle.inspection.specs.Amounts.{no_totals, counted, totals_of}
use Rattle.inspection.specs.Items.{item_line}
use Rattle.inspection.specs.Account.{item_lines, track_lines, tracks_lines, all_totals, with_items}

-- the tape that is walked over
abbrev pub walked : Walk → Tape
walked w = line_tape w.tape

-- what follows is put behind the account so far
abbrev pub Puts : Walk → Walk → List ℕ → Type 0
Puts old new lines = vec_items new.out ≡ vec_items old.out ++ lines

-- One step: at an item, its line is put and it is counted, the head behind it; else nothing.
abbrev pub NextPut : Tape → List ℕ → Totals → Option Item → Option Totals → Tape → List ℕ → Type 0
NextPut t out c None o u new = (o ≡ None) × (u ≡ t) × (new ≡ out)
NextPut t out c (Some i) o u new = (o ≡ Some (counted c (kind_of i))) × (u ≡ head_to t t.at (suc t.item)) × (new ≡ out ++ item_line (head_place t) i)

abbrev pub PutNext : Walk → Totals → Option Totals → Walk → Type 0
PutNext old c o new = NextPut (walked old) (vec_items old.out) c (next_item (walked old)) o (walked new) (vec_items new.out)

-- the items of the head's track are put and summed, with the head behind them
pub record PutItems (old : Walk) (c : Totals) (new : Walk) : Type 0 where
  pub lines : Puts old new (item_lines (walked old).tracks (walked old).at 0 (here (walked old)).items)
  pub totals : c ≡ totals_of (here (walked old)).items
  pub tape : walked new ≡ head_to (walked old) (walked old).at (length (here (walked old)).items)

-- the same of track k, with the line of its totals
pub record PutTrack (old : Walk) (k : ℕ) (c : Totals) (new : Walk) : Type 0 where
  pub lines : Puts old new (track_lines (walked old).tracks k (slice_index_or (walked old).image k blank_track))
  pub totals : c ≡ totals_of (slice_index_or (walked old).image k blank_track).items
  pub tape : walked new ≡ head_to (walked old) k (length (slice_index_or (walked old).image k blank_track).items)

-- all tracks are put and summed
pub record PutTracks (old : Walk) (s : Sums) (new : Walk) : Type 0 where
  pub lines : Puts old new (tracks_lines (walked old).tracks 0 (walked old).image)
  pub totals : s.totals ≡ all_totals no_totals (walked old).image
  pub tracks : s.tracks ≡ with_items 0 (walked old).image
