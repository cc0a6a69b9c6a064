-- The account of a cassette: the lines of its items, track by track, with totals. Assumes nothing.
use Rattle.std.specs.Prelude.{ℕ, suc, ◌+◌, ◌/◌, ◌%◌, cond, List, [], ◌∷◌, ◌++◌, length, Some, None, Option, ◌==◌}
use Rattle.tape.specs.declared.place.Place.{Place}
use Rattle.tape.specs.declared.refusal.Reason.TheVariants.{Unlawful}
use Rattle.tape.specs.Items.{Item}
use Rattle.tape.specs.Refusals.{nowhere}
use Rattle.tape.specs.Tape.{Track, Tape, most_volumes, last_marker}
use Rattle.line.specs.declared.settings.Settings.{Settings}
use Rattle.line.specs.Settings.{lawful_settings}
use Rattle.line.specs.Taken.{taken}
use Rattle.inspection.specs.declared.totals.Totals.{Totals}
use Rattle.inspection.specs.Amounts.{no_totals, sum, together, totals_of}
use Rattle.inspection.specs.Items.{item_line}
use Rattle.inspection.specs.Lines.{settings_line, track_line, total_line}
use Rattle.inspection.specs.Refused.{refusal_lines}

-- the place of the item that n others precede on the track of index k, where a volume has w tracks
abbrev pub place_of : ℕ → ℕ → ℕ → Place
place_of w k n = record { volume = k / w + 1; track = k % w + 1; item = n + 1 }

-- the lines of items that n others precede on their track
unfoldable pub item_lines : ℕ → ℕ → ℕ → List Item → List ℕ
item_lines w k n [] = []
item_lines w k n (i ∷ is) = item_line (place_of w k n) i ++ item_lines w k (suc n) is

-- a track's items and its totals
abbrev pub track_lines : ℕ → ℕ → Track → List ℕ
track_lines w k x = item_lines w k 0 x.items ++ track_line (k / w + 1) (k % w + 1) (totals_of x.items)

-- all tracks from index k on
unfoldable pub tracks_lines : ℕ → ℕ → List Track → List ℕ
tracks_lines w k [] = []
tracks_lines w k (x ∷ xs) = track_lines w k x ++ tracks_lines w (suc k) xs

-- the totals of tracks, behind others
unfoldable pub all_totals : Totals → List Track → Totals
all_totals t [] = t
all_totals t (x ∷ xs) = all_totals (together t (totals_of x.items)) xs

-- how many tracks have items, behind others
unfoldable pub with_items : ℕ → List Track → ℕ
with_items n [] = n
with_items n (x ∷ xs) = with_items (cond ((totals_of x.items).items == 0) n (sum n 1)) xs

abbrev pub tape_account : Tape → ℕ → List ℕ
tape_account t bytes =
    settings_line t.tracks (length t.image / t.tracks) bytes ++ (tracks_lines t.tracks 0 t.image ++ total_line (with_items 0 t.image) (all_totals no_totals t.image))

-- the account of the tape that a text gives, or the refusal
abbrev pub account_by : Option Tape → ℕ → List ℕ
account_by (Some t) bytes = tape_account t bytes
account_by None bytes = refusal_lines (nowhere Unlawful)

-- a text is read with all volumes allowed, and room for just itself
abbrev pub reading_settings : ℕ → ℕ → Settings
reading_settings tracks room = record { tracks = tracks; volumes = most_volumes; marker = last_marker; room = room }

abbrev pub account_of : ℕ → List ℕ → List ℕ
account_of tracks text = cond (lawful_settings (reading_settings tracks (length text))) (account_by (taken (reading_settings tracks (length text)) text) (length text)) (refusal_lines (nowhere Unlawful))
