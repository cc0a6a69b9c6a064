-- A recorded text is taken by recording its items again, line by line: a line counts only if the item
-- that it tells, recorded at the place that it names, gives the same line. Assumes nothing.
use Rattle.std.specs.Prelude.{ℕ, zero, suc, ◌+◌, ◌-◌, ◌*◌, ◌/◌, ◌%◌, Bool, true, cond, ◌&&◌, List, [], ◌∷◌, ◌++◌, length, get_or, take, drop, replicate, Some, None, Ok, Err, Option, Result, nat_le, nat_lt, slice_index_or, slice_set}
use Rattle.std.specs.Str.{bytes_eq}
use Rattle.tape.specs.declared.refusal.Refusal.{Refusal}
use Rattle.tape.specs.declared.refusal.Reason.TheVariants.{Unlawful}
use Rattle.tape.specs.Items.{Item, proper}
use Rattle.tape.specs.Refusals.{nowhere}
use Rattle.tape.specs.Tape.{Track, Tape, blank_track, fresh, head_to, most_items, writes_after}
use Rattle.line_text.specs.Lines.{line, item_in, volume_in, track_in}
use Rattle.line.specs.declared.settings.Settings.{Settings}

-- the track that a line names
abbrev pub track_named : ℕ → List ℕ → ℕ
track_named w bs = (volume_in bs - 1) * w + (track_in bs - 1)

-- blank volumes are added until the track is there
abbrev pub grown : ℕ → ℕ → List Track → List Track
grown w k image = image ++ replicate ((k / w + 1) * w - length image) blank_track

-- a track with recorded items counts as marked, with all eight writes taken
abbrev pub laid_on : Track → Item → Track
laid_on x i = record { items = x.items ++ i ∷ []; marked = true; since = writes_after }

abbrev pub grown_tape : ℕ → Tape → ℕ → Tape
grown_tape volumes t k = record {
  tracks = t.tracks;
  image = grown t.tracks k t.image;
  at = t.at;
  item = t.item;
  left = volumes - length (grown t.tracks k t.image) / t.tracks;
  failed = t.failed;
}

-- the tape with the item on track k, which is there, behind the items that it has
abbrev pub laid_there : Tape → ℕ → Item → Tape
laid_there t k i = record {
  tracks = t.tracks;
  image = slice_set t.image k (laid_on (slice_index_or t.image k blank_track) i);
  at = k;
  item = suc (length (get_or t.image k blank_track).items);
  left = t.left;
  failed = t.failed;
}

abbrev pub laid : ℕ → Tape → ℕ → Item → Tape
laid volumes t k i = laid_there (grown_tape volumes t k) k i

-- the line of an item on track k, behind those that it has
abbrev pub line_on : Tape → ℕ → Item → List ℕ
line_on t k i = line (k / t.tracks + 1) (k % t.tracks + 1) (suc (length (get_or t.image k blank_track).items)) i

-- it goes on where the line before it stood, or on a later track, within the bounds
abbrev pub goes_on : ℕ → Tape → ℕ → Bool
goes_on volumes t k = nat_lt k (volumes * t.tracks) && nat_le t.at k && nat_lt (length (get_or t.image k blank_track).items) most_items

-- the text begins with the item's own line on track k
abbrev pub is_own_line : Tape → ℕ → Item → List ℕ → Bool
is_own_line t k i bs = bytes_eq (take (length (line_on t k i)) bs) (line_on t k i)

abbrev pub lawful_line : ℕ → Tape → List ℕ → Bool
lawful_line volumes t bs =
    goes_on volumes t (track_named t.tracks bs) && proper (item_in bs) && is_own_line t (track_named t.tracks bs) (item_in bs) bs

-- line by line to the text's end; no text has more lines than bytes
unfoldable pub lines_taken : ℕ → ℕ → Tape → List ℕ → Option Tape
lines_taken zero volumes t [] = Some t
lines_taken zero volumes t (b ∷ bs) = None
lines_taken (suc n) volumes t [] = Some t
lines_taken (suc n) volumes t (b ∷ bs) =
    let k = track_named t.tracks (b ∷ bs) in
    let i = item_in (b ∷ bs) in
    let rest = lines_taken n volumes (laid volumes t k i) (drop (length (line_on t k i)) (b ∷ bs)) in
    cond (lawful_line volumes t (b ∷ bs)) rest None

-- the tape that a text gives, with its head at the first item
abbrev pub rewound : Option Tape → Option Tape
rewound (Some t) = Some (head_to t 0 0)
rewound None = None

abbrev pub taken : Settings → List ℕ → Option Tape
taken s text = cond (nat_le (length text) s.room) (rewound (lines_taken (length text) s.volumes (fresh s.tracks s.volumes) text)) None

-- what taking a text answers and leaves: its tape, or a refusal and a blank tape
abbrev pub outcome : Settings → Option Tape → Result (Unit {0}) Refusal × Tape
outcome s (Some t) = (Ok tt, t)
outcome s None = (Err (nowhere Unlawful), fresh s.tracks s.volumes)
