-- The tracks that lie in a text, line by line, and the text of a list of tracks. Assumes nothing.
use Rattle.std.specs.Prelude.{◌≡◌, ℕ, zero, suc, ◌+◌, ◌-◌, ◌/◌, ◌%◌, ◌<◌, ◌≤◌, Bool, true, false, cond, ◌&&◌, List, [], ◌∷◌, ◌++◌, map, length, get_or, take, drop, ◌==◌, nat_le, nat_lt, slice_index_or}
use Rattle.tape.specs.Items.{Item}
use Rattle.tape.specs.Tape.{Track, Tape, most_items, last_marker, writes_after}
use Rattle.tape.specs.Sound.{all_proper}
use Rattle.line_text.specs.declared.span.Span.{Span}
use Rattle.line_text.specs.Lines.{line, item_in, size_of_line_in}

-- the items of the first n lines
unfoldable pub items_in : ℕ → List ℕ → List Item
items_in zero bs = []
items_in (suc n) bs = item_in bs ∷ items_in n (drop (size_of_line_in bs) bs)

abbrev pub blank_span : Span
blank_span = record { start = 0; count = 0; marked = false; since = 0 }

-- whether a track's marker is met, and the writes taken since
abbrev pub is_marked : Span → Bool
is_marked s = s.marked

abbrev pub taken_since : Span → ℕ
taken_since s = s.since

abbrev pub span_items : List ℕ → Span → List Item
span_items text s = items_in s.count (drop s.start text)

abbrev pub track_of : List ℕ → Span → Track
track_of text s = record { items = span_items text s; marked = is_marked s; since = taken_since s }

abbrev pub image_of : List ℕ → List Span → List Track
image_of text spans = map (track_of text) spans

-- the lines of items that follow n others on the track of index k, where a volume has w tracks
unfoldable pub lines_of : ℕ → ℕ → ℕ → List Item → List ℕ
lines_of w k n [] = []
lines_of w k n (i ∷ is) = line (k / w + 1) (k % w + 1) (suc n) i ++ lines_of w k (suc n) is

-- the text of all tracks from index k on
unfoldable pub text_from : ℕ → ℕ → List Track → List ℕ
text_from w k [] = []
text_from w k (x ∷ xs) = lines_of w k 0 x.items ++ text_from w (suc k) xs

-- the text of a tape: a line an item, track by track and volume by volume
abbrev pub text_of : Tape → List ℕ
text_of t = text_from t.tracks 0 t.image

-- What a text and its spans keep, in three parts.
-- The text is the tracks' lines, in order and nothing else:
abbrev pub Whole : ℕ → List ℕ → List Span → Type 0
Whole w text spans = text ≡ text_from w 0 (image_of text spans)

-- a track with items begins where the lines of the tracks before it end:
abbrev pub Placed : ℕ → List ℕ → List Span → Type 0
Placed w text spans = (k : ℕ) → k < length spans → 0 < (get_or spans k blank_span).count → (get_or spans k blank_span).start ≡ length (text_from w 0 (take k (image_of text spans)))

-- each item is a mark or a block of 1 to 256 bytes.
abbrev pub Propers : List ℕ → List Span → Type 0
Propers text spans = (k : ℕ) → k < length spans → all_proper (span_items text (slice_index_or spans k blank_span)) ≡ true

-- What a span's numbers keep: those of a sound track.
abbrev pub sound_span : Span → Bool
sound_span s = nat_le s.count most_items && cond (is_marked s) (nat_le 1 s.count && nat_le (taken_since s) writes_after && nat_le (s.count + (writes_after - taken_since s)) most_items) (nat_lt s.count last_marker && taken_since s == 0)

abbrev pub AllSound : List Span → Type 0
AllSound spans = (k : ℕ) → k < length spans → sound_span (slice_index_or spans k blank_span) ≡ true

-- `last` is the last track that has items, or the first track where none has: no track behind it has one,
abbrev pub NoneBehind : List Span → ℕ → Type 0
NoneBehind spans last = (k : ℕ) → k < length spans → last < k → (get_or spans k blank_span).count ≡ 0

-- and where it has none either, it is the first.
abbrev pub SomeThere : List Span → ℕ → Type 0
SomeThere spans last = (get_or spans last blank_span).count ≡ 0 → last ≡ 0

-- the head stands on a track, behind at most all of its items
abbrev pub HeadInside : List Span → ℕ → ℕ → Type 0
HeadInside spans at item = (at < length spans) × (item ≤ (get_or spans at blank_span).count)

-- its place in the text is behind the lines of the items that it has passed on its track
abbrev pub HeadPlaced : ℕ → List ℕ → List Span → ℕ → ℕ → ℕ → Type 0
HeadPlaced w text spans at item pos = 0 < (get_or spans at blank_span).count → pos ≡ (get_or spans at blank_span).start + length (lines_of w at 0 (take item (span_items text (slice_index_or spans at blank_span))))

-- an unmarked track has fewer items than the write that meets its marker
abbrev pub Unmarked : ℕ → List Span → Type 0
Unmarked marker spans = (k : ℕ) → k < length spans → is_marked (get_or spans k blank_span) ≡ false → (get_or spans k blank_span).count < marker

-- the tape that a text, its spans and a head stand for
abbrev pub tape_in : ℕ → List ℕ → List Span → ℕ → ℕ → ℕ → Bool → Tape
tape_in w text spans at item left failed = record { tracks = w; image = image_of text spans; at = at; item = item; left = left; failed = failed }
