-- What a line transport is after a step, set beside what it was. Assumes nothing.
use Rattle.std.specs.Prelude.{◌≡◌, ℕ, suc, ◌+◌, ◌<◌, ◌≤◌, Bool, true, false, cond, List, [], ◌∷◌, ◌++◌, length, vec_items, Option, is_some, ◌==◌, slice_index_or, slice_set}
use Rattle.tape.specs.Items.{Item, proper}
use Rattle.tape.specs.Tape.{Tape, blank_track}
use Rattle.line_text.specs.declared.span.Span.{Span}
use Rattle.line_text.specs.Layout.{blank_span, is_marked, taken_since, sound_span}
use Rattle.line.specs.declared.line_transport.LineTransport.{LineTransport}
use Rattle.line.specs.Meaning.{line_tape, settings_of}
use Rattle.line.specs.Taken.{laid, line_on}

-- it stands for this tape now, under the settings that it had
pub record Becomes (old new : LineTransport) (t : Tape) : Type 0 where
  pub tape : line_tape new ≡ t
  pub settings : settings_of new ≡ settings_of old

-- the span of track k
abbrev pub span_at : LineTransport → ℕ → Span
span_at x k = slice_index_or (vec_items x.spans) k blank_span

-- The item may stand behind those of track k, which is there, and no later track has any: s is the
-- track's span with it.
pub record Fits (x : LineTransport) (k : ℕ) (i : Item) (s : Span) : Type 0 where
  pub inside : k < length (vec_items x.spans)
  pub last : x.last ≤ k
  pub proper_item : proper i ≡ true
  pub counts : s.count ≡ suc (span_at x k).count
  pub starts : s.start ≡ cond ((span_at x k).count == 0) (length (vec_items x.text)) (span_at x k).start
  pub sound : sound_span s ≡ true
  pub early : is_marked s ≡ false → s.count < x.settings.marker

-- the tape with the item behind those of track k, whose span is s then, and with the head behind it
abbrev pub with_item : Tape → ℕ → Item → Span → Tape
with_item t k i s = record {
  tracks = t.tracks;
  image = slice_set t.image k (record { items = (slice_index_or t.image k blank_track).items ++ i ∷ []; marked = is_marked s; since = taken_since s });
  at = k;
  item = suc (length (slice_index_or t.image k blank_track).items);
  left = t.left;
  failed = t.failed;
}

-- a recorded line may follow: the head is on the last track with items, and the line fits the text
pub record Awaits (x : LineTransport) (line : List ℕ) : Type 0 where
  pub last : x.last ≡ x.head.at
  pub room : length (vec_items x.text) + length line ≤ x.settings.room

-- the item is laid on track k, its line is put at the text's end, and another may follow
pub record Lays (old new : LineTransport) (k : ℕ) (i : Item) : Type 0 where
  pub tape : line_tape new ≡ laid old.settings.volumes (line_tape old) k i
  pub text : vec_items new.text ≡ vec_items old.text ++ line_on (line_tape old) k i
  pub last : new.last ≡ new.head.at

-- A line was taken, and its item laid, exactly where it is lawful. Where it is not, nothing is said
-- of what is laid: the text is refused, and all is erased.
pub record Took (old new : LineTransport) (lawful : Bool) (k : ℕ) (i : Item) (answer : Option (Unit {0})) : Type 0 where
  pub told : is_some answer ≡ lawful
  pub lays : lawful ≡ true → Lays old new k i
  pub settings : settings_of new ≡ settings_of old
