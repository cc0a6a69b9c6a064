-- The meaning of a transport, and what each of its functions does to it. Assumes nothing.
use Rattle.std.specs.Prelude.{◌≡◌, ℕ, suc, ◌+◌, ◌-◌, ◌*◌, ◌/◌, ◌%◌, Bool, true, false, cond, not, ◌&&◌, ◌||◌, List, [], ◌∷◌, ◌++◌, length, drop, replicate, Some, None, Ok, Err, Option, Result, ◌==◌, nat_le, nat_lt, slice_index_or, slice_set}
use Rattle.std.specs.Option.{option_map}
use Rattle.tape.specs.declared.item.Kind.{Kind}
use Rattle.tape.specs.declared.place.Place.{Place}
use Rattle.tape.specs.declared.status.Status.{Status}
use Rattle.tape.specs.declared.transport.Fault.{Fault}
use Rattle.tape.specs.declared.transport.Fault.TheVariants.{TurnedDown, Failed}
use Rattle.tape.specs.Items.{Item, mark, block, proper, short, kind_of}

-- The bounds of the subject, each named once.
abbrev pub most_tracks : ℕ
most_tracks = 2

abbrev pub most_volumes : ℕ
most_volumes = 49

abbrev pub most_items : ℕ
most_items = 99999

-- the first and the last of a track's writes at which its marker may be met
abbrev pub first_marker : ℕ
first_marker = 3

abbrev pub last_marker : ℕ
last_marker = 60000

-- the writes that a track takes behind its marker
abbrev pub writes_after : ℕ
writes_after = 8

-- A track: its items, whether its end-of-tape marker is met, and the writes taken since.
pub record Track : Type 0 where
  pub items : List Item
  pub marked : Bool
  pub since : ℕ

abbrev pub blank_track : Track
blank_track = record { items = []; marked = false; since = 0 }

-- The image is `tracks`, the tracks of a volume, and `image`, every track of every volume in order.
-- The head stands on the track of index `at`, where it has passed `item` items.
-- `left` volumes are still to be mounted.
pub record Tape : Type 0 where
  pub tracks : ℕ
  pub image : List Track
  pub at : ℕ
  pub item : ℕ
  pub left : ℕ
  pub failed : Bool

-- What a transport may choose at one function, where the rules leave it open:
-- that this write meets the track's marker, and that the function fails.
pub record Choice : Type 0 where
  pub meets : Bool
  pub fails : Bool

-- the track under the head
abbrev pub here : Tape → Track
here t = slice_index_or t.image t.at blank_track

abbrev pub no_items : List Item → Bool
no_items [] = true
no_items (i ∷ is) = false

abbrev pub all_blank : List Track → Bool
all_blank [] = true
all_blank (x ∷ xs) = no_items x.items && all_blank xs

-- the image has no item at or after the head
abbrev pub at_end : Tape → Bool
at_end t = t.item == length (here t).items && all_blank (drop (suc t.at) t.image)

abbrev pub on_last_track : Tape → Bool
on_last_track t = suc t.at % t.tracks == 0

-- the volumes mounted so far
abbrev pub volumes : Tape → ℕ
volumes t = length t.image / t.tracks

-- the index of the next volume's first track
abbrev pub next_volume : Tape → ℕ
next_volume t = (t.at / t.tracks + 1) * t.tracks

-- The questions: they never fail and change nothing.
abbrev pub head_place : Tape → Place
head_place t = record { volume = t.at / t.tracks + 1; track = t.at % t.tracks + 1; item = t.item + 1 }

abbrev pub marker_met : Tape → Bool
marker_met t = (here t).marked

abbrev pub any_items : Tape → Bool
any_items t = not (all_blank t.image)

abbrev pub status_of : Tape → Status
status_of t = record { place = head_place t; tracks = t.tracks; marked = marker_met t; failed = t.failed; recorded = any_items t }

-- the item that the head comes to next on its track
abbrev pub first : List Item → Option Item
first [] = None
first (i ∷ is) = Some i

abbrev pub next_item : Tape → Option Item
next_item t = first (drop t.item (here t).items)

-- the same tape with its head elsewhere
abbrev pub head_to : Tape → ℕ → ℕ → Tape
head_to t k n = record { tracks = t.tracks; image = t.image; at = k; item = n; left = t.left; failed = t.failed }

abbrev pub failing : Tape → Tape
failing t = record { tracks = t.tracks; image = t.image; at = t.at; item = t.item; left = t.left; failed = true }

-- Where a function does not apply, and after a failure everywhere, it is turned down and the tape stays.
-- Where it applies it may fail, and then nothing but the failed state is new.
abbrev pub attempt : {R : Type 0} → Choice → Bool → Tape → R → Tape → Result R Fault × Tape
attempt c applies t answer after = cond (not t.failed && applies) (cond c.fails (Err Failed, failing t) (Ok answer, after)) (Err TurnedDown, t)

-- Behind its marker a track takes eight more writes, each a mark or a block no longer than a label.
abbrev pub takes_item : Bool → ℕ → Item → Bool
takes_item marked since i = proper i && cond marked (nat_lt since writes_after && short i) true

abbrev pub takes : Track → Item → Bool
takes x i = takes_item x.marked x.since i

-- from a track's 3rd write to its 59,999th the transport chooses whether the marker is met; the 60,000th always meets it
abbrev pub meets_at : Choice → ℕ → Bool
meets_at c n = nat_le last_marker n || (nat_le first_marker n && c.meets)

abbrev pub recorded : Choice → Track → Item → Track
recorded c x i = record {
  items = x.items ++ i ∷ [];
  marked = x.marked || meets_at c (suc (length x.items));
  since = cond x.marked (suc x.since) x.since;
}

-- the tape with the item recorded at its end, and the head behind it
abbrev pub written : Choice → Tape → Item → Tape
written c t i = record {
  tracks = t.tracks;
  image = slice_set t.image t.at (recorded c (here t) i);
  at = t.at;
  item = suc t.item;
  left = t.left;
  failed = t.failed;
}

abbrev pub write : Choice → Tape → Item → Result Bool Fault × Tape
write c t i = attempt c (at_end t && takes (here t) i) t (recorded c (here t) i).marked (written c t i)

-- to the start of the track behind this one in its volume, unless this one is blank
abbrev pub next_track : Choice → Tape → Result (Unit {0}) Fault × Tape
next_track c t = attempt c (not (no_items (here t).items) && not (on_last_track t)) t tt (head_to t (suc t.at) 0)

abbrev pub mounted : Tape → Tape
mounted t = record {
  tracks = t.tracks;
  image = t.image ++ replicate t.tracks blank_track;
  at = length t.image;
  item = 0;
  left = t.left - 1;
  failed = t.failed;
}

-- with the head behind every item of an image that has some, on a volume's last track, and a volume left
abbrev pub mount : Choice → Tape → Result (Unit {0}) Fault × Tape
mount c t = attempt c (any_items t && at_end t && on_last_track t && nat_lt 0 t.left) t tt (mounted t)

-- on to the start of the next volume that the image has; the answer is whether it has one
abbrev pub following : Choice → Tape → Result Bool Fault × Tape
following c t = attempt c true t (nat_lt (next_volume t) (length t.image)) (cond (nat_lt (next_volume t) (length t.image)) (head_to t (next_volume t) 0) t)

abbrev pub rewind : Choice → Tape → Result (Unit {0}) Fault × Tape
rewind c t = attempt c true t tt (head_to t 0 0)

abbrev pub look : Choice → Tape → Result (Option Kind) Fault × Tape
look c t = attempt c true t (option_map kind_of (next_item t)) t

-- the buffer after a read of this item: a block's bytes at its front, the rest unaltered
abbrev pub filled : List ℕ → Item → List ℕ
filled buffer mark = buffer
filled buffer (block bs) = bs ++ drop (length bs) buffer

abbrev pub fits_in : Item → List ℕ → Bool
fits_in mark buffer = true
fits_in (block bs) buffer = nat_le (length bs) (length buffer)

-- A read passes the next item; it is turned down at a track's end, and where the buffer is too short for the block.
abbrev pub read_next : Choice → Tape → List ℕ → Option Item → Result Kind Fault × List ℕ × Tape
read_next c t buffer None = (Err TurnedDown, buffer, t)
read_next c t buffer (Some i) =
    cond (not t.failed && fits_in i buffer)
    (cond c.fails (Err Failed, buffer, failing t) (Ok (kind_of i), filled buffer i, head_to t t.at (suc t.item)))
    (Err TurnedDown, buffer, t)

abbrev pub read : Choice → Tape → List ℕ → Result Kind Fault × List ℕ × Tape
read c t buffer = read_next c t buffer (next_item t)

-- the size that a set may have: tracks to a volume, and volumes
abbrev pub lawful_size : ℕ → ℕ → Bool
lawful_size tracks volumes = (nat_le 1 tracks && nat_le tracks most_tracks) && (nat_le 1 volumes && nat_le volumes most_volumes)

-- A new transport with its first volume mounted.
abbrev pub fresh : ℕ → ℕ → Tape
fresh tracks volumes = record {
  tracks = tracks;
  image = replicate tracks blank_track;
  at = 0;
  item = 0;
  left = volumes - 1;
  failed = false;
}

-- Some choice gives this outcome: all that the interface leaves open.
abbrev pub Does : {O : Type 0} → (Choice → O) → O → Type 0
Does f o = (c : Choice) × (o ≡ f c)

-- This outcome and no other, where a transport leaves nothing open.
abbrev pub Exactly : {O : Type 0} → O → O → Type 0
Exactly is o = o ≡ is
