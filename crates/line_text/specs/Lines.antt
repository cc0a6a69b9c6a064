-- The line of an item, and an item read off its line. Assumes nothing.
use Rattle.std.specs.Prelude.{ℕ, zero, suc, ◌+◌, ◌-◌, ◌*◌, ◌%◌, Bool, true, cond, List, [], ◌∷◌, ◌++◌, length, drop, codes, ◌==◌, nat_le, nat_lt, slice_index}
use Rattle.std.specs.List.{flat_map, list_all}
use Rattle.figures.specs.Decimal.{decimal}
use Rattle.figures.specs.Hex.{hex_pair}
use Rattle.tape.specs.Items.{Item, mark, block}
use Rattle.tape.specs.declared.item.Kind.{Kind}
use Rattle.tape.specs.declared.item.Kind.TheVariants as told

-- the text of a place: `vol=01 track=1 item=00002`, 25 bytes
unfoldable pub place_text : ℕ → ℕ → ℕ → List ℕ
place_text v t n = codes "vol=" ++ decimal 2 v ++ codes " track=" ++ decimal 1 t ++ codes " item=" ++ decimal 5 n

-- `vol=01 track=1 item=00002 kind=`, 31 bytes
unfoldable pub line_head : ℕ → ℕ → ℕ → List ℕ
line_head v t n = place_text v t n ++ codes " kind="

-- `mark` and a line feed, 5 bytes
abbrev pub mark_tail : List ℕ
mark_tail = 109 ∷ 97 ∷ 114 ∷ 107 ∷ 10 ∷ []

-- `block size=001 hex=`, 19 bytes
unfoldable pub block_head : ℕ → List ℕ
block_head n = codes "block size=" ++ decimal 3 n ++ codes " hex="

-- two hex digits for each byte
abbrev pub hexed : List ℕ → List ℕ
hexed bs = flat_map hex_pair bs

-- all are bytes
abbrev pub small : List ℕ → Bool
small bs = list_all (λ b. nat_lt b 256) bs

abbrev pub small_item : Item → Bool
small_item mark = true
small_item (block bs) = small bs

-- what stands behind the line's head
unfoldable pub line_tail : Item → List ℕ
line_tail mark = mark_tail
line_tail (block bs) = block_head (length bs) ++ hexed bs ++ 10 ∷ []

-- the line of an item, with its line feed
unfoldable pub line : ℕ → ℕ → ℕ → Item → List ℕ
line v t n i = line_head v t n ++ line_tail i

-- its length in bytes
abbrev pub line_size : Item → ℕ
line_size mark = 36
line_size (block bs) = 51 + 2 * length bs

-- and by the kind of the item
abbrev pub size_of_kind : Kind → ℕ
size_of_kind told.Mark = 36
size_of_kind (told.Block n) = 51 + 2 * n

-- Reading a line takes each field from its place in the line, whatever stands around it:
-- whether it was a whole and lawful line is seen by writing it again.
abbrev pub digit_value : ℕ → ℕ
digit_value c = c - 48

abbrev pub hex_value : ℕ → ℕ
hex_value c = cond (nat_le 65 c) ((c - 55) % 16) ((c - 48) % 16)

abbrev pub is_mark : List ℕ → Bool
is_mark bs = slice_index bs 31 == 109

abbrev pub size_in : List ℕ → ℕ
size_in bs = 100 * digit_value (slice_index bs 42) + 10 * digit_value (slice_index bs 43) + digit_value (slice_index bs 44)

abbrev pub unhexed : ℕ → List ℕ → List ℕ
unhexed zero bs = []
unhexed (suc n) bs = (16 * hex_value (slice_index bs 0) + hex_value (slice_index bs 1)) ∷ unhexed n (drop 2 bs)

abbrev pub kind_in : List ℕ → Kind
kind_in bs = cond (is_mark bs) told.Mark (told.Block (size_in bs))

unfoldable pub item_in : List ℕ → Item
item_in bs = cond (is_mark bs) mark (block (unhexed (size_in bs) (drop 50 bs)))

unfoldable pub size_of_line_in : List ℕ → ℕ
size_of_line_in bs = cond (is_mark bs) 36 (51 + 2 * size_in bs)

-- the volume and the track that a line names
abbrev pub volume_in : List ℕ → ℕ
volume_in bs = 10 * digit_value (slice_index bs 4) + digit_value (slice_index bs 5)

abbrev pub track_in : List ℕ → ℕ
track_in bs = digit_value (slice_index bs 13)

abbrev pub byte_in : List ℕ → ℕ → ℕ
byte_in bs i = 16 * hex_value (slice_index bs (50 + 2 * i)) + hex_value (slice_index bs (51 + 2 * i))
