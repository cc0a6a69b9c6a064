-- The line of an item. Assumes nothing.
use Rattle.std.specs.Prelude.{ℕ, cond, ◌&&◌, List, ◌∷◌, ◌++◌, length, take, map, Ok, Err, codes, Result, nat_le}
use Rattle.std.specs.List.{flat_map}
use Rattle.figures.specs.Hex.{hex_pair}
use Rattle.tape.specs.declared.place.Place.{Place}
use Rattle.tape.specs.declared.refusal.Reason.{Reason}
use Rattle.tape.specs.Items.{Item, mark, block}
use Rattle.labels.specs.declared.kind.LabelKind.{LabelKind}
use Rattle.labels.specs.Kinds.{kind_name}
use Rattle.labels.specs.Layout.{LabelParts}
use Rattle.labels.specs.Reading.{reading}
use Rattle.inspection.specs.Pieces.{numbered, named}
use Rattle.line_text.specs.Lines.{place_text}
use Rattle.inspection.specs.Lines.{line_end}

--  volume=|VOL1| file=|KNEAD 01| section=01 created=73345 retention=030 count=0000 code=1 user=|USER|
abbrev pub parts_text : LabelParts → List ℕ
parts_text p =
    named (codes " volume=|") p.volume
    ++ (named (codes "| file=|") p.file
    ++ (named (codes "| section=") p.section
    ++ (named (codes " created=") p.created
    ++ (named (codes " retention=") p.retention
    ++ (named (codes " count=") p.count ++ (named (codes " code=") p.code ++ (named (codes " user=|") p.user ++ (124 ∷ line_end))))))))

--  HDR, and the parts
abbrev pub label_text : LabelKind × LabelParts → List ℕ
label_text l = named (codes " ") (kind_name l.0) ++ parts_text l.1

-- a character that can be seen, and a full stop for any other
abbrev pub seen_code : ℕ → ℕ
seen_code b = cond (nat_le 32 b && nat_le b 126) b 46

-- the bytes of a block that its line shows
abbrev pub first_bytes : List ℕ → List ℕ
first_bytes bs = take 16 bs

--  data hex=414243 text=|ABC|
abbrev pub data_text : List ℕ → List ℕ
data_text bs = codes " data hex=" ++ (flat_map hex_pair (first_bytes bs) ++ (codes " text=|" ++ (map seen_code (first_bytes bs) ++ (124 ∷ line_end))))

-- a lawful label is told as such, and any other block is data
abbrev pub block_text : Result (LabelKind × LabelParts) Reason → List ℕ → List ℕ
block_text (Ok l) bs = label_text l
block_text (Err e) bs = data_text bs

abbrev pub item_text : Item → List ℕ
item_text mark = codes " mark" ++ line_end
item_text (block bs) = numbered (codes " block ") 3 (length bs) ++ block_text (reading bs) bs

-- vol=01 track=1 item=00002, and what the item is
abbrev pub item_line : Place → Item → List ℕ
item_line p i = place_text p.volume p.track p.item ++ item_text i
