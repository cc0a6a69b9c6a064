-- Items: a tape mark, or a block of bytes. Assumes nothing.
use Rattle.std.specs.Prelude.{ℕ, Bool, true, ◌&&◌, List, length, nat_le}
use Rattle.tape.specs.declared.item.ItemRef.{ItemRef}
use Rattle.tape.specs.declared.item.ItemRef.TheVariants as given
use Rattle.tape.specs.declared.item.Kind.{Kind}
use Rattle.tape.specs.declared.item.Kind.TheVariants as told

pub data Item : Type 0 where
  mark : Item
  block : List ℕ → Item

-- the longest block, and the longest that a track takes behind its marker: a label
abbrev pub longest_block : ℕ
longest_block = 256

abbrev pub longest_label : ℕ
longest_label = 32

-- a block has 1 to 256 bytes
abbrev pub proper : Item → Bool
proper mark = true
proper (block bs) = nat_le 1 (length bs) && nat_le (length bs) longest_block

-- a mark, or a block no longer than a label
abbrev pub short : Item → Bool
short mark = true
short (block bs) = nat_le (length bs) longest_label

abbrev pub kind_of : Item → Kind
kind_of mark = told.Mark
kind_of (block bs) = told.Block (length bs)

-- the item that a caller hands over
abbrev pub item_of : ItemRef → Item
item_of given.Mark = mark
item_of (given.Block bytes) = block bytes.now
