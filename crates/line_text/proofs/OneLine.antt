-- An item read off its own line is that item. Assumes nothing.
use Rattle.std.proofs.Common.{◌≡◌, ℕ, zero, suc, ◌+◌, ◌-◌, ◌*◌, ◌/◌, ◌%◌, ◌^◌, min, ◌<◌, ◌≤◌, Bool, true, cond, ◌&&◌, ltb, leb, List, [], ◌∷◌, ◌++◌, length, get_or, drop, refl, ap, ◌∙◌, append_assoc, arith, length-append, ltb-true, lt-ltb, leb-true}
use Rattle.std.proofs.lemmas.Bool.{and_parts, and_from}
use Rattle.tape.specs.declared.item.Kind.{Kind}
use Rattle.tape.specs.declared.item.Kind.TheVariants as told
use Rattle.tape.specs.Tape.{fits_in, filled}
use Rattle.tape.specs.Items.{Item, mark, block, proper, kind_of}
use Rattle.figures.specs.Hex.{hex_digit}
use Rattle.line_text.specs.Lines.{line, place_text, line_head, line_tail, block_head, line_size, size_of_kind, hex_value, hexed, unhexed, is_mark, size_in, kind_in, item_in, size_of_line_in, small, small_item}

pub length_hexed : (bs : List ℕ) → length (hexed bs) ≡ 2 * length bs
length_hexed [] = refl
length_hexed (b ∷ bs) = let ih = length_hexed bs in omega arith

pub length_line : (v t n : ℕ) (i : Item) → length (line v t n i) ≡ line_size i
unfolding line line_head place_text line_tail block_head
length_line v t n mark = refl
length_line v t n (block bs) = let e = length-append (hexed bs) (10 ∷ []) in let h = length_hexed bs in omega arith

-- a hex digit's value is what was written
hex_back : (n : ℕ) → n < 16 → hex_value (hex_digit n) ≡ n
hex_back n h = grind arith

byte_back : (b : ℕ) → b < 256 → 16 * hex_value (hex_digit (b / 16)) + hex_value (hex_digit (b % 16)) ≡ b
byte_back b h =
    let high = hex_back (b / 16) (omega arith) in
    let low = hex_back (b % 16) (omega arith) in
    omega arith

pub unhexed_hexed : (bs rest : List ℕ) → small bs ≡ true → unhexed (length bs) (hexed bs ++ rest) ≡ bs
unhexed_hexed [] rest h = refl
unhexed_hexed (b ∷ bs) rest h =
    let parts = and_parts (ltb b 256) (small bs) h in
    (λ i. byte_back b (ltb-true b 256 parts.0) i ∷ unhexed_hexed bs rest parts.1 i)

-- a block has few enough bytes for the three digits of its line
few_bytes : (bs : List ℕ) → proper (block bs) ≡ true → length bs ≤ 256
few_bytes bs h = leb-true (length bs) 256 (and_parts (leb 1 (length bs)) (leb (length bs) 256) h).1

size_back : (bs : List ℕ) → proper (block bs) ≡ true → 100 * (48 + length bs / 10 / 10 % 10 - 48) + 10 * (48 + length bs / 10 % 10 - 48) + (48 + length bs % 10 - 48) ≡ length bs
size_back bs h = omega (arith, few_bytes bs h)

pub kind_of_own_line : (v t n : ℕ) (i : Item) (rest : List ℕ) → proper i ≡ true → kind_in (line v t n i ++ rest) ≡ kind_of i
unfolding line line_head place_text line_tail block_head
kind_of_own_line v t n mark rest h = refl
kind_of_own_line v t n (block bs) rest h = ap told.Block (size_back bs h)

pub item_of_own_line : (v t n : ℕ) (i : Item) (rest : List ℕ) → proper i ≡ true → small_item i ≡ true → item_in (line v t n i ++ rest) ≡ i
unfolding line line_head place_text line_tail block_head item_in
item_of_own_line v t n mark rest h s = refl
item_of_own_line v t n (block bs) rest h s =
    ap block (ap (λ k. unhexed k ((hexed bs ++ 10 ∷ []) ++ rest)) (size_back bs h) ∙ ap (unhexed (length bs)) (append_assoc (hexed bs) (10 ∷ []) rest) ∙ unhexed_hexed bs (10 ∷ rest) s)

pub size_of_own_line : (v t n : ℕ) (i : Item) (rest : List ℕ) → proper i ≡ true → size_of_line_in (line v t n i ++ rest) ≡ line_size i
unfolding line line_head place_text line_tail block_head size_of_line_in
size_of_own_line v t n mark rest h = refl
size_of_own_line v t n (block bs) rest h = ap (λ k. 51 + 2 * k) (size_back bs h)

-- the bytes of a line are told by its hex digits, so each is a byte
value_small : (c : ℕ) → hex_value c < 16
value_small c = grind arith

unhexed_small : (n : ℕ) (bs : List ℕ) → small (unhexed n bs) ≡ true
unhexed_small zero bs = refl
unhexed_small (suc n) bs = and_from _ _ (lt-ltb _ 256 (omega (arith, value_small (get_or bs 0 0), value_small (get_or bs 1 0)))) (unhexed_small n (drop 2 bs))

small_chosen : (b : Bool) (i j : Item) → small_item i ≡ true → small_item j ≡ true → small_item (cond b i j) ≡ true
small_chosen b i j p q = grind arith

pub item_in_small : (bs : List ℕ) → small_item (item_in bs) ≡ true
unfolding item_in
item_in_small bs = small_chosen (is_mark bs) mark (block (unhexed (size_in bs) (drop 50 bs))) refl (unhexed_small (size_in bs) (drop 50 bs))

pub length_line_head : (v t n : ℕ) → length (line_head v t n) ≡ 31
unfolding line_head place_text
length_line_head v t n = refl

pub length_block_head : (n : ℕ) → length (block_head n) ≡ 19
unfolding block_head
length_block_head n = refl

pub bytes_of_own_line : (v t n : ℕ) (bs rest : List ℕ) → small bs ≡ true → unhexed (length bs) (drop 50 (line v t n (block bs) ++ rest)) ≡ bs
unfolding line line_head place_text line_tail block_head
bytes_of_own_line v t n bs rest s = ap (unhexed (length bs)) (append_assoc (hexed bs) (10 ∷ []) rest) ∙ unhexed_hexed bs (10 ∷ rest) s

-- a mark has no bytes to copy
pub none_to_copy : (i : Item) (buffer : List ℕ) → kind_of i ≡ told.Mark → (true ≡ fits_in i buffer) × (buffer ≡ filled buffer i)
none_to_copy mark buffer k = (refl, refl)
none_to_copy (block bs) buffer k = absurd cc

-- what a block's bytes do to a buffer, told from its line
pub copied_from_line : (v t n : ℕ) (i : Item) (rest buffer : List ℕ) (size : ℕ) → kind_of i ≡ told.Block size → proper i ≡ true → small_item i ≡ true → ((leb size (length buffer) && leb size 256) ≡ fits_in i buffer) × (unhexed size (drop 50 (line v t n i ++ rest)) ++ drop size buffer ≡ filled buffer i)
copied_from_line v t n mark rest buffer size k p s = grind arith
copied_from_line v t n (block bs) rest buffer size k p s = grind (arith, few_bytes bs, bytes_of_own_line v t n bs rest)

-- a line's length by the kind of its item, which is far below the largest number
pub size_by_kind : (i : Item) (k : Kind) → kind_of i ≡ k → proper i ≡ true → min (size_of_kind k) (2 ^ 64 - 1) ≡ line_size i
size_by_kind mark k e p = grind arith
size_by_kind (block bs) k e p = grind (arith, few_bytes bs)

-- what a line tells, by its kind
pub mark_told : (bs : List ℕ) → told.Mark ≡ kind_in bs → item_in bs ≡ mark
unfolding item_in
mark_told bs e = grind arith

pub block_told : (bs : List ℕ) (size : ℕ) → told.Block size ≡ kind_in bs → item_in bs ≡ block (unhexed size (drop 50 bs))
unfolding item_in
block_told bs size e = grind arith
