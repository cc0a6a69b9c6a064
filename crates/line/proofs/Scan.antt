-- Line by line through a text. Assumes nothing.
use Rattle.std.proofs.Common.{◌≡◌, ℕ, zero, suc, ◌+◌, ◌/◌, ◌%◌, ◌<◌, ◌≤◌, true, false, cond, ◌&&◌, List, [], ◌∷◌, ◌++◌, length, get_or, take, drop, Some, None, Option, sym, refl, ap, ◌∙◌, arith, length-append, length-drop, length-take, drop-drop, take-add}
use Rattle.std.specs.Str.{bytes_eq}
use Rattle.std.proofs.lemmas.Slice.Eq.{bytes_eq-Decides}
use Rattle.std.proofs.lemmas.Bool.{and_parts}
use Rattle.tape.specs.Items.{Item, mark, block, proper}
use Rattle.tape.specs.Tape.{Tape, blank_track}
use Rattle.line_text.specs.Lines.{item_in, line_size}
use Rattle.line_text.proofs.OneLine.{length_line}
use Rattle.line.specs.Taken.{track_named, goes_on, laid, line_on, lawful_line, lines_taken}

some_bytes : (i : Item) → 1 ≤ line_size i
some_bytes mark = omega arith
some_bytes (block bs) = omega arith

pub line_long : (t : Tape) (k : ℕ) (i : Item) → 1 ≤ length (line_on t k i)
line_long t k i = omega (arith, some_bytes i, length_line (k / t.tracks + 1) (k % t.tracks + 1) (suc (length (get_or t.image k blank_track).items)) i)

-- how often a line may still come does not matter where it is enough
pub enough : (n m volumes : ℕ) (t : Tape) (bs : List ℕ) → length bs ≤ n → length bs ≤ m → lines_taken n volumes t bs ≡ lines_taken m volumes t bs
unfolding lines_taken
enough zero zero volumes t [] p q = refl
enough zero zero volumes t (b ∷ bs) p q = refl
enough zero (suc m) volumes t [] p q = refl
enough zero (suc m) volumes t (b ∷ bs) p q = absurd (omega arith)
enough (suc n) zero volumes t [] p q = refl
enough (suc n) zero volumes t (b ∷ bs) p q = absurd (omega arith)
enough (suc n) (suc m) volumes t [] p q = refl
enough (suc n) (suc m) volumes t (b ∷ bs) p q =
    let k = track_named t.tracks (b ∷ bs) in
    let i = item_in (b ∷ bs) in
    let l = line_long t k i in
    let d = length-drop (length (line_on t k i)) (b ∷ bs) in
    ap (λ (r : Option Tape). cond (lawful_line volumes t (b ∷ bs)) r None) (enough n m volumes (laid volumes t k i) (drop (length (line_on t k i)) (b ∷ bs)) (omega arith) (omega arith))

pub one_line : (volumes : ℕ) (t : Tape) (bs : List ℕ) → 0 < length bs → lawful_line volumes t bs ≡ true → lines_taken (length bs) volumes t bs ≡ lines_taken (length (drop (length (line_on t (track_named t.tracks bs) (item_in bs))) bs)) volumes (laid volumes t (track_named t.tracks bs) (item_in bs)) (drop (length (line_on t (track_named t.tracks bs) (item_in bs))) bs)
unfolding lines_taken
one_line volumes t [] h e = absurd (omega arith)
one_line volumes t (b ∷ bs) h e =
    let k = track_named t.tracks (b ∷ bs) in
    let i = item_in (b ∷ bs) in
    let rest = drop (length (line_on t k i)) (b ∷ bs) in
    let l = line_long t k i in
    let d = length-drop (length (line_on t k i)) (b ∷ bs) in
    ap (λ q. cond q (lines_taken (length bs) volumes (laid volumes t k i) rest) None) e ∙ enough (length bs) (length rest) volumes (laid volumes t k i) rest (omega arith) (omega arith)

pub no_line : (volumes : ℕ) (t : Tape) (bs : List ℕ) → 0 < length bs → lawful_line volumes t bs ≡ false → lines_taken (length bs) volumes t bs ≡ None
unfolding lines_taken
no_line volumes t [] h e = absurd (omega arith)
no_line volumes t (b ∷ bs) h e =
    let k = track_named t.tracks (b ∷ bs) in
    let i = item_in (b ∷ bs) in
    ap (λ q. cond q (lines_taken (length bs) volumes (laid volumes t k i) (drop (length (line_on t k i)) (b ∷ bs))) None) e

pub all_lines : (volumes : ℕ) (t : Tape) (bs : List ℕ) → length bs ≡ 0 → lines_taken (length bs) volumes t bs ≡ Some t
unfolding lines_taken
all_lines volumes t [] h = refl
all_lines volumes t (b ∷ bs) h = absurd (omega arith)

-- a line that is taken stands whole in the text
pub line_within : (volumes : ℕ) (t : Tape) (bs : List ℕ) → lawful_line volumes t bs ≡ true → length (line_on t (track_named t.tracks bs) (item_in bs)) ≤ length bs
line_within volumes t bs e =
    let l = line_on t (track_named t.tracks bs) (item_in bs) in
    let same = (and_parts (goes_on volumes t (track_named t.tracks bs) && proper (item_in bs)) (bytes_eq (take (length l) bs) l) e).1 in
    omega (arith, ap length ((bytes_eq-Decides (take (length l) bs) l).0 same), length-take (length l) bs)

-- and it is that line that stands there
pub line_there : (volumes : ℕ) (t : Tape) (bs : List ℕ) → lawful_line volumes t bs ≡ true → take (length (line_on t (track_named t.tracks bs) (item_in bs))) bs ≡ line_on t (track_named t.tracks bs) (item_in bs)
line_there volumes t bs e =
    let l = line_on t (track_named t.tracks bs) (item_in bs) in
    (bytes_eq-Decides (take (length l) bs) l).0 (and_parts (goes_on volumes t (track_named t.tracks bs) && proper (item_in bs)) (bytes_eq (take (length l) bs) l) e).1

-- A lawful line is taken: the text is longer by it, and still the front of the source, and the lines
-- that are left give what they gave with it.
pub next_lines : (volumes : ℕ) (t u : Tape) (old new source : List ℕ) → length old < length source → old ≡ take (length old) source → lawful_line volumes t (drop (length old) source) ≡ true → u ≡ laid volumes t (track_named t.tracks (drop (length old) source)) (item_in (drop (length old) source)) → new ≡ old ++ line_on t (track_named t.tracks (drop (length old) source)) (item_in (drop (length old) source)) → (length old < length new) × (length new ≤ length source) × (lines_taken (length (drop (length new) source)) volumes u (drop (length new) source) ≡ lines_taken (length (drop (length old) source)) volumes t (drop (length old) source)) × (new ≡ take (length new) source)
next_lines volumes t u old new source h front lawful tape text =
    let rest = drop (length old) source in
    let l = line_on t (track_named t.tracks rest) (item_in rest) in
    let long : length new ≡ length old + length l = ap length text ∙ length-append old l in
    let n = length-drop (length old) source in
    let within = line_within volumes t rest lawful in
    let next : drop (length new) source ≡ drop (length l) rest = ap (λ n. drop n source) long ∙ sym (drop-drop (length l) (length old) source) in (
      omega (arith, long, line_long t (track_named t.tracks rest) (item_in rest)),
      omega (arith, long, within, n, h),
      (λ i. lines_taken (length (next i)) volumes (tape i) (next i)) ∙ sym (one_line volumes t rest (omega (arith, n, h)) lawful),
      text ∙ (λ i. front i ++ sym (line_there volumes t rest lawful) i) ∙ sym (take-add (length old) (length l) source) ∙ ap (λ n. take n source) (sym long),
    )
