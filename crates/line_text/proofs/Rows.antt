-- Lines one after the other: the items of a row of lines, and the text of a list of tracks. Assumes nothing.
use Rattle.std.proofs.Common.{◌≡◌, ℕ, zero, suc, ◌+◌, ◌/◌, ◌%◌, ◌<◌, Bool, true, List, [], ◌∷◌, ◌++◌, length, get_or, take, drop, refl, ◌∙◌, append_assoc, arith, drop_at}
use Rattle.std.specs.List.{list_all}
use Rattle.std.proofs.lemmas.Grind.{common_steps}
use Rattle.std.proofs.lemmas.List.Folds.{list_all-append}
use Rattle.std.proofs.lemmas.Bool.{and_from}
use Rattle.tape.specs.Items.{Item, proper}
use Rattle.tape.specs.Tape.{Track, blank_track, all_blank}
use Rattle.tape.specs.Sound.{all_proper}
use Rattle.line_text.specs.Lines.{line, size_of_line_in, small_item}
use Rattle.line_text.specs.Layout.{items_in, lines_of, text_from}
use Rattle.line_text.proofs.OneLine.{length_line, item_of_own_line, size_of_own_line, item_in_small}

abbrev pub all_small : List Item → Bool
all_small is = list_all small_item is

pub items_in_small : (n : ℕ) (bs : List ℕ) → all_small (items_in n bs) ≡ true
unfolding items_in
items_in_small zero bs = refl
items_in_small (suc n) bs = and_from _ _ (item_in_small bs) (items_in_small n (drop (size_of_line_in bs) bs))

pub all_small_push : (is : List Item) (i : Item) → all_small is ≡ true → small_item i ≡ true → all_small (is ++ i ∷ []) ≡ true
all_small_push is i h s = list_all-append small_item is (i ∷ []) ∙ and_from _ _ h (and_from _ _ s refl)

pub all_proper_push : (is : List Item) (i : Item) → all_proper is ≡ true → proper i ≡ true → all_proper (is ++ i ∷ []) ≡ true
all_proper_push [] i h s = grind arith
all_proper_push (j ∷ is) i h s = grind (arith, all_proper_push is i)

-- what stands behind a line
pub behind_line : (v t n : ℕ) (i : Item) (rest : List ℕ) → proper i ≡ true → drop (size_of_line_in (line v t n i ++ rest)) (line v t n i ++ rest) ≡ rest
behind_line v t n i rest p = grind (arith, drop_at, length_line, size_of_own_line)

pub items_of_own_lines : (w k n : ℕ) (is : List Item) (rest : List ℕ) → all_proper is ≡ true → all_small is ≡ true → items_in (length is) (lines_of w k n is ++ rest) ≡ is
unfolding items_in lines_of
items_of_own_lines w k n [] rest p s = refl
items_of_own_lines w k n (i ∷ is) rest p s = grind (arith, append_assoc, item_of_own_line, behind_line, items_of_own_lines w k (suc n) is rest)

pub lines_append : (w k n : ℕ) (is js : List Item) → lines_of w k n (is ++ js) ≡ lines_of w k n is ++ lines_of w k (n + length is) js
unfolding lines_of
lines_append w k n [] js = grind (arith, common_steps)
lines_append w k n (i ∷ is) js = grind (arith, common_steps, lines_append w k (suc n) is js)

pub lines_push : (w k n : ℕ) (is : List Item) (i : Item) → lines_of w k n (is ++ i ∷ []) ≡ lines_of w k n is ++ line (k / w + 1) (k % w + 1) (suc (n + length is)) i
unfolding lines_of
lines_push w k n is i = grind (arith, common_steps, lines_append w k n is (i ∷ []))

-- the text falls into what stands before a track, its own lines and what stands behind
pub text_split : (w j : ℕ) (xs : List Track) (k : ℕ) → k < length xs → text_from w j xs ≡ text_from w j (take k xs) ++ (lines_of w (j + k) 0 (get_or xs k blank_track).items ++ text_from w (suc (j + k)) (drop (suc k) xs))
unfolding text_from
text_split w j [] k h = absurd (omega arith)
text_split w j (x ∷ xs) zero h = grind (arith, common_steps)
text_split w j (x ∷ xs) (suc k) h = grind (arith, common_steps, text_split w (suc j) xs k)

-- blank tracks are no lines
pub text_blank : (w k : ℕ) (xs : List Track) → all_blank xs ≡ true → text_from w k xs ≡ []
unfolding text_from lines_of
text_blank w k [] h = refl
text_blank w k (x ∷ xs) h = grind (arith, text_blank w (suc k) xs)
