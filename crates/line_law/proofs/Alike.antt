-- Lists of tracks that read alike where what is not there reads as blank. Assumes nothing.
use Rattle.std.proofs.Common.{◌≡◌, ℕ, zero, suc, ◌+◌, ◌/◌, ◌%◌, ◌<◌, ◌≤◌, true, List, [], ◌∷◌, ◌++◌, length, get_or, drop, sym, refl, ap, ◌∙◌, subst, inl, append_assoc, append-nil, zero-add, arith}
use Rattle.std.proofs.lemmas.Bool.{and_parts, and_from}
use Rattle.tape.specs.Items.{Item}
use Rattle.tape.specs.Tape.{Track, blank_track, no_items, all_blank}
use Rattle.line_text.specs.Lines.{line}
use Rattle.line_text.specs.Layout.{lines_of, text_from}
use Rattle.line_text.proofs.Rows.{lines_push}
use Rattle.line.specs.Taken.{laid_on}
use Rattle.line_law.specs.Law.{RecordedTrack, EachRecorded}

abbrev pub Alike : List Track → List Track → Type 0
Alike xs ys = (j : ℕ) → get_or xs j blank_track ≡ get_or ys j blank_track

-- tracks that read as blank are blank
pub blank_from : (n : ℕ) (xs : List Track) → ((j : ℕ) → n ≤ j → get_or xs j blank_track ≡ blank_track) → all_blank (drop n xs) ≡ true
blank_from zero [] h = refl
blank_from zero (x ∷ xs) h = and_from _ _ (ap (λ (y : Track). no_items y.items) (h 0 (omega arith))) (blank_from zero xs (λ j l. h (suc j) (omega arith)))
blank_from (suc n) [] h = refl
blank_from (suc n) (x ∷ xs) h = blank_from n xs (λ j l. h (suc j) (omega arith))

-- and the other way round, they have no items
pub none_at : (n : ℕ) (xs : List Track) → all_blank (drop n xs) ≡ true → (j : ℕ) → n ≤ j → no_items (get_or xs j blank_track).items ≡ true
none_at zero [] h j l = refl
none_at zero (x ∷ xs) h zero l = (and_parts (no_items x.items) (all_blank xs) h).0
none_at zero (x ∷ xs) h (suc j) l = none_at zero xs (and_parts (no_items x.items) (all_blank xs) h).1 j (omega arith)
none_at (suc n) [] h j l = refl
none_at (suc n) (x ∷ xs) h zero l = absurd (omega arith)
none_at (suc n) (x ∷ xs) h (suc j) l = none_at n xs h j (omega arith)

-- they have the same text
pub same_text : (w k : ℕ) (xs ys : List Track) → Alike xs ys → text_from w k xs ≡ text_from w k ys
unfolding text_from lines_of
same_text w k [] [] h = refl
same_text w k [] (y ∷ ys) h = same_text w (suc k) [] ys (λ j. h (suc j)) ∙ ap (λ (x : Track). lines_of w k 0 x.items ++ text_from w (suc k) ys) (h 0)
same_text w k (x ∷ xs) [] h = ap (λ (y : Track). lines_of w k 0 y.items ++ text_from w (suc k) xs) (h 0) ∙ same_text w (suc k) xs [] (λ j. h (suc j))
same_text w k (x ∷ xs) (y ∷ ys) h = λ i. lines_of w k 0 (h 0 i).items ++ same_text w (suc k) xs ys (λ j. h (suc j)) i

each_at : (xs : List Track) → EachRecorded xs → (j : ℕ) → RecordedTrack (get_or xs j blank_track)
each_at [] e j = inl refl
each_at (x ∷ xs) e zero = e.0
each_at (x ∷ xs) e (suc j) = each_at xs e.1 j

each_from : (xs : List Track) → ((j : ℕ) → RecordedTrack (get_or xs j blank_track)) → EachRecorded xs
each_from [] h = tt
each_from (x ∷ xs) h = (h 0, each_from xs (λ j. h (suc j)))

-- and are recorded alike
pub same_each : (xs ys : List Track) → Alike xs ys → EachRecorded xs → EachRecorded ys
same_each xs ys h e = each_from ys (λ j. subst RecordedTrack (h j) (each_at xs e j))

-- another last track
pub last_of_each : (xs : List Track) (y : Track) → EachRecorded (xs ++ y ∷ []) → RecordedTrack y
last_of_each [] y e = e.0
last_of_each (x ∷ xs) y e = last_of_each xs y e.1

pub each_with_last : (xs : List Track) (y z : Track) → EachRecorded (xs ++ y ∷ []) → RecordedTrack z → EachRecorded (xs ++ z ∷ [])
each_with_last [] y z e r = (r, tt)
each_with_last (x ∷ xs) y z e r = (e.0, each_with_last xs y z e.1 r)

-- one more item on the last track is one more line
pub text_with_line : (w j k : ℕ) (xs : List Track) (y : Track) (i : Item) → j + length xs ≡ k → text_from w j (xs ++ laid_on y i ∷ []) ≡ text_from w j (xs ++ y ∷ []) ++ line (k / w + 1) (k % w + 1) (suc (length y.items)) i
unfolding text_from
text_with_line w j k [] y i e =
    let own : line (j / w + 1) (j % w + 1) (suc (0 + length y.items)) i ≡ line (k / w + 1) (k % w + 1) (suc (length y.items)) i = let same : j ≡ k = omega arith in λ x. line (same x / w + 1) (same x % w + 1) (suc (zero-add (length y.items) x)) i in
    append-nil _ ∙ lines_push w j 0 y.items i ∙ (λ x. sym (append-nil (lines_of w j 0 y.items)) x ++ own x)
text_with_line w j k (x ∷ xs) y i e = ap (λ l. lines_of w j 0 x.items ++ l) (text_with_line w (suc j) k xs y i (omega arith)) ∙ sym (append_assoc (lines_of w j 0 x.items) (text_from w (suc j) (xs ++ y ∷ [])) _)

-- the first k tracks, with blank ones where there are fewer
abbrev pub first_tracks : ℕ → List Track → List Track
first_tracks zero xs = []
first_tracks (suc k) [] = blank_track ∷ first_tracks k []
first_tracks (suc k) (x ∷ xs) = x ∷ first_tracks k xs

pub length_first : (k : ℕ) (xs : List Track) → length (first_tracks k xs) ≡ k
length_first zero xs = refl
length_first (suc k) [] = ap suc (length_first k [])
length_first (suc k) (x ∷ xs) = ap suc (length_first k xs)

-- where all tracks behind track k are blank, that one is the last
pub ends_at : (k : ℕ) (xs : List Track) → ((j : ℕ) → k < j → get_or xs j blank_track ≡ blank_track) → Alike xs (first_tracks k xs ++ get_or xs k blank_track ∷ [])
ends_at zero xs h zero = refl
ends_at zero xs h (suc j) = h (suc j) (omega arith)
ends_at (suc k) [] h zero = refl
ends_at (suc k) [] h (suc j) = ends_at k [] (λ m l. refl) j
ends_at (suc k) (x ∷ xs) h zero = refl
ends_at (suc k) (x ∷ xs) h (suc j) = ends_at k xs (λ m l. h (suc m) (omega arith)) j
