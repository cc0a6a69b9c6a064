-- The lines of a track, and of all tracks, are taken. Assumes nothing.
use Rattle.std.proofs.Common.{◌≡◌, ℕ, suc, ◌+◌, ◌*◌, ◌/◌, ◌%◌, ◌<◌, ◌≤◌, true, List, [], ◌∷◌, ◌++◌, length, get_or, Some, sym, refl, ap, ◌∙◌, subst, ⊎_elim, append_assoc, append-nil, arith}
use Rattle.std.proofs.lemmas.List.{get_or_at, length_push}
use Rattle.std.proofs.lemmas.Bool.{and_parts}
use Rattle.tape.specs.Items.{Item, proper}
use Rattle.tape.specs.Sound.{all_proper}
use Rattle.tape.specs.Tape.{Track, Tape, blank_track, most_tracks, most_volumes, most_items, writes_after}
use Rattle.line_text.specs.Lines.{line, small_item}
use Rattle.line_text.specs.Layout.{lines_of, text_from}
use Rattle.line.specs.Taken.{laid, laid_on, line_on, lines_taken}
use Rattle.line_law.specs.Law.{all_bytes, Filled, RecordedTrack, EachRecorded}
use Rattle.line_law.proofs.Step.{line_taken}
use Rattle.line_law.proofs.Holds.{Holds, holds_blank, holds_laid}

-- a track with more items laid on it, one by one
abbrev all_laid : Track → List Item → Track
all_laid y [] = y
all_laid y (i ∷ is) = all_laid (laid_on y i) is

abbrev filled_with : List Item → Track
filled_with is = record { items = is; marked = true; since = writes_after }

all_laid_is : (is done : List Item) → all_laid (filled_with done) is ≡ filled_with (done ++ is)
all_laid_is [] done = ap filled_with (sym (append-nil done))
all_laid_is (i ∷ is) done = all_laid_is is (done ++ i ∷ []) ∙ ap filled_with (append_assoc done (i ∷ []) is)

laid_all : (x : Track) → Filled x → all_laid blank_track x.items ≡ x
laid_all x f = by_items x.items refl
  where
    by_items : (is : List Item) → x.items ≡ is → all_laid blank_track is ≡ x
    by_items [] e = absurd (omega (arith, f.some, ap length e))
    by_items (i ∷ is) e = all_laid_is is (i ∷ []) ∙ (λ j. record { items = sym e j; marked = sym f.marked j; since = sym f.since j })

module _ (w V N : ℕ) (some : 1 ≤ w) (few : w ≤ most_tracks) (volumes : V ≤ most_volumes) (whole : N % w ≡ 0) (within : N ≤ V * w) where
  -- the lines of the items that follow n others on track k
  items_taken : (is : List Item) (before : List Track) (k n : ℕ) (y : Track) (t : Tape) (more : List ℕ) → length before ≡ k → k < N → t.at ≤ k → length y.items ≡ n → n + length is ≤ most_items → all_proper is ≡ true → all_bytes is ≡ true → Holds w V N (before ++ y ∷ []) t → (t' : Tape) × Holds w V N (before ++ all_laid y is ∷ []) t' × (t'.at ≤ k) × (lines_taken (length (lines_of w k n is ++ more)) V t (lines_of w k n is ++ more) ≡ lines_taken (length more) V t' more)
  unfolding lines_of
  items_taken [] before k n y t more is_k inside at is_n room p s h = (t, h, at, refl)
  items_taken (i ∷ is) before k n y t more is_k inside at is_n room p s h =
      let ps = and_parts (proper i) (all_proper is) p in
      let ss = and_parts (small_item i) (all_bytes is) s in
      let rest = lines_of w k (suc n) is ++ more in
      let count : n ≡ length (get_or t.image k blank_track).items = sym (ap (λ (x : Track). length x.items) (h.reads k ∙ get_or_at before y [] blank_track k is_k) ∙ is_n) in
      let own : line (k / w + 1) (k % w + 1) (suc n) i ≡ line_on t k i = λ j. line (k / sym h.tracks j + 1) (k % sym h.tracks j + 1) (suc (count j)) i in
      let split : lines_of w k n (i ∷ is) ++ more ≡ line_on t k i ++ rest = append_assoc (line (k / w + 1) (k % w + 1) (suc n) i) (lines_of w k (suc n) is) more ∙ ap (λ l. l ++ rest) own in
      let there : k < V * t.tracks = subst (λ v. k < V * v) (sym h.tracks) (omega arith) in
      let one = line_taken V t k i rest (omega (arith, h.tracks)) (omega (arith, h.tracks)) volumes there at (omega arith) ps.0 ss.0 in
      let next = items_taken is before k (suc n) (laid_on y i) (laid V t k i) more is_k inside (omega arith) (omega (arith, length_push y.items i)) (omega arith) ps.1 ss.1 (holds_laid w V N before k y t i some whole is_k inside h) in
      (next.0, next.1, next.2, ap (λ l. lines_taken (length l) V t l) split ∙ one ∙ next.3)

  -- the lines of one track lead to a tape that has it
  abbrev Leads : List Track → ℕ → Tape → List ℕ → Track → Type 0
  Leads before k t more y = (t' : Tape) × Holds w V N (before ++ y ∷ []) t' × (t'.at ≤ k) × (lines_taken (length (lines_of w k 0 y.items ++ more)) V t (lines_of w k 0 y.items ++ more) ≡ lines_taken (length more) V t' more)

  track_taken : (x : Track) (before : List Track) (k : ℕ) (t : Tape) (more : List ℕ) → length before ≡ k → k < N → t.at ≤ k → RecordedTrack x → Holds w V N before t → Leads before k t more x
  unfolding lines_of
  track_taken x before k t more is_k inside at kind h = ⊎_elim blank filled kind
    where
      blank : x ≡ blank_track → Leads before k t more x
      blank e = subst (Leads before k t more) (sym e) (t, holds_blank w V N before t h, at, refl)

      filled : Filled x → Leads before k t more x
      filled f =
          let own = items_taken x.items before k 0 blank_track t more is_k inside at refl (omega (arith, f.few)) f.blocks f.bytes (holds_blank w V N before t h) in
          (own.0, subst (λ (y : Track). Holds w V N (before ++ y ∷ []) own.0) (laid_all x f) own.1, own.2, own.3)

  -- the lines of all further tracks
  pub tracks_taken : (after before : List Track) (k : ℕ) (t : Tape) → length before ≡ k → k + length after ≡ N → t.at ≤ k → EachRecorded after → Holds w V N before t → (t' : Tape) × Holds w V N (before ++ after) t' × (lines_taken (length (text_from w k after)) V t (text_from w k after) ≡ Some t')
  unfolding text_from lines_taken
  tracks_taken [] before k t is_k is_N at each h = (t, subst (λ l. Holds w V N l t) (sym (append-nil before)) h, refl)
  tracks_taken (x ∷ after) before k t is_k is_N at each h =
      let own = track_taken x before k t (text_from w (suc k) after) is_k (omega arith) at each.0 h in
      let rest = tracks_taken after (before ++ x ∷ []) (suc k) own.0 (omega (arith, length_push before x)) (omega arith) (omega (arith, own.2)) each.1 own.1 in
      (rest.0, subst (λ l. Holds w V N l rest.0) (append_assoc before (x ∷ []) after) rest.1, own.3 ∙ rest.2)
