-- What holds of the tape after each line that was taken. Assumes nothing.
use Rattle.std.proofs.Common.{◌≡◌, ℕ, suc, ◌+◌, ◌*◌, ◌/◌, ◌%◌, ◌<◌, ◌≤◌, true, ◌⊎◌, List, [], ◌∷◌, ◌++◌, length, get_or, sym, refl, ap, ◌∙◌, inl, inr, ⊎_elim, add-mul, one-mul, div-add-mod', zero-add, arith}
use native.Mathlib.Nat.{mul-mod_left}
use lib.ListN.{length-replicate}
use Rattle.std.proofs.lemmas.List.{get_or_at, get_or_past, length_push}
use Rattle.std.proofs.lemmas.Bool.{and_parts, and_from}
use Rattle.std.proofs.str.Laws.{order}
use Rattle.tape.specs.Items.{Item, proper}
use Rattle.tape.specs.Sound.{all_proper}
use Rattle.tape.specs.Tape.{Track, Tape, blank_track, fresh, most_items}
use Rattle.line_text.specs.Lines.{line, small_item}
use Rattle.line_text.specs.Layout.{text_from}
use Rattle.line_text.proofs.Rows.{all_proper_push}
use Rattle.line.specs.Taken.{laid, laid_on, line_on}
use Rattle.line_law.specs.Law.{all_bytes, Filled, RecordedTrack, EachRecorded}
use Rattle.line_law.proofs.Alike.{Alike, same_text, same_each, last_of_each, each_with_last, text_with_line, first_tracks, length_first, ends_at}
use Rattle.line_law.proofs.Holds.{Holds, holds_as, holds_none, holds_laid, laid_long}

-- The tape's lines are those that were taken, and its tracks are recorded ones, blank behind the head;
-- the head's track has items and stands in the last volume, unless there is only one.
pub record Going (w V : ℕ) (text : List ℕ) (t : Tape) : Type 0 where
  pub holds : Holds w V (V * w) t.image t
  pub spelled : text ≡ text_from w 0 t.image
  pub each : EachRecorded t.image
  pub behind : (j : ℕ) → t.at < j → get_or t.image j blank_track ≡ blank_track
  pub ends : (length t.image ≡ w) ⊎ ((length t.image ≤ t.at + w) × (1 ≤ length (get_or t.image t.at blank_track).items))

pub going_first : (w V : ℕ) → 1 ≤ w → w ≤ V * w → Going w V [] (fresh w V)
unfolding text_from
going_first w V some few =
    let none = holds_none w V (V * w) some few in
    let blank : Alike [] (fresh w V).image = λ j. sym (none.reads j) in
    record {
      holds = holds_as w V (V * w) [] (fresh w V).image (fresh w V) (λ j. refl) none;
      spelled = same_text w 0 [] (fresh w V).image blank;
      each = same_each [] (fresh w V).image blank tt;
      behind = λ j l. none.reads j;
      ends = inl (length-replicate w blank_track);
    }

all_bytes_push : (is : List Item) (i : Item) → all_bytes is ≡ true → small_item i ≡ true → all_bytes (is ++ i ∷ []) ≡ true
all_bytes_push [] i h s = and_from _ _ s refl
all_bytes_push (j ∷ is) i h s = let p = and_parts (small_item j) (all_bytes is) h in and_from _ _ p.0 (all_bytes_push is i p.1 s)

-- a recorded track with one more item
filled_more : (y : Track) (i : Item) → RecordedTrack y → length y.items < most_items → proper i ≡ true → small_item i ≡ true → Filled (laid_on y i)
filled_more y i r room p s = record {
  some = omega (arith, length_push y.items i);
  few = omega (arith, length_push y.items i);
  blocks = all_proper_push y.items i (⊎_elim (λ e. ap (λ (x : Track). all_proper x.items) e) (λ f. f.blocks) r) p;
  bytes = all_bytes_push y.items i (⊎_elim (λ e. ap (λ (x : Track). all_bytes x.items) e) (λ f. f.bytes) r) s;
  marked = refl;
  since = refl;
}

module _ (w V : ℕ) (text : List ℕ) (t : Tape) (k : ℕ) (i : Item) (some : 1 ≤ w) (g : Going w V text t) (inside : k < V * w) (later : t.at ≤ k) (room : length (get_or t.image k blank_track).items < most_items) (p : proper i ≡ true) (sm : small_item i ≡ true) where
  abbrev old : Track
  old = get_or t.image k blank_track

  abbrev new : Track
  new = laid_on old i

  abbrev before : List Track
  before = first_tracks k t.image

  abbrev image : List Track
  image = (laid V t k i).image

  was : Alike t.image (before ++ old ∷ [])
  was = ends_at k t.image (λ j l. g.behind j (omega arith))

  after : Holds w V (V * w) (before ++ new ∷ []) (laid V t k i)
  after = holds_laid w V (V * w) before k old t i some (mul-mod_left V w) (length_first k t.image) inside (holds_as w V (V * w) t.image (before ++ old ∷ []) t was g.holds)

  now : Alike (before ++ new ∷ []) image
  now j = sym (after.reads j)

  spelled_now : text ++ line_on t k i ≡ text_from w 0 image
  spelled_now =
      let e = g.holds.tracks in
      let own : line_on t k i ≡ line (k / w + 1) (k % w + 1) (suc (length old.items)) i = λ x. line (k / e x + 1) (k % e x + 1) (suc (length old.items)) i in
      (λ x. (g.spelled ∙ same_text w 0 t.image (before ++ old ∷ []) was) x ++ own x) ∙ sym (text_with_line w 0 k before old i (zero-add _ ∙ length_first k t.image)) ∙ same_text w 0 (before ++ new ∷ []) image now

  each_now : EachRecorded image
  each_now =
      let each = same_each t.image (before ++ old ∷ []) was g.each in
      same_each (before ++ new ∷ []) image now (each_with_last before old new each (inr (filled_more old i (last_of_each before old each) room p sm)))

  behind_now : (j : ℕ) → k < j → get_or image j blank_track ≡ blank_track
  behind_now j l = after.reads j ∙ get_or_past (before ++ new ∷ []) j blank_track (omega (arith, length_push before new, length_first k t.image))

  some_now : 1 ≤ length (get_or image k blank_track).items
  some_now = omega (arith, ap (λ (x : Track). length x.items) (after.reads k ∙ get_or_at before new [] blank_track k (length_first k t.image)), length_push old.items i)

  ends_now : (length image ≡ w) ⊎ ((length image ≤ k + w) × (1 ≤ length (get_or image k blank_track).items))
  ends_now =
      let long = laid_long w V k t i g.holds.tracks in
      let next : (k / w + 1) * w ≡ k / w * w + w = add-mul (k / w) 1 w ∙ ap (λ m. k / w * w + m) (one-mul w) in
      let whole = div-add-mod' k w in
      ⊎_elim
      (λ grew. inr (omega arith, some_now))
      (λ enough. ⊎_elim (λ e. inl (omega arith)) (λ e. inr (omega arith, some_now)) g.ends)
      (order (length t.image) ((k / w + 1) * w))

  pub going_on : Going w V (text ++ line_on t k i) (laid V t k i)
  going_on = record {
    holds = holds_as w V (V * w) (before ++ new ∷ []) image (laid V t k i) (λ j. refl) after;
    spelled = spelled_now;
    each = each_now;
    behind = behind_now;
    ends = ends_now;
  }
