-- Sound tracks: a blank one, one that took a write, and every one of a list. Assumes nothing.
use Rattle.std.proofs.Common.{◌≡◌, ℕ, zero, suc, ◌+◌, ◌-◌, ◌<◌, ◌≤◌, Bool, true, false, cond, ◌&&◌, ltb, List, [], ◌∷◌, ◌++◌, length, get_or, set, replicate, refl, subst, ⊎_elim, arith, lit<, lit≤}
use Rattle.std.proofs.lemmas.List.{length_push}
use Rattle.std.proofs.lemmas.Bool.{false≢true, cases_Bool, and_parts, and_from, or_parts, ltb-true, leb-false, cond-true, cond-false}
use Rattle.tape.specs.Items.{Item, proper, short}
use Rattle.tape.specs.Tape.{Track, Choice, blank_track, takes, meets_at, recorded, last_marker, writes_after, most_items}
use Rattle.tape.specs.Sound.{SoundTrack, EveryTrack, all_proper}

pub blank_is_sound : SoundTrack blank_track
blank_is_sound = record {
  blocks = refl;
  few = lit≤ tt;
  unmarked = λ _. (lit< tt, refl);
  marked = λ e. absurd (false≢true e);
}

-- Every track of a list: one of them, with one replaced, of two lists in a row, and the same one again and again.
pub every_getD : (xs : List Track) (k : ℕ) → EveryTrack xs → SoundTrack (get_or xs k blank_track)
every_getD [] k s = blank_is_sound
every_getD (x ∷ xs) zero s = s.0
every_getD (x ∷ xs) (suc k) s = every_getD xs k s.1

pub every_set : (xs : List Track) (k : ℕ) (y : Track) → EveryTrack xs → SoundTrack y → EveryTrack (set xs k y)
every_set [] k y s h = tt
every_set (x ∷ xs) zero y s h = (h, s.1)
every_set (x ∷ xs) (suc k) y s h = (s.0, every_set xs k y s.1 h)

pub every_append : (xs ys : List Track) → EveryTrack xs → EveryTrack ys → EveryTrack (xs ++ ys)
every_append [] ys s h = h
every_append (x ∷ xs) ys s h = (s.0, every_append xs ys s.1 h)

pub every_replicate : (n : ℕ) (x : Track) → SoundTrack x → EveryTrack (replicate n x)
every_replicate zero x h = tt
every_replicate (suc n) x h = (h, every_replicate n x h)

all_proper_push : (is : List Item) (i : Item) → all_proper is ≡ true → proper i ≡ true → all_proper (is ++ i ∷ []) ≡ true
all_proper_push [] i s h = and_from (proper i) true h refl
all_proper_push (j ∷ is) i s h =
    let both = and_parts (proper j) (all_proper is) s in
    and_from (proper j) (all_proper (is ++ i ∷ [])) both.0 (all_proper_push is i both.1 h)

-- behind its marker a track takes no ninth write
room_behind_marker : (x : Track) (i : Item) → takes x i ≡ true → x.marked ≡ true → x.since < writes_after
room_behind_marker x i h e =
    let short_enough : Bool = ltb x.since writes_after && short i in
    let rule = (and_parts (proper i) (cond x.marked short_enough true) h).1 in
    ltb-true x.since writes_after (and_parts (ltb x.since writes_after) (short i) (subst (λ (b : Bool). cond b short_enough true ≡ true) e rule)).0

-- a track that takes an item is sound with it
pub recorded_is_sound : (c : Choice) (x : Track) (i : Item) → SoundTrack x → takes x i ≡ true → SoundTrack (recorded c x i)
recorded_is_sound c x i s h = record {
  blocks = all_proper_push x.items i s.blocks (and_parts (proper i) _ h).0;
  few = ⊎_elim few_marked few_unmarked (cases_Bool x.marked);
  unmarked = λ e.
      let tests = or_parts x.marked (meets_at c (suc (length x.items))) e in
      let late = leb-false last_marker (suc (length x.items)) (or_parts _ _ tests.1).0 in
      let since_is = cond-false x.marked (suc x.since) x.since tests.0 in
      omega (arith, longer, late, since_is, s.unmarked tests.0);
  marked = λ _. ⊎_elim still_marked now_marked (cases_Bool x.marked);
}
  where
    longer : length (x.items ++ i ∷ []) ≡ length x.items + 1
    longer = length_push x.items i

    few_marked : x.marked ≡ true → length (x.items ++ i ∷ []) ≤ most_items
    few_marked e = omega (arith, longer, s.marked e, room_behind_marker x i h e)

    few_unmarked : x.marked ≡ false → length (x.items ++ i ∷ []) ≤ most_items
    few_unmarked e = omega (arith, longer, s.unmarked e)

    Counts : Type 0
    Counts = (1 ≤ length (recorded c x i).items) × ((recorded c x i).since ≤ writes_after) × (length (recorded c x i).items + (writes_after - (recorded c x i).since) ≤ most_items)

    still_marked : x.marked ≡ true → Counts
    still_marked e = omega (arith, longer, s.marked e, room_behind_marker x i h e, cond-true x.marked (suc x.since) x.since e)

    now_marked : x.marked ≡ false → Counts
    now_marked e = omega (arith, longer, s.unmarked e, cond-false x.marked (suc x.since) x.since e)
