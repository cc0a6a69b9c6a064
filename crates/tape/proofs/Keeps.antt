-- Each function of a transport keeps a sound tape sound. Assumes nothing.
use Rattle.std.proofs.Common.{◌≡◌, ℕ, zero, suc, ◌+◌, ◌%◌, ◌<◌, ◌≤◌, Bool, true, false, not, ◌&&◌, ltb, List, [], ◌∷◌, ◌++◌, length, get_or, drop, replicate, Some, None, Option, Result, refl, ap, ◌∙◌, ⊎_elim, suc-le-suc, zero-le, arith, length-append, length-set}
use native.Mathlib.Nat.{add-mod_right, add-div_right}
use lib.ListN.{length-replicate}
use Rattle.std.proofs.lemmas.List.{length_push, get_or-set_same}
use Rattle.std.proofs.lemmas.Bool.{and_parts, not-true, ltb-true, eqb-true, eqb-false, cases_eq, cond_both}
use Rattle.tape.specs.declared.item.Kind.{Kind}
use Rattle.tape.specs.declared.transport.Fault.{Fault}
use Rattle.tape.specs.Items.{Item}
use Rattle.tape.specs.Tape.{Tape, Choice, blank_track, here, all_blank, at_end, on_last_track, next_volume, next_item, first, fits_in, takes, failing, head_to, attempt, recorded, written, mounted, write, next_track, mount, following, rewind, look, read, read_next}
use Rattle.tape.specs.Sound.{Sound}
use Rattle.tape.proofs.Tracks.{blank_is_sound, every_getD, every_set, every_append, every_replicate, recorded_is_sound}

failing_is_sound : (t : Tape) → Sound t → Sound (failing t)
failing_is_sound t s = record {
  some_track = s.some_track;
  few_tracks = s.few_tracks;
  whole_volumes = s.whole_volumes;
  few_volumes = s.few_volumes;
  head_track = s.head_track;
  head_item = s.head_item;
  every_track = s.every_track;
}

moved_is_sound : (t : Tape) (k n : ℕ) → Sound t → k < length t.image → n ≤ length (get_or t.image k blank_track).items → Sound (head_to t k n)
moved_is_sound t k n s track item = record {
  some_track = s.some_track;
  few_tracks = s.few_tracks;
  whole_volumes = s.whole_volumes;
  few_volumes = s.few_volumes;
  head_track = track;
  head_item = item;
  every_track = s.every_track;
}

-- whether it is turned down, fails or does its work
attempt_keeps : {R : Type 0} (c : Choice) (applies : Bool) (t : Tape) (answer : R) (t' : Tape) → Sound t → (applies ≡ true → Sound t') → Sound (attempt c applies t answer t').1
attempt_keeps {R} c applies t answer t' s done =
    cond_both (not t.failed && applies) _ _ Kept
    (λ e. cond_both c.fails _ _ Kept (λ _. failing_is_sound t s) (λ _. done (and_parts (not t.failed) applies e).1))
    (λ _. s)
  where
    Kept : Result R Fault × Tape → Type 0
    Kept o = Sound o.1

written_is_sound : (c : Choice) (t : Tape) (i : Item) → Sound t → (at_end t && takes (here t) i) ≡ true → Sound (written c t i)
written_is_sound c t i s h =
    let tests = and_parts (at_end t) (takes (here t) i) h in
    let at_last = eqb-true t.item (length (here t).items) (and_parts _ (all_blank (drop (suc t.at) t.image)) tests.0).0 in
    let x = recorded c (here t) i in
    let inside : t.at < length t.image = s.head_track in
    record {
      some_track = s.some_track;
      few_tracks = s.few_tracks;
      whole_volumes = rw length-set s.whole_volumes;
      few_volumes = rw length-set s.few_volumes;
      head_track = rw length-set s.head_track;
      head_item = rw get_or-set_same (omega (arith, at_last, length_push (here t).items i));
      every_track = every_set t.image t.at x s.every_track (recorded_is_sound c (here t) i (every_getD t.image t.at s.every_track) tests.1);
    }

pub write_keeps : (c : Choice) (t : Tape) (i : Item) → Sound t → Sound (write c t i).1
write_keeps c t i s = attempt_keeps c _ t _ (written c t i) s (written_is_sound c t i s)

-- volumes are whole, so the track after one that is not a last track is on the tape
next_track_inside : (t : Tape) → Sound t → on_last_track t ≡ false → suc t.at < length t.image
next_track_inside t s h =
    ⊎_elim
    (λ e. absurd (eqb-false (suc t.at % t.tracks) 0 h (ap (λ (n : ℕ). n % t.tracks) e ∙ s.whole_volumes)))
    (λ ne. omega (arith, s.head_track, ne))
    (cases_eq (suc t.at) (length t.image))

pub next_track_keeps : (c : Choice) (t : Tape) → Sound t → Sound (next_track c t).1
next_track_keeps c t s =
    attempt_keeps c _ t _ (head_to t (suc t.at) 0) s
    (λ e. moved_is_sound t (suc t.at) 0 s (next_track_inside t s (not-true (on_last_track t) (and_parts _ _ e).1)) zero-le)

mounted_is_sound : (t : Tape) → Sound t → 0 < t.left → Sound (mounted t)
mounted_is_sound t s more =
    let blank = replicate t.tracks blank_track in
    let longer : length (t.image ++ blank) ≡ length t.image + t.tracks =
    length-append t.image blank ∙ ap (λ (n : ℕ). length t.image + n) (length-replicate t.tracks blank_track) in
    record {
      some_track = s.some_track;
      few_tracks = s.few_tracks;
      whole_volumes = ap (λ (n : ℕ). n % t.tracks) longer ∙ add-mod_right (length t.image) t.tracks ∙ s.whole_volumes;
      few_volumes = rw longer (omega (arith, s.few_volumes, more, add-div_right (length t.image) s.some_track));
      head_track = omega (arith, longer, s.some_track);
      head_item = zero-le;
      every_track = every_append t.image blank s.every_track (every_replicate t.tracks blank_track blank_is_sound);
    }

pub mount_keeps : (c : Choice) (t : Tape) → Sound t → Sound (mount c t).1
mount_keeps c t s = attempt_keeps c _ t _ (mounted t) s (λ e. mounted_is_sound t s (ltb-true 0 t.left (and_parts _ _ e).1))

pub following_keeps : (c : Choice) (t : Tape) → Sound t → Sound (following c t).1
following_keeps c t s =
    let there = ltb (next_volume t) (length t.image) in
    attempt_keeps c true t there _ s
    (λ _. cond_both there (head_to t (next_volume t) 0) t Sound (λ e. moved_is_sound t (next_volume t) 0 s (ltb-true (next_volume t) (length t.image) e) zero-le) (λ _. s))

pub rewind_keeps : (c : Choice) (t : Tape) → Sound t → Sound (rewind c t).1
rewind_keeps c t s = attempt_keeps c true t _ (head_to t 0 0) s (λ _. moved_is_sound t 0 0 s (omega (arith, s.head_track)) zero-le)

pub look_keeps : (c : Choice) (t : Tape) → Sound t → Sound (look c t).1
look_keeps c t s = attempt_keeps c true t _ t s (λ _. s)

-- where an item comes next, the head is not yet behind the last one
first_inside : (is : List Item) (k : ℕ) (i : Item) → first (drop k is) ≡ Some i → k < length is
first_inside [] zero i e = absurd cc
first_inside [] (suc k) i e = absurd cc
first_inside (j ∷ is) zero i e = omega arith
first_inside (j ∷ is) (suc k) i e = suc-le-suc (first_inside is k i e)

pub read_keeps : (c : Choice) (t : Tape) (buffer : List ℕ) → Sound t → Sound (read c t buffer).2
read_keeps c t buffer s = by_next (next_item t) refl
  where
    Kept : Result Kind Fault × List ℕ × Tape → Type 0
    Kept o = Sound o.2

    by_next : (o : Option Item) → next_item t ≡ o → Sound (read_next c t buffer o).2
    by_next None e = s
    by_next (Some i) e =
        cond_both (not t.failed && fits_in i buffer) _ _ Kept
        (λ _. cond_both c.fails _ _ Kept (λ _. failing_is_sound t s) (λ _. moved_is_sound t t.at (suc t.item) s s.head_track (first_inside (here t).items t.item i e)))
        (λ _. s)
