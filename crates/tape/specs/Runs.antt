-- The functions of a transport one after the other, and that they keep its meaning sound. Assumes nothing.
use Rattle.std.specs.Prelude.{ℕ, ◌≤◌, List, [], ◌∷◌}
use Rattle.tape.specs.Items.{Item}
use Rattle.tape.specs.Tape.{Tape, Choice, write, next_track, mount, following, rewind, look, read, fresh, most_tracks, most_volumes}
use Rattle.tape.specs.Sound.{Sound}

-- one function of a transport, with what it is given
pub data Function : Type 0 where
  writes : Item → Function
  goes_to_next_track : Function
  mounts : Function
  follows : Function
  rewinds : Function
  looks : Function
  reads : List ℕ → Function

-- the tape after the function
abbrev pub after : Function → Choice → Tape → Tape
after (writes i) c t = (write c t i).1
after goes_to_next_track c t = (next_track c t).1
after mounts c t = (mount c t).1
after follows c t = (following c t).1
after rewinds c t = (rewind c t).1
after looks c t = (look c t).1
after (reads buffer) c t = (read c t buffer).2

-- the tape after a list of functions, each with what the transport chose at it
abbrev pub run : List (Function × Choice) → Tape → Tape
run [] t = t
run (f ∷ fs) t = run fs (after f.0 f.1 t)

-- Whatever functions are called, and whatever is chosen, a sound tape stays sound;
-- and a new transport of 1 or 2 tracks and 1 to 49 volumes is sound.
abbrev pub StaysSound : Type 0
StaysSound = (fs : List (Function × Choice)) (t : Tape) → Sound t → Sound (run fs t)

abbrev pub StartsSound : Type 0
StartsSound = (tracks volumes : ℕ) → 1 ≤ tracks → tracks ≤ most_tracks → 1 ≤ volumes → volumes ≤ most_volumes → Sound (fresh tracks volumes)
