-- A sound tape stays sound under every run of functions, and a fresh one is sound. Assumes nothing.
use Rattle.std.proofs.Common.{◌≡◌, ℕ, ◌%◌, [], ◌∷◌, length, replicate, ap, ◌∙◌, zero-le, arith}
use native.Mathlib.Nat.{mod_self, div_self}
use lib.ListN.{length-replicate}
use Rattle.tape.specs.Tape.{Tape, Choice, blank_track}
use Rattle.tape.specs.Sound.{Sound}
use Rattle.tape.specs.Runs.{Function, writes, goes_to_next_track, mounts, follows, rewinds, looks, reads, after, StaysSound, StartsSound}
use Rattle.tape.proofs.Tracks.{blank_is_sound, every_replicate}
use Rattle.tape.proofs.Keeps.{write_keeps, next_track_keeps, mount_keeps, following_keeps, rewind_keeps, look_keeps, read_keeps}

function_keeps : (f : Function) (c : Choice) (t : Tape) → Sound t → Sound (after f c t)
function_keeps (writes i) c t s = write_keeps c t i s
function_keeps goes_to_next_track c t s = next_track_keeps c t s
function_keeps mounts c t s = mount_keeps c t s
function_keeps follows c t s = following_keeps c t s
function_keeps rewinds c t s = rewind_keeps c t s
function_keeps looks c t s = look_keeps c t s
function_keeps (reads buffer) c t s = read_keeps c t buffer s

pub stays_sound : StaysSound
stays_sound [] t s = s
stays_sound (f ∷ fs) t s = stays_sound fs (after f.0 f.1 t) (function_keeps f.0 f.1 t s)

pub starts_sound : StartsSound
starts_sound tracks volumes some_track few_tracks some_volume few_volumes =
    let long : length (replicate tracks blank_track) ≡ tracks = length-replicate tracks blank_track in
    record {
      some_track = some_track;
      few_tracks = few_tracks;
      whole_volumes = ap (λ (n : ℕ). n % tracks) long ∙ mod_self tracks;
      few_volumes = rw long (omega (arith, div_self some_track));
      head_track = omega arith;
      head_item = zero-le;
      every_track = every_replicate tracks blank_track blank_is_sound;
    }
