-- How a line transport is made, and how a track of it is sought. Assumes nothing.
use Rattle.std.specs.Prelude.{◌≡◌, ℕ, Bool, true, false, cond, length, Ok, Err, Result, nat_lt}
use Rattle.tape.specs.declared.refusal.Reason.TheVariants.{Unlawful}
use Rattle.tape.specs.declared.refusal.SetupError.{SetupError}
use Rattle.tape.specs.declared.refusal.SetupError.TheVariants.{Refused, NoMemory}
use Rattle.tape.specs.Refusals.{nowhere}
use Rattle.tape.specs.Tape.{Tape, fresh, head_to}
use Rattle.line.specs.declared.line_transport.LineTransport.{LineTransport}
use Rattle.line.specs.declared.settings.Settings.{Settings}
use Rattle.line.specs.Settings.{lawful_settings}
use Rattle.line.specs.Meaning.{line_tape, settings_of}

-- A blank transport with these settings, or a refusal exactly where they are unlawful. Whether the memory is there is open.
abbrev pub Made : Settings → Result LineTransport SetupError → Type 0
Made s (Ok x) = (lawful_settings s ≡ true) × (line_tape x ≡ fresh s.tracks s.volumes) × (settings_of x ≡ s)
Made s (Err (Refused r)) = (lawful_settings s ≡ false) × (r ≡ nowhere Unlawful)
Made s (Err NoMemory) = lawful_settings s ≡ true

-- to a track's first item, where the track is there
abbrev pub sought : Tape → ℕ → Bool × Tape
sought t k = cond (nat_lt k (length t.image)) (true, head_to t k 0) (false, t)
