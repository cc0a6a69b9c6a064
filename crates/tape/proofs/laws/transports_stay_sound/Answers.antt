-- The two theorems. Assumes nothing.
use Rattle.tape.proofs.StaysSound.{stays_sound, starts_sound}
use Rattle.tape.proofs.laws.transports_stay_sound.Goals as goal

pub returns-clause-stays : goal.returns-clause-stays
returns-clause-stays c = stays_sound

pub returns-clause-starts : goal.returns-clause-starts
returns-clause-starts c = starts_sound
