-- What opening a line text tells: the tape of the account, which works, or the refusal. Assumes nothing.
use Rattle.std.specs.Prelude.{◌≡◌, ℕ, false, List, length, Ok, Err, Result}
use Rattle.tape.specs.declared.refusal.SetupError.{SetupError}
use Rattle.tape.specs.declared.refusal.SetupError.TheVariants.{Refused, NoMemory}
use Rattle.line.specs.declared.line_transport.LineTransport.{LineTransport}
use Rattle.line.specs.Meaning.{line_tape}
use Rattle.inspection.specs.Refused.{refusal_lines}
use Rattle.inspection.specs.Account.{tape_account, account_of}

abbrev pub Opens : ℕ → List ℕ → Result LineTransport SetupError → Type 0
Opens tracks text (Ok x) = (account_of tracks text ≡ tape_account (line_tape x) (length text)) × ((line_tape x).failed ≡ false)
Opens tracks text (Err (Refused r)) = account_of tracks text ≡ refusal_lines r
Opens tracks text (Err NoMemory) = Unit {0}
