use Rattle.std.proofs.Common.{rules}
use Rattle.line.specs.Meaning.{sure}
use Rattle.line.proofs.line_transport.interface.LineTransportTransport.next_track.Goals as goal

pub returns-in_err-applies-clause-does : goal.returns-in_err-applies-clause-does
returns-in_err-applies-clause-does c = (sure, search rules)

pub returns-in_err-applies-2-clause-does : goal.returns-in_err-applies-2-clause-does
returns-in_err-applies-2-clause-does c = (sure, search rules)

pub returns-clause-does : goal.returns-clause-does
returns-clause-does c = (sure, search rules)
