use Rattle.std.proofs.Common.{arith}
use Rattle.std.proofs.lemmas.Grind.{common_steps}
use Rattle.tape.specs.Items.{item_of}
use Rattle.line.specs.Meaning.{line_choice}
use Rattle.line.proofs.line_transport.interface.LineTransportTransport.write.Goals as goal

pub returns-in_err-applies-clause-does : goal.returns-in_err-applies-clause-does
returns-in_err-applies-clause-does c = (line_choice c.args.self.now (item_of c.args.item), grind (arith, common_steps))

pub returns-in_err-applies-2-clause-does : goal.returns-in_err-applies-2-clause-does
returns-in_err-applies-2-clause-does c = (line_choice c.args.self.now (item_of c.args.item), grind (arith, common_steps))

pub returns-then-not-has_room-clause-does : goal.returns-then-not-has_room-clause-does
returns-then-not-has_room-clause-does c = (line_choice c.args.self.now (item_of c.args.item), grind (arith, common_steps))

pub returns-clause-does : goal.returns-clause-does
returns-clause-does c = (line_choice c.args.self.now (item_of c.args.item), grind (arith, common_steps))
