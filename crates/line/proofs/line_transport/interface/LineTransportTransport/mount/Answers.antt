use Rattle.std.proofs.Common.{◌&&◌, ltb, sym, ◌∙◌, ltb-true, rules}
use Rattle.std.proofs.lemmas.Bool.{and_parts}
use Rattle.tape.specs.Tape.{any_items, at_end, on_last_track}
use Rattle.line.specs.Meaning.{line_tape, sure}
use Rattle.line.proofs.line_transport.interface.LineTransportTransport.mount.Goals as goal

pub returns-in_err-applies-clause-does : goal.returns-in_err-applies-clause-does
returns-in_err-applies-clause-does c = (sure, search rules)

pub returns-in_err-applies-2-clause-does : goal.returns-in_err-applies-2-clause-does
returns-in_err-applies-2-clause-does c = (sure, search rules)

pub returns-clause-does : goal.returns-clause-does
returns-clause-does c = (sure, search rules)

pub add_volume-requires : goal.add_volume-requires
add_volume-requires c =
    let x = c.args.self.now in
    let t = line_tape x in
    ltb-true 0 t.left (and_parts (any_items t && at_end t && on_last_track t) (ltb 0 t.left) (sym c.can_mount.ensures ∙ c.in_ok-applies-2.ensures.1)).1
