use Rattle.std.proofs.Common.{◌≡◌, true, sym, refl, ap, ◌∙◌, arith, rules}
use Rattle.std.specs.Prelude.{is_some}
use Rattle.std.proofs.lemmas.Option.{MatchOption-at_some}
use Rattle.std.proofs.lemmas.Grind.{common_steps}
use Rattle.tape.specs.Tape.{here, read_next, fits_in, filled}
use Rattle.tape.proofs.Attempts.{read_done, next_there}
use Rattle.line_text.proofs.OneLine.{size_by_kind}
use Rattle.line.specs.Meaning.{line_tape, sure}
use Rattle.line.specs.Ahead.{next}
use Rattle.line.proofs.Facts.{next_proper}
use Rattle.line.proofs.line_transport.interface.LineTransportTransport.read.Goals as goal

pub returns-in_err-applies-clause-does : goal.returns-in_err-applies-clause-does
returns-in_err-applies-clause-does c = (sure, search rules)

pub returns-in_err-kind-clause-does : goal.returns-in_err-kind-clause-does
returns-in_err-kind-clause-does c = (sure, search rules)

pub returns-in_err-ok_or-clause-does : goal.returns-in_err-ok_or-clause-does
returns-in_err-ok_or-clause-does c = (sure, grind (arith, common_steps))

pub pass-requires-clause-size : goal.pass-requires-clause-size
pass-requires-clause-size c =
    let x = c.args.self.now in
    let n = next_there (here (line_tape x)).items x.head.item c.in_ok-kind.kind (sym c.in_ok-kind.ensures.ok_part ∙ c.next_kind.ensures) in
    omega (arith, c.size_of_line.ensures, size_by_kind (next x) c.in_ok-kind.kind n.2 (next_proper x n.0))

pub returns-clause-does : goal.returns-clause-does
returns-clause-does c =
    let x = c.args.self.now in
    let t = line_tape x in
    let buffer = c.args.buffer.now in
    let n = next_there (here t).items x.head.item c.in_ok-kind.kind (sym c.in_ok-kind.ensures.ok_part ∙ c.next_kind.ensures) in
    let copied = c.in_ok-ok_or.ensures.ok_part in
    let long : fits_in (next x) buffer ≡ true = sym c.copy_bytes.ensures.told ∙ ap is_some copied in
    let bytes : c.copy_bytes.new.buffer ≡ filled buffer (next x) = MatchOption-at_some _ _ _ copied c.copy_bytes.ensures.bytes in
    (sure, read_done sure t buffer (next x) c.in_ok-kind.kind c.copy_bytes.new.buffer (line_tape c.pass.new.self) c.in_ok-applies.ensures.0 long refl (sym n.2) bytes c.pass.ensures.tape ∙ sym (ap (read_next sure t buffer) n.1))
