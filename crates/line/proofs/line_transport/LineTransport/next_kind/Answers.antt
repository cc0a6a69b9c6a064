use Rattle.std.proofs.Common.{◌<◌, length, Some, sym, ap, ◌∙◌, arith, drop-cons}
use Rattle.std.specs.Option.{option_map}
use Rattle.std.proofs.lemmas.List.{drop_all}
use Rattle.std.proofs.lemmas.Bool.{eqb-true, eqb-false}
use Rattle.tape.specs.Items.{mark, kind_of}
use Rattle.tape.specs.Tape.{first, here}
use Rattle.line_text.specs.Lines.{kind_in}
use Rattle.line_text.proofs.OneLine.{kind_of_own_line}
use Rattle.line.specs.Meaning.{line_tape}
use Rattle.line.specs.Ahead.{next}
use Rattle.line.specs.Sound.{here_count}
use Rattle.line.proofs.Facts.{next_proper}
use Rattle.line.proofs.line_transport.LineTransport.next_kind.Goals as goal

pub returns-then-is_past_track : goal.returns-then-is_past_track
returns-then-is_past_track c =
    let x = c.args.self.now in
    let count = eqb-true _ _ (sym c.is_past_track.ensures ∙ c.if-is_past_track.true) in
    sym (ap (λ l. option_map kind_of (first l)) (drop_all x.head.item (here (line_tape x)).items (omega (arith, count, here_count x))))

pub returns : goal.returns
returns c =
    let x = c.args.self.now in
    let there : x.head.item < length (here (line_tape x)).items = omega (arith, here_count x, x.inside.1, eqb-false _ _ (sym c.is_past_track.ensures ∙ c.if-is_past_track.false)) in
    let found = c.next_line.ensures in
    let seen = c.kind_of_line.ensures ∙ ap kind_in found.1 ∙ kind_of_own_line _ _ _ (next x) found.0 (next_proper x there) in
    ap Some seen ∙ sym (ap (λ l. option_map kind_of (first l)) (drop-cons (here (line_tape x)).items x.head.item mark there))
