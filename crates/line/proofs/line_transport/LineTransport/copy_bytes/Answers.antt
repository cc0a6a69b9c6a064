use Rattle.std.proofs.Common.{◌≡◌, MatchOption, ◌++◌, drop, ap, ◌∙◌, subst}
use Rattle.tape.specs.Tape.{head_place}
use Rattle.line_text.specs.Lines.{unhexed}
use Rattle.line_text.proofs.OneLine.{none_to_copy, copied_from_line}
use Rattle.line.specs.Meaning.{line_tape}
use Rattle.line.specs.Ahead.{next}
use Rattle.line.proofs.Facts.{next_proper, next_small}
use Rattle.line.proofs.line_transport.LineTransport.copy_bytes.Goals as goal

pub returns-in-Mark : goal.returns-in-Mark
returns-in-Mark c =
    let x = c.args.self.now in
    let none = none_to_copy (next x) c.args.buffer.now (c.requires.kind ∙ c.in-Mark.is) in
    record { told = none.0; bytes = none.1 }

pub returns-in-Block : goal.returns-in-Block
returns-in-Block c =
    let x = c.args.self.now in
    let buffer = c.args.buffer.now in
    let size = c.in-Block.size in
    let place = head_place (line_tape x) in
    let found = c.next_line.ensures in
    let copied = copied_from_line place.volume place.track place.item (next x) found.0 buffer size (c.requires.kind ∙ c.in-Block.is) (next_proper x c.requires.there) (next_small x c.requires.there) in
    let bytes = ap (λ l. unhexed size (drop 50 l) ++ drop size buffer) found.1 ∙ copied.1 in
    let out = c.copy_block.new.out in
    record {
      told = c.copy_block.ensures.told ∙ copied.0;
      bytes = subst (λ l. MatchOption c.copy_block.result (out ≡ buffer) (λ _. out ≡ l)) bytes c.copy_block.ensures.bytes;
    }
