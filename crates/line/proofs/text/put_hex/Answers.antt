use Rattle.std.proofs.Common.{◌++◌, length, get_or, take, sym, ap, ◌∙◌, subst, arith, length-take, take_all, rules}
use Rattle.std.proofs.lemmas.List.{take_more}
use Rattle.line_text.specs.Lines.{hexed, small}
use Rattle.line_text.proofs.Hex.{hexed_push, small_push}
use Rattle.line_text.proofs.OneLine.{length_hexed}
use Rattle.line.specs.Put.{Puts}
use Rattle.line.proofs.Ends.{puts_more, room_left}
use Rattle.line.proofs.text.put_hex.Goals as goal

pub put_bytes-requires : goal.put_bytes-requires
put_bytes-requires c =
    let done = take c.loop-b.b-index c.args.bytes.now in
    room_left _ _ c.requires c.loop-b.invariant.0 (omega (arith, length_hexed done, length-take c.loop-b.b-index c.args.bytes.now, ap length c.hex_of.ensures, c.loop-b-test.true))

pub loop-b-preserved : goal.loop-b-preserved
loop-b-preserved c =
    let i = c.loop-b.b-index in
    let bytes = c.args.bytes.now in
    let b = get_or bytes i 0 in
    let more = take_more bytes i 0 c.loop-b-test.true in (
      subst (Puts c.args.text.now c.put_bytes.new.text) (ap (λ l. hexed (take i bytes) ++ l) c.hex_of.ensures ∙ sym (hexed_push (take i bytes) b) ∙ sym (ap hexed more)) (puts_more c.loop-b.invariant.0 c.put_bytes.ensures),
      ap small more ∙ small_push (take i bytes) b c.loop-b.invariant.1 (search rules),
    )

pub returns : goal.returns
returns c =
    let all = take_all c.loop-b.b-index c.args.bytes.now c.loop-b-test.false in
    record {
      puts = subst (λ l. Puts c.args.text.now c.loop-b.text (hexed l)) all c.loop-b.invariant.0;
      bytes = ap small (sym all) ∙ c.loop-b.invariant.1;
    }
