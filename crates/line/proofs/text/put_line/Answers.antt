use Rattle.std.proofs.Common.{◌≡◌, ◌+◌, ◌*◌, [], ◌∷◌, ◌++◌, length, sym, ap, ◌∙◌, subst, arith, length-append}
use Rattle.tape.specs.Items.{block, item_of}
use Rattle.line_text.specs.Lines.{line, line_tail, mark_tail, hexed, line_size}
use Rattle.line_text.proofs.OneLine.{length_hexed, length_line_head, length_block_head}
use Rattle.line.specs.Put.{HasRoom, Puts}
use Rattle.line.proofs.Ends.{puts_more, room_left}
use Rattle.line.proofs.text.put_line.Goals as goal

pub put_bytes-requires-in-Block-2 : goal.put_bytes-requires-in-Block-2
put_bytes-requires-in-Block-2 c =
    let place = c.args.place in
    let bytes = c.in-Block.bytes.now in
    let fits : HasRoom c.args.text.now (51 + 2 * length bytes) = subst (λ i. HasRoom c.args.text.now (line_size (item_of i))) c.in-Block.is c.requires in
    room_left _ _ fits (puts_more (puts_more c.put_bytes.ensures c.put_bytes-in-Block.ensures) c.put_hex.ensures.puts) (omega (arith, length-append (c.head_of.result ++ c.block_head_of.result) (hexed bytes), length-append c.head_of.result c.block_head_of.result, ap length c.head_of.ensures, length_line_head place.volume place.track place.item, ap length c.block_head_of.ensures, length_block_head (length bytes), length_hexed bytes))

pub returns-in-Mark-clause-puts : goal.returns-in-Mark-clause-puts
unfolding line line_tail
returns-in-Mark-clause-puts c =
    let place = c.args.place in
    subst (Puts c.args.text.now c.put_bytes-in-Mark.new.text) (ap (λ l. l ++ mark_tail) c.head_of.ensures ∙ sym (ap (λ i. line place.volume place.track place.item (item_of i)) c.in-Mark.is)) (puts_more c.put_bytes.ensures c.put_bytes-in-Mark.ensures)

pub returns-in-Block-clause-puts : goal.returns-in-Block-clause-puts
unfolding line line_tail
returns-in-Block-clause-puts c =
    let place = c.args.place in
    let bytes = c.in-Block.bytes.now in
    let parts : c.head_of.result ++ (c.block_head_of.result ++ hexed bytes ++ 10 ∷ []) ≡ line place.volume place.track place.item (block bytes) = λ i. c.head_of.ensures i ++ (c.block_head_of.ensures i ++ hexed bytes ++ 10 ∷ []) in
    subst (Puts c.args.text.now c.put_bytes-in-Block-2.new.text) (parts ∙ sym (ap (λ i. line place.volume place.track place.item (item_of i)) c.in-Block.is)) (puts_more c.put_bytes.ensures (puts_more (puts_more c.put_bytes-in-Block.ensures c.put_hex.ensures.puts) c.put_bytes-in-Block-2.ensures))
