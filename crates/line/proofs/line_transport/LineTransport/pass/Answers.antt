use Rattle.std.proofs.Common.{◌≡◌, get_or, drop, vec_items, ap, ◌∙◌, arith}
use Rattle.tape.specs.Items.{mark}
use Rattle.line_text.specs.Lines.{line_size}
use Rattle.line_text.proofs.Laid.{one_line_more}
use Rattle.line_text.specs.Facts.{length_items_in}
use Rattle.line.proofs.Facts.{head_span, head_items, items_of_here, item_there, line_inside}
use Rattle.line.proofs.line_transport.LineTransport.pass.Goals as goal
use Rattle.line.proofs.line_transport.LineTransport.pass.Goals.{Start}

size : (c : Start) → c.args.bytes ≡ line_size (get_or (head_items c.args.self.now) c.args.self.now.head.item mark)
size c = c.requires.size ∙ ap (λ l. line_size (get_or l c.args.self.now.head.item mark)) (items_of_here c.args.self.now)

pub overflow_add-self-2 : goal.overflow_add-self-2
overflow_add-self-2 c = let x = c.args.self.now in omega (arith, size (goal.at.overflow_add-self-2 c).Start, line_inside x (item_there x c.requires.there), x.text_memory, x.in_room)

pub invariant_of-self-clause-reached : goal.invariant_of-self-clause-reached
invariant_of-self-clause-reached c some =
    let x = c.args.self.now in
    omega (arith, x.reached some, size (goal.at.invariant_of-self-clause-reached c).Start, one_line_more x.settings.tracks x.head.at x.head.item (head_items x) (omega (arith, item_there x c.requires.there, length_items_in (head_span x).count (drop (head_span x).start (vec_items x.text)))))
