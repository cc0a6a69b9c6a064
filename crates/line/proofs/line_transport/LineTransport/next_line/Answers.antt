use Rattle.std.proofs.Common.{◌+◌, ◌/◌, ◌%◌, ◌≤◌, ◌++◌, length, get_or, drop, sym, ap, ◌∙◌, add-one, arith, rules}
use Rattle.std.proofs.lemmas.List.{take_rest}
use Rattle.tape.specs.Items.{mark}
use Rattle.line_text.specs.Lines.{line}
use Rattle.line.proofs.Facts.{items_of_here, item_there, line_here}
use Rattle.line.proofs.line_transport.LineTransport.next_line.Goals as goal
use Rattle.line.proofs.line_transport.LineTransport.next_line.Goals.{After-deref}

there : (c : After-deref) → c.args.self.now.head.pos ≤ length c.deref.result.now
there c = let x = c.args.self.now in omega (arith, ap length c.deref.ensures.value, (line_here x (item_there x c.requires)).2)

pub slice_bounds-result-count : goal.slice_bounds-result-count
slice_bounds-result-count c = there c

pub slice_bounds-result-start : goal.slice_bounds-result-start
slice_bounds-result-start c = let h = there c in search rules

pub returns : goal.returns
returns c =
    let x = c.args.self.now in
    let found = line_here x (item_there x c.requires) in
    (found.0, take_rest c.deref.result.now x.head.pos ∙ ap (drop x.head.pos) c.deref.ensures.value ∙ found.1 ∙ (λ i. line (x.head.at / x.settings.tracks + 1) (x.head.at % x.settings.tracks + 1) (sym (add-one x.head.item) i) (get_or (sym (items_of_here x) i) x.head.item mark) ++ found.0))
