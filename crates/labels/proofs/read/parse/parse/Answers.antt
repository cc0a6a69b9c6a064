use Rattle.std.proofs.Common.{◌≡◌, ◌-◌, length, take, drop, Some, Ok, sym, ap, ◌∙◌}
use Rattle.std.specs.Option.{option_map}
use Rattle.std.proofs.lemmas.Bool.{and_left, and_right}
use Rattle.labels.specs.Characters.{number}
use Rattle.labels.specs.Kinds.{count_fits}
use Rattle.labels.specs.Layout.{lawful_parts}
use Rattle.labels.specs.Reading.{held}
use Rattle.labels.proofs.Behind.{kind_is, block_read, block_refused}
use Rattle.labels.proofs.read.parse.parse.Goals as goal
use Rattle.labels.proofs.read.parse.parse.Goals.{else-are_lawful-via-then-are_lawful+else-allows, else-are_lawful-via-else-are_lawful}

pub returns-then-allows : goal.returns-then-allows
returns-then-allows c =
    let k = c.in_ok-kind.kind in
    let there = ap (option_map held) (sym c.in_ok-parts.ensures.ok_part) ∙ c.of.ensures in
    ap Ok c.labelled.ensures
    ∙ block_read c.args.block.now k (kind_is _ k c.in_ok-kind.ensures) (held c.in_ok-parts.parts) there
    (sym c.if-are_lawful.ensures)
    (ap (count_fits k) (sym c.count.ensures) ∙ sym c.if-allows.ensures)

pub returns-else-are_lawful : goal.returns-else-are_lawful
returns-else-are_lawful c =
    let k = c.in_ok-kind.kind in
    let p = held c.in_ok-parts.parts in
    let there = ap (option_map held) (sym c.in_ok-parts.ensures.ok_part) ∙ c.of.ensures in
    let refused = block_refused c.args.block.now k (kind_is _ k c.in_ok-kind.ensures) p there in
    elim c.else-are_lawful.branch [
      | else-are_lawful-via-then-are_lawful+else-allows w ↦ refused (and_right (lawful_parts p) _ (ap (count_fits k) (sym w.count.ensures) ∙ sym w.if-allows.ensures))
      | else-are_lawful-via-else-are_lawful w ↦ refused (and_left _ (count_fits k (number p.count)) (sym w.if-are_lawful.ensures))
    ]
