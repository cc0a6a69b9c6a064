use Rattle.std.proofs.Common.{◌≡◌, ℕ, suc, List, ◌++◌, take, Some, None, vec_items, Option, sym, refl, ap, ◌∙◌, subst}
use Rattle.tape.specs.Items.{Item, block, kind_of, item_of}
use Rattle.tape.specs.Tape.{Tape, next_item, head_to, head_place}
use Rattle.line.specs.Meaning.{line_tape}
use Rattle.line.specs.Sound.{sound_of}
use Rattle.inspection.specs.declared.totals.Totals.{Totals}
use Rattle.inspection.specs.Amounts.{counted}
use Rattle.inspection.specs.Items.{item_line}
use Rattle.inspection.specs.Walked.{NextPut}
use Rattle.inspection.proofs.Gave.{next_fits, gave_none, gave_some, is_mark, is_block}
use Rattle.inspection.proofs.walk.Walk.put_next.Goals as goal
use Rattle.inspection.proofs.walk.Walk.put_next.Goals.{in-Mark, in-Block}

-- the step at an item
stepped : (t : Tape) (out new : List ℕ) (c d : Totals) (o : Option Item) (u : Tape) (i : Item) → o ≡ Some i → d ≡ counted c (kind_of i) → u ≡ head_to t t.at (suc t.item) → new ≡ out ++ item_line (head_place t) i → NextPut t out c o (Some d) u new
stepped t out new c d o u i e p q r = subst (λ (m : Option Item). NextPut t out c m (Some d) u new) (sym e) (ap Some p, q, r)

pub returns-in_default : goal.returns-in_default
returns-in_default c =
    let x = c.args.self.now.tape in
    let t = line_tape x in
    let out = vec_items c.args.self.now.out in
    let g = gave_none t _ c.args.self.now.works (next_item t) _ _ _ (λ i. next_fits t _ i (sound_of x) refl) c.in_default.ensures.exact in
    subst (λ (m : Option Item). NextPut t out c.args.totals m None (line_tape c.read.new.self) out) (sym g.0) (refl, g.1, refl)

pub returns : goal.returns
returns c =
    let x = c.args.self.now.tape in
    let t = line_tape x in
    let out = vec_items c.args.self.now.out in
    let g = gave_some t _ c.args.self.now.works (next_item t) c.in-Ok.kind _ _ (λ i. next_fits t _ i (sound_of x) refl) c.in-Ok.ensures.exact in
    let both : (item_of c.match-kind.item ≡ g.0) × (c.match-kind.kind ≡ kind_of g.0) =
    elim c.match-kind.branch [
      | in-Mark w ↦ (ap item_of w.item-is ∙ sym (is_mark g.0 (g.2 ∙ w.in-Mark.is)), w.kind-is ∙ sym g.2)
      | in-Block w ↦ (ap item_of w.item-is ∙ ap (λ b. block (take w.in-Block.size b)) g.3 ∙ sym (is_block g.0 w.in-Block.size _ (g.2 ∙ w.in-Block.is)), w.kind-is ∙ sym (g.2 ∙ w.in-Block.is))
    ] in
    stepped t out _ c.args.totals _ (next_item t) _ g.0 g.1 (c.with.ensures ∙ ap (counted c.args.totals) both.1) g.4 (c.in_ok-tell.ensures ∙ (λ j. out ++ item_line (c.place-place.ensures j) (both.0 j)))
