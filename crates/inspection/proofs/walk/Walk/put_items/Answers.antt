use Rattle.std.proofs.Common.{◌≡◌, suc, ◌++◌, length, drop, Some, None, vec_items, Option, sym, ap, ◌∙◌, subst₂, arith}
use Rattle.std.proofs.lemmas.List.{drop_all}
use Rattle.tape.specs.Tape.{Tape, here, head_to, next_item}
use Rattle.line.specs.Meaning.{line_tape}
use Rattle.inspection.specs.declared.totals.Totals.{Totals}
use Rattle.inspection.specs.Amounts.{totals_from}
use Rattle.inspection.specs.Account.{item_lines}
use Rattle.inspection.specs.Walked.{NextPut}
use Rattle.inspection.proofs.Gave.{put_none, put_some, left_more, left_none, lines_more, lines_none}
use Rattle.inspection.proofs.walk.Walk.put_items.Goals as goal

pub loop-more-preserved : goal.loop-more-preserved
loop-more-preserved c =
    let t = line_tape c.args.self.now.tape in
    let n = (line_tape c.loop-more.self.tape).item in
    let is = (here t).items in
    let out = vec_items c.loop-more.self.out in
    let new = vec_items c.put_next.new.self.out in
    let u = line_tape c.put_next.new.self.tape in
    let inv = c.loop-more.invariant in
    let put : NextPut (head_to t t.at n) out c.loop-more.totals (next_item (head_to t t.at n)) (Some c.in-Some.more) u new = subst₂ (λ (v : Tape) (o : Option Totals). NextPut v out c.loop-more.totals (next_item v) o u new) inv.tape c.in-Some.is c.in_ok-more.ensures in
    let p = put_some (head_to t t.at n) _ _ _ _ _ _ put in
    let left = left_more is n p.0 p.1 in
    let next : suc n ≡ (line_tape c.put_next.new.self.tape).item = sym (ap (λ (v : Tape). v.item) p.3) in record {
      tape = p.3 ∙ ap (head_to t t.at) next;
      inside = omega (arith, left.0, next);
      lines = ap (λ k. new ++ item_lines t.tracks t.at k (drop k is)) (sym next) ∙ lines_more t.tracks t.at n p.0 (drop (suc n) is) out new _ p.4 (sym (ap (λ l. out ++ item_lines t.tracks t.at n l) left.1) ∙ inv.lines);
      totals = ap (λ k. totals_from c.in-Some.more (drop k is)) (sym next) ∙ ap (λ (d : Totals). totals_from d (drop (suc n) is)) p.2 ∙ sym (ap (totals_from c.loop-more.totals) left.1) ∙ inv.totals;
    }

pub returns : goal.returns
returns c =
    let t = line_tape c.args.self.now.tape in
    let n = (line_tape c.loop-more.self.tape).item in
    let is = (here t).items in
    let out = vec_items c.loop-more.self.out in
    let new = vec_items c.put_next.new.self.out in
    let u = line_tape c.put_next.new.self.tape in
    let inv = c.loop-more.invariant in
    let put : NextPut (head_to t t.at n) out c.loop-more.totals (next_item (head_to t t.at n)) None u new = subst₂ (λ (v : Tape) (o : Option Totals). NextPut v out c.loop-more.totals (next_item v) o u new) inv.tape c.in_default.is c.in_ok-more.ensures in
    let p = put_none (head_to t t.at n) _ _ _ _ _ put in
    let past = left_none is n p.0 in
    let end : n ≡ length is = omega (arith, past, inv.inside) in
    let none = drop_all n is past in record {
      lines = p.2 ∙ lines_none t.tracks t.at n (drop n is) out _ none inv.lines;
      totals = sym (ap (totals_from c.loop-more.totals) none) ∙ inv.totals;
      tape = p.1 ∙ ap (head_to t t.at) end;
    }
