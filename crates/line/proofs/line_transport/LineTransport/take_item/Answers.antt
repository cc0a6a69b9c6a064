use Rattle.std.proofs.Common.{◌≡◌, suc, ◌+◌, ◌*◌, ◌/◌, ◌%◌, ◌<◌, ◌≤◌, ◌&&◌, ltb, leb, ◌++◌, length, get_or, take, drop, vec_items, sym, refl, ap, ◌∙◌, subst, arith, drop_at, ltb-true, leb-false, leb-true}
use Rattle.std.specs.Prelude.{is_some}
use Rattle.std.specs.Str.{bytes_eq}
use Rattle.std.proofs.lemmas.Bool.{and_parts}
use Rattle.std.proofs.lemmas.Bool.Decides.{Decides-eqb}
use Rattle.std.proofs.lemmas.List.{take_rest}
use Rattle.std.proofs.lemmas.Slice.Eq.{slice_eq-Decides}
use Rattle.tape.specs.Items.{item_of}
use Rattle.tape.specs.Tape.{Tape, Track, blank_track, most_items}
use Rattle.line_text.specs.Lines.{line_size}
use Rattle.line_text.specs.Spans.{recorded_span}
use Rattle.line_text.proofs.Blanks.{read_with_more}
use Rattle.line_text.proofs.OneLine.{length_line}
use Rattle.line.specs.Meaning.{line_tape}
use Rattle.line.specs.Taken.{laid_there, line_on}
use Rattle.line.specs.Steps.{Fits, with_item}
use Rattle.line.proofs.Compare.{begins_is, too_short, same_line, told_then, not_taken}
use Rattle.line.proofs.Laying.{laid_span, fits_there}
use Rattle.line.proofs.line_transport.LineTransport.take_item.Goals as goal
use Rattle.line.proofs.line_transport.LineTransport.take_item.Goals.{After-with_one_recorded-span, After-put_item}

pub returns-then-not-fits : goal.returns-then-not-fits
returns-then-not-fits c =
    let x = c.args.self.now in
    let i = item_of c.args.item in
    let short : length c.args.line.now < line_size i = leb-false (line_size i) (length c.args.line.now) (sym c.if-not-fits.ensures) in
    not_taken (too_short c.args.line.now (line_on (line_tape x) c.args.k i) (omega (arith, short, length_line (c.args.k / x.settings.tracks + 1) (c.args.k % x.settings.tracks + 1) (suc (length (get_or (line_tape x).image c.args.k blank_track).items)) i))) refl

span_is : (c : After-with_one_recorded-span) → c.with_one_recorded-span.result ≡ laid_span c.grow_to.new.self c.args.k
span_is c =
    let y = c.grow_to.new.self in
    c.with_one_recorded-span.ensures ∙ (λ j. recorded_span (c.span.ensures j) ((c.len-end.ensures ∙ y.text.ok.0) j))

pub put_item-requires-clause-fits : goal.put_item-requires-clause-fits
put_item-requires-clause-fits c =
    let x = c.args.self.now in
    let y = c.grow_to.new.self in
    let k = c.args.k in
    let i = item_of c.args.item in
    let p = and_parts (ltb k (x.settings.volumes * x.settings.tracks) && leb x.head.at k) _ c.requires.goes in
    let on : x.head.at ≤ k = leb-true x.head.at k (and_parts (ltb k (x.settings.volumes * x.settings.tracks)) (leb x.head.at k) p.0).1 in
    let few : length (get_or (line_tape x).image k blank_track).items < most_items = ltb-true _ most_items p.1 in
    let few_now = subst (λ (t : Tape). length (get_or t.image k blank_track).items < most_items) (sym c.grow_to.ensures.becomes.tape) (subst (λ (r : Track). length r.items < most_items) (sym (read_with_more (line_tape x).image blank_track _ k)) few) in
    subst (Fits y k i) (sym (span_is (goal.at.put_item-requires-clause-fits c).After-with_one_recorded-span)) (fits_there y k i c.grow_to.ensures.inside (omega (arith, c.grow_to.ensures.last, c.requires.awaits.last, on)) few_now c.requires.item)

-- the text ends with the new line
text_is : (c : After-put_item) → vec_items c.put_item.new.self.text ≡ vec_items c.args.self.now.text ++ line_on (line_tape c.args.self.now) c.args.k (item_of c.args.item)
text_is c =
    let x = c.args.self.now in
    let i = item_of c.args.item in
    c.put_item.ensures.text ∙ (λ j. c.grow_to.ensures.text j ++ line_on (c.grow_to.ensures.becomes.tape j) c.args.k i) ∙ ap (λ l. vec_items x.text ++ l) (same_line x.settings.volumes (line_tape x) c.args.k i)

pub returns : goal.returns
returns c =
    let x = c.args.self.now in
    let y = c.grow_to.new.self in
    let i = item_of c.args.item in
    let text = text_is (goal.at.returns c).After-put_item in
    let l = line_on (line_tape x) c.args.k i in
    let end : length (vec_items x.text) ≡ c.len-end.result = sym (c.len-end.ensures ∙ y.text.ok.0 ∙ ap length c.grow_to.ensures.text) in
    let rest = take_rest c.deref.result.now c.len-end.result ∙ ap (drop c.len-end.result) (c.deref.ensures.value ∙ text) ∙ drop_at (vec_items x.text) l c.len-end.result end in
    let begins = begins_is c.args.line.now _ c.starts_with.result (slice_eq-Decides Decides-eqb _ _ _ c.starts_with.ensures.value) in
    let tape = c.put_item.ensures.becomes.tape ∙ ap (with_item (line_tape y) c.args.k i) (span_is (goal.at.returns c).After-with_one_recorded-span) ∙ ap (λ (t : Tape). laid_there t c.args.k i) c.grow_to.ensures.becomes.tape in
    record {
      told = ap is_some c.then_some.ensures ∙ told_then c.starts_with.result ∙ begins ∙ ap (λ f. bytes_eq (take (length f) c.args.line.now) f) rest;
      lays = λ e. record { tape = tape; text = text; last = c.put_item.ensures.last ∙ sym (ap (λ (t : Tape). t.at) tape) };
      settings = c.put_item.ensures.becomes.settings ∙ c.grow_to.ensures.becomes.settings;
    }
