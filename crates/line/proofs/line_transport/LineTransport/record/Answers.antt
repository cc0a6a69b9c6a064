use Rattle.std.proofs.Common.{◌≡◌, sym, ap, ◌∙◌, subst}
use Rattle.tape.specs.Items.{item_of}
use Rattle.line_text.specs.declared.span.Span.{Span}
use Rattle.line_text.specs.Layout.{is_marked}
use Rattle.line_text.specs.Spans.{span_after}
use Rattle.line.specs.Meaning.{line_tape}
use Rattle.line.specs.Steps.{Fits, with_item}
use Rattle.line.proofs.Facts.{head_span}
use Rattle.line.proofs.Recorded.{new_span, fits_now, met_now, tape_now}
use Rattle.line.proofs.line_transport.LineTransport.record.Goals as goal
use Rattle.line.proofs.line_transport.LineTransport.record.Goals.{After-with_one_more-span}

span_is : (c : After-with_one_more-span) → c.with_one_more-span.result ≡ new_span c.args.self.now (item_of c.args.item) c.requires.applies
span_is c =
    let x = c.args.self.now in
    c.with_one_more-span.ensures ∙ ap (λ (s : Span). span_after s c.len.result x.settings.marker) c.span.ensures ∙ ap (λ n. span_after (head_span x) n x.settings.marker) (c.len.ensures ∙ x.text.ok.0)

pub put_item-requires : goal.put_item-requires
put_item-requires c =
    let x = c.args.self.now in
    let i = item_of c.args.item in
    record { fits = subst (Fits x x.head.at i) (sym (span_is (goal.at.put_item-requires c).After-with_one_more-span)) (fits_now x i c.requires.applies); room = c.requires.room }

pub returns : goal.returns
returns c =
    let x = c.args.self.now in
    let i = item_of c.args.item in
    let s = span_is (goal.at.returns c).After-with_one_more-span in
    record {
      answer = c.marked.ensures ∙ ap is_marked s ∙ met_now x i c.requires.applies;
      becomes = record { tape = c.put_item.ensures.becomes.tape ∙ ap (with_item (line_tape x) x.head.at i) s ∙ tape_now x i c.requires.applies; settings = c.put_item.ensures.becomes.settings };
    }
