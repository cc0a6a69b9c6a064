use Rattle.std.proofs.Common.{vec_items, sym, ap, ◌∙◌, subst, add-zero}
use Rattle.line_text.specs.declared.span.Span.{Span}
use Rattle.line_text.specs.Layout.{lines_of, HeadPlaced}
use Rattle.line.specs.declared.line_transport.Head.{Head}
use Rattle.line.proofs.line_transport.LineTransport.head_to_track.Goals as goal

pub invariant_of-self-clause-reached : goal.invariant_of-self-clause-reached
unfolding lines_of
invariant_of-self-clause-reached c =
    let x = c.args.self.now in
    subst (λ (h : Head). HeadPlaced x.settings.tracks (vec_items x.text) (vec_items x.spans) h.at h.item h.pos) (sym c.start_of-self.ensures) (λ some. ap (λ (s : Span). s.start) c.span.ensures ∙ sym (add-zero _))
