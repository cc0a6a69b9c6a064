use Rattle.std.proofs.Common.{◌≡◌, true, false, ◌++◌, length, replicate, vec_items, sym, refl, ap, ◌∙◌, subst, arith}
use Rattle.std.proofs.lemmas.Bool.Decides.{nat_tests}
use Rattle.line_text.specs.Layout.{HeadInside, HeadPlaced, blank_span}
use Rattle.line.specs.declared.line_transport.Head.{Head}
use Rattle.line.specs.declared.settings.Settings.{Settings}
use Rattle.line.specs.Settings.{lawful_settings, Lawful}
use Rattle.line.proofs.Fresh.{Blank, all_blank}
use Rattle.line.proofs.line_transport.LineTransport.new.Goals as goal
use Rattle.line.proofs.line_transport.LineTransport.new.Goals.{After-put_blanks}

lawful : (s : Settings) → lawful_settings s ≡ true → Lawful s
lawful s h = record {
  some_track = grind (arith, nat_tests);
  few_tracks = grind (arith, nat_tests);
  some_volume = grind (arith, nat_tests);
  few_volumes = grind (arith, nat_tests);
  late = grind (arith, nat_tests);
  early = grind (arith, nat_tests);
}

fair : (c : After-put_blanks) → lawful_settings c.args.settings ≡ true
fair c = sym c.is_lawful.ensures ∙ c.if-not-is_lawful.false

blank : (c : After-put_blanks) → let x = c.args.settings in Blank x.tracks x.volumes x.marker (vec_items c.in_ok-text.text) (vec_items c.put_blanks.new.spans)
blank c =
    let x = c.args.settings in
    let l = lawful x (fair c) in
    all_blank _ _ _ _ _ c.in_ok-text.ensures.items (c.put_blanks.ensures.items ∙ ap (λ l. l ++ replicate x.tracks blank_span) c.in_ok-spans.ensures.items) l.some_track l.some_volume l.late

pub invariant_of-result : goal.invariant_of-result
invariant_of-result c =
    let x = c.args.settings in
    let spans = vec_items c.put_blanks.new.spans in
    let d = (goal.at.invariant_of-result c).After-put_blanks in
    let b = blank d in
    let l = lawful x (fair d) in
    let first = sym c.start_of.ensures in
    record {
      whole = b.laid.whole;
      placed = b.laid.placed;
      propers = b.laid.propers;
      sound = b.sound;
      ending = b.head.0;
      behind = b.behind;
      there = b.there;
      inside = subst (λ (h : Head). HeadInside spans h.at h.item) first b.head;
      reached = subst (λ (h : Head). HeadPlaced x.tracks (vec_items c.in_ok-text.text) spans h.at h.item h.pos) first b.reached;
      unmarked = b.unmarked;
      lawful = l;
      whole_volumes = b.whole;
      mounted = b.volumes;
      text_memory = c.in_ok-text.ensures.capacity;
      in_room = omega (arith, ap length c.in_ok-text.ensures.items);
      span_memory = omega (arith, c.in_ok-spans.ensures.capacity, c.put_blanks.ensures.capacity);
    }

pub returns : goal.returns
returns c =
    let x = c.args.settings in
    let d = (goal.at.returns c).After-put_blanks in
    let b = blank d in
    let head = c.start_of.ensures in
    (fair d, (λ i. record { tracks = x.tracks; image = b.image i; at = (head i).at; item = (head i).item; left = b.left i; failed = false }), refl)
