use Rattle.std.proofs.Common.{false, ◌++◌, length, replicate, vec_items, sym, refl, ap, ◌∙◌, subst, arith}
use Rattle.line_text.specs.Layout.{HeadInside, HeadPlaced, blank_span}
use Rattle.line.specs.declared.line_transport.Head.{Head}
use Rattle.line.proofs.Fresh.{Blank, all_blank}
use Rattle.line.proofs.line_transport.LineTransport.erase.Goals as goal
use Rattle.line.proofs.line_transport.LineTransport.erase.Goals.{After-put_blanks}

blank : (c : After-put_blanks) → let x = c.args.self.now in Blank x.settings.tracks x.settings.volumes x.settings.marker (vec_items c.clear.new.self) (vec_items c.put_blanks.new.spans)
blank c =
    let x = c.args.self.now in
    all_blank _ _ _ _ _ c.clear.ensures.items (c.put_blanks.ensures.items ∙ ap (λ l. l ++ replicate x.settings.tracks blank_span) c.clear-2.ensures.items) x.lawful.some_track x.lawful.some_volume x.lawful.late

pub invariant_of-self : goal.invariant_of-self
invariant_of-self c =
    let x = c.args.self.now in
    let spans = vec_items c.put_blanks.new.spans in
    let b = blank (goal.at.invariant_of-self c).After-put_blanks in
    let first = sym c.start_of-self.ensures in
    record {
      whole = b.laid.whole;
      placed = b.laid.placed;
      propers = b.laid.propers;
      sound = b.sound;
      ending = b.head.0;
      behind = b.behind;
      there = b.there;
      inside = subst (λ (h : Head). HeadInside spans h.at h.item) first b.head;
      reached = subst (λ (h : Head). HeadPlaced x.settings.tracks (vec_items c.clear.new.self) spans h.at h.item h.pos) first b.reached;
      unmarked = b.unmarked;
      lawful = x.lawful;
      whole_volumes = b.whole;
      mounted = b.volumes;
      text_memory = omega (arith, x.text_memory, c.clear.ensures.capacity);
      in_room = omega (arith, ap length c.clear.ensures.items);
      span_memory = omega (arith, x.span_memory, c.clear-2.ensures.capacity, c.put_blanks.ensures.capacity);
    }

pub returns-clause-becomes : goal.returns-clause-becomes
returns-clause-becomes c =
    let x = c.args.self.now in
    let b = blank (goal.at.returns-clause-becomes c).After-put_blanks in
    let head = c.start_of-self.ensures in
    record { tape = λ i. record { tracks = x.settings.tracks; image = b.image i; at = (head i).at; item = (head i).item; left = b.left i; failed = false }; settings = refl }
