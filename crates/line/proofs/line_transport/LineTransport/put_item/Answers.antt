use Rattle.std.proofs.Common.{◌≡◌, ◌+◌, ◌-◌, ◌/◌, ◌%◌, List, ◌++◌, length, set, vec_items, sym, refl, ap, ◌∙◌, subst, arith, length-set}
use Rattle.tape.specs.declared.place.Place.{Place}
use Rattle.tape.specs.Items.{item_of}
use Rattle.line_text.specs.declared.span.Span.{Span}
use Rattle.line_text.specs.Lines.{line}
use Rattle.line_text.specs.Layout.{HeadPlaced, tape_in}
use Rattle.line_text.proofs.Laid.{Laid}
use Rattle.line.proofs.Put.{added, laid_now, sound_now, unmarked_now, behind_now, there_now, inside_now, placed_now, length_now, line_is, tape_is}
use Rattle.line.proofs.line_transport.LineTransport.put_item.Goals as goal
use Rattle.line.proofs.line_transport.LineTransport.put_item.Goals.{After-put_line}

-- the text as the code leaves it
text_is : (c : After-put_line) → vec_items c.put_line.new.text ≡ vec_items c.args.self.now.text ++ added c.args.self.now c.args.k (item_of c.args.item)
text_is c =
    let x = c.args.self.now in
    c.put_line.ensures.puts.items ∙ ap (λ (p : Place). vec_items x.text ++ line p.volume p.track p.item (item_of c.args.item)) c.place_of-place.ensures ∙ ap (λ n. vec_items x.text ++ line (c.args.k / x.settings.tracks + 1) (c.args.k % x.settings.tracks + 1) n (item_of c.args.item)) c.requires.fits.counts

pub invariant_of-self : goal.invariant_of-self
invariant_of-self c =
    let x = c.args.self.now in
    let k = c.args.k in
    let i = item_of c.args.item in
    let s = c.args.span in
    let f = c.requires.fits in
    let sm = c.put_line.ensures.bytes in
    let e = text_is (goal.at.invariant_of-self c).After-put_line in
    let t = sym e in
    let spans : List Span = set (vec_items x.spans) k s in
    let laid : Laid x.settings.tracks (vec_items c.put_line.new.text) spans = subst (λ l. Laid x.settings.tracks l spans) t (laid_now x k i s f sm) in
    let pos : length (vec_items x.text ++ added x k i) ≡ c.len.result = ap length t ∙ sym c.put_line.new.text.ok.0 ∙ sym c.len.ensures in
    let reached : HeadPlaced x.settings.tracks (vec_items c.put_line.new.text) spans k s.count c.len.result = subst (λ p. HeadPlaced x.settings.tracks (vec_items c.put_line.new.text) spans k s.count p) pos (subst (λ l. HeadPlaced x.settings.tracks l spans k s.count (length (vec_items x.text ++ added x k i))) t (placed_now x k i s f sm s.count f.counts)) in
    let head = inside_now x k i s f sm s.count f.counts in
    let same = length-set (vec_items x.spans) k s in
    record {
      whole = laid.whole;
      placed = laid.placed;
      propers = laid.propers;
      sound = sound_now x k i s f sm;
      ending = head.0;
      behind = behind_now x k i s f sm;
      there = there_now x k i s f sm;
      inside = head;
      reached = reached;
      unmarked = unmarked_now x k i s f sm;
      lawful = x.lawful;
      whole_volumes = ap (λ m. m % x.settings.tracks) same ∙ x.whole_volumes;
      mounted = omega (arith, ap (λ m. m / x.settings.tracks) same, x.mounted);
      text_memory = omega (arith, x.text_memory, c.put_line.ensures.puts.capacity);
      in_room = omega (arith, ap length e, length_now x k i s f sm, c.requires.room);
      span_memory = x.span_memory;
    }

pub returns : goal.returns
returns c =
    let x = c.args.self.now in
    let k = c.args.k in
    let i = item_of c.args.item in
    let s = c.args.span in
    let f = c.requires.fits in
    let sm = c.put_line.ensures.bytes in
    let t = text_is (goal.at.returns c).After-put_line in
    record {
      becomes = record { tape = (λ j. tape_in x.settings.tracks (t j) (set (vec_items x.spans) k s) k s.count (x.settings.volumes - length-set (vec_items x.spans) k s j / x.settings.tracks) x.failed) ∙ tape_is x k i s f sm; settings = refl };
      text = t ∙ ap (λ l. vec_items x.text ++ l) (line_is x k i s f sm);
      last = refl;
    }
