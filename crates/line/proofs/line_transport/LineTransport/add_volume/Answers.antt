use Rattle.std.proofs.Common.{◌≡◌, ◌+◌, ◌-◌, ◌/◌, ◌%◌, ◌<◌, length, vec_items, sym, refl, ap, ◌∙◌, subst, arith}
use lib.ListN.{length-map}
use Rattle.line_text.specs.Layout.{HeadInside, HeadPlaced, track_of, image_of}
use Rattle.line_text.proofs.Blanks.{image_with_blanks}
use Rattle.line.specs.declared.line_transport.Head.{Head}
use Rattle.line.proofs.Longer.{longer, laid_more, sound_more, unmarked_more, behind_more, there_more, blank_first}
use Rattle.line.specs.declared.line_transport.LineTransport.{LineTransport}
use Rattle.line.specs.Meaning.{volumes_left}
use Rattle.line.proofs.Volumes.{OneMore, one_more}
use Rattle.line.proofs.line_transport.LineTransport.add_volume.Goals as goal

-- the tracks that there are then
more : (x : LineTransport) → 0 < volumes_left x → let N = length (vec_items x.spans) in OneMore x.settings.tracks x.settings.volumes N (N + x.settings.tracks)
more x some = one_more _ _ _ _ x.lawful.some_track x.whole_volumes some refl

pub put_blanks-requires : goal.put_blanks-requires
put_blanks-requires c = let x = c.args.self.now in omega (arith, x.span_memory, (more x c.requires).within)

pub invariant_of-self : goal.invariant_of-self
invariant_of-self c =
    let x = c.args.self.now in
    let spans = vec_items c.put_blanks.new.spans in
    let is = c.put_blanks.ensures.items in
    let first : record { at = length (vec_items x.spans); item = 0; pos = 0 } ≡ c.start_of-self.result = ap (λ n. record { at = n; item = 0; pos = 0 }) (sym (c.len.ensures ∙ x.spans.ok.0)) ∙ sym c.start_of-self.ensures in
    let laid = laid_more x x.settings.tracks spans is in
    let long = longer x x.settings.tracks spans is in
    let now = more x c.requires in
    record {
      whole = laid.whole;
      placed = laid.placed;
      propers = laid.propers;
      sound = sound_more x x.settings.tracks spans is;
      ending = omega (arith, long, x.ending);
      behind = behind_more x x.settings.tracks spans is;
      there = there_more x x.settings.tracks spans is;
      inside = subst (λ (h : Head). HeadInside spans h.at h.item) first (omega (arith, long, x.lawful.some_track), omega arith);
      reached = subst (λ (h : Head). HeadPlaced x.settings.tracks (vec_items x.text) spans h.at h.item h.pos) first (λ some. absurd (omega (arith, some, blank_first x x.settings.tracks spans is)));
      unmarked = unmarked_more x x.settings.tracks spans is;
      lawful = x.lawful;
      whole_volumes = ap (λ n. n % x.settings.tracks) long ∙ now.whole;
      mounted = omega (arith, ap (λ n. n / x.settings.tracks) long, now.volumes);
      text_memory = x.text_memory;
      in_room = x.in_room;
      span_memory = omega (arith, x.span_memory, c.put_blanks.ensures.capacity);
    }

pub returns : goal.returns
returns c =
    let x = c.args.self.now in
    let tracks = image_of (vec_items x.text) in
    let first : c.start_of-self.result ≡ record { at = length (tracks (vec_items x.spans)); item = 0; pos = 0 } = c.start_of-self.ensures ∙ ap (λ n. record { at = n; item = 0; pos = 0 }) (c.len.ensures ∙ x.spans.ok.0 ∙ sym (length-map (vec_items x.spans) (track_of (vec_items x.text)))) in
    let image = ap tracks c.put_blanks.ensures.items ∙ image_with_blanks (vec_items x.text) (vec_items x.spans) x.settings.tracks in
    let left = ap (λ n. x.settings.volumes - n / x.settings.tracks) (longer x x.settings.tracks (vec_items c.put_blanks.new.spans) c.put_blanks.ensures.items) ∙ (more x c.requires).left in
    record { tape = λ i. record { tracks = x.settings.tracks; image = image i; at = (first i).at; item = (first i).item; left = left i; failed = x.failed }; settings = refl }
