use Rattle.std.proofs.Common.{◌≡◌, ◌+◌, ◌-◌, ◌*◌, ◌/◌, ◌%◌, ◌≤◌, ◌++◌, length, replicate, vec_items, sym, refl, ap, ◌∙◌, subst, arith}
use lib.ListN.{length-map}
use Rattle.tape.specs.Tape.{blank_track}
use Rattle.line_text.specs.Layout.{track_of, image_of}
use Rattle.line_text.proofs.Blanks.{image_with_blanks}
use Rattle.line.specs.Taken.{grown}
use Rattle.line.proofs.Longer.{longer, laid_more, sound_more, unmarked_more, behind_more, there_more, head_more, reached_more}
use Rattle.line.proofs.Volumes.{Grown, grown_count}
use Rattle.line.proofs.line_transport.LineTransport.grow_to.Goals as goal
use Rattle.line.proofs.line_transport.LineTransport.grow_to.Goals.{After-saturating_sub-more}

-- the number of blank tracks to add
added : (c : After-saturating_sub-more) → c.saturating_sub-more.result ≡ (c.args.k / c.args.self.now.settings.tracks + 1) * c.args.self.now.settings.tracks - length (vec_items c.args.self.now.spans)
added c = c.saturating_sub-more.ensures ∙ ap (λ n. (c.args.k / c.args.self.now.settings.tracks + 1) * c.args.self.now.settings.tracks - n) (c.len.ensures ∙ c.args.self.now.spans.ok.0)

after : (c : After-saturating_sub-more) → Grown c.args.self.now.settings.tracks (length (vec_items c.args.self.now.spans)) c.args.self.now.settings.volumes c.args.k (length (vec_items c.args.self.now.spans) + c.saturating_sub-more.result)
after c =
    let x = c.args.self.now in
    grown_count x.settings.tracks (length (vec_items x.spans)) x.settings.volumes c.args.k _ _ x.lawful.some_track x.whole_volumes x.mounted c.requires refl (ap (λ n. length (vec_items x.spans) + n) (added c))

pub put_blanks-requires : goal.put_blanks-requires
put_blanks-requires c =
    let x = c.args.self.now in
    omega (arith, (after (goal.at.put_blanks-requires c).After-saturating_sub-more).within, x.span_memory)

pub invariant_of-self : goal.invariant_of-self
invariant_of-self c =
    let x = c.args.self.now in
    let n = c.saturating_sub-more.result in
    let spans = vec_items c.put_blanks.new.spans in
    let is = c.put_blanks.ensures.items in
    let grown_now = after (goal.at.invariant_of-self c).After-saturating_sub-more in
    let same = longer x n spans is in
    let laid = laid_more x n spans is in
    let whole : length spans % x.settings.tracks ≡ 0 = ap (λ m. m % x.settings.tracks) same ∙ grown_now.whole in
    let few : length spans / x.settings.tracks ≤ x.settings.volumes = subst (λ m. m / x.settings.tracks ≤ x.settings.volumes) (sym same) grown_now.volumes in
    record {
      whole = laid.whole;
      placed = laid.placed;
      propers = laid.propers;
      sound = sound_more x n spans is;
      ending = omega (arith, same, x.ending);
      behind = behind_more x n spans is;
      there = there_more x n spans is;
      inside = head_more x n spans is;
      reached = reached_more x n spans is;
      unmarked = unmarked_more x n spans is;
      lawful = x.lawful;
      whole_volumes = whole;
      mounted = few;
      text_memory = x.text_memory;
      in_room = x.in_room;
      span_memory = omega (arith, x.span_memory, c.put_blanks.ensures.capacity);
    }

pub returns-clause-becomes : goal.returns-clause-becomes
returns-clause-becomes c =
    let x = c.args.self.now in
    let text = vec_items x.text in
    let spans = vec_items x.spans in
    let d = (goal.at.returns-clause-becomes c).After-saturating_sub-more in
    let n : c.saturating_sub-more.result ≡ (c.args.k / x.settings.tracks + 1) * x.settings.tracks - length (image_of text spans) = added d ∙ ap (λ m. (c.args.k / x.settings.tracks + 1) * x.settings.tracks - m) (sym (length-map spans (track_of text))) in
    let image : image_of text (vec_items c.put_blanks.new.spans) ≡ grown x.settings.tracks c.args.k (image_of text spans) = ap (image_of text) c.put_blanks.ensures.items ∙ image_with_blanks text spans c.saturating_sub-more.result ∙ ap (λ m. image_of text spans ++ replicate m blank_track) n in
    let left : x.settings.volumes - length (vec_items c.put_blanks.new.spans) / x.settings.tracks ≡ x.settings.volumes - length (grown x.settings.tracks c.args.k (image_of text spans)) / x.settings.tracks = ap (λ m. x.settings.volumes - m / x.settings.tracks) (sym (length-map (vec_items c.put_blanks.new.spans) (track_of text)) ∙ ap length image) in
    record { tape = λ j. record { tracks = x.settings.tracks; image = image j; at = x.head.at; item = x.head.item; left = left j; failed = x.failed }; settings = refl }
