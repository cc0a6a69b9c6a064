-- The law of the interface, for a line transport: its invariant makes its tape sound. Assumes nothing.
use Rattle.std.proofs.Common.{◌≡◌, ℕ, suc, ◌%◌, ◌<◌, true, List, [], ◌∷◌, length, drop, vec_items, slice_index_or, ap, ◌∙◌, arith}
use Rattle.std.proofs.lemmas.List.{length-map, get_or-map}
use Rattle.tape.specs.Sound.{all_proper, Sound, SoundTrack, EveryTrack}
use Rattle.tape.specs.Tape.{Track, blank_track, here}
use Rattle.line_text.specs.declared.span.Span.{Span}
use Rattle.line_text.specs.Layout.{blank_span, span_items, track_of, image_of, sound_span}
use Rattle.line_text.specs.Facts.{sound_facts, length_items_in}
use Rattle.line.specs.declared.line_transport.LineTransport.{LineTransport}
use Rattle.line.specs.Meaning.{line_tape}

-- the head's track has the items that its span counts
pub here_count : (x : LineTransport) → length (here (line_tape x)).items ≡ (slice_index_or (vec_items x.spans) x.head.at blank_span).count
here_count x =
    let text = vec_items x.text in
    let s = slice_index_or (vec_items x.spans) x.head.at blank_span in
    ap (λ (t : Track). length t.items) (get_or-map (track_of text) (vec_items x.spans) x.head.at blank_span blank_track x.inside.0)
    ∙ length_items_in s.count (drop s.start text)

-- a sound span's track is sound
sound_track : (text : List ℕ) (s : Span) → sound_span s ≡ true → all_proper (span_items text s) ≡ true → SoundTrack (track_of text s)
sound_track text s h p =
    let f = sound_facts s h in
    let n = length_items_in s.count (drop s.start text) in
    record {
      blocks = p;
      few = omega (arith, f.few, n);
      unmarked = λ e. let u = f.unmarked e in (omega (arith, u.0, n), u.1);
      marked = λ e. let m = f.marked e in (omega (arith, m.0, n), m.1, omega (arith, m.2, n));
    }

every_from : (text : List ℕ) (spans : List Span) → ((k : ℕ) → k < length spans → SoundTrack (track_of text (slice_index_or spans k blank_span))) → EveryTrack (image_of text spans)
every_from text [] h = tt
every_from text (s ∷ spans) h = (h 0 (omega arith), every_from text spans (λ k l. h (suc k) (omega arith)))

pub sound_of : (x : LineTransport) → Sound (line_tape x)
sound_of x =
    let text = vec_items x.text in
    let spans = vec_items x.spans in
    let n = length-map spans (track_of text) in
    record {
      some_track = x.lawful.some_track;
      few_tracks = x.lawful.few_tracks;
      whole_volumes = ap (λ m. m % x.settings.tracks) n ∙ x.whole_volumes;
      few_volumes = rw n (omega (arith, x.mounted, x.lawful.few_volumes));
      head_track = omega (arith, n, x.inside.0);
      head_item = omega (arith, here_count x, x.inside.1);
      every_track = every_from text spans (λ k h. sound_track text (slice_index_or spans k blank_span) (x.sound k h) (x.propers k h));
    }
