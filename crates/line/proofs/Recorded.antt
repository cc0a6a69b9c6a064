-- A line transport after one more item. Assumes nothing.
use Rattle.std.proofs.Common.{◌≡◌, ℕ, suc, ◌<◌, ◌≤◌, Bool, true, false, cond, ◌&&◌, ◌||◌, eqb, ltb, leb, List, [], ◌∷◌, ◌++◌, length, set, vec_items, sym, refl, ap, ◌∙◌, ltb-true, eqb-true, leb-true}
use Rattle.std.proofs.lemmas.Bool.{and_parts}
use Rattle.tape.specs.Items.{Item, proper, short}
use Rattle.tape.specs.Tape.{Track, here, at_end, takes, recorded, written, writes_after}
use Rattle.line_text.specs.declared.span.Span.{Span}
use Rattle.line_text.specs.Layout.{is_marked, taken_since}
use Rattle.line_text.specs.Spans.{span_after}
use Rattle.line_text.specs.Facts.{SoundSpan, sound_facts}
use Rattle.line_text.proofs.Counts.{sound_from, count_after, since_after, sound_after, early_after, marked_after}
use Rattle.line.specs.declared.line_transport.LineTransport.{LineTransport}
use Rattle.line.specs.Meaning.{line_tape, line_choice}
use Rattle.line.specs.Steps.{Fits, with_item}
use Rattle.line.specs.Sound.{here_count}
use Rattle.line.proofs.Facts.{head_span, here_of, end_of}

room_behind : (m : Bool) (since : ℕ) (b : Bool) → cond m (ltb since writes_after && b) true ≡ true → m ≡ true → since < writes_after
room_behind true since b h e = ltb-true since writes_after (and_parts (ltb since writes_after) b h).0
room_behind false since b h e = absurd cc

module _ (x : LineTransport) (i : Item) (applies : (at_end (line_tape x) && takes (here (line_tape x)) i) ≡ true) where
  abbrev old : Span
  old = head_span x

  abbrev text : List ℕ
  text = vec_items x.text

  abbrev pub new_span : Span
  new_span = span_after old (length text) x.settings.marker

  ends : (x.head.item ≡ old.count) × (x.last ≤ x.head.at)
  ends =
      let e = sym (end_of x) ∙ (and_parts (at_end (line_tape x)) (takes (here (line_tape x)) i) applies).0 in
      let p = and_parts (eqb x.head.item old.count) (leb x.last x.head.at) e in
      (eqb-true x.head.item old.count p.0, leb-true x.last x.head.at p.1)

  taken : (proper i && cond (is_marked old) (ltb (taken_since old) writes_after && short i) true) ≡ true
  taken = sym (ap (λ (t : Track). takes t i) (here_of x)) ∙ (and_parts (at_end (line_tape x)) (takes (here (line_tape x)) i) applies).1

  room : is_marked old ≡ true → taken_since old < writes_after
  room = room_behind (is_marked old) (taken_since old) (short i) (and_parts (proper i) _ taken).1

  sound_old : SoundSpan old
  sound_old = sound_facts old (x.sound x.head.at x.inside.0)

  early : is_marked old ≡ false → old.count < x.settings.marker
  early = x.unmarked x.head.at x.inside.0

  pub fits_now : Fits x x.head.at i new_span
  fits_now = record {
    inside = x.inside.0;
    last = ends.1;
    proper_item = (and_parts (proper i) _ taken).0;
    counts = count_after old (length text) x.settings.marker x.lawful.late x.lawful.early sound_old early;
    starts = refl;
    sound = sound_from new_span (sound_after old (length text) x.settings.marker x.lawful.late x.lawful.early sound_old early room);
    early = early_after old (length text) x.settings.marker x.lawful.late x.lawful.early sound_old early;
  }

  -- the marker is met as the rules have it
  pub met_now : is_marked new_span ≡ (recorded (line_choice x i) (here (line_tape x)) i).marked
  met_now =
      marked_after old (length text) x.settings.marker x.lawful.late x.lawful.early sound_old early ∙ ap (λ n. is_marked old || (leb 60000 (suc n) || (leb 3 (suc n) && eqb (suc n) x.settings.marker))) (sym (here_count x)) ∙ ap (λ (t : Track). t.marked || (leb 60000 (suc (length (here (line_tape x)).items)) || (leb 3 (suc (length (here (line_tape x)).items)) && eqb (suc (length (here (line_tape x)).items)) x.settings.marker))) (sym (here_of x))

  since_now : taken_since new_span ≡ (recorded (line_choice x i) (here (line_tape x)) i).since
  since_now = since_after old (length text) x.settings.marker x.lawful.late x.lawful.early sound_old early ∙ ap (λ (t : Track). cond t.marked (suc t.since) t.since) (sym (here_of x))

  pub tape_now : with_item (line_tape x) x.head.at i new_span ≡ written (line_choice x i) (line_tape x) i
  tape_now =
      let t = line_tape x in
      let item : suc (length (here t).items) ≡ suc x.head.item = ap suc (here_count x ∙ sym ends.0) in
      λ j. record { tracks = t.tracks; image = set t.image t.at (record { items = (here t).items ++ i ∷ []; marked = met_now j; since = since_now j }); at = t.at; item = item j; left = t.left; failed = t.failed }
