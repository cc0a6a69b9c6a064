use Rattle.std.proofs.Common.{◌≡◌, ℕ, ◌<◌, ◌≤◌, true, cond, List, length, take, drop, Some, None, vec_items, Option, sym, ap, ◌∙◌, subst, arith, length-drop, le-leb}
use Rattle.std.specs.Prelude.{MatchOption, is_some}
use Rattle.std.proofs.lemmas.List.{take_rest}
use Rattle.tape.specs.Tape.{Tape, fresh}
use Rattle.line_text.specs.Lines.{item_in}
use Rattle.line.specs.declared.settings.Settings.{Settings}
use Rattle.line.specs.Meaning.{line_tape, settings_of}
use Rattle.line.specs.Taken.{track_named, lawful_line, lines_taken, rewound, taken}
use Rattle.line.specs.Steps.{Took}
use Rattle.line.proofs.Scan.{no_line, all_lines, next_lines}
use Rattle.line.proofs.line_transport.LineTransport.take_lines.Goals as goal
use Rattle.line.proofs.line_transport.LineTransport.take_lines.Goals.{After-take_line}

in_room : (s : Settings) (text : List ℕ) (o : Option Tape) → length text ≤ s.room → lines_taken (length text) s.volumes (fresh s.tracks s.volumes) text ≡ o → taken s text ≡ rewound o
in_room s text o h e = ap (λ b. cond b (rewound (lines_taken (length text) s.volumes (fresh s.tracks s.volumes) text)) None) (le-leb (length text) s.room h) ∙ ap rewound e

-- what is left of the source, and what was taken of it
abbrev left : After-take_line → List ℕ
left c = drop (length (vec_items c.loop-self.self.text)) c.args.source.now

took : (c : After-take_line) → let y = c.loop-self.self in Took y c.take_line.new.self (lawful_line y.settings.volumes (line_tape y) (left c)) (track_named y.settings.tracks (left c)) (item_in (left c)) c.take_line.result
took c =
    let y = c.loop-self.self in
    let source = c.args.source.now in
    let line = take_rest source c.len-from.result ∙ ap (λ n. drop n source) (c.len-from.ensures ∙ y.text.ok.0) in
    subst (λ bs. Took y c.take_line.new.self (lawful_line y.settings.volumes (line_tape y) bs) (track_named y.settings.tracks bs) (item_in bs) c.take_line.result) line c.take_line.ensures

unread : (c : After-take_line) → length (vec_items c.loop-self.self.text) < length c.args.source.now
unread c = omega (arith, c.len.ensures, c.loop-self.self.text.ok.0, c.loop-self-test.true)

-- one line more: the text is longer by it, and the rest gives what it gave before
moved : (c : After-take_line) → is_some c.take_line.result ≡ true → let y = c.loop-self.self in let z = c.take_line.new.self in let s = settings_of c.args.self.now in let rest = drop (length (vec_items z.text)) c.args.source.now in (length (vec_items y.text) < length (vec_items z.text)) × (lines_taken (length rest) s.volumes (line_tape z) rest ≡ lines_taken (length (left c)) s.volumes (line_tape y) (left c)) × (vec_items z.text ≡ take (length (vec_items z.text)) c.args.source.now)
moved c some =
    let y = c.loop-self.self in
    let z = c.take_line.new.self in
    let t = took c in
    let lawful = sym t.told ∙ some in
    let lays = t.lays lawful in
    let n = next_lines y.settings.volumes (line_tape y) (line_tape z) (vec_items y.text) (vec_items z.text) c.args.source.now (unread c) c.loop-self.invariant.text lawful lays.tape lays.text in
    let rest = drop (length (vec_items z.text)) c.args.source.now in
    (n.0, subst (λ (s : Settings). lines_taken (length rest) s.volumes (line_tape z) rest ≡ lines_taken (length (left c)) s.volumes (line_tape y) (left c)) c.loop-self.invariant.settings n.2, n.3)

pub loop-self-smaller : goal.loop-self-smaller
loop-self-smaller c =
    let d = (goal.at.loop-self-smaller c).After-take_line in
    omega (arith, (moved d (ap is_some c.in_ok-take_line.was)).0, unread d)

pub loop-self-preserved : goal.loop-self-preserved
loop-self-preserved c =
    let d = (goal.at.loop-self-preserved c).After-take_line in
    let inv = c.loop-self.invariant in
    let some = ap is_some c.in_ok-take_line.was in
    let m = moved d some in
    let t = took d in
    record {
      last = (t.lays (sym t.told ∙ some)).last;
      settings = t.settings ∙ inv.settings;
      room = inv.room;
      same = m.1 ∙ inv.same;
      text = m.2;
    }

pub returns-in_err-take_line-clause-tape : goal.returns-in_err-take_line-clause-tape
returns-in_err-take_line-clause-tape c =
    let d = (goal.at.returns-in_err-take_line-clause-tape c).After-take_line in
    let inv = c.loop-self.invariant in
    let s = settings_of c.args.self.now in
    let t = took d in
    let bad = sym t.told ∙ ap is_some c.in_err-take_line.was in
    let y = c.loop-self.self in
    let none = no_line y.settings.volumes (line_tape y) (left d) (omega (arith, length-drop (length (vec_items y.text)) c.args.source.now, unread d)) bad in
    let all = in_room s c.args.source.now None inv.room (sym inv.same ∙ subst (λ (s : Settings). lines_taken (length (left d)) s.volumes (line_tape y) (left d) ≡ None) inv.settings none) in
    subst (λ (r : Option (Unit {0})). MatchOption r (taken s c.args.source.now ≡ None) (λ _. taken s c.args.source.now ≡ rewound (Some (line_tape c.take_line.new.self)))) (sym c.from_residual.ensures) all

pub returns-clause-tape : goal.returns-clause-tape
returns-clause-tape c =
    let inv = c.loop-self.invariant in
    let source = c.args.source.now in
    let y = c.loop-self.self in
    let rest = drop (length (vec_items y.text)) source in
    let none : length rest ≡ 0 = omega (arith, length-drop (length (vec_items y.text)) source, c.len.ensures, y.text.ok.0, c.loop-self-test.false) in
    in_room (settings_of c.args.self.now) source (Some (line_tape y)) inv.room (sym inv.same ∙ all_lines (settings_of c.args.self.now).volumes (line_tape y) rest none)
