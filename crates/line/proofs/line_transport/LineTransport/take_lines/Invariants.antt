use Rattle.std.proofs.Common.{◌≡◌, ◌-◌, ◌≤◌, length, take, drop, vec_items}
use Rattle.tape.specs.Tape.{fresh}
use Rattle.line.specs.Meaning.{line_tape, settings_of}
use Rattle.line.specs.Taken.{lines_taken}
use Rattle.line.proofs.line_transport.LineTransport.take_lines.Given as goal

-- the lines that are left, on the tape so far, give what the whole text gives
abbrev pub invariant-loop-self : goal.invariant-loop-self
invariant-loop-self l =
    let s = settings_of l.fn.self in
    let left = drop (length (vec_items l.self.text)) l.source in
    record {
      last : l.self.last ≡ l.self.head.at;
      settings : settings_of l.self ≡ s;
      room : length l.source ≤ s.room;
      same : lines_taken (length left) s.volumes (line_tape l.self) left ≡ lines_taken (length l.source) s.volumes (fresh s.tracks s.volumes) l.source;
      text : vec_items l.self.text ≡ take (length (vec_items l.self.text)) l.source;
    }

abbrev pub decreases-loop-self : goal.decreases-loop-self
decreases-loop-self l = length l.source - length (vec_items l.self.text)
