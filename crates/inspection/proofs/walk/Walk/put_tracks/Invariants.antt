use Rattle.std.proofs.Common.{◌≡◌, ◌++◌, drop, vec_items}
use Rattle.tape.specs.Tape.{head_to}
use Rattle.line.specs.Meaning.{line_tape}
use Rattle.inspection.specs.Amounts.{no_totals}
use Rattle.inspection.specs.Account.{tracks_lines, all_totals, with_items}
use Rattle.inspection.proofs.walk.Walk.put_tracks.Given as goal

-- what is put and summed, with the tracks still to come, is the whole
abbrev pub invariant-loop-k : goal.invariant-loop-k
invariant-loop-k l =
    let t = line_tape l.initial.self.tape in
    let left = drop l.k t.image in record {
      tape : line_tape l.self.tape ≡ head_to t (line_tape l.self.tape).at (line_tape l.self.tape).item;
      lines : vec_items l.self.out ++ tracks_lines t.tracks l.k left ≡ vec_items l.initial.self.out ++ tracks_lines t.tracks 0 t.image;
      totals : all_totals l.sums.totals left ≡ all_totals no_totals t.image;
      tracks : with_items l.sums.tracks left ≡ with_items 0 t.image;
    }
