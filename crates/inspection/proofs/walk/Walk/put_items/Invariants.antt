use Rattle.std.proofs.Common.{◌≡◌, ◌-◌, ◌≤◌, ◌++◌, length, drop, vec_items}
use Rattle.tape.specs.Tape.{here, head_to}
use Rattle.line.specs.Meaning.{line_tape}
use Rattle.inspection.specs.Amounts.{totals_from, totals_of}
use Rattle.inspection.specs.Account.{item_lines}
use Rattle.inspection.proofs.walk.Walk.put_items.Given as goal

-- what is put, with the lines of the items still to come, is the whole
abbrev pub invariant-loop-more : goal.invariant-loop-more
invariant-loop-more l =
    let t = line_tape l.initial.self.tape in
    let is = (here t).items in
    let n = (line_tape l.self.tape).item in record {
      tape : line_tape l.self.tape ≡ head_to t t.at n;
      inside : n ≤ length is;
      lines : vec_items l.self.out ++ item_lines t.tracks t.at n (drop n is) ≡ vec_items l.initial.self.out ++ item_lines t.tracks t.at 0 is;
      totals : totals_from l.totals (drop n is) ≡ totals_of is;
    }

abbrev pub decreases-loop-more : goal.decreases-loop-more
decreases-loop-more l = length (here (line_tape l.initial.self.tape)).items - (line_tape l.self.tape).item
