use Rattle.std.proofs.Common.{◌≡◌, ◌<◌, ◌≤◌, cond, eqb, ◌++◌, length, get_or, vec_items, sym, ap, append-nil, ◌∙◌, arith}
use Rattle.std.proofs.lemmas.List.{at_drop_all}
use Rattle.tape.specs.Tape.{Tape, blank_track, head_to}
use Rattle.line.specs.Meaning.{line_tape}
use Rattle.inspection.specs.declared.totals.Totals.{Totals}
use Rattle.inspection.specs.Amounts.{sum, together, totals_of}
use Rattle.inspection.specs.Account.{track_lines, tracks_lines, all_totals, with_items}
use Rattle.inspection.proofs.Summed.{tracks_more, totals_more, count_more}
use Rattle.inspection.proofs.walk.Walk.put_tracks.Goals as goal

pub loop-k-preserved : goal.loop-k-preserved
loop-k-preserved c =
    let t = line_tape c.args.self.now.tape in
    let k = c.loop-k.k in
    let inv = c.loop-k.invariant in
    let put = c.in_ok-put_track.ensures in
    let inside : k < length t.image = omega (arith, c.all_tracks-k-end.ensures, c.loop-k-test.true) in
    let tape : line_tape c.put_track.new.self.tape ≡ head_to t k (length (get_or t.image k blank_track).items) = put.tape ∙ ap (λ (v : Tape). head_to v k (length (get_or v.image k blank_track).items)) inv.tape in
    let lines = put.lines ∙ ap (λ (v : Tape). vec_items c.loop-k.self.out ++ track_lines v.tracks k (get_or v.image k blank_track)) inv.tape in
    let totals = put.totals ∙ ap (λ (v : Tape). totals_of (get_or v.image k blank_track).items) inv.tape in record {
      tape = tape ∙ (λ i. head_to t (sym tape i).at (sym tape i).item);
      lines = tracks_more t.tracks k t.image (vec_items c.loop-k.self.out) _ _ inside lines inv.lines;
      totals = totals_more k t.image c.loop-k.sums.totals _ _ inside (c.with_track-sums.ensures.totals ∙ ap (together c.loop-k.sums.totals) totals) inv.totals;
      tracks = count_more k t.image c.loop-k.sums.tracks _ _ inside (c.with_track-sums.ensures.tracks ∙ ap (λ (v : Totals). cond (eqb v.items 0) c.loop-k.sums.tracks (sum c.loop-k.sums.tracks 1)) totals) inv.tracks;
    }

pub returns : goal.returns
unfolding tracks_lines all_totals with_items
returns c =
    let t = line_tape c.args.self.now.tape in
    let out = vec_items c.loop-k.self.out in
    let inv = c.loop-k.invariant in
    let k = c.loop-k.k in
    let past : length t.image ≤ k = omega (arith, c.loop-k-test.false, c.all_tracks-k-end.ensures) in record {
      lines = sym (at_drop_all (λ xs. out ++ tracks_lines t.tracks k xs) t.image k past ∙ append-nil out) ∙ inv.lines;
      totals = sym (at_drop_all (all_totals c.loop-k.sums.totals) t.image k past) ∙ inv.totals;
      tracks = sym (at_drop_all (with_items c.loop-k.sums.tracks) t.image k past) ∙ inv.tracks;
    }
