-- One track more in the account. Assumes nothing.
use Rattle.std.proofs.Common.{◌≡◌, ℕ, ◌+◌, ◌<◌, cond, eqb, List, ◌++◌, length, get_or, drop, sym, ap, ◌∙◌, append_assoc, add-one}
use Rattle.std.proofs.lemmas.List.{at_drop_more}
use Rattle.tape.specs.Tape.{Track, blank_track}
use Rattle.inspection.specs.declared.totals.Totals.{Totals}
use Rattle.inspection.specs.Amounts.{sum, together, totals_of}
use Rattle.inspection.specs.Account.{track_lines, tracks_lines, all_totals, with_items}

-- a result that goes by what is left, one track on
pub tracks_more : (w k : ℕ) (image : List Track) (out new whole : List ℕ) → k < length image → new ≡ out ++ track_lines w k (get_or image k blank_track) → out ++ tracks_lines w k (drop k image) ≡ whole → new ++ tracks_lines w (k + 1) (drop (k + 1) image) ≡ whole
unfolding tracks_lines
tracks_more w k image out new whole h e inv =
    let rest = tracks_lines w (k + 1) (drop (k + 1) image) in
    ap (λ l. l ++ rest) e ∙ append_assoc out (track_lines w k (get_or image k blank_track)) rest ∙ ap (λ n. out ++ (track_lines w k (get_or image k blank_track) ++ tracks_lines w n (drop (k + 1) image))) (add-one k) ∙ sym (at_drop_more (λ xs. out ++ tracks_lines w k xs) image k blank_track h) ∙ inv

pub totals_more : (k : ℕ) (image : List Track) (t u whole : Totals) → k < length image → u ≡ together t (totals_of (get_or image k blank_track).items) → all_totals t (drop k image) ≡ whole → all_totals u (drop (k + 1) image) ≡ whole
unfolding all_totals
totals_more k image t u whole h e inv = ap (λ (v : Totals). all_totals v (drop (k + 1) image)) e ∙ sym (at_drop_more (all_totals t) image k blank_track h) ∙ inv

pub count_more : (k : ℕ) (image : List Track) (n m whole : ℕ) → k < length image → m ≡ cond (eqb (totals_of (get_or image k blank_track).items).items 0) n (sum n 1) → with_items n (drop k image) ≡ whole → with_items m (drop (k + 1) image) ≡ whole
unfolding with_items
count_more k image n m whole h e inv = ap (λ v. with_items v (drop (k + 1) image)) e ∙ sym (at_drop_more (with_items n) image k blank_track h) ∙ inv
