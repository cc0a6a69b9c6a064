use Rattle.std.proofs.Common.{◌≡◌, length, Ok, Err, MatchResult, sym, ap, ◌∙◌}
use Rattle.std.proofs.lemmas.Result.{err_from_is_err_and}
use Rattle.tape.specs.declared.refusal.Refusal.{Refusal}
use Rattle.tape.specs.declared.refusal.SetupError.TheVariants.{Refused}
use Rattle.line.specs.declared.settings.Settings.{Settings}
use Rattle.line.specs.Meaning.{line_tape}
use Rattle.line.specs.Taken.{taken, outcome}
use Rattle.inspection.specs.Account.{reading_settings}
use Rattle.inspection.proofs.Works.{took, turned_down, taken_works, account_taken}
use Rattle.inspection.proofs.account.tape_of.Goals as goal
use Rattle.inspection.proofs.account.tape_of.Goals.{After-take}

-- the take, by the settings of the account
answered : (c : After-take) → (c.take.result, line_tape c.take.new.self) ≡ outcome (reading_settings c.args.tracks (length c.args.text.now)) (taken (reading_settings c.args.tracks (length c.args.text.now)) c.args.text.now)
answered c = c.take.ensures.outcome ∙ ap (λ (s : Settings). outcome s (taken s c.args.text.now)) c.in_ok-tape.ensures.2

pub returns-in_err-map_err : goal.returns-in_err-map_err
returns-in_err-map_err c =
    let s = reading_settings c.args.tracks (length c.args.text.now) in
    let text = c.args.text.now in
    let p = err_from_is_err_and c.from_residual-in_err-map_err.result c.from_residual-in_err-map_err.ensures.1 in
    let m : MatchResult c.take.result (λ x. Err c.in_err-map_err.field-0.0 ≡ Ok x) (λ (e : Refusal). c.in_err-map_err.field-0.0 ≡ Refused e) = c.in_err-map_err.ensures.cases in
    let d = turned_down s (taken s text) c.take.result _ _ (answered (goal.at.returns-in_err-map_err c).After-take) m in
    rw (p.1, p.2, d.1) (account_taken c.args.tracks text _ c.in_ok-tape.ensures.0 d.0)

pub returns : goal.returns
returns c =
    let s = reading_settings c.args.tracks (length c.args.text.now) in
    let text = c.args.text.now in
    let t = took s (taken s text) c.take.result _ (sym c.in_ok-map_err.ensures.variant) (answered (goal.at.returns c).After-take) in
    (account_taken c.args.tracks text _ c.in_ok-tape.ensures.0 t, taken_works s text _ t)
