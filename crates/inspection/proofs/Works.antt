-- What the answer of a take says of the text. Assumes nothing.
use Rattle.std.proofs.Common.{◌≡◌, ℕ, zero, suc, Bool, true, false, cond, leb, List, [], ◌∷◌, length, drop, MatchResult, Some, None, Ok, Err, Option, Result, sym, refl, ap, ◌∙◌}
use Rattle.std.specs.Result.{is_ok}
use Rattle.tape.specs.declared.refusal.Refusal.{Refusal}
use Rattle.tape.specs.declared.refusal.SetupError.{SetupError}
use Rattle.tape.specs.declared.refusal.SetupError.TheVariants.{Refused}
use Rattle.tape.specs.declared.refusal.Reason.TheVariants.{Unlawful}
use Rattle.tape.specs.Refusals.{nowhere}
use Rattle.tape.specs.Tape.{Tape, fresh, head_to}
use Rattle.line_text.specs.Lines.{item_in}
use Rattle.line.specs.declared.settings.Settings.{Settings}
use Rattle.line.specs.Settings.{lawful_settings}
use Rattle.inspection.specs.Account.{account_by, reading_settings, account_of}
use Rattle.line.specs.Taken.{track_named, laid, line_on, lawful_line, lines_taken, rewound, taken, outcome}

same : (t u : Tape) → Some t ≡ Some u → u.failed ≡ t.failed
same t u e = cc

-- taking lines does not make a tape fail
keeps : (n volumes : ℕ) (t u : Tape) (bs : List ℕ) → lines_taken n volumes t bs ≡ Some u → u.failed ≡ t.failed
unfolding lines_taken
keeps zero volumes t u [] e = same t u e
keeps zero volumes t u (b ∷ bs) e = absurd (cc)
keeps (suc n) volumes t u [] e = same t u e
keeps (suc n) volumes t u (b ∷ bs) e =
    let k = track_named t.tracks (b ∷ bs) in
    let i = item_in (b ∷ bs) in
    let left = drop (length (line_on t k i)) (b ∷ bs) in
    by_line (lawful_line volumes t (b ∷ bs)) (lines_taken n volumes (laid volumes t k i) left) t u (keeps n volumes (laid volumes t k i) u left) e
  where
    by_line : (q : Bool) (rest : Option Tape) (v w : Tape) → (rest ≡ Some w → w.failed ≡ v.failed) → cond q rest None ≡ Some w → w.failed ≡ v.failed
    by_line true rest v w f h = f h
    by_line false rest v w f h = absurd (cc)

in_room : (q : Bool) (o : Option Tape) (t : Tape) → cond q (rewound o) None ≡ Some t → (u : Tape) × (o ≡ Some u) × (t.failed ≡ u.failed)
in_room true (Some u) t e = (u, refl, same (head_to u 0 0) t e)
in_room true None t e = absurd (cc)
in_room false o t e = absurd (cc)

-- a tape that was taken works
pub taken_works : (s : Settings) (text : List ℕ) (t : Tape) → taken s text ≡ Some t → t.failed ≡ false
taken_works s text t e =
    let r = in_room (leb (length text) s.room) (lines_taken (length text) s.volumes (fresh s.tracks s.volumes) text) t e in
    r.2 ∙ keeps (length text) s.volumes (fresh s.tracks s.volumes) r.0 text r.1

-- the answer tells whether there is a tape, or the one refusal that a text can meet
pub took : (s : Settings) (o : Option Tape) (r : Result (Unit {0}) Refusal) (t : Tape) → is_ok r ≡ true → (r, t) ≡ outcome s o → o ≡ Some t
took s (Some u) r t k e = ap Some (sym (ap (λ (p : Result (Unit {0}) Refusal × Tape). p.1) e))
took s None (Ok x) t k e = let w : Ok x ≡ Err (nowhere Unlawful) = ap (λ (p : Result (Unit {0}) Refusal × Tape). p.0) e in absurd (cc)
took s None (Err d) t k e = absurd (cc)

pub turned_down : (s : Settings) (o : Option Tape) (r : Result (Unit {0}) Refusal) (t : Tape) (f : SetupError) → (r, t) ≡ outcome s o → MatchResult r (λ x. Err f ≡ Ok x) (λ e. f ≡ Refused e) → (o ≡ None) × (f ≡ Refused (nowhere Unlawful))
turned_down s (Some u) (Ok x) t f e m = absurd (cc)
turned_down s (Some u) (Err d) t f e m = let w : Err d ≡ Ok tt = ap (λ (p : Result (Unit {0}) Refusal × Tape). p.0) e in absurd (cc)
turned_down s None (Ok x) t f e m = absurd (cc)
turned_down s None (Err d) t f e m = let w : Err d ≡ Err (nowhere Unlawful) = ap (λ (p : Result (Unit {0}) Refusal × Tape). p.0) e in (refl, (cc))

-- the account, by what was taken
pub account_taken : (tracks : ℕ) (text : List ℕ) (o : Option Tape) → lawful_settings (reading_settings tracks (length text)) ≡ true → taken (reading_settings tracks (length text)) text ≡ o → account_of tracks text ≡ account_by o (length text)
account_taken tracks text o l e = rw (l, e)
