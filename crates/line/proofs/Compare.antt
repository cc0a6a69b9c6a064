-- A line compared with the one that the text has, and what comes of it. Assumes nothing.
use Rattle.std.proofs.Common.{◌≡◌, ℕ, suc, ◌+◌, ◌/◌, ◌%◌, ◌<◌, Bool, true, false, List, None, Option, length, take, Decides, sym, refl, ap, ◌∙◌, subst, arith, length-take}
use Rattle.std.specs.Prelude.{is_some}
use Rattle.std.specs.Bool.{then_some}
use Rattle.std.specs.Str.{bytes_eq}
use Rattle.std.proofs.lemmas.Slice.Eq.{bytes_eq-Decides}
use Rattle.tape.specs.Items.{Item}
use Rattle.tape.specs.Tape.{Tape, Track, blank_track}
use Rattle.line_text.specs.Lines.{line}
use Rattle.line_text.proofs.Blanks.{read_with_more}
use Rattle.line.specs.declared.line_transport.LineTransport.{LineTransport}
use Rattle.line.specs.Meaning.{settings_of}
use Rattle.line.specs.Taken.{grown_tape, line_on}
use Rattle.line.specs.Steps.{Took}

pub same_answer : (a b : Bool) → (a ≡ true → b ≡ true) → (b ≡ true → a ≡ true) → a ≡ b
same_answer true true f g = refl
same_answer true false f g = sym (f refl)
same_answer false true f g = g refl
same_answer false false f g = refl

pub begins_is : (text front : List ℕ) (r : Bool) → Decides r (front ≡ take (length front) text) → r ≡ bytes_eq (take (length front) text) front
begins_is text front r d =
    let s = bytes_eq-Decides (take (length front) text) front in
    same_answer r _ (λ e. s.1 (sym (d.0 e))) (λ e. d.1 (sym (s.0 e)))

-- a text that is too short does not begin with a line
pub too_short : (text front : List ℕ) → length text < length front → bytes_eq (take (length front) text) front ≡ false
too_short text front h =
    let s = bytes_eq-Decides (take (length front) text) front in
    same_answer _ false (λ e. let same = ap length (s.0 e) in let n = length-take (length front) text in absurd (omega arith)) (λ e. absurd cc)

-- blank tracks behind the others do not change the line of an item
pub same_line : (volumes : ℕ) (t : Tape) (k : ℕ) (i : Item) → line_on (grown_tape volumes t k) k i ≡ line_on t k i
same_line volumes t k i = ap (λ (x : Track). line (k / t.tracks + 1) (k % t.tracks + 1) (suc (length x.items)) i) (read_with_more t.image blank_track _ k)

pub told_then : (b : Bool) → is_some (then_some b (tt {0})) ≡ b
told_then true = refl
told_then false = refl

-- a line that is not lawful is not taken
pub not_taken : {x y : LineTransport} {lawful : Bool} {k : ℕ} {i : Item} → lawful ≡ false → settings_of y ≡ settings_of x → Took x y lawful k i None
not_taken e s = record { told = sym e; lays = λ t. absurd (let z : true ≡ false = sym t ∙ e in cc); settings = s }

-- what was taken, by another name for the test, the track and the item
pub took_as : {x y : LineTransport} {lawful lawful' : Bool} {k l : ℕ} {i j : Item} {answer : Option (Unit {0})} → lawful ≡ lawful' → k ≡ l → i ≡ j → Took x y lawful k i answer → Took x y lawful' l j answer
took_as {x = x} {y = y} {lawful = lawful} {lawful' = lawful'} {k = k} {l = l} {i = i} {j = j} {answer = answer} e f g t =
    subst (λ b. Took x y b l j answer) e (subst (λ m. Took x y lawful m j answer) f (subst (λ h. Took x y lawful k h answer) g t))
