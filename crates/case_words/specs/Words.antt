-- The words for what a transport answers. Assumes nothing.
use Rattle.std.specs.Prelude.{ℕ, Bool, true, false, List, ◌++◌, Result, Ok, Err, codes}
use Rattle.std.specs.Fmt.{decimal}
use Rattle.tape.specs.declared.status.Status.{Status}
use Rattle.tape.specs.declared.transport.Fault.{Fault}
use Rattle.tape.specs.Faults.{fault_word}
use Rattle.case_words.specs.declared.answer.Answer.{Answer}

abbrev pub yes_word : Bool → List ℕ
yes_word true = codes "yes"
yes_word false = codes "no"

-- the word for what was done, or the fault's
abbrev pub word_by : {R : Type 0} → (R → List ℕ) → Result R Fault → List ℕ
word_by word (Ok r) = word r
word_by word (Err fault) = fault_word fault

abbrev pub answer_word : Answer → List ℕ
answer_word answer = word_by (λ word. word.now) answer.0

abbrev pub marker_word : Bool → List ℕ
marker_word true = codes "marker"
marker_word false = codes "taken"

abbrev pub there_word : Bool → List ℕ
there_word true = codes "there"
there_word false = codes "none"

abbrev pub written_word : Result Bool Fault → List ℕ
written_word r = word_by marker_word r

abbrev pub moved_word : Result (Unit {0}) Fault → List ℕ
moved_word r = word_by (λ _. codes "done") r

abbrev pub found_word : Result Bool Fault → List ℕ
found_word r = word_by there_word r

-- all that a status tells but the place
abbrev pub status_words : Status → List ℕ
status_words s =
    codes "tracks=" ++ decimal s.tracks ++ codes " marked=" ++ yes_word s.marked ++
    codes " failed=" ++ yes_word s.failed ++ codes " items=" ++ yes_word s.recorded
