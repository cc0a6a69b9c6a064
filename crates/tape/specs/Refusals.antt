-- What a refusal tells: its number, its layer and its place. Assumes nothing.
use Rattle.std.specs.Prelude.{ℕ, List, ◌++◌, codes}
use Rattle.std.specs.Fmt.{decimal}
use Rattle.tape.specs.declared.place.Place.{Place}
use Rattle.tape.specs.declared.refusal.Reason.{Reason}
use Rattle.tape.specs.declared.refusal.Reason.TheVariants.{BlockSize, Unlawful, ShortBuffer, Missing, MarkOutOfPlace, BlockOutOfPlace, BadLabel, LabelDisagrees, CountDisagrees, DoesNotFit, EmptyFile, NoRoomForFile, SectionFull, NoVolume, Ended, TransportFailed, VolumeAwaited, CatalogueFull}
use Rattle.tape.specs.declared.refusal.Layer.{Layer}
use Rattle.tape.specs.declared.refusal.Layer.TheVariants.{Transport, Label, Structure}
use Rattle.tape.specs.declared.refusal.Refusal.{Refusal}
use Rattle.tape.specs.declared.refusal.SetupError.{SetupError}
use Rattle.tape.specs.declared.refusal.SetupError.TheVariants.{Refused, NoMemory}

abbrev pub reason_number : Reason → ℕ
reason_number BlockSize = 1
reason_number Unlawful = 2
reason_number ShortBuffer = 3
reason_number Missing = 4
reason_number MarkOutOfPlace = 5
reason_number BlockOutOfPlace = 6
reason_number BadLabel = 7
reason_number LabelDisagrees = 8
reason_number CountDisagrees = 9
reason_number DoesNotFit = 10
reason_number EmptyFile = 11
reason_number NoRoomForFile = 12
reason_number SectionFull = 13
reason_number NoVolume = 14
reason_number Ended = 15
reason_number TransportFailed = 16
reason_number VolumeAwaited = 17
reason_number CatalogueFull = 18

abbrev pub reason_layer : Reason → Layer
reason_layer BlockSize = Structure
reason_layer Unlawful = Label
reason_layer ShortBuffer = Structure
reason_layer Missing = Structure
reason_layer MarkOutOfPlace = Structure
reason_layer BlockOutOfPlace = Structure
reason_layer BadLabel = Label
reason_layer LabelDisagrees = Label
reason_layer CountDisagrees = Label
reason_layer DoesNotFit = Structure
reason_layer EmptyFile = Structure
reason_layer NoRoomForFile = Structure
reason_layer SectionFull = Structure
reason_layer NoVolume = Structure
reason_layer Ended = Structure
reason_layer TransportFailed = Transport
reason_layer VolumeAwaited = Structure
reason_layer CatalogueFull = Structure

-- what to look at
abbrev pub reason_words : Reason → List ℕ
reason_words BlockSize = codes "a block must have 1 to 256 bytes"
reason_words Unlawful = codes "a field or a setting is unlawful, or the text is not whole items in order"
reason_words ShortBuffer = codes "the buffer is shorter than the block: give one of 256 bytes"
reason_words Missing = codes "an item, a track or a volume is missing: the set may be cut short"
reason_words MarkOutOfPlace = codes "a tape mark stands where a block must be"
reason_words BlockOutOfPlace = codes "a block stands where a tape mark must be"
reason_words BadLabel = codes "a label is not 32 bytes long, is unlawful, or is of a wrong kind here"
reason_words LabelDisagrees = codes "a label disagrees with its header, its volume or the order of sections"
reason_words CountDisagrees = codes "the count of a trailer is not the number of blocks in front of it"
reason_words DoesNotFit = codes "the call does not fit the state, as a block before its file is begun"
reason_words EmptyFile = codes "a Basic file must have a block before it is ended"
reason_words NoRoomForFile = codes "the last track has met its marker, so no Basic file can begin on it"
reason_words SectionFull = codes "a Compact section has 9999 blocks and takes no more"
reason_words NoVolume = codes "no volume is left that can be mounted"
reason_words Ended = codes "the set is closed, or reading has come to its end"
reason_words TransportFailed = codes "the transport failed: what it had recorded stays"
reason_words VolumeAwaited = codes "a volume is awaited: mount it before any other call"
reason_words CatalogueFull = codes "the catalogue has no free entry"

abbrev pub layer_name : Layer → List ℕ
layer_name Transport = codes "transport"
layer_name Label = codes "label"
layer_name Structure = codes "structure"

-- the words of its reason, and its place
abbrev pub refusal_words : Refusal → List ℕ
refusal_words r =
    reason_words r.reason
    ++ (codes ", at volume " ++ (decimal r.place.volume ++ (codes ", track " ++ (decimal r.place.track ++ (codes ", item " ++ decimal r.place.item)))))

-- why a transport could not be made
abbrev pub setup_words : SetupError → List ℕ
setup_words (Refused r) = refusal_words r
setup_words NoMemory = codes "no memory"

-- the place where there is no transport
abbrev pub no_place : Place
no_place = record { volume = 0; track = 0; item = 0 }

abbrev pub nowhere : Reason → Refusal
nowhere r = record { reason = r; place = no_place }
