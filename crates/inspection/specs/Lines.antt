-- The lines of the settings and of the totals. Assumes nothing.
use Rattle.std.specs.Prelude.{ℕ, List, [], ◌∷◌, ◌++◌, codes}
use Rattle.inspection.specs.declared.totals.Totals.{Totals}
use Rattle.inspection.specs.Pieces.{numbered}

abbrev pub line_end : List ℕ
line_end = 10 ∷ []

-- settings tracks=2 volumes=01 text=0000001234
abbrev pub settings_line : ℕ → ℕ → ℕ → List ℕ
settings_line tracks volumes bytes =
    codes "settings" ++ (numbered (codes " tracks=") 1 tracks ++ (numbered (codes " volumes=") 2 volumes ++ (numbered (codes " text=") 10 bytes ++ line_end)))

--  items=00012 blocks=00007 marks=00005 bytes=00000300
abbrev pub counts_text : Totals → ℕ → ℕ → List ℕ
counts_text t width wide =
    numbered (codes " items=") width t.items
    ++ (numbered (codes " blocks=") width t.blocks
    ++ (numbered (codes " marks=") width t.marks ++ (numbered (codes " bytes=") wide t.bytes ++ line_end)))

-- track vol=01 track=1, and the totals of the track
abbrev pub track_line : ℕ → ℕ → Totals → List ℕ
track_line volume track t = numbered (codes "track vol=") 2 volume ++ (numbered (codes " track=") 1 track ++ counts_text t 5 8)

-- total tracks=02, and the totals of them all
abbrev pub total_line : ℕ → Totals → List ℕ
total_line tracks t = codes "total" ++ (numbered (codes " tracks=") 2 tracks ++ counts_text t 7 10)
