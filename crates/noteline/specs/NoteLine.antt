-- THE LINE OF A NOTE, Ask 8: "one record a line, fields parted by tabs, numbers decimal without leading zeros". Every definition is total. Assumes nothing.
use Rattle.std.specs.Prelude.{cond, ◌&&◌, List, [], ◌∷◌, ℕ, ltb, length, Option, Some, None}
use Rattle.wire.specs.Wire.{part, pad, joined}
use Rattle.text.specs.Text.{number_of, decimal_of}
use Rattle.text.specs.Lines.{head_to, tail_after, ended}
use Rattle.notes.specs.declared.Note.{Note}

abbrev pub tab : List ℕ
tab = 9 ∷ []

abbrev pub feed : List ℕ
feed = 10 ∷ []

-- tablet, number, hours, text, and the line feed
abbrev pub line_parts : Note → List (List ℕ)
line_parts x = decimal_of x.tablet ∷ tab ∷ decimal_of x.number ∷ tab ∷ decimal_of x.hours ∷ tab ∷ part x.text 0 x.len ∷ feed ∷ []

unfoldable pub line_of : Note → List ℕ
line_of x = joined (line_parts x)

-- READ. A note of these values
abbrev pub note_with : ℕ → ℕ → ℕ → List ℕ → Note
note_with t n h w = record { tablet = t; number = n; hours = h; len = length w; text = pad 60 w }

-- where they fit their places; whether it is good is another question
unfoldable pub held : ℕ → ℕ → ℕ → List ℕ → Option Note
held t n h w = cond (ltb t 256 && (ltb n 65536 && ltb (length w) 61)) (Some (note_with t n h w)) None

-- where the three numbers are there
unfoldable pub valued : Option ℕ → Option ℕ → Option ℕ → List ℕ → Option Note
valued None n h w = None
valued (Some t) None h w = None
valued (Some t) (Some n) None w = None
valued (Some t) (Some n) (Some h) w = held t n h w

-- the fields of a line: before the first tab, the second, the third, and all the rest, which has no tab in it where the note is good; a field that is missing is
-- empty, and so neither a number nor a good text
unfoldable pub fields_of : List ℕ → Option Note
fields_of l =
    let l₂ = tail_after 9 l in
    let l₃ = tail_after 9 l₂ in
    valued (number_of (head_to 9 l)) (number_of (head_to 9 l₂)) (number_of (head_to 9 l₃)) (tail_after 9 l₃)

-- the note of the line that a text begins with; a line without its line feed is no note
unfoldable pub note_at : List ℕ → Option Note
note_at s = cond (ended s) (fields_of (head_to 10 s)) None
