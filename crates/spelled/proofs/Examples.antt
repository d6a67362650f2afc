-- EXAMPLES, computed: a text that is a book, and texts that are not. Assumes nothing.
use Prim.Native.Nat.{ℕ}
use mathlib.Core.Path.{◌≡◌, refl}
use mathlib.Core.List.{List, [], ◌∷◌, ◌++◌}
use lib.ListN.{length, replicate}
use Rattle.wire.specs.Wire.{fit, put, room, part, joined, all_zero}
use Rattle.text.specs.Text.{ascii, all_of, is_digit, decimal_from, plain_decimal, fitting, number_of, digits_of, decimal_of}
use Rattle.text.specs.Lines.{length_to, head_to, tail_after, ended}
use Rattle.notes.specs.Notes.{blank, order_of, clean_of, text_good, good_of, follows}
use Rattle.noteline.specs.NoteLine.{line_of, note_with, held, valued, fields_of, note_at}
use Rattle.booktext.specs.BookText.{Book, BadAt, also, standing, or_bad, notes_from, meaning}

-- the empty text is the book of no notes
pub no_lines : meaning [] ≡ Book []
unfolding meaning notes_from
no_lines = refl

-- a line of these fields
abbrev line : List ℕ → List ℕ → List ℕ → List ℕ → List ℕ
line t n h w = t ++ (9 ∷ n) ++ (9 ∷ h) ++ (9 ∷ w) ++ (10 ∷ [])

abbrev first : List ℕ
first = line (ascii "7") (ascii "1") (ascii "1205") (ascii "oil")

abbrev second : List ℕ
second = line (ascii "7") (ascii "12") (ascii "1310") (ascii "belt, new")

-- two notes, rising
pub two_lines : meaning (first ++ second) ≡ Book (note_with 7 1 1205 (ascii "oil") ∷ note_with 7 12 1310 (ascii "belt, new") ∷ [])
unfolding meaning notes_from also standing or_bad follows good_of text_good clean_of all_zero order_of note_at ended head_to tail_after length_to fields_of valued held
    number_of fitting plain_decimal all_of is_digit decimal_from blank fit put room part
two_lines = refl

-- not rising, and the same line twice; a leading zero; a line without its line feed; a tab in the text; no text; a line of nothing
pub bad_lines : (meaning (second ++ first) ≡ BadAt 2)
    × (meaning (first ++ first) ≡ BadAt 2)
    × (meaning (line (ascii "07") (ascii "1") (ascii "1205") (ascii "oil")) ≡ BadAt 1)
    × (meaning (first ++ ascii "8") ≡ BadAt 2)
    × (meaning (line (ascii "7") (ascii "1") (ascii "1205") (111 ∷ 9 ∷ 108 ∷ [])) ≡ BadAt 1)
    × (meaning (line (ascii "7") (ascii "1") (ascii "1205") []) ≡ BadAt 1)
    × (meaning (first ++ (10 ∷ [])) ≡ BadAt 2)
unfolding meaning notes_from also standing or_bad follows good_of text_good clean_of all_zero order_of note_at ended head_to tail_after length_to fields_of valued held
    number_of fitting plain_decimal all_of is_digit decimal_from blank fit put room part
bad_lines = (refl, refl, refl, refl, refl, refl, refl)

-- the ends of the ranges: the tablet is any byte, the number 1 to 65,535, the hours 0 to 999,999
pub ends : (meaning (line (ascii "255") (ascii "65535") (ascii "999999") (ascii "a")) ≡ Book (note_with 255 65535 999999 (ascii "a") ∷ []))
    × (meaning (line (ascii "0") (ascii "1") (ascii "0") (ascii "a")) ≡ Book (note_with 0 1 0 (ascii "a") ∷ []))
    × (meaning (line (ascii "256") (ascii "1") (ascii "0") (ascii "a")) ≡ BadAt 1)
    × (meaning (line (ascii "0") (ascii "0") (ascii "0") (ascii "a")) ≡ BadAt 1)
    × (meaning (line (ascii "0") (ascii "65536") (ascii "0") (ascii "a")) ≡ BadAt 1)
    × (meaning (line (ascii "0") (ascii "1") (ascii "1000000") (ascii "a")) ≡ BadAt 1)
    × (meaning (line (ascii "0") (ascii "1") (ascii "0") (replicate 61 97)) ≡ BadAt 1)
unfolding meaning notes_from also standing or_bad follows good_of text_good clean_of all_zero order_of note_at ended head_to tail_after length_to fields_of valued held
    number_of fitting plain_decimal all_of is_digit decimal_from blank fit put room part
ends = (refl, refl, refl, refl, refl, refl, refl)

-- the longest line is as long as that
pub reached : length (line_of (note_with 255 65535 999999 (replicate 60 97))) ≡ 78
unfolding line_of joined decimal_of digits_of fit put room part
reached = refl
