-- What the theorems of a play speak of: its taps as the events of a history, its sheet, what a history sums up to; and its lines. Assumes nothing.
use Rattle.std.specs.Prelude.{ℕ, suc, ◌+◌, ◌≤◌, ◌≡◌, List, [], ◌∷◌, ◌++◌, cond, length, eqb}
use Rattle.text.specs.Lines.{tail_after}
use Rattle.personalise.specs.Personalise.{sheet_fixed, sheet_flags, sheet_codes}
use Rattle.story.specs.Sums.{Sheet, History, status, made, total}
use Rattle.history.specs.Demands.{Event, tapped}
use Rattle.tapline.specs.Line.{Recorded}
use Rattle.sums.specs.declared.Sums.{Sums}
use Rattle.recording.specs.Recording.{Taps}
use Rattle.recording.specs.Play.{call_of}

-- TAPS AS EVENTS
abbrev pub events : List Recorded → List Event
events [] = []
events (t ∷ ts) = tapped (call_of t) ∷ events ts

-- what a sheet says, as the history has it
abbrev pub sheet_of : List ℕ → Sheet
sheet_of s = record { fixed = sheet_fixed s; flags = sheet_flags s; codes = sheet_codes s }

-- THE SUMS OF A HISTORY: whether its wallet lives, the new SIGNs since the last wallet's creation, all new hashes
abbrev pub sums_of : Sheet → History → Sums
sums_of sh h = record { live = eqb (status sh h) 2; made = made h; hashes = total h }

-- how many tabs stand in a text
unfoldable pub tabs : List ℕ → ℕ
tabs [] = 0
tabs (b ∷ l) = cond (eqb b 9) (suc (tabs l)) (tabs l)

-- A LINE, and the lines after it: it has bytes, nothing in it stands after its line feed, and where lines follow, it has one
pub record Line (l : List ℕ) (ls : List (List ℕ)) : Type 0 where
  pub some : 1 ≤ length l
  pub whole : tail_after 10 l ≡ []
  pub fed : 1 ≤ length ls → (t : List ℕ) → tail_after 10 (l ++ t) ≡ t

abbrev pub Lines : List (List ℕ) → Type 0
Lines [] = Unit {0}
Lines (l ∷ ls) = Line l ls × Lines ls

-- TAPS that were read from so many lines, the first of which has number n: where none is bad, each line is a tap; a bad line stands right after them
pub record Read (most n lines : ℕ) (r : Taps) : Type 0 where
  pub few : length r.taps ≤ most
  pub all : r.bad ≡ 0 → length r.taps ≡ lines
  pub number : (r.bad ≡ 0 → ⊥) → r.bad ≡ n + length r.taps
