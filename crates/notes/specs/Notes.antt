-- A NOTE of the handover book, Ask 8: whether it is good, which of two comes first, whether two are the same. Every definition is total. Assumes nothing.
use Rattle.std.specs.Prelude.{Bool, ◌&&◌, not, List, ℕ, eqb, ltb, drop, replicate}
use Rattle.std.specs.declared.cmp.Ordering.{Ordering}
use Rattle.std.specs.List.{list_all}
use Rattle.std.specs.Ordering.{ordering_then, nat_cmp, is_lt}
use Rattle.wire.specs.Wire.{alike, part, all_zero}
use Rattle.notes.specs.declared.Note.{Note}

-- what stands where no note does; its number is 0, so that it is below every good note
unfoldable pub blank : Note
blank = record { tablet = 0; number = 0; hours = 0; len = 0; text = replicate 60 0 }

-- "by tablet, then number"
unfoldable pub order_of : Note → Note → Ordering
order_of a b = ordering_then (nat_cmp a.tablet b.tablet) (nat_cmp a.number b.number)

-- the same content
unfoldable pub alike_of : Note → Note → Bool
alike_of a b = (((eqb a.tablet b.tablet && eqb a.number b.number) && (eqb a.hours b.hours && eqb a.len b.len)) && alike a.text b.text)

-- "without tab or line feed"
unfoldable pub clean_of : List ℕ → Bool
clean_of s = list_all (λ b. not (eqb b 9) && not (eqb b 10)) s

-- a text of k bytes in its room: no tab and no line feed in it, and zeros after it
unfoldable pub text_good : List ℕ → ℕ → Bool
text_good t k = (clean_of (part t 0 k) && all_zero (drop k t))

-- "running number (1 to 65,535), engine hours in tenths (0 to 999,999), text of 1 to 60 bytes"; the tablet is any byte
unfoldable pub good_of : Note → Bool
good_of n = (((ltb 0 n.number && ltb n.hours 1000000) && (ltb 0 n.len && ltb n.len 61)) && text_good n.text n.len)

-- "strictly rising": x may stand in a book right after y
unfoldable pub follows : Note → Note → Bool
follows y x = good_of x && is_lt (order_of y x)
