-- WHAT EACH OUTCOME of a join MEANS, Ask 8: done, no room, a bad line, the lowest clash, more than 256 notes. Assumes nothing.
use Prim.Native.Nat.{ℕ, ◌≤◌, ◌<◌}
use native.Mathlib.Omega.{arith}
use mathlib.Core.Path.{◌≡◌, refl}
use mathlib.Core.Bool.{true}
use mathlib.Core.List.{List}
use mathlib.Core.Logic.{inl, inr, ◌↔◌}
use lib.ListN.{length}
use Rattle.notes.specs.declared.Note.{Note}
use Rattle.std.proofs.Common.{Option, Some, None, Ok, Err}
use Rattle.shelf.specs.declared.Refusal.TheVariants.{BadLine, Clash, Full, NoRoom}
use Rattle.shelf.specs.Shelf.{first_bad, is_book}
use Rattle.union.specs.Union.{aside, merged, lowest, join_of}
use Rattle.agreed.specs.Agreed.{Clashing, Lowest, Books, NoClash, BadRecord}
use Rattle.shelf.proofs.Laws.{book_none, none_book}
use Rattle.agreed.proofs.Books.{is_a_book}
use Rattle.agreed.proofs.Sides.{sided}
use Rattle.agreed.proofs.Clashes.{agree_none, differ_lowest}
use Rattle.agreed.proofs.Outcomes.{no_room, bad_one, bad_two, clash, full, done, JoinWay, way_joins, join_way}

module _ (places : ℕ) (f s : List Note) where
  books : 256 ≤ places → first_bad f ≡ None → first_bad s ≡ None → Books places f s
  books h i j = record { room = h; first = none_book f i; second = none_book s j }

  agrees : Books places f s → lowest (aside f s) ≡ None → NoClash f s
  agrees b e = agree_none f s (aside f s) (sided f s) (is_a_book f b.first).rising (is_a_book s b.second).rising e

  differs : (t n : ℕ) → Books places f s → lowest (aside f s) ≡ Some (t, n) → Lowest f s t n
  differs t n b e = differ_lowest f s (aside f s) t n (sided f s) (is_a_book f b.first).rising (is_a_book s b.second).rising e

  -- where nothing clashes, the pairs agree
  then_agrees : Books places f s → NoClash f s → lowest (aside f s) ≡ None
  then_agrees b c = go (lowest (aside f s)) refl
    where
      go : (m : Option (ℕ × ℕ)) → lowest (aside f s) ≡ m → lowest (aside f s) ≡ None
      go None e = e
      go (Some (t, n)) e = let l = differs t n b e in absurd (c l.x l.y l.clash)

  -- the pairs agree where it is done
  pub done_agrees : (n : ℕ) → join_of places f s ≡ Ok n → lowest (aside f s) ≡ None
  done_agrees n e = go n (join_way places f s (Ok n) e)
    where
      go : (n : ℕ) → JoinWay places f s (Ok n) → lowest (aside f s) ≡ None
      go n (done h i j k l) = k

  -- DONE: two books with no clash and at most 256 notes, which are counted; and no other has this outcome
  pub done_means : (n : ℕ) → join_of places f s ≡ Ok n → Books places f s × NoClash f s × (length (merged f s) ≤ 256) × (n ≡ length (merged f s))
  done_means n e = go n (join_way places f s (Ok n) e)
    where
      go : (n : ℕ) → JoinWay places f s (Ok n) → Books places f s × NoClash f s × (length (merged f s) ≤ 256) × (n ≡ length (merged f s))
      go n (done h i j k l) = (books h i j, agrees (books h i j) k, l, refl)

  pub done_where : Books places f s → NoClash f s → length (merged f s) ≤ 256 → join_of places f s ≡ Ok (length (merged f s))
  done_where b c h =
      way_joins places f s (Ok (length (merged f s))) (done b.room (book_none f b.first) (book_none s b.second) (then_agrees b c) h)

  -- NO ROOM, exactly where the lent list has fewer than 256 places
  pub no_room_means : join_of places f s ≡ Err NoRoom ↔ places < 256
  no_room_means = (λ e. go (join_way places f s (Err NoRoom) e), λ h. way_joins places f s (Err NoRoom) (no_room h))
    where
      go : JoinWay places f s (Err NoRoom) → places < 256
      go (no_room h) = h

  -- A BAD LINE: of the first book, its first bad record; of the second, where the first is a book
  pub bad_means : (b k : ℕ) → join_of places f s ≡ Err (BadLine b k) → BadRecord f s b k
  bad_means b k e = go b k (join_way places f s (Err (BadLine b k)) e)
    where
      go : (b k : ℕ) → JoinWay places f s (Err (BadLine b k)) → BadRecord f s b k
      go b k (bad_one h i) = inl (refl, i)
      go b k (bad_two h i j) = inr (refl, none_book f i, j)

  pub bad_first_means : (k : ℕ) → join_of places f s ≡ Err (BadLine 1 k) → first_bad f ≡ Some k
  bad_first_means k e = go (bad_means 1 k e)
    where
      go : BadRecord f s 1 k → first_bad f ≡ Some k
      go (inl p) = p.1
      go (inr p) = let z = p.0 in absurd (omega arith)

  pub bad_second_means : (k : ℕ) → join_of places f s ≡ Err (BadLine 2 k) → (is_book f ≡ true) × (first_bad s ≡ Some k)
  bad_second_means k e = go (bad_means 2 k e)
    where
      go : BadRecord f s 2 k → (is_book f ≡ true) × (first_bad s ≡ Some k)
      go (inl p) = let z = p.0 in absurd (omega arith)
      go (inr p) = (p.1, p.2)

  -- A CLASH: the lowest of all of them; and two books that have one have this outcome
  pub lowest_clash : (t n : ℕ) → join_of places f s ≡ Err (Clash t n) → Books places f s × Lowest f s t n
  lowest_clash t n e = go t n (join_way places f s (Err (Clash t n)) e)
    where
      go : (t n : ℕ) → JoinWay places f s (Err (Clash t n)) → Books places f s × Lowest f s t n
      go t n (clash h i j k) = (books h i j, differs t n (books h i j) k)

  pub clash_refused : (x y : Note) → Books places f s → Clashing f s x y → (t n : ℕ) × (join_of places f s ≡ Err (Clash t n))
  clash_refused x y b c = go (lowest (aside f s)) refl
    where
      go : (m : Option (ℕ × ℕ)) → lowest (aside f s) ≡ m → (t n : ℕ) × (join_of places f s ≡ Err (Clash t n))
      go None e = absurd (agrees b e x y c)
      go (Some (t, n)) e = (t, n, way_joins places f s (Err (Clash t n)) (clash b.room (book_none f b.first) (book_none s b.second) e))

  -- FULL: two books with no clash, and more than 256 notes; and no other has this outcome
  pub full_means : join_of places f s ≡ Err Full → Books places f s × NoClash f s × (256 < length (merged f s))
  full_means e = go (join_way places f s (Err Full) e)
    where
      go : JoinWay places f s (Err Full) → Books places f s × NoClash f s × (256 < length (merged f s))
      go (full h i j k l) = (books h i j, agrees (books h i j) k, l)

  pub full_where : Books places f s → NoClash f s → 256 < length (merged f s) → join_of places f s ≡ Err Full
  full_where b c h = way_joins places f s (Err Full) (full b.room (book_none f b.first) (book_none s b.second) (then_agrees b c) h)
