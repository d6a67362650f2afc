-- What the code of the sums is shown by: numbers kept in their width, where a response's status word stands, and one walk over a payload. Assumes nothing.
use Rattle.std.proofs.Common.{◌≡◌, ℕ, ◌+◌, ◌-◌, ◌*◌, List, length, get_or, drop, ap, ◌∙◌, arith, get_or-drop}
use denote.Bor.{Bor}
use Rattle.wire.specs.Wire.{num16}
use Rattle.fields.specs.Fields.{view_of}
use Rattle.sent.specs.declared.Sent.{Sent}
use Rattle.sent.specs.Sent.{view, Walked, unwalked}
use Rattle.sent.proofs.Laws.{walked_view}
use Rattle.card.specs.Values.{u32}
use Rattle.manual.specs.Request.{payload}
use Rattle.manual.specs.Settle.{sent_in}
use Rattle.request.proofs.Laws.{payload_short}
use Rattle.story.specs.Sums.{last_word}
use Rattle.sums.specs.declared.Sums.{Sums}
use Rattle.sums.specs.Counted.{with_signed}

-- a number of hashes may be kept in its width before it is added
pub whole_count : (n : ℕ) (s : Sums) → with_signed (u32 n) s ≡ with_signed n s
whole_count n s = λ i. record s { made = u32 (s.made + 1); hashes = kept s.hashes i }
  where
    kept : (h : ℕ) → u32 (h + u32 n) ≡ u32 (h + n)
    kept h = omega arith

-- the last two bytes, read from where they stand
pub last_word_lem : (r : List ℕ) → num16 (drop (length r - 2) r) 0 ≡ last_word r
last_word_lem r = λ i. first i * 256 + get_or-drop (length r - 2) r 1 0 i
  where
    none : length r - 2 + 0 ≡ length r - 2
    none = omega arith

    first : get_or (drop (length r - 2) r) 0 0 ≡ get_or r (length r - 2) 0
    first = get_or-drop (length r - 2) r 0 0 ∙ ap (λ k. get_or r k 0) none

-- what a request sends, walked
pub walked_once : (q : List ℕ) {p : Bor (List ℕ)} {s t : Sent} → p.now ≡ payload q → s ≡ unwalked p → Walked s t → view t ≡ sent_in q
unfolding sent_in
walked_once q e n w = walked_view n w (omega (arith, ap length e, payload_short q)) ∙ ap view_of e
