-- BEHIND THE CODES: a card's face, and whether an image is a card, are read from the bytes behind the codes alone. Assumes nothing.
use mathlib.Core.Path.{◌≡◌, refl, sym, ap, ap₂, ◌∙◌}
use mathlib.Core.Bool.{Bool, true, false, cond, ◌&&◌}
use mathlib.Core.List.{List, []}
use Prim.Native.Nat.{ℕ, ◌+◌, ◌-◌, ◌*◌, ◌≤◌, ◌<◌}
use native.Mathlib.Omega.{arith}
use lib.ListN.{length, take, drop, get_or, length-drop}
use lib.Seq.{drop-drop, get_or-drop}
use lib.Dec.{leb, eqb, lit≤, lit<}
use borrow.Author.Tests.{leb-true, leb-false}
use Rattle.wire.specs.Wire.{part, num16, num32}
use Rattle.wire.proofs.Laws.{by_cases, part_plain}
use Rattle.card.specs.Layout.{cid_size, cvc_size, seed_size, key_room, data_room, signature_size, held_room, last_room, block_width, codes_width, image_size}
use Rattle.card.specs.Layout.{fixed_at, pause_at, flags_at, wallet_at, key_at, counters_at, user_at, protected_at, issuer_at, pending_at, last_at}
use Rattle.card.specs.Image.{dec_block, decode}
use Rattle.card.specs.Valid.{ok_face, is_card}

-- A PART THAT RUNS PAST THE END is nothing
part_short : (l : List ℕ) (at n : ℕ) → length l < at + n → part l at n ≡ []
unfolding part
part_short l at n h =
    by_cases (λ (x : List ℕ). x ≡ []) (leb at (length l)) {x = cond (leb n (length l - at)) (take n (drop at l)) []} {y = []}
    (λ e.
    by_cases (λ (x : List ℕ). x ≡ []) (leb n (length l - at)) {x = take n (drop at l)} {y = []}
    (λ f. absurd (omega (arith, leb-true at (length l) e, leb-true n (length l - at) f)))
    (λ f. refl))
    (λ e. refl)

-- what stands behind a place, read from the bytes behind it
byte_of_rest : (l : List ℕ) (k at : ℕ) → k ≤ at → get_or l at 0 ≡ get_or (drop k l) (at - k) 0
byte_of_rest l k at h =
    let z : at ≡ k + (at - k) = omega arith in
    ap (λ n. get_or l n 0) z ∙ sym (get_or-drop k l (at - k) 0)

part_of_rest : (l : List ℕ) (k at n : ℕ) → k ≤ at → 0 < n → part l at n ≡ part (drop k l) (at - k) n
part_of_rest l k at n h p = go (leb (at + n) (length l)) refl
  where
    go : (b : Bool) → leb (at + n) (length l) ≡ b → part l at n ≡ part (drop k l) (at - k) n
    go true e =
        let i = leb-true (at + n) (length l) e in
        let z : k + (at - k) ≡ at = omega arith in
        let d = sym (drop-drop (at - k) k l ∙ ap (λ m. drop m l) z) in
        part_plain l at n i ∙ ap (take n) d ∙ sym (part_plain (drop k l) (at - k) n (rw length-drop (omega arith)))
    go false e =
        let i = leb-false (at + n) (length l) e in
        part_short l at n i ∙ sym (part_short (drop k l) (at - k) n (rw length-drop (omega arith)))

module _ (l m : List ℕ) (same : drop codes_width l ≡ drop codes_width m) where
  byte : (at : ℕ) → codes_width ≤ at → get_or l at 0 ≡ get_or m at 0
  byte at h = byte_of_rest l codes_width at h ∙ ap (λ x. get_or x (at - codes_width) 0) same ∙ sym (byte_of_rest m codes_width at h)

  pair : (at : ℕ) → codes_width ≤ at → num16 l at ≡ num16 m at
  pair at h = ap₂ (λ a b. a * 256 + b) (byte at h) (byte (at + 1) (omega arith))

  four : (at : ℕ) → codes_width ≤ at → num32 l at ≡ num32 m at
  four at h =
      let a = byte at h in
      let b = byte (at + 1) (omega arith) in
      let c = byte (at + 2) (omega arith) in
      let d = byte (at + 3) (omega arith) in
      λ i. a i * 16777216 + b i * 65536 + c i * 256 + d i

  array : (at n : ℕ) → codes_width ≤ at → 0 < n → part l at n ≡ part m at n
  array at n h p = part_of_rest l codes_width at n h p ∙ ap (λ x. part x (at - codes_width) n) same ∙ sym (part_of_rest m codes_width at n h p)

  block : (at : ℕ) → codes_width ≤ at → dec_block at l ≡ dec_block at m
  block at h = let s = pair at h in let b = array (at + 2) data_room (omega arith) (lit< tt) in λ i. record { size = s i; bytes = b i }

  pub face_behind : (decode l).face ≡ (decode m).face
  unfolding decode
  face_behind =
      λ i.
      record {
        front = record {
          fixed = record {
            cid = array fixed_at cid_size (lit≤ tt) (lit< tt) i;
            cvc = array (fixed_at + 8) cvc_size (lit≤ tt) (lit< tt) i;
            curve = byte (fixed_at + 11) (lit≤ tt) i;
            max = four (fixed_at + 12) (lit≤ tt) i;
            seed = array (fixed_at + 16) seed_size (lit≤ tt) (lit< tt) i;
            pause = byte pause_at (lit≤ tt) i;
          };
          flags = record {
            reusable = byte flags_at (lit≤ tt) i;
            usecvc = byte (flags_at + 1) (lit≤ tt) i;
            setpin1 = byte (flags_at + 2) (lit≤ tt) i;
            setpin2 = byte (flags_at + 3) (lit≤ tt) i;
            nopurge = byte (flags_at + 4) (lit≤ tt) i;
            replay = byte (flags_at + 5) (lit≤ tt) i;
            active = byte (flags_at + 6) (lit≤ tt) i;
          };
          wallet = record {
            status = byte wallet_at (lit≤ tt) i;
            number = pair (wallet_at + 1) (lit≤ tt) i;
            remaining = four (wallet_at + 3) (lit≤ tt) i;
            signed = four (wallet_at + 7) (lit≤ tt) i;
          };
          key = record { size = byte key_at (lit≤ tt) i; bytes = array (key_at + 1) key_room (lit≤ tt) (lit< tt) i };
          counters = record {
            checks = four counters_at (lit≤ tt) i;
            validations = pair (counters_at + 4) (lit≤ tt) i;
            user = four (counters_at + 6) (lit≤ tt) i;
            protected = four (counters_at + 10) (lit≤ tt) i;
          };
        };
        held = record {
          user = block user_at (lit≤ tt) i;
          protected = block protected_at (lit≤ tt) i;
          issuer = record {
            block = block issuer_at (lit≤ tt) i;
            signature = array (issuer_at + block_width) signature_size (lit≤ tt) (lit< tt) i;
            counter = four (issuer_at + block_width + signature_size) (lit≤ tt) i;
          };
        };
        pending = record {
          wait = record { wrong = byte pending_at (lit≤ tt) i; left = byte (pending_at + 1) (lit≤ tt) i; size = pair (pending_at + 2) (lit≤ tt) i };
          request = array (pending_at + 4) held_room (lit≤ tt) (lit< tt) i;
        };
        last = record { count = byte last_at (lit≤ tt) i; signatures = array (last_at + 1) last_room (lit≤ tt) (lit< tt) i };
      }

pub card_behind : (l m : List ℕ) → length l ≡ length m → drop codes_width l ≡ drop codes_width m → is_card l ≡ is_card m
unfolding is_card
card_behind l m long same = ap₂ (λ n f. eqb n image_size && ok_face f) long (face_behind l m same)
