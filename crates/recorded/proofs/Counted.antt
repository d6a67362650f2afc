-- ONE CALL MORE: what a tap adds to the sums of a history, and that nothing is lost where they fit 32 bits. Assumes nothing.
use Prim.Native.Nat.{ℕ, ◌+◌, ◌%◌, ◌≤◌}
use native.Mathlib.Omega.{arith}
use mathlib.Core.Path.{◌≡◌, refl, ap, subst}
use mathlib.Core.List.{List, [], ◌∷◌, ◌++◌}
use mathlib.Core.Bool.{Bool, true, false, cond, ◌&&◌}
use lib.Dec.{eqb}
use Rattle.wire.proofs.Laws.{by_cases, both_true}
use Rattle.card.specs.Layout.{top32}
use Rattle.card.specs.Image.{decode}
use Rattle.card.specs.Values.{after_purge}
use Rattle.manual.specs.declared.Command.TheVariants.{CreateWallet, Sign, PurgeWallet}
use Rattle.manual.specs.Wallet.{is_new, count}
use Rattle.manual.specs.Settle.{holding, Call, sent_in}
use Rattle.story.specs.Sums.{Sheet, Tap, History, did, signed_new, status, since, new_signs, made, total}
use Rattle.history.specs.Demands.{Event, tapped, tap_by, left, played, Fresh, Kept}
use Rattle.history.proofs.Choice.{clash, one_ins}
use Rattle.history.proofs.Events.{played_more}
use Rattle.history.proofs.Images.{model, model_demand3}
use Rattle.sums.specs.declared.Sums.{Sums}
use Rattle.sums.specs.Counted.{with_wallet, with_none, with_signed, counted}
use Rattle.recorded.specs.Facts.{sums_of}

signs_none : (t : Tap) → did Sign t ≡ false → signed_new t ≡ false
signs_none t e = ap (λ b. b && is_new (sent_in t.request)) e

not_alive : (r : ℕ) → false ≡ eqb (after_purge r) 2
not_alive r = by_cases (λ n. false ≡ eqb n 2) (eqb r 1) (λ _. refl) (λ _. refl)

-- a wallet made, a purge, a SIGN; no two of them at once, and where the sums fit 32 bits nothing is lost
adds :
    (a b c : Bool) (st r md tot n : ℕ) → (a ≡ true → c ≡ false) → (b ≡ true → c ≡ false) → (c ≡ true → (md + 1 ≤ top32) × (tot + n ≤ top32))
    → (let s : Sums = record { live = eqb st 2; made = md; hashes = tot } in cond a (with_wallet s) (cond b (with_none s) (cond c (with_signed n s) s)))
    ≡ record { live = eqb (cond a 2 (cond b (after_purge r) st)) 2; made = cond a 0 (cond c (md + 1) md); hashes = cond c (tot + n) tot }
adds true b true st r md tot n x y z = clash refl (x refl)
adds true b false st r md tot n x y z = refl
adds false true true st r md tot n x y z = clash refl (y refl)
adds false true false st r md tot n x y z = λ i. record { live = not_alive r i; made = md; hashes = tot }
adds false false true st r md tot n x y z =
    let w = z refl in
    let u : (md + 1) % 4294967296 ≡ md + 1 = omega arith in
    let v : (tot + n) % 4294967296 ≡ tot + n = omega arith in
    λ i. record { live = eqb st 2; made = u i; hashes = v i }
adds false false false st r md tot n x y z = refl

-- the new SIGNs of a wallet, with a tap more
made_more : (t : Tap) (h : History) → made (t ∷ h) ≡ cond (did CreateWallet t) 0 (cond (signed_new t) (made h + 1) (made h))
made_more t h = go (did CreateWallet t)
  where
    go : (b : Bool) → new_signs (cond b [] (t ∷ since h)) ≡ cond b 0 (cond (signed_new t) (made h + 1) (made h))
    go true = refl
    go false = refl

pub counted_more :
    (sh : Sheet) (h : History) (t : Tap)
    → (signed_new t ≡ true → (made h + 1 ≤ top32) × (total h + count (sent_in t.request) ≤ top32))
    → counted (sums_of sh h) t ≡ sums_of sh (t ∷ h)
unfolding counted
counted_more sh h t z =
    rw (made_more t h)
    (adds (did CreateWallet t) (did PurgeWallet t) (signed_new t) (status sh h) sh.flags.reusable (made h) (total h) (count (sent_in t.request))
    (λ e. signs_none t (one_ins t CreateWallet Sign refl e))
    (λ e. signs_none t (one_ins t PurgeWallet Sign refl e))
    z)

-- THE SUMS FIT after one call more, on a card that began fresh: demand 3 has new hashes below 2^32, and new SIGNs, on a live wallet, within its maximum
pub sums_fit :
    (sh : Sheet) (m : List ℕ) → Fresh sh m → sh.fixed.max ≤ top32 → (es : List Event) (i : Call)
    → signed_new (tap_by model (left model (holding m) es) i) ≡ true
    → (made (played model (holding m) [] es) + 1 ≤ top32) × (total (played model (holding m) [] es) + count (sent_in i.request) ≤ top32)
sums_fit sh m e x es i z =
    let h : History = played model (holding m) [] es in
    let t : Tap = tap_by model (left model (holding m) es) i in
    let c = decode (left model (holding m) (es ++ (tapped i ∷ []))).image in
    let k : Kept sh (t ∷ h) c =
    subst (λ (h : History). Kept sh h c) (played_more model (holding m) [] es (tapped i)) (model_demand3.kept sh m e (es ++ (tapped i ∷ []))) in
    let d = (both_true (did Sign t) (is_new (sent_in i.request)) z).0 in
    let a : did CreateWallet t ≡ false = one_ins t Sign CreateWallet refl d in
    let b : did PurgeWallet t ≡ false = one_ins t Sign PurgeWallet refl d in
    let alive : status sh h ≡ 2 = ((model_demand3.next sh m e es i).signs z).is_due.entitled.state in
    let still : status sh (t ∷ h) ≡ 2 = rw (a, b) alive in
    let one : made (t ∷ h) ≡ made h + 1 = rw (a, z) in
    let all : total (t ∷ h) ≡ total h + count (sent_in i.request) = rw z in
    (omega (arith, k.balance still), omega (arith, k.fits))
