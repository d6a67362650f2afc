-- THE CONDUCT of the commands on the wallet and the codes: F2, F8, FA, FB, FC. Assumes nothing.
use Prim.Native.Nat.{ℕ, zero, suc, ◌+◌, ◌≤◌, ◌<◌}
use native.Mathlib.Omega.{arith}
use mathlib.Core.Path.{◌≡◌, refl, sym, ap, ◌∙◌}
use mathlib.Core.List.{List, [], ◌∷◌}
use mathlib.Core.Bool.{Bool, true, false, cond}
use lib.ListN.{length, get_or, drop}
use lib.Dec.{eqb}
use borrow.Author.Tests.{ltb-true, leb-true, eqb-true}
use Rattle.fields.specs.Fields.{View, val, Tagged, fld}
use Rattle.card.specs.declared.Codes.{Codes}
use Rattle.card.specs.declared.Face.{Face}
use Rattle.card.specs.Layout.{key_room, key_short, top16, top32}
use Rattle.card.specs.Values.{created, spent, purged, after_purge, risen, held_key, held_last, last_of, with_wallet, with_counters}
use Rattle.card.specs.Valid.{key_size, ok_face}
use Rattle.kept.proofs.Tests.{valid, flagged}
use Rattle.kept.proofs.Kept.{keeps_create, keeps_sign, keeps_purge, held_key_ok, held_last_ok, purged_key_ok}
use Rattle.kept.proofs.Next.{ok_own, ok_wallet, ok_counters, ok_last_lem}
use Rattle.manual.specs.Words.{hash_size}
use Rattle.manual.specs.Tags.{CID, Signature}
use Rattle.manual.specs.declared.Command.TheVariants.{ReadCard, CreateWallet, SetPin, Sign, PurgeWallet}
use Rattle.manual.specs.Request.{code}
use Rattle.manual.specs.Row.{Matched, fitting, any_byte, key_answer, shaped}
use Rattle.manual.specs.Wallet.{status_field, hash_questions, is_loaded, is_active, read_fields, read_card}
use Rattle.manual.specs.Wallet.{create_wallet, set_pin, sign, purge_wallet, is_new, count, signed_face}
use Rattle.manual.specs.Settle.{sent_in}
use Rattle.story.specs.Sums.{Sheet, History, tap, told_in, wallets, made, total}
use Rattle.history.specs.Demands.{all_kinds, may_ask}
use Rattle.history.proofs.Choice.{by_cases, clash, Did}
use Rattle.history.proofs.Taps.{Passed}
use Rattle.history.proofs.Seen.{look, watch, Inv, awake, none_held, none_told}
use Rattle.history.proofs.Conduct.{Reports, Conduct, quiet, quietly, loaded, emptied, not_purged, same, Climbs}
use Rattle.history.proofs.Sign.{exact, needed, answer_size, still}

-- what READ_CARD tells, which FE tells too
pub read_reports : (f : Face) (b c : Bool) → is_active f ≡ b → is_loaded f ≡ c → Reports (watch f) (fld CID f.front.fixed.cid ∷ read_fields f)
read_reports f false c e g = rw e (record { state = λ h. refl; signed = λ h. clash h refl; remaining = λ h. clash h refl })
read_reports f true false e g = rw (e, g) (record { state = λ h. refl; signed = λ h. refl; remaining = λ h. clash h refl })
read_reports f true true e g = rw (e, g) (record { state = λ h. refl; signed = λ h. refl; remaining = λ h. (refl, eqb-true f.front.wallet.status 2 g) })

-- a response that tells CID and Status first, and none of the others
told_state :
    (f : Face) (fs : List Tagged) → quiet fs ≡ true → Reports (watch f) (fld CID f.front.fixed.cid ∷ status_field f ∷ fs)
told_state f fs n =
    let z = quietly (watch f) fs n in
    record { state = λ e. refl; signed = z.signed; remaining = z.remaining }

module _ (m : Matched) (f : Face) (q d a : List ℕ) where
  pub of_read_card : Passed read_card m f (sent_in q) → Conduct ReadCard f q d a
  of_read_card p =
      record {
        reports = read_reports f (is_active f) (is_loaded f) refl refl;
        asks = refl;
        keeps = λ sh x h r i t s. rw (t.create, t.pin, t.sign, t.purge, t.activate) i;
        stays = λ o g. o;
        alive = λ u e. clash u refl;
        climbs = λ g. same refl refl;
      }

  pub of_set_pin : Passed set_pin m f (sent_in q) → Conduct SetPin f q d a
  of_set_pin p =
      record {
        reports = quietly _ _ refl;
        asks = refl;
        keeps = λ sh x h r i t s.
            rw (t.create, t.pin, t.sign, t.purge, t.activate)
            (record {
              fixed = i.fixed;
              flags = i.flags;
              codes = refl;
              status = i.status;
              number = i.number;
              total = i.total;
              fits = i.fits;
              last = i.last;
              held = i.held;
              balance = i.balance;
              asleep = i.asleep;
              purged = i.purged;
            });
        stays = λ o g. o;
        alive = λ u e. clash u refl;
        climbs = λ g. same refl refl;
      }

-- F8: a key of 65 bytes starts with 04
key_fits : (curve : ℕ) (a : List ℕ) → fitting (key_answer curve) a ≡ true → (length a ≡ key_size curve 2) × (length a ≡ key_room → get_or a 0 0 ≡ 4)
unfolding key_size
key_fits curve a = go (eqb curve 1)
  where
    go : (b : Bool) → fitting (cond b (key_answer 1) (key_answer 2)) a ≡ true → (length a ≡ cond b key_room key_short) × (length a ≡ key_room → get_or a 0 0 ≡ 4)
    go true e = let z = exact key_room (λ b. eqb b 4) a e in (z.0, λ _. eqb-true (get_or a 0 0) 4 z.1)
    go false e = let z = exact key_short any_byte a e in (z.0, λ l. absurd (omega (arith, z.0)))

create_stays :
    (m : Matched) (f : Face) (v : View) (d a : List ℕ) → Passed create_wallet m f v → ok_face f ≡ true
    → shaped (create_wallet.questions f v d) a ≡ true → ok_face (create_wallet.next f v a) ≡ true
unfolding shaped
create_stays m f v d a p o g =
    let y = valid f o in
    let x = f.front in
    let e : x.wallet.status ≡ 1 = emptied create_wallet.needs x.wallet.status p.allows refl refl in
    let n : x.wallet.number < top16 = ltb-true x.wallet.number top16 p.conditions in
    let k = keeps_create x.fixed x.flags x.wallet y.ranges y.state e n (eqb-true x.flags.active 1 p.awake) in
    let z = key_fits x.fixed.curve a g in
    ok_own f o (created x.fixed.max x.wallet) (held_key a) f.last k.0 k.1 (held_key_ok x.fixed.curve 2 a z.0 z.1) y.last
    (k.2 f.last)

pub of_create_wallet : (m : Matched) (f : Face) (q d a : List ℕ) → Passed create_wallet m f (sent_in q) → Conduct CreateWallet f q d a
of_create_wallet m f q d a p =
    let e : f.front.wallet.status ≡ 1 = emptied create_wallet.needs f.front.wallet.status p.allows refl refl in
    record {
      reports = told_state (create_wallet.next f (sent_in q) a) _ refl;
      asks = rw e refl;
      keeps = λ sh x h r i t s.
          let n : f.front.wallet.number < top16 = ltb-true _ _ p.conditions in
          let u : f.front.wallet.number ≡ wallets h = i.number in
          let z : f.last.count ≡ 0 = none_held i (λ y. omega (arith, e, i.status)) in
          rw (t.create, t.pin, t.sign, t.purge, t.activate)
          (record {
            fixed = i.fixed;
            flags = i.flags;
            codes = i.codes;
            status = refl;
            number = omega arith;
            total = i.total;
            fits = i.fits;
            last = none_told f.last z;
            held = λ y. absurd (omega arith);
            balance = λ y. omega (arith, ap (λ z. z.max) i.fixed);
            asleep = λ y. clash (awake i p.awake) y;
            purged = λ b c. absurd (not_purged create_wallet.needs f.front.wallet.status p.allows refl (i.status ∙ i.purged b c));
          });
      stays = create_stays m f (sent_in q) d a p;
      alive = λ u e. not_purged create_wallet.needs f.front.wallet.status p.allows refl e;
      climbs = λ g. same refl refl;
    }

-- FB
hash_kinds : (p : ℕ → Bool) (number curve n : ℕ) (l : List ℕ) → p 2 ≡ true → all_kinds p (hash_questions number curve n l) ≡ true
unfolding hash_questions
hash_kinds p number curve zero l e = refl
hash_kinds p number curve (suc n) l e = rw e (hash_kinds p number curve n (drop hash_size l) e)

sign_stays :
    (m : Matched) (f : Face) (v : View) (d a : List ℕ) → Passed sign m f v → ok_face f ≡ true → shaped (sign.questions f v d) a ≡ true
    → is_new v ≡ true → ok_face (signed_face f (count v) a) ≡ true
sign_stays m f v d a p o g n =
    let y = valid f o in
    let x = f.front in
    let k = keeps_sign x.fixed x.flags (count v) x.wallet y.ranges y.state in
    let w = with_wallet (spent (count v) x.wallet) f in
    let c = ok_counters w (ok_wallet f o (spent (count v) x.wallet) k.0 k.1 refl) (risen x.counters) in
    let s = needed m f v p in
    ok_last_lem (with_counters (risen x.counters) w) c (held_last a) (held_last_ok a (count v) (answer_size f v d a n g) (s.few n)) (rw s.alive refl)

sign_keeps :
    (sh : Sheet) (f : Face) (x : Codes) (h : History) (q r a : List ℕ) → Inv sh (watch f) x (look sh h) → Did Sign (tap q r)
    → (b : Bool) → is_new (sent_in q) ≡ b
    → (b ≡ true → last_of (held_last a) ≡ val Signature (told_in r)) → (b ≡ true → 0 < f.front.wallet.remaining)
    → (b ≡ true → f.front.wallet.signed + count (sent_in q) ≤ top32) → f.front.wallet.status ≡ 2
    → Inv sh (watch (cond b (signed_face f (count (sent_in q)) a) f)) x (look sh (tap q r ∷ h))
sign_keeps sh f x h q r a i t false n l y z s = rw (t.create, t.pin, t.sign, t.purge, t.activate, n) i
sign_keeps sh f x h q r a i t true n l y z s =
    let u : f.front.wallet.signed ≡ total h = i.total in
    rw (t.create, t.pin, t.sign, t.purge, t.activate, n)
    (record {
      fixed = i.fixed;
      flags = i.flags;
      codes = i.codes;
      status = i.status;
      number = i.number;
      total = omega (arith, z refl);
      fits = omega (arith, z refl);
      last = l refl;
      held = λ _. (sym i.status ∙ s, omega arith);
      balance = λ s. let b : f.front.wallet.remaining + made h ≡ sh.fixed.max = i.balance s in omega (arith, y refl);
      asleep = i.asleep;
      purged = i.purged;
    })

pub of_sign : (m : Matched) (f : Face) (q d a : List ℕ) → Passed sign m f (sent_in q) → Conduct Sign f q d a
of_sign m f q d a p =
    let y = needed m f (sent_in q) p in
    record {
      reports = record {
        state = λ e. clash e refl;
        signed = λ e. refl;
        remaining = λ e. (refl, still (is_new (sent_in q)) f (count (sent_in q)) a ∙ y.alive);
      };
      asks =
          by_cases (λ z. all_kinds (may_ask (code Sign) f.front.wallet.status) z ≡ true) (is_new (sent_in q))
          (λ _. hash_kinds _ _ _ (count (sent_in q)) _ (rw y.alive refl))
          (λ _. refl);
      keeps = λ sh x h r i t s.
          sign_keeps sh f x h q r a i t (is_new (sent_in q)) refl (λ n. rw n at s) y.some y.fits y.alive;
      stays = λ o g. by_cases (λ z. ok_face z ≡ true) (is_new (sent_in q)) (λ n. sign_stays m f (sent_in q) d a p o g n) (λ _. o);
      alive = λ u e. not_purged sign.needs f.front.wallet.status p.allows refl e;
      climbs = λ g. by_cases (Climbs f) (is_new (sent_in q)) (λ _. same refl refl) (λ _. same refl refl);
    }

-- FC
pub not_two : (r : ℕ) → after_purge r ≡ 2 → ⊥
not_two r = by_cases (λ n. n ≡ 2 → ⊥) (eqb r 1) (λ _ e. omega arith) (λ _ e. omega arith)

pub of_purge_wallet : (m : Matched) (f : Face) (q d a : List ℕ) → Passed purge_wallet m f (sent_in q) → Conduct PurgeWallet f q d a
of_purge_wallet m f q d a p =
    let x = f.front in
    let e : x.wallet.status ≡ 2 = loaded purge_wallet.needs x.wallet.status p.allows refl refl in
    record {
      reports = told_state (purge_wallet.next f (sent_in q) a) _ refl;
      asks = refl;
      keeps = λ sh c h r i t s.
          rw (t.create, t.pin, t.sign, t.purge, t.activate)
          (record {
            fixed = i.fixed;
            flags = i.flags;
            codes = i.codes;
            status = ap (λ z. after_purge z.reusable) i.flags;
            number = i.number;
            total = i.total;
            fits = i.fits;
            last = none_told (held_last []) refl;
            held = λ y. absurd (omega arith);
            balance = λ y. absurd (not_two sh.flags.reusable y);
            asleep = λ y. clash (awake i p.awake) y;
            purged = λ b c. rw b refl;
          });
      stays = λ o g.
          let v = valid f o in
          let l = leb-true x.flags.reusable 1 (flagged x.flags v.flags).reusable in
          let k = keeps_purge x.fixed x.flags x.wallet v.ranges v.state e l in
          ok_own f o (purged x.flags.reusable x.wallet) (held_key []) (held_last []) k.0 k.1
          (purged_key_ok x.fixed.curve x.flags.reusable) (held_last_ok [] 0 refl (omega arith)) k.2;
      alive = λ u e. clash u refl;
      climbs = λ g. same refl refl;
    }
