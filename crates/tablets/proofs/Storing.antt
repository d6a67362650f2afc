-- AN E0 where no request is held or there is no pause, by any card that meets demand 2: what it leaves, that nothing is held or counted then, and that an E0
-- or E1 which was accepted before is accepted after it, whatever they have in them: their checks see codes, CID, the activated flag and Status, which no E0
-- changes. Assumes nothing.
use Prim.Native.Nat.{ℕ, ◌+◌, ◌≤◌}
use native.Mathlib.Omega.{arith}
use mathlib.Core.Path.{◌≡◌, refl, sym, ap, ◌∙◌, subst}
use mathlib.Core.List.{List, []}
use mathlib.Core.Bool.{Bool, true, false, cond}
use mathlib.Core.Logic.{inl, inr}
use lib.ListN.{length}
use Rattle.std.specs.Prelude.{Ok}
use Rattle.wire.specs.Wire.{Bytes}
use Rattle.wire.proofs.Laws.{by_cases, part_none, other_length}
use Rattle.fields.specs.Fields.{View, well_formed}
use Rattle.card.specs.declared.Face.{Face}
use Rattle.card.specs.declared.Card.{Card}
use Rattle.card.specs.Values.{u8, request_of, no_pending}
use Rattle.card.specs.Image.{encode, decode}
use Rattle.card.specs.Valid.{is_card}
use Rattle.cards.proofs.Round.{card_image}
use Rattle.manual.specs.declared.Command.{Command}
use Rattle.manual.specs.declared.Command.TheVariants.{ReadUserData, WriteUserData}
use Rattle.manual.specs.Request.{code, commands, listed_in, command, payload}
use Rattle.manual.specs.Row.{Matched, gate_of, rules, passed, shaped}
use Rattle.manual.specs.Commands.{row}
use Rattle.manual.specs.Delay.{entered, is_held}
use Rattle.manual.specs.Settle.{holding, Call, sent_in, matched, judged_by, done, waiting, card_after}
use Rattle.history.specs.Demands.{AnyCard, Demand2, wait_in}
use Rattle.history.proofs.Choice.{by_ins}
use Rattle.history.proofs.Theorems.{card_stays}
use Rattle.waits.proofs.Pace.{enters_sized, wait_whole}
use Rattle.waits.proofs.Sending.{leaves_as, spells}
use Rattle.tablets.specs.Tablets.{Calm, Free, Ready, Accepts, Stores, Reads, stored}
use Rattle.tablets.proofs.Accepted.{Goes, goes_on_lem, looks, went, accepts}
use Rattle.tablets.proofs.Written.{wrote}
use Rattle.tablets.proofs.Bytes.{bytes_sent, bytes_wrote}

-- what the paper asks for is enough
pub calm_ready : {m : List ℕ} → Calm m → Ready m
calm_ready u = record { card = u.card; bytes = u.bytes; free = inr u.pause }

-- nothing held, so no request is the held one
not_held : (f : Face) (q : List ℕ) → f.pending.wait.size ≡ 0 → 1 ≤ length q → is_held f q ≡ false
unfolding is_held request_of
not_held f q e l = rw (e, part_none f.pending.request 0) (other_length [] q (λ z. omega arith))

-- A COMMAND THAT DOES NOT LOOK AT USER DATA, neither to refuse nor to ask, and says 9000 where it is carried out
record Deaf (k : Command) : Type 0 where
  pub listed : listed_in commands (code k) ≡ Ok k
  pub verdict :
      (v w : View) (c : Card) (x : Matched) (formed : Bool) (q : List ℕ)
      → gate_of (rules (row k) x (wrote v c).face formed w q) (passed q) ≡ gate_of (rules (row k) x c.face formed w q) (passed q)
  pub questions : (v w : View) (c : Card) (d : List ℕ) → (row k).questions (wrote v c).face w d ≡ (row k).questions c.face w d
  pub more : (x : Matched) → (row k).more x ≡ 0

deaf_write : Deaf WriteUserData
deaf_write = record { listed = refl; verdict = λ v w c x formed q. refl; questions = λ v w c d. refl; more = λ x. refl }

deaf_read : Deaf ReadUserData
deaf_read = record { listed = refl; verdict = λ v w c x formed q. refl; questions = λ v w c d. refl; more = λ x. refl }

-- WHAT WENT ON GOES ON after an E0
module _ (m : List ℕ) (o : is_card m ≡ true) (q d a : List ℕ) (g : Goes (decode m) q d a) where
  abbrev c : Card
  c = decode m

  some : 1 ≤ length q
  some = omega (arith, (enters_sized c q (ap entered g.verdict)).least)

  -- the pause, where PIN2 is needed
  abbrev pausing : ℕ
  pausing = cond ((row (command q)).pin2 (sent_in q)) c.face.front.fixed.pause 0

  -- where no request is held, nobody waited: nothing was counted, and there is no such pause
  pub none_waited : (wait_in m).size ≡ 0 → (wait_in m).wrong + pausing ≡ 0
  none_waited e = sym (wait_whole m q o (not_held c.face q e some)) ∙ g.prompt

  no_pause : Free m → pausing ≡ 0
  no_pause (inl e) = omega (arith, none_waited e)
  no_pause (inr e) = by_cases (λ (n : ℕ). n ≡ 0) ((row (command q)).pin2 (sent_in q)) (λ _. e) (λ _. refl)

  still_goes : Free m → Deaf (command q) → (v : View) → Goes (wrote v c) q d a
  unfolding judged_by
  still_goes r z v =
      let w = sent_in q in
      record {
        verdict = z.verdict v w c (matched c.codes w) (well_formed (payload q)) q ∙ g.verdict;
        prompt = rw (not_held (wrote v c).face q refl some) (ap (λ n. u8 (0 + n)) (no_pause r));
        shape = ap (λ l. shaped l a) (z.questions v w c d) ∙ g.shape;
        yes = g.yes;
      }

-- WHAT AN ACCEPTED E0 LEAVES, of any card that meets demand 2
module _ {f : AnyCard} (h : Demand2 f) {m : List ℕ} {i : Call} (y : Stores f m i) where
  pub is_write : command i.request ≡ WriteUserData
  is_write = by_ins WriteUserData refl i.request y.ins

  abbrev v : View
  v = sent_in i.request

  pub leaves : stored f m i ≡ encode (wrote v (decode m))
  unfolding done
  leaves =
      let c = decode m in
      leaves_as h (holding m) i (looks h y) (goes_on_lem c i.request i.draw i.answers (went h y)) refl
      ∙ ap (λ k. encode (waiting no_pending (record { face = (row k).next c.face v i.answers; codes = (row k).recode v c.codes }))) is_write

  pub spelled : decode (stored f m i) ≡ wrote v (decode m)
  unfolding done
  spelled =
      let c = decode m in
      spells h (holding m) i (looks h y)
      ∙ ap (λ s. card_after s c.codes i.request) (goes_on_lem c i.request i.draw i.answers (went h y))
      ∙ ap (λ k. waiting no_pending (record { face = (row k).next c.face v i.answers; codes = (row k).recode v c.codes })) is_write

  -- nothing is held or counted afterwards
  pub leaves_ready : Ready m → Ready (stored f m i)
  leaves_ready u =
      record {
        card = card_stays f h (holding m) i u.card;
        bytes =
            subst Bytes (sym leaves)
            (bytes_wrote v (decode m) (λ t. bytes_sent t i.request y.bytes) (subst Bytes (sym (card_image m u.card u.bytes)) u.bytes));
        free = inl (ap (λ (c : Card). c.face.pending.wait.size) spelled);
      }

  pub leaves_calm : Calm m → Calm (stored f m i)
  leaves_calm u =
      let r = leaves_ready (calm_ready u) in
      record {
        card = r.card;
        bytes = r.bytes;
        pause = ap (λ (c : Card). c.face.front.fixed.pause) spelled ∙ u.pause;
        wrong = ap (λ (c : Card). c.face.pending.wait.wrong) spelled;
        held = ap (λ (c : Card). c.face.pending.wait.size) spelled;
      }

-- WHAT WAS ACCEPTED IS STILL ACCEPTED, whatever the E0 has in it: another E0, and READ_USER_DATA
still_accepts :
    {f : AnyCard} → Demand2 f → {k : Command} → Deaf k → (m : List ℕ) → Ready m → (i j : Call) → Stores f m i → Accepts k f m j
    → Accepts k f (stored f m i) j
still_accepts {f} h {k} z m u i j x y =
    let q = j.request in
    let own : Deaf (command q) = subst Deaf (sym (by_ins k z.listed q y.ins)) z in
    let next = still_goes m u.card q j.draw j.answers (went h y) u.free own (sent_in i.request) in
    accepts h m (stored f m i) j (looks h y) (leaves_ready h x u).card k y.ins y.bytes (own.more (matched (decode (stored f m i)).codes (sent_in q)))
    (subst (λ c. Goes c q j.draw j.answers) (sym (spelled h x)) next)

pub still_stores : {f : AnyCard} → Demand2 f → (m : List ℕ) → Ready m → (i j : Call) → Stores f m i → Stores f m j → Stores f (stored f m i) j
still_stores h = still_accepts h deaf_write

pub still_reads : {f : AnyCard} → Demand2 f → (m : List ℕ) → Ready m → (i j : Call) → Stores f m i → Reads f m j → Reads f (stored f m i) j
still_reads h = still_accepts h deaf_read
