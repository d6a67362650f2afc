-- THE CARD THAT KEEPS ITS REASONS TO ITSELF is right in all else: it returns what the manual says, without the reason, and leaves the same in every buffer.
-- Assumes nothing.
use Prim.Native.Nat.{ℕ}
use mathlib.Core.Path.{◌≡◌, refl, ap, ◌∙◌}
use mathlib.Core.List.{List}
use mathlib.Core.Bool.{Bool, true, false}
use lib.ListN.{length}
use lib.Dec.{leb, eqb}
use Rattle.std.specs.Prelude.{Ok, Err}
use Rattle.card.specs.declared.Face.{Face}
use Rattle.card.specs.declared.Card.{Card}
use Rattle.card.specs.Image.{decode}
use Rattle.card.specs.Valid.{is_card}
use Rattle.manual.specs.Words.{questions_room, draw_size}
use Rattle.manual.specs.declared.Pace.{Pace}
use Rattle.manual.specs.declared.Pace.TheVariants.{Refused, Waits, Goes}
use Rattle.manual.specs.Row.{asked, Verdict}
use Rattle.manual.specs.Settle.{State, Call, paced_reason, paced_word, Said, posed, posed_by, outcome, untouched, lent, roomy, asked_for, settled}
use Rattle.history.specs.Wrong.{asks_at, says_at, honest, hushed, quietly, unreasoned_ask, unreasoned_settle, mute}
use Rattle.history.proofs.Images.{stages}
use Rattle.rejected.proofs.Rejected.{honest_accepted}

hush_verdict :
    (p : Pace) (z : Verdict) (v page : List ℕ)
    → posed (paced_reason p (hushed z)) (paced_word p (hushed z)) v page ≡ unreasoned_ask (posed (paced_reason p z) (paced_word p z) v page)
hush_verdict (Refused b) (Ok k) v page = refl
hush_verdict (Refused b) (Err e) v page = refl
hush_verdict (Waits t) z v page = refl
hush_verdict Goes (Ok k) v page = refl
hush_verdict Goes (Err e) v page = refl

hush_paced : (p : Pace) (f : Face) (q : List ℕ) (z : Said) → says_at p f q (quietly z) ≡ quietly (says_at p f q z)
hush_paced (Refused b) f q z = refl
hush_paced (Waits t) f q z = refl
hush_paced Goes f q z = refl

hush_said : (z : Said) (c : Card) (out nxt : List ℕ) → lent (quietly z) c out nxt ≡ unreasoned_settle (lent z c out nxt)
unfolding lent
hush_said z c out nxt = go (eqb z.number 0) refl
  where
    go : (b : Bool) → eqb z.number 0 ≡ b → lent (quietly z) c out nxt ≡ unreasoned_settle (lent z c out nxt)
    go true e = rw e refl
    go false e = rw e refl

module _ (s : State) (i : Call) where
  abbrev c0 : Card
  c0 = decode s.image

  abbrev pace0 : Pace
  pace0 = honest.pace (decode s.image) i.request

  pub mute_asks : mute.taps.ask s i ≡ unreasoned_ask (asked_for s i)
  mute_asks =
      stages (λ z. z) unreasoned_ask (λ n. posed_by (outcome n 0 0 0) i.buffers.page) (λ n. refl) (is_card s.image) (leb questions_room (length i.buffers.page))
      (eqb (length i.draw) draw_size)
      (hush_verdict pace0 (honest.verdict c0 i.request) (asked (asks_at pace0 (honest.asks c0 i.request i.draw))) i.buffers.page)
      ∙ ap unreasoned_ask (honest_accepted.asks s i)

  pub mute_settles : mute.taps.settle s i ≡ unreasoned_settle (settled s i)
  mute_settles =
      let z : Said = says_at pace0 c0.face i.request (honest.says c0 i.request i.draw i.answers) in
      let e = hush_paced pace0 c0.face i.request (honest.says c0 i.request i.draw i.answers) in
      stages (λ z. z) unreasoned_settle (λ n. untouched n i.buffers.out i.buffers.next) (λ n. refl) (is_card s.image)
      (roomy (length i.buffers.out) (length i.buffers.next)) (eqb (length i.draw) draw_size)
      ((λ j. lent (e j) (honest.leaves c0 i.request (e j)) i.buffers.out i.buffers.next)
      ∙ hush_said z (honest.leaves c0 i.request z) i.buffers.out i.buffers.next)
      ∙ ap unreasoned_settle (honest_accepted.settles s i)
