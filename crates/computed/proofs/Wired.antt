-- A CODE LINKED ALONE: where some look-up has every function of a code, the code's own look-up has them too, so the environment that it ties is one in which
-- the code is run as it is written. Assumes nothing.
use mathlib.Core.Path.{◌≡◌, refl, sym, ap, ◌∙◌, subst}
use mathlib.Core.Bool.{Bool, true, false}
use mathlib.Core.List.{List, [], ◌∷◌}
use mathlib.Core.Logic.{◌⊎◌, inl, inr}
use lib.Dec.{T}
use lib.Text.{eqt, eqt→eq, eqt_refl}
use mir.Syntax.{Symbol}
use prog.Routine.{Binding}
use prog.Wired.{Members, Code, Codes, node, threads, end, and, Wired}
use prog.Linked.{Entry, Entries, in_entries, of_members, when, HasMembers, HasForeign}
use prog.LinkedThreads.{HasT, HassT, has-wired_t, tie_t, tie_t-follows, tie_t-threads}
use Rattle.computed.specs.Computes.{of_foreign, entries, all_entries, look_in}

-- a symbol that has an entry
abbrev Named : Symbol → Entries → Type 0
Named s [] = ⊥
Named s (p ∷ t) = (p.0 ≡ s) ⊎ Named s t

past_members : (s : Symbol) (ms : Members) (t : Entries) → Named s t → Named s (of_members ms t)
past_members s [] t n = n
past_members s (m ∷ ms) t n = inr (past_members s ms t n)

past_foreign : (s : Symbol) (fs : List Binding) (t : Entries) → Named s t → Named s (of_foreign fs t)
past_foreign s [] t n = n
past_foreign s (f ∷ fs) t n = inr (past_foreign s fs t n)

mutual
  past : (s : Symbol) (c : Code) (t : Entries) → Named s t → Named s (entries c t)
  past s (node ms fs cs) t n =
      past_members s ms (of_foreign fs (all_entries cs t)) (past_foreign s fs (all_entries cs t) (past_all s cs t n))
  past s threads t n = n

  past_all : (s : Symbol) (cs : Codes) (t : Entries) → Named s t → Named s (all_entries cs t)
  past_all s end t n = n
  past_all s (and c cs) t n = past s c (all_entries cs t) (past_all s cs t n)

module _ (look : Symbol → Entry) where
  -- entries that are what the look-up says
  abbrev Right : Entries → Type 0
  Right [] = Unit {0}
  Right (p ∷ t) = (look p.0 ≡ p.1) × Right t

  right_members : (ms : Members) (t : Entries) → HasMembers look ms → Right t → Right (of_members ms t)
  right_members [] t h r = r
  right_members (m ∷ ms) t h r = (h.0, right_members ms t h.1 r)

  right_foreign : (fs : List Binding) (t : Entries) → HasForeign look fs → Right t → Right (of_foreign fs t)
  right_foreign [] t h r = r
  right_foreign (f ∷ fs) t h r = (h.0, right_foreign fs t h.1 r)

  mutual
    right : (c : Code) (t : Entries) → HasT look true c → Right t → Right (entries c t)
    right (node ms fs cs) t h r =
        right_members ms (of_foreign fs (all_entries cs t)) h.0 (right_foreign fs (all_entries cs t) h.1 (right_all cs t h.2 r))
    right threads t h r = r

    right_all : (cs : Codes) (t : Entries) → HassT look true cs → Right t → Right (all_entries cs t)
    right_all end t h r = r
    right_all (and c cs) t h r = right c (all_entries cs t) h.0 (right_all cs t h.1 r)

  -- among them a symbol that is named is found as the look-up finds it
  finds : (t : Entries) → Right t → (s : Symbol) → Named s t → in_entries t s ≡ look s
  finds [] r s n = absurd n
  finds (p ∷ t) r s n = go (λ k. finds t r.1 s k) (eqt p.0 s) refl n
    where
      go : (Named s t → in_entries t s ≡ look s) → (b : Bool) → eqt p.0 s ≡ b → (p.0 ≡ s) ⊎ Named s t → when b p.1 (in_entries t s) ≡ look s
      go later true e n = sym r.0 ∙ ap look (eqt→eq p.0 s (subst T (sym e) tt))
      go later false e (inl i) = absurd (subst T (ap (λ x. eqt p.0 x) i ∙ e) (eqt_refl p.0))
      go later false e (inr n) = later n

  module _ (t : Entries) (r : Right t) where
    found_members : (ms : Members) (u : Entries) → HasMembers look ms → ((s : Symbol) → Named s (of_members ms u) → Named s t) → HasMembers (in_entries t) ms
    found_members [] u h up = tt
    found_members (m ∷ ms) u h up = (finds t r m.0 (up m.0 (inl refl)) ∙ h.0, found_members ms u h.1 (λ s n. up s (inr n)))

    found_foreign : (fs : List Binding) (u : Entries) → HasForeign look fs → ((s : Symbol) → Named s (of_foreign fs u) → Named s t)
        → HasForeign (in_entries t) fs
    found_foreign [] u h up = tt
    found_foreign (f ∷ fs) u h up = (finds t r f.0 (up f.0 (inl refl)) ∙ h.0, found_foreign fs u h.1 (λ s n. up s (inr n)))

    mutual
      found : (c : Code) (u : Entries) → HasT look true c → ((s : Symbol) → Named s (entries c u) → Named s t) → HasT (in_entries t) true c
      found (node ms fs cs) u h up = (
        found_members ms (of_foreign fs (all_entries cs u)) h.0 up,
        found_foreign fs (all_entries cs u) h.1 (λ s n. up s (past_members s ms (of_foreign fs (all_entries cs u)) n)),
        found_all cs u h.2 (λ s n. up s (past_members s ms (of_foreign fs (all_entries cs u)) (past_foreign s fs (all_entries cs u) n))),
      )
      found threads u h up = h

      found_all : (cs : Codes) (u : Entries) → HassT look true cs → ((s : Symbol) → Named s (all_entries cs u) → Named s t) → HassT (in_entries t) true cs
      found_all end u h up = tt
      found_all (and c cs) u h up = (found c (all_entries cs u) h.0 up, found_all cs u h.1 (λ s n. up s (past s c (all_entries cs u) n)))

  pub has_itself : (c : Code) → HasT look true c → HasT (look_in c) true c
  has_itself c h = found (entries c []) (right c [] h tt) c [] h (λ s n. n)

  pub wired_alone : (c : Code) → HasT look true c → Wired (tie_t (look_in c)) c
  wired_alone c h =
      has-wired_t (look_in c) (tie_t (look_in c)) (tie_t-follows (look_in c)) (tie_t-threads (look_in c)) c (has_itself c h)
