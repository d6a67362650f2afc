-- Laws of ordered checks, over any list of them; how the four groups make the judgement; what a request that passes has shown. Assumes nothing.
use Prim.Native.Nat.{ℕ}
use mathlib.Core.Path.{◌≡◌, refl, sym, ap, ap₂, ◌∙◌, subst}
use mathlib.Core.List.{List, [], ◌∷◌, ◌++◌}
use mathlib.Core.Bool.{Bool, true, false, cond}
use Rattle.std.specs.Prelude.{Result, Ok, Err}
use Rattle.fields.specs.Fields.{View}
use Rattle.card.specs.declared.Card.{Card}
use Rattle.card.specs.declared.Face.{Face}
use Rattle.manual.specs.declared.Command.{Command}
use Rattle.manual.specs.declared.Refusal.{Refusal}
use Rattle.manual.specs.Request.{lc_of, fits, command}
use Rattle.manual.specs.Row.{Matched, Rule, Verdict, stop, gate_of, head_rules, form_rules, entry_rules, own_rules, rules, passed}
use Rattle.manual.specs.Commands.{row}
use Rattle.manual.specs.Settle.{matched, judged_by}
use Rattle.gate.specs.Gate.{form_of, entry_of, own_of, head_of, later_of, judged_of}

gate_append : {A : Type 0} (xs ys : List Rule) (g : Result A Refusal) → gate_of (xs ++ ys) g ≡ gate_of xs (gate_of ys g)
gate_append [] ys g = refl
gate_append (r ∷ xs) ys g = ap (λ z. cond r.ok z (stop r.check r.word)) (gate_append xs ys g)

-- a check by its outcome: one that holds leaves the judgement to the next, one that failed is the judgement
module _ {A : Type 0} where
  pub goes_on_lem : (b : Bool) {r : Bool} {x y : A} (s : A) → r ≡ true → r ≡ b → x ≡ y → x ≡ cond b y s
  goes_on_lem b s p q e = e ∙ sym (rw (sym q ∙ p) refl)

  pub ends : (b : Bool) {r : Bool} (y : A) {s : A} → r ≡ false → r ≡ b → s ≡ cond b y s
  ends b y p q = sym (rw (sym q ∙ p) refl)

-- CHECKS THAT HAND NOTHING OVER say all: what they refuse is refused, and where they hold something else is handed over
module _ {A B : Type 0} where
  abbrev pub after : Result A Refusal → Result B Refusal → Result B Refusal
  after (Ok a) g = g
  after (Err e) g = Err e

  one_after : (t : Bool) (x : Result A Refusal) (y g : Result B Refusal) (e : Refusal) → y ≡ after x g → cond t y (Err e) ≡ after (cond t x (Err e)) g
  one_after t x y g e h = by t refl
    where
      by : (r : Bool) → r ≡ t → cond t y (Err e) ≡ after (cond t x (Err e)) g
      by true i = sym (goes_on_lem t (Err e) refl i refl) ∙ h ∙ ap (λ z. after z g) (goes_on_lem t (Err e) refl i refl)
      by false i = sym (ends t y refl i) ∙ ap (λ z. after z g) (ends t x refl i)

  gate_after : (xs : List Rule) (a : A) (g : Result B Refusal) → gate_of xs g ≡ after (gate_of xs (Ok a)) g
  gate_after [] a g = refl
  gate_after (r ∷ xs) a g =
      one_after r.ok (gate_of xs (Ok a)) (gate_of xs g) g (record { check = r.check; word = r.word }) (gate_after xs a g)

-- what passed: every check of the list holds
abbrev Every : List Rule → Type 0
Every [] = Unit {0}
Every (r ∷ rs) = (r.ok ≡ true) × Every rs

module _ {A : Type 0} {a : A} where
  holds_by : (y g : Result A Refusal) (r : Rule) (X : Type 0) → (y ≡ Ok a → X × (g ≡ Ok a))
      → (t : Bool) → cond t y (stop r.check r.word) ≡ Ok a → ((t ≡ true) × X) × (g ≡ Ok a)
  holds_by y g r X f true e = let z = f e in ((refl, z.0), z.1)
  holds_by y g r X f false e = cc

  gate_holds : (xs : List Rule) (g : Result A Refusal) → gate_of xs g ≡ Ok a → Every xs × (g ≡ Ok a)
  gate_holds [] g e = (tt, e)
  gate_holds (r ∷ xs) g e = holds_by (gate_of xs g) g r (Every xs) (gate_holds xs g) r.ok e

same_command : {k l : Command} → ◌≡◌ {A = Verdict} (Ok k) (Ok l) → k ≡ l
same_command e = cc

-- A REQUEST THAT PASSES: its command is the one of its INS, and every check holds
module _ (w : Bool) (v : View) (m : Matched) (f : Face) (q : List ℕ) {k : Command} (e : judged_by w v m f q ≡ Ok k) where
  all_of : Every (rules (row (command q)) m f w v q) × (passed q ≡ Ok k)
  unfolding judged_by
  all_of = gate_holds (rules (row (command q)) m f w v q) (passed q) e

  pub command_of_lem : k ≡ command q
  command_of_lem = sym (same_command all_of.1)

  all_hold : Every (rules (row k) m f w v q)
  all_hold = subst (λ (l : Command). Every (rules (row l) m f w v q)) (sym command_of_lem) all_of.0

  -- check 11
  pub fields_hold : (row k).fields f v ≡ true
  fields_hold = all_hold.1.1.1.1.1.1.1.1.1.1.1.1.1.0

-- one that passes checks 1 to 3 has a payload, and its command
module _ (q : List ℕ) {h : Verdict} {k : Command} (eh : h ≡ head_of q) (d : h ≡ Ok k) where
  headed : Every (head_rules q) × (passed q ≡ Ok k)
  headed = gate_holds (head_rules q) (passed q) (sym eh ∙ d)

  pub heads : fits (lc_of q) ≡ true
  heads = headed.0.0

  pub head_command : k ≡ command q
  head_command = sym (same_command headed.1)

-- THE JUDGEMENT by its groups, checks 1 to 3, 4 and 5, 6 to 9, 10 to 12
module _ (w : Bool) (c : Card) (v : View) (q : List ℕ) where
  in_groups : judged_of w c v q ≡ gate_of (head_rules q) (later_of (command q) w c v q)
  unfolding judged_by
  in_groups =
      let r = row (command q) in
      let m = matched c.codes v in
      let fs = form_rules r c.face w v q in
      let xs = entry_rules r m c.face v in
      let ys = own_rules r m c.face v in
      gate_append (head_rules q) (fs ++ (xs ++ ys)) (passed q)
      ∙ ap (gate_of (head_rules q)) (gate_append fs (xs ++ ys) (passed q) ∙ ap (gate_of fs) (gate_append xs ys (passed q)))

  by_head : {h : Verdict} → h ≡ head_of q → judged_of w c v q ≡ after h (later_of (command q) w c v q)
  by_head eh = in_groups ∙ gate_after (head_rules q) (command q) (later_of (command q) w c v q) ∙ rw eh

  pub at_head : {h : Verdict} {e : Refusal} → h ≡ head_of q → h ≡ Err e → judged_of w c v q ≡ Err e
  at_head eh d = rw d at (by_head eh)

  pub past_head : {h : Verdict} {k : Command} → h ≡ head_of q → h ≡ Ok k → judged_of w c v q ≡ later_of k w c v q
  past_head eh d = (rw d at (by_head eh)) ∙ ap (λ l. later_of l w c v q) (sym (head_command q eh d))

  -- of checks 4 to 12, by what each group returned
  pub by_groups : (k : Command) {f x o : Result (Unit {0}) Refusal}
      → f ≡ form_of k w c v q (Ok tt) → x ≡ entry_of k c v (Ok tt) → o ≡ own_of k c v (Ok tt)
      → later_of k w c v q ≡ after f (after x (after o (Ok k)))
  by_groups k ef ex eo =
      let fs = gate_after (form_rules (row k) c.face w v q) tt (entry_of k c v (own_of k c v (Ok k))) in
      let xs = gate_after (entry_rules (row k) (matched c.codes v) c.face v) tt (own_of k c v (Ok k)) in
      let os = gate_after (own_rules (row k) (matched c.codes v) c.face v) tt (Ok k) in
      fs ∙ ap₂ after (sym ef) (xs ∙ ap₂ after (sym ex) (os ∙ ap₂ after (sym eo) refl))
