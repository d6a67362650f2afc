-- SLICES LENT TO A CALL, of any function whose arguments are slices of bytes: bytes in memory are lent, each slice for a lifetime made for the call, and once
-- the call is over the lifetimes are ended and the buffers taken back at their last bytes. Assumes nothing.
use mathlib.Core.Path.{◌≡◌, refl, ap, subst}
use Prim.Native.Nat.{ℕ, suc, ◌+◌}
use mathlib.Core.List.{List, [], ◌∷◌}
use lib.ListN.{length}
use seplogic.Ra.Ura.{Ura}
use base.Fraction.{full_share}
use mir.Syntax.{named, w8, ty_int}
use mir.Val.{Val, vint}
use base.Logic.{SProp, ent, sep, ex, emp, guard, id⊢}
use base.Fml.{Lft, GName, Incl-refl, Fml, ftrue, fsep, feq, fat, fbor, flft, flent}
use prog.Wp.{run}
use types.Logic.{Logic, sem}
use types.Kit.{‵, raw, ◌⊛◌, some, later, ◌$◌, ◌∵◌, !, qed, by, move, keep, drop, use1, use2, use3, split, split3, join, pick, fsplit, feq_l, feq_i, frame, await, updating}
use types.Kit.{now as at_once, show, check, done}
use types.Tokens.{lft_new, lft_end}
use types.SemTy.{cells, Arr}
use types.Share.{parts, arr_parts}
use contract.Lifetimes.{Lfts, Shares, toks}
use denote.RattleType.{RattleType, Denots, Valss, owns}
use denote.Memory.{part_at, mem, shares}
use denote.Plain.{uint_in, uint_out}
use denote.Builtin.{u8}
use denote.Copied.{uint_Copied}
use denote.Slice.{slice_val, MutSlice, ShrSlice, Room, finally}
use denote.Lend.{Held, lends_slice, slice_back, lends_shr_slice}
use denote.Steps.{nothing}

-- a slice that is passed, shared or lent by &mut: its bytes, and the block and the offset where they lie
pub data Passed : Type 0 where
  shared : List ℕ → ℕ → ℕ → Passed
  lent : List ℕ → ℕ → ℕ → Passed

-- what is new in a call: for each slice the lifetime that it is lent for, and the ghost name of its bytes
abbrev pub Fresh : List Passed → Type 0
Fresh [] = Unit {0}
Fresh (p ∷ ps) = (ℕ × GName) × Fresh ps

abbrev pub Roomy : Passed → Type 0
Roomy (shared ys b o) = Room u8 (length ys)
Roomy (lent ys b o) = Room u8 (length ys)

abbrev pub AllRoomy : List Passed → Type 0
AllRoomy [] = Unit {0}
AllRoomy (p ∷ ps) = Roomy p × AllRoomy ps

-- the call's lifetimes, types, arguments and machine values; j is the first lifetime's number
abbrev pub lfts_of : (ps : List Passed) → Fresh ps → Lfts (length ps)
lfts_of [] ξ = tt
lfts_of (p ∷ ps) ξ = (ξ.0.0 ∷ [], lfts_of ps ξ.1)

abbrev pub wholes : (ps : List Passed) → Shares (length ps)
wholes [] = tt
wholes (p ∷ ps) = (full_share, wholes ps)

abbrev pub type_of : ℕ → Lft → Passed → RattleType
type_of j κ (shared ys b o) = ShrSlice (named j) κ u8
type_of j κ (lent ys b o) = MutSlice (named j) κ u8

abbrev pub arg_of : (j : ℕ) (κ : Lft) (p : Passed) → GName → (type_of j κ p).Denot
arg_of j κ (shared ys b o) γ = record { ref_ptr = (b, o); now = ys }
arg_of j κ (lent ys b o) γ = record { ref_ptr = (b, o); ghost_name = γ; now = ys }

abbrev pub val_of : Passed → List Val
val_of (shared ys b o) = slice_val (b, o) (length ys) ∷ []
val_of (lent ys b o) = slice_val (b, o) (length ys) ∷ []

abbrev pub types_of : ℕ → (ps : List Passed) → Fresh ps → List RattleType
types_of j [] ξ = []
types_of j (p ∷ ps) ξ = type_of j (ξ.0.0 ∷ []) p ∷ types_of (suc j) ps ξ.1

abbrev pub args_of : (j : ℕ) (ps : List Passed) (ξ : Fresh ps) → Denots (types_of j ps ξ)
args_of j [] ξ = tt
args_of j (p ∷ ps) ξ = (arg_of j (ξ.0.0 ∷ []) p ξ.0.1, args_of (suc j) ps ξ.1)

abbrev pub vals_of : (j : ℕ) (ps : List Passed) (ξ : Fresh ps) → Valss (types_of j ps ξ)
vals_of j [] ξ = tt
vals_of j (p ∷ ps) ξ = (val_of p, vals_of (suc j) ps ξ.1)

-- what the call owns
abbrev own_of : ℕ → Passed → ℕ → GName → Fml
own_of j p α γ = (type_of j (α ∷ []) p).own_val (arg_of j (α ∷ []) p γ) (val_of p)

abbrev owns_of : ℕ → (ps : List Passed) → Fresh ps → Fml
owns_of j ps ξ = owns (types_of j ps ξ) (args_of j ps ξ) (vals_of j ps ξ)

-- the last bytes of what is lent by &mut, and what a call says of them; its borrow comes with that
abbrev pub Last : Passed → Type 0
Last (shared ys b o) = Unit {0}
Last (lent ys b o) = List ℕ

abbrev pub Lasts : List Passed → Type 0
Lasts [] = Unit {0}
Lasts (p ∷ ps) = Last p × Lasts ps

abbrev pub said_of : (p : Passed) → ℕ → GName → Last p → Fml
said_of (shared ys b o) α γ w = ftrue
said_of (lent ys b o) α γ w = fsep (fsep (finally u8 γ w) (feq ℕ (length w) (length ys))) (fbor (α ∷ []) (Held u8 (length ys) b o γ))

abbrev pub saids_of : (ps : List Passed) → Fresh ps → Lasts ps → Fml
saids_of [] ξ ws = ftrue
saids_of (p ∷ ps) ξ ws = fsep (said_of p ξ.0.0 ξ.0.1 ws.0) (saids_of ps ξ.1 ws.1)

-- what the lender is owed
abbrev owed_of : Passed → GName → Fml
owed_of (shared ys b o) γ = (arr_parts (shares u8) (length ys)).part full_share ys b o
owed_of (lent ys b o) γ = Held u8 (length ys) b o γ

module _ {M : Type 1} {𝓤 : Ura M} (𝓛 : Logic 𝓤) where
  open 𝓛 use {H, A}

  abbrev ◌∗◌ : SProp 𝓤 → SProp 𝓤 → SProp 𝓤
  P ∗ Q = sep 𝓤 P Q

  abbrev ◌⊢◌ : SProp 𝓤 → SProp 𝓤 → Type 1
  P ⊢ Q = ent 𝓤 P Q

  infixr 35 ◌∗◌
  infix 26 ◌⊢◌
  -- bytes that lie side by side, in the machine's words
  abbrev pub bytes_at : List ℕ → ℕ → ℕ → SProp 𝓤
  bytes_at ys b o = run 𝓤 H full_share w8 b o ys

  abbrev pub lies : Passed → SProp 𝓤
  lies (shared ys b o) = bytes_at ys b o
  lies (lent ys b o) = bytes_at ys b o

  abbrev pub lies_all : List Passed → SProp 𝓤
  lies_all [] = emp 𝓤
  lies_all (p ∷ ps) = lies p ∗ lies_all ps

  -- the buffers when they are back
  abbrev pub last : (p : Passed) → Last p → SProp 𝓤
  last (shared ys b o) w = emp 𝓤
  last (lent ys b o) w = guard 𝓤 (length w ≡ length ys) (bytes_at w b o)

  abbrev pub lasts : (ps : List Passed) → Lasts ps → SProp 𝓤
  lasts [] ws = emp 𝓤
  lasts (p ∷ ps) ws = last p ws.0 ∗ lasts ps ws.1

  module _ where
    abbrev ⟦◌⟧ : Fml → SProp 𝓤
    ⟦ P ⟧ = sem 𝓛 P

    abbrev pub tokens : (ps : List Passed) → Fresh ps → SProp 𝓤
    tokens ps ξ = toks 𝓛 (length ps) (lfts_of ps ξ) (wholes ps)

    abbrev pub owned : ℕ → (ps : List Passed) → Fresh ps → SProp 𝓤
    owned j ps ξ = ⟦ owns_of j ps ξ ⟧

    -- the lender's part
    abbrev aside : (p : Passed) → ℕ × GName → SProp 𝓤
    aside p ξ = A.lent (ξ.0 ∷ []) (owed_of p ξ.1)

    abbrev pub asides : (ps : List Passed) → Fresh ps → SProp 𝓤
    asides [] ξ = emp 𝓤
    asides (p ∷ ps) ξ = aside p ξ.0 ∗ asides ps ξ.1

    -- what a call is entered with, and the lenders' parts
    abbrev pub Handed : ℕ → (ps : List Passed) → Fresh ps → SProp 𝓤
    Handed j ps ξ = tokens ps ξ ∗ owned j ps ξ ∗ asides ps ξ

    module _ where
      -- the machine's bytes are a slice's, each way
      in_step : (y : ℕ) (ys : List ℕ) (b o : ℕ) → bytes_at ys b (o + 1) ⊢ ⟦ cells (mem u8) ys b (o + 1) ⟧
          → bytes_at (y ∷ ys) b o ⊢ ⟦ cells (mem u8) (y ∷ ys) b o ⟧
      in_step y ys b o h =
          qed 𝓛 (‵ (fat full_share (ty_int w8) b o (vint w8 y)) ∷ raw (bytes_at ys b (o + 1)) ∷ []) ∵
          use1 𝓛 (‵ (part_at u8 full_share y b o)) (uint_in 𝓛 full_share w8 y b o) $ frame ! $ by ! h

      bytes_in : (ys : List ℕ) (b o : ℕ) → bytes_at ys b o ⊢ ⟦ cells (mem u8) ys b o ⟧
      bytes_in [] b o = id⊢ 𝓤 (emp 𝓤)
      bytes_in (y ∷ ys) b o = in_step y ys b o (bytes_in ys b (o + 1))

      out_step : (y : ℕ) (ys : List ℕ) (b o : ℕ) → ⟦ cells (mem u8) ys b (o + 1) ⟧ ⊢ bytes_at ys b (o + 1)
          → ⟦ cells (mem u8) (y ∷ ys) b o ⟧ ⊢ bytes_at (y ∷ ys) b o
      out_step y ys b o h =
          qed 𝓛 (‵ (part_at u8 full_share y b o) ∷ ‵ (cells (mem u8) ys b (o + 1)) ∷ []) ∵
          use1 𝓛 (‵ (fat full_share (ty_int w8) b o (vint w8 y))) (uint_out 𝓛 full_share w8 y b o) $ frame ! $ by ! h

      bytes_out : (ys : List ℕ) (b o : ℕ) → ⟦ cells (mem u8) ys b o ⟧ ⊢ bytes_at ys b o
      bytes_out [] b o = id⊢ 𝓤 (emp 𝓤)
      bytes_out (y ∷ ys) b o = out_step y ys b o (bytes_out ys b (o + 1))

      -- the whole share of each byte is the byte
      whole : (ys : List ℕ) (b o : ℕ) → cells (mem u8) ys b o ≡ parts (mem u8) (shares u8) full_share ys b o
      whole [] b o = refl
      whole (y ∷ ys) b o = ap (fsep (part_at u8 full_share y b o)) (whole ys b (o + 1))

      shared_in : (ys : List ℕ) (b o : ℕ) → bytes_at ys b o ⊢ ⟦ (arr_parts (shares u8) (length ys)).part full_share ys b o ⟧
      shared_in ys b o =
          qed 𝓛 (raw (bytes_at ys b o) ∷ []) ∵ use1 𝓛 (‵ (parts (mem u8) (shares u8) full_share ys b o))
          (subst (λ (P : Fml). bytes_at ys b o ⊢ ⟦ P ⟧) (whole ys b o) (bytes_in ys b o)) $ feq_i ! ℕ (length ys) (length ys) refl $ done !

      -- before the call: lifetimes are made, and each slice is lent for its own
      abbrev Lent : ℕ → (p : Passed) → ℕ → GName → SProp 𝓤
      Lent j p α γ = ⟦ own_of j p α γ ⟧ ∗ aside p (α, γ) ∗ A.lft (α ∷ []) full_share

      -- to share a slice out takes the lifetime's token, which comes back; no ghost name stands for its bytes
      lends_one : (j : ℕ) (p : Passed) (α : ℕ) → Roomy p → lies p ∗ A.lft (α ∷ []) full_share ⊢ H.⇛ (ex 𝓤 (Lent j p α))
      lends_one j (shared ys b o) α g =
          let κ : Lft = α ∷ [] in
          qed 𝓛 (raw (bytes_at ys b o) ∷ ‵ (flft κ full_share) ∷ []) ∵ updating ! $
          use1 𝓛 (‵ ((arr_parts (shares u8) (length ys)).part full_share ys b o)) (shared_in ys b o) $
          use2 𝓛 (later ((‵ (own_of j (shared ys b o) α 0) ⊛ ‵ (flent κ (owed_of (shared ys b o) 0))) ⊛ ‵ (flft κ full_share)))
          (lends_shr_slice 𝓛 u8 (named j) κ full_share ys b o g κ ((uint_Copied 𝓛 w8).shares full_share κ) ((κ, full_share) ∷ []) (Incl-refl κ) (Incl-refl κ)) $
          await ! tt $ split ! $ split ! $ at_once ! $ show ! (Lent j (shared ys b o) α) 0 $ done !
      lends_one j (lent ys b o) α g =
          let κ : Lft = α ∷ [] in
          qed 𝓛 (raw (bytes_at ys b o) ∷ ‵ (flft κ full_share) ∷ []) ∵ updating ! $
          use1 𝓛 (‵ (cells (mem u8) ys b o)) (bytes_in ys b o) $
          use1 𝓛 (later (some (λ (γ : GName). ‵ (own_of j (lent ys b o) α γ) ⊛ ‵ (flent κ (owed_of (lent ys b o) γ)))))
          (lends_slice 𝓛 u8 (named j) κ ys b o g) $
          await ! tt $ pick ! (λ γ. split ! $ at_once ! $ show ! (Lent j (lent ys b o) α) γ $ done !)

      lends_step : (j : ℕ) (p : Passed) (ps : List Passed) → Roomy p → lies_all ps ⊢ H.⇛ (ex 𝓤 (Handed (suc j) ps))
          → lies_all (p ∷ ps) ⊢ H.⇛ (ex 𝓤 (Handed j (p ∷ ps)))
      lends_step j p ps g h =
          qed 𝓛 (raw (lies p) ∷ raw (lies_all ps) ∷ []) ∵ updating ! $ lft_new ! tt (λ α. move ! (1 ∷ 0 ∷ []) $
          use2 𝓛 (later (some (λ (γ : GName). ‵ (own_of j p α γ) ⊛ ‵ (flent (α ∷ []) (owed_of p γ)) ⊛ ‵ (flft (α ∷ []) full_share))))
          (lends_one j p α g) $
          await ! tt $ pick ! (λ γ. split3 ! $ move ! (3 ∷ []) $
          use1 𝓛 (later (some (λ (ξ : Fresh ps). raw (tokens ps ξ) ⊛ ‵ (owns_of (suc j) ps ξ) ⊛ raw (asides ps ξ)))) h $
          await ! tt $ pick ! (λ ξ. split ! $ move ! (1 ∷ []) $ split ! $ at_once ! $ show ! (Handed j (p ∷ ps)) ((α, γ), ξ) $
          -- [what the rest owns; what the rest is owed; the rest's tokens; what is owned; what is owed; the token]
          move ! (5 ∷ 2 ∷ []) $ join ! $ frame ! $ move ! (2 ∷ 0 ∷ []) $ join ! $ frame ! $ move ! (1 ∷ 0 ∷ []) $ done !)))

      pub lends_all : (j : ℕ) (ps : List Passed) → AllRoomy ps → lies_all ps ⊢ H.⇛ (ex 𝓤 (Handed j ps))
      lends_all j [] g = qed 𝓛 [] ∵ updating ! $ at_once ! $ show ! (Handed j []) tt $ nothing ! $ nothing ! $ nothing ! $ done !
      lends_all j (p ∷ ps) g = lends_step j p ps g.0 (lends_all (suc j) ps g.1)

      -- after it: each lifetime is ended, and each buffer taken back at its last bytes
      back_one : (p : Passed) (α : ℕ) (γ : GName) (w : Last p) → A.lft (α ∷ []) full_share ∗ ⟦ said_of p α γ w ⟧ ∗ aside p (α, γ) ⊢ H.⇛ (last p w)
      back_one (shared ys b o) α γ w =
          qed 𝓛 (‵ (flft (α ∷ []) full_share) ∷ ‵ ftrue ∷ ‵ (flent (α ∷ []) (owed_of (shared ys b o) γ)) ∷ []) ∵ updating ! $ at_once ! $ keep ! (1 ∷ []) $ done !
      back_one (lent ys b o) α γ w =
          qed 𝓛 (‵ (flft (α ∷ []) full_share) ∷ ‵ (said_of (lent ys b o) α γ w) ∷ ‵ (flent (α ∷ []) (Held u8 (length ys) b o γ)) ∷ []) ∵ updating ! $ lft_end ! tt $
          move ! (1 ∷ []) $ fsplit ! $ move ! (1 ∷ []) $ drop ! $ fsplit ! $ move ! (2 ∷ 3 ∷ 0 ∷ []) $
          use3 𝓛 (later (‵ ((Arr (mem u8) (length ys)).own_at w b o))) (slice_back 𝓛 u8 (α ∷ []) γ w (length ys) b o) $ await ! tt $
          fsplit ! $ feq_l ! (λ e. at_once ! $ check ! e $ keep ! (0 ∷ []) $ by ! (bytes_out w b o))

      back_step : (p : Passed) (ps : List Passed) (ξ : Fresh (p ∷ ps)) (ws : Lasts (p ∷ ps))
          → tokens ps ξ.1 ∗ ⟦ saids_of ps ξ.1 ws.1 ⟧ ∗ asides ps ξ.1 ⊢ H.⇛ (lasts ps ws.1)
          → tokens (p ∷ ps) ξ ∗ ⟦ saids_of (p ∷ ps) ξ ws ⟧ ∗ asides (p ∷ ps) ξ ⊢ H.⇛ (lasts (p ∷ ps) ws)
      back_step p ps ξ ws h =
          qed 𝓛 ((‵ (flft (ξ.0.0 ∷ []) full_share) ⊛ raw (tokens ps ξ.1)) ∷ (‵ (said_of p ξ.0.0 ξ.0.1 ws.0) ⊛ ‵ (saids_of ps ξ.1 ws.1))
          ∷ (‵ (flent (ξ.0.0 ∷ []) (owed_of p ξ.0.1)) ⊛ raw (asides ps ξ.1)) ∷ []) ∵ updating ! $
          split ! $ move ! (2 ∷ []) $ split ! $ move ! (4 ∷ []) $ split ! $
          -- [what is owed; what the rest is owed; what is said; what is said of the rest; the token; the rest's tokens]
          move ! (4 ∷ 2 ∷ 0 ∷ []) $ use3 𝓛 (later (raw (last p ws.0))) (back_one p ξ.0.0 ξ.0.1 ws.0) $ await ! tt $
          move ! (3 ∷ 2 ∷ 1 ∷ []) $ use3 𝓛 (later (raw (lasts ps ws.1))) h $ await ! tt $ at_once ! $ move ! (1 ∷ 0 ∷ []) $ done !

      pub back_all : (ps : List Passed) (ξ : Fresh ps) (ws : Lasts ps) → tokens ps ξ ∗ ⟦ saids_of ps ξ ws ⟧ ∗ asides ps ξ ⊢ H.⇛ (lasts ps ws)
      back_all [] ξ ws = qed 𝓛 (‵ ftrue ∷ ‵ ftrue ∷ ‵ ftrue ∷ []) ∵ updating ! $ at_once ! $ keep ! (0 ∷ []) $ done !
      back_all (p ∷ ps) ξ ws = back_step p ps ξ ws (back_all ps ξ.1 ws.1)
