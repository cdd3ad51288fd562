-- The search for a frame type, step by step, and that the decoder decodes by the type that it finds. Assumes nothing.
use Rattle.std.proofs.Common.{Option, None, Some, ◌≡◌, ℕ, zero, suc, ◌+◌, ◌<◌, ◌≤◌, Bool, true, false, cond, leb, List, length, take, drop, sym, refl, ap, ◌∙◌, add-one, le-leb}
use borrow.Author.Tests.{lt-leb}
use Rattle.coding.specs.Bits.{value}
use Rattle.frame.specs.Kinds.{sync_size, kinds, kind_of}
use Rattle.frame.specs.Decode.{decide_at, search_from, decode_uplink, starts, first_start}
use Rattle.frame.specs.declared.UplinkFrame.{UplinkFrame}
use Rattle.frame.specs.declared.kinds.FrameKind.{FrameKind}
use Rattle.frame.specs.Types.{type_at, type_from, type_in, decoded_from, DecodedThere}
use Rattle.frame.specs.declared.TypeFound.{TypeFound}

-- ---- the search

module _ (n start : ℕ) (l : List Bool) where
  pub type_short : length l < start + sync_size → None ≡ type_from n start l
  type_short h = go n
    where
      go : (m : ℕ) → None ≡ type_from m start l
      go zero = unfold type_from in refl
      go (suc m) = unfold type_from in simp (lt-leb _ _ h)

  module _ (h : start + sync_size ≤ length l) (x : Option FrameKind) (e : x ≡ kind_of (value (take sync_size (drop start l))) kinds) where
    decided : type_at start x (type_from n (suc start) l) ≡ type_from (suc n) start l
    unfolding type_from
    decided =
        ap (λ (y : Option FrameKind). type_at start y (type_from n (suc start) l)) e
        ∙ ap (λ (b : Bool). cond b (type_at start (kind_of (value (take sync_size (drop start l))) kinds) (type_from n (suc start) l)) None)
        (sym (le-leb (start + sync_size) (length l) h))

    pub type_found : (kind : FrameKind) → x ≡ Some kind → Some (record { start = start; kind = kind }) ≡ type_from (suc n) start l
    type_found kind f = ap (λ (y : Option FrameKind). type_at start y (type_from n (suc start) l)) (sym f) ∙ decided

    pub type-later : x ≡ None → type_from n (start + 1) l ≡ type_from (suc n) start l
    type-later f =
        ap (λ (k : ℕ). type_from n k l) (add-one start)
        ∙ ap (λ (y : Option FrameKind). type_at start y (type_from n (suc start) l)) (sym f) ∙ decided

pub type_none : (n start : ℕ) (l : List Bool) → n ≡ 0 → None ≡ type_from n start l
unfolding type_from
type_none n start l e = ap (λ (k : ℕ). type_from k start l) (sym e)

-- ---- the decoder

one_start : (l : List Bool) (start : ℕ) (b : Bool) (x : Option FrameKind) (t : Option TypeFound) (u : Option UplinkFrame) → decoded_from l t ≡ u
    → decoded_from l (cond b (type_at start x t) None) ≡ cond b (decide_at x (drop (start + sync_size) l) u) None
unfolding decoded_from
one_start l start false x t u e = refl
one_start l start true None t u e = e
one_start l start true (Some kind) t u e = refl

decoded_from_lem : (n start : ℕ) (l : List Bool) → decoded_from l (type_from n start l) ≡ search_from n start l
unfolding type_from search_from decoded_from
decoded_from_lem zero start l = refl
decoded_from_lem (suc n) start l =
    one_start l start (leb (start + sync_size) (length l)) (kind_of (value (take sync_size (drop start l))) kinds) (type_from n (suc start) l) (search_from n (suc start) l)
    (decoded_from_lem n (suc start) l)

pub decoded_there : DecodedThere
unfolding type_in decode_uplink
decoded_there l = decoded_from_lem starts first_start l
