-- Decoding a body and searching the starts, step by step. Assumes nothing.
use Rattle.std.proofs.Common.{Option, None, Some}
use mathlib.Core.Path.{◌≡◌, refl, sym, ap, ◌∙◌}
use mathlib.Core.Bool.{Bool, true, false, cond}
use mathlib.Core.List.{List, [], ◌∷◌, map}
use Prim.Native.Nat.{ℕ, zero, suc, ◌+◌, ◌-◌, ◌≤◌, ◌<◌}
use native.Mathlib.Omega.{arith}
use native.Mathlib.Numerals.{add-one}
use lib.ListN.{length, take, drop, length-drop}
use lib.Seq.{take_all}
use borrow.Author.Tests.{le-leb, lt-ltb, le-ltb}
use Rattle.limits.specs.Limits.{most_bits, long, bad_number}
use Rattle.limits.specs.Answer.{refused, accepted}
use Rattle.coding.specs.Bits.{odd, value, are_bits}
use Rattle.coding.proofs.BitLaws.{length-map-odd}
use Rattle.frame.specs.Kinds.{sync_size, kinds, kind_of}
use Rattle.frame.specs.Repairs.{repairs, first_of}
use Rattle.frame.specs.Decode.{parse_body, passes, mends, first_repair, decode_body, decide_at, search_from, decode_uplink, uplink_answer}
use Rattle.frame.specs.Splices.{placed}
use Rattle.frame.specs.declared.kinds.FrameKind.{FrameKind}
use Rattle.frame.specs.declared.Repair.{Repair}
use Rattle.frame.proofs.RepairLaws.{first_below}

-- ---- a body

module _ (kind : FrameKind) (l : List Bool) where
  pub decode_right : passes kind l None ≡ true → parse_body kind None l ≡ decode_body kind l
  unfolding decode_body
  decode_right e = ap (λ (b : Bool). parse_body kind (cond b None (first_repair kind l)) l) (sym e)

  pub decode_mended : (how : Option Repair) → passes kind l None ≡ false → how ≡ first_repair kind l → parse_body kind how l ≡ decode_body kind l
  unfolding decode_body
  decode_mended how e f = ap (λ (h : Option Repair). parse_body kind h l) f ∙ ap (λ (b : Bool). parse_body kind (cond b None (first_repair kind l)) l) (sym e)

pub repair-placed : (kind : FrameKind) (body : List ℕ) (how : Option Repair) → how ≡ first_repair kind (map odd body) → placed how (length body) ≡ true
unfolding first_repair
repair-placed kind body how e =
    ap (λ (h : Option Repair). placed h (length body)) e
    ∙ ap (λ (n : ℕ). placed (first_of (mends kind (map odd body)) (repairs (length (map odd body)) 0)) n) (sym (length-map-odd body))
    ∙ first_below (mends kind (map odd body)) (length (map odd body))

-- ---- the starts

module _ (n start : ℕ) (l : List Bool) where
  module _ (h : start + sync_size ≤ length l) (x : Option FrameKind) (e : x ≡ kind_of (value (take sync_size (drop start l))) kinds) where
    decided : decide_at x (drop (start + sync_size) l) (search_from n (suc start) l) ≡ search_from (suc n) start l
    unfolding search_from
    decided =
        ap (λ (y : Option FrameKind). decide_at y (drop (start + sync_size) l) (search_from n (suc start) l)) e
        ∙ ap (λ (b : Bool). cond b (decide_at (kind_of (value (take sync_size (drop start l))) kinds) (drop (start + sync_size) l) (search_from n (suc start) l)) None)
        (sym (le-leb (start + sync_size) (length l) h))

    pub search-found : (kind : FrameKind) → x ≡ Some kind → decode_body kind (drop (start + sync_size) l) ≡ search_from (suc n) start l
    search-found kind f = ap (λ (y : Option FrameKind). decide_at y (drop (start + sync_size) l) (search_from n (suc start) l)) (sym f) ∙ decided

    pub search-later : x ≡ None → search_from n (start + 1) l ≡ search_from (suc n) start l
    search-later f =
        ap (λ (k : ℕ). search_from n k l) (add-one start)
        ∙ ap (λ (y : Option FrameKind). decide_at y (drop (start + sync_size) l) (search_from n (suc start) l)) (sym f) ∙ decided

-- ---- a part from n on

pub part_is : (l : List ℕ) (n : ℕ) → take (length l - n) (drop n l) ≡ drop n l
part_is l n = take_all (length l - n) (drop n l) (omega (arith, length-drop n l))

map-drop : (n : ℕ) (l : List ℕ) → map odd (drop n l) ≡ drop n (map odd l)
map-drop zero l = refl
map-drop (suc n) [] = refl
map-drop (suc n) (b ∷ l) = map-drop n l

pub part-bits : (l : List ℕ) (n : ℕ) → map odd (take (length l - n) (drop n l)) ≡ drop n (map odd l)
part-bits l n = ap (map odd) (part_is l n) ∙ map-drop n l

-- ---- the answers

module _ (bits : List ℕ) where
  pub answer-long : most_bits < length bits → refused long ≡ uplink_answer bits
  unfolding uplink_answer
  answer-long h = simp (lt-ltb _ _ h)

  pub answer_bad : length bits ≤ most_bits → are_bits bits ≡ false → refused bad_number ≡ uplink_answer bits
  unfolding uplink_answer
  answer_bad h e = simp (le-ltb _ _ h, e)

  pub answer_is : length bits ≤ most_bits → are_bits bits ≡ true → accepted (decode_uplink (map odd bits)) ≡ uplink_answer bits
  unfolding uplink_answer
  answer_is h e = simp (le-ltb _ _ h, e)
