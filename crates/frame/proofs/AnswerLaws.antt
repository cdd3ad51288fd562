-- Facts of every answer, with a frame or without: ranks, sizes, and where a repair lies. Assumes nothing.
use Rattle.std.proofs.Common.{Option, None, Some}
use mathlib.Core.Path.{◌≡◌, refl, sym, ap, ◌∙◌, subst}
use mathlib.Core.Bool.{Bool, true, false, cond}
use mathlib.Core.List.{List, map}
use Prim.Native.Nat.{ℕ, zero, suc, ◌+◌, ◌-◌, ◌*◌, ◌≤◌, min}
use native.Mathlib.Omega.{arith}
use lib.Dec.{leb, ltb}
use lib.ListN.{length, take, drop, replicate, length-append, length-replicate}
use borrow.Author.Tests.{lt-ltb, ltb-true}
use Rattle.limits.specs.Limits.{most_bits, long, bad_number}
use Rattle.limits.specs.Answer.{Answer, refused, accepted}
use Rattle.coding.specs.Bits.{odd, value, to_bytes, are_bits}
use Rattle.coding.specs.Convolution.{fresh, deconvolved}
use Rattle.coding.specs.Answers.{highest_rank}
use Rattle.frame.specs.Kinds.{sync_size, kinds, kind_of}
use Rattle.frame.specs.Sizes.{header_size, most_payload, most_auth, payload_size, auth_size, body_bytes}
use Rattle.frame.specs.Fields.{li, payload_of, auth_of, padded, frame_from}
use Rattle.frame.specs.Repairs.{repaired}
use Rattle.frame.specs.Decode.{parse_body, passes, mends, first_repair, decode_body, decide_at, search_from, starts, first_start, decode_uplink, uplink_answer}
use Rattle.frame.specs.Splices.{placed}
use Rattle.frame.specs.declared.kinds.FrameKind.{FrameKind}
use Rattle.frame.specs.declared.Repair.{Repair}
use Rattle.frame.specs.declared.Repair.TheVariants.{Inserted, Deleted, Flipped}
use Rattle.frame.specs.declared.UplinkFrame.{UplinkFrame}
use Rattle.frame.proofs.KindLaws.{found_rank, found_class}
use Rattle.frame.proofs.SizeLaws.{payload_most, auth_most, body_most}
use Rattle.frame.proofs.CopyLaws.{length_part}
use Rattle.frame.proofs.FieldLaws.{li-lt}
use Rattle.frame.proofs.RepairLaws.{first_below}
use Rattle.frame.proofs.PrefixLaws.{total, first-least}

-- the bits of the longest body
abbrev pub most_body_bits : ℕ
most_body_bits = 176

pub record FrameOk (f : UplinkFrame) : Type 0 where
  pub rank : f.rank ≤ highest_rank
  pub payload-len : f.payload_len ≤ most_payload
  pub auth-len : f.auth_len ≤ most_auth
  pub payload : length f.payload ≡ most_payload
  pub auth : length f.auth ≡ most_auth
  pub place : placed f.repaired most_body_bits ≡ true

abbrev pub DecodedOk : Option UplinkFrame → Type 0
DecodedOk None = Unit {0}
DecodedOk (Some f) = FrameOk f

-- of an answer: a refusal bears no frame
abbrev pub AnswerOk : Answer (Option UplinkFrame) → Type 0
AnswerOk (refused n) = Unit {0}
AnswerOk (accepted o) = DecodedOk o

pub without_ok : (n : ℕ) → AnswerOk (refused n) × AnswerOk (accepted None)
without_ok n = (tt, tt)

length-padded : (n : ℕ) (l : List ℕ) → length l ≤ n → length (padded n l) ≡ n
length-padded n l h = omega (arith, length-append l (replicate (n - length l) 0), length-replicate {A = ℕ} (n - length l) 0)

placed_up : (how : Option Repair) (n m : ℕ) → placed how n ≡ true → n ≤ m → placed how m ≡ true
unfolding placed
placed_up None n m e h = refl
placed_up (Some (Inserted b at)) n m e h = lt-ltb at m (omega (arith, ltb-true at n e))
placed_up (Some (Deleted at)) n m e h = lt-ltb at m (omega (arith, ltb-true at n e))
placed_up (Some (Flipped at)) n m e h = lt-ltb at m (omega (arith, ltb-true at n e))

module _ (kind : FrameKind) (hr : kind.rank ≤ highest_rank) (hc : kind.class ≤ 4) where
  parse_ok : (how : Option Repair) (l : List Bool) → placed how most_body_bits ≡ true → DecodedOk (parse_body kind how l)
  unfolding parse_body frame_from
  parse_ok how l p = go (leb (8 * body_bytes kind.class) (length (repaired how l)))
    where
      bits : List Bool
      bits = deconvolved kind.rank fresh (repaired how l)

      b : List ℕ
      b = to_bytes (body_bytes kind.class) (deconvolved kind.rank fresh (repaired how l))

      n : ℕ
      n = payload_size kind.class (li (to_bytes (body_bytes kind.class) (deconvolved kind.rank fresh (repaired how l))))

      small : li (to_bytes (body_bytes kind.class) (deconvolved kind.rank fresh (repaired how l))) ≤ 3
      small = li-lt (body_bytes kind.class) (deconvolved kind.rank fresh (repaired how l))

      go : (t : Bool) → DecodedOk (cond t (Some (frame_from kind how (to_bytes (body_bytes kind.class) (deconvolved kind.rank fresh (repaired how l))))) None)
      go false = tt
      go true =
          let x = to_bytes (body_bytes kind.class) (deconvolved kind.rank fresh (repaired how l)) in
          let k = payload_size kind.class (li x) in
          let m = auth_size kind.class (li x) in
          record {
            rank = hr;
            payload-len = payload_most kind.class (li x) hc;
            auth-len = auth_most kind.class (li x) small;
            payload = length-padded most_payload (payload_of k x) (omega (arith, length_part x header_size k, payload_most kind.class (li x) hc));
            auth = length-padded most_auth (auth_of k m x) (omega (arith, length_part x (header_size + k) m, auth_most kind.class (li x) small));
            place = p;
          }

  decode_ok : (l : List Bool) → DecodedOk (decode_body kind l)
  unfolding decode_body placed
  decode_ok l = go (passes kind l None) refl
    where
      go : (t : Bool) → passes kind l None ≡ t → DecodedOk (parse_body kind (cond (passes kind l None) None (first_repair kind l)) l)
      go true e = subst (λ (t : Bool). DecodedOk (parse_body kind (cond t None (first_repair kind l)) l)) (sym e) (parse_ok None l refl)
      go false e =
          let k = min (length l) (total kind) in
          subst (λ (t : Bool). DecodedOk (parse_body kind (cond t None (first_repair kind l)) l)) (sym e)
          (parse_ok (first_repair kind l) l
          (placed_up (first_repair kind l) k most_body_bits (ap (λ (h : Option Repair). placed h k) (first-least kind l e k refl) ∙ first_below (mends kind l) k)
          (omega (arith, body_most kind.class hc))))

search_ok : (n start : ℕ) (l : List Bool) → DecodedOk (search_from n start l)
unfolding search_from
search_ok zero start l = tt
search_ok (suc n) start l = go (leb (start + sync_size) (length l)) (kind_of (value (take sync_size (drop start l))) kinds) refl (search_ok n (suc start) l)
  where
    go : (t : Bool) (x : Option FrameKind) → kind_of (value (take sync_size (drop start l))) kinds ≡ x → DecodedOk (search_from n (suc start) l)
        → DecodedOk (cond t (decide_at x (drop (start + sync_size) l) (search_from n (suc start) l)) None)
    go false x e r = tt
    go true None e r = r
    go true (Some kind) e r =
        let w = value (take sync_size (drop start l)) in
        decode_ok kind (found_rank w kind e) (found_class w kind e) (drop (start + sync_size) l)

-- of every list of bits
pub answer_ok : (l : List Bool) → DecodedOk (decode_uplink l)
unfolding decode_uplink
answer_ok l = search_ok starts first_start l

pub uplink_ok : (bits : List ℕ) → AnswerOk (uplink_answer bits)
unfolding uplink_answer
uplink_ok bits = go (ltb most_bits (length bits)) (are_bits bits)
  where
    go : (a b : Bool) → AnswerOk (cond a (refused long) (cond b (accepted (decode_uplink (map odd bits))) (refused bad_number)))
    go true b = (without_ok long).0
    go false true = answer_ok (map odd bits)
    go false false = (without_ok bad_number).0
