-- Request 01's round trip holds. Assumes nothing.
use Rattle.std.proofs.Common.{None, Some, Result}
use mathlib.Core.Path.{◌≡◌, refl, sym, ap, ap₂, ◌∙◌, subst}
use mathlib.Core.Bool.{true}
use mathlib.Core.Logic.{◌⊎◌}
use mathlib.Core.List.{List, map}
use Prim.Native.Nat.{ℕ, zero, suc, ◌+◌, ◌*◌, ◌≤◌, ◌<◌}
use native.Mathlib.Omega.{arith}
use lib.ListN.{length, take, drop, get_or}
use Rattle.limits.specs.Answer.{said, Answer, answer, number, leaves, accepted}
use Rattle.coding.specs.Bits.{odd, bit_of}
use Rattle.frame.specs.Kinds.{kinds, blank_kind, plain}
use Rattle.frame.specs.Sizes.{body_bytes}
use Rattle.frame.specs.Fields.{crc_right, frame_from}
use Rattle.frame.specs.Decode.{decode_uplink, uplink_answer}
use Rattle.frame.specs.declared.kinds.FrameKind.{FrameKind}
use Rattle.frame.specs.declared.header.UplinkFields.{UplinkFields}
use Rattle.frame.proofs.SearchLaws.{answer_is}
use Rattle.writer.specs.Uplink.{lead_size, frame_bytes, class_sent, uplink_bits, bit_count, sent_frame}
use Rattle.writer.specs.Answers.{places, write_cause, put_all}
use Rattle.writer.specs.RoundTrip.{Typed, Call, written_at, Quiet, OverTheClass, RoundTrip, AlwaysQuiet, RoundTripAlways, Kept}
use Rattle.limits.specs.declared.Refusal.{Refusal}
use Rattle.writer.proofs.Starts.{repetition, place_of, quiet, type_found, body_read}
use Rattle.writer.proofs.Stores.{length-map-bits}
use Rattle.writer.proofs.WriteLaws.{bits-odd, bits_are}
use Rattle.writer.proofs.Places.{accepted_causes, length-uplink, count_most, written-there, kept-elsewhere}
use Rattle.writer.proofs.Sent.{Sendable, class-small, length_sent, small-sent, right_sent, fields-sent}

-- ---- the bits of an uplink

pub over_the_class : OverTheClass
over_the_class rank class bytes h k e small ok q =
    let i = 6 * rank + suc class in
    let p : plain rank class ≡ get_or kinds i blank_kind = place_of rank class k h in
    ap (λ (x : FrameKind). decode_uplink (repetition x bytes)) p
    ∙ type_found i bytes (subst (λ (x : FrameKind). Quiet lead_size (repetition x bytes)) p q)
    ∙ body_read (get_or kinds i blank_kind) bytes (e ∙ ap (λ (x : FrameKind). body_bytes x.class) p) small
    (subst (λ (x : FrameKind). crc_right (body_bytes x.class) bytes ≡ true) p ok)
    ∙ ap (λ (x : FrameKind). Some (frame_from x None bytes)) (sym p)

module _ (f : UplinkFields) (payload auth : List ℕ) (rank : ℕ) (s : Sendable f payload auth) (h : rank ≤ 2) where
  bits_back : Typed f payload auth → Quiet lead_size (uplink_bits f payload auth rank) → decode_uplink (uplink_bits f payload auth rank) ≡ Some (sent_frame f payload auth rank)
  unfolding uplink_bits
  bits_back t q =
      over_the_class rank (class_sent f payload) (frame_bytes f payload auth) h (class-small f.bit (length payload) s.short-payload)
      (length_sent f payload auth s) (small-sent f payload auth s t) (right_sent f payload auth s) q
      ∙ ap Some (fields-sent f payload auth s t rank)

  bits-quiet : Quiet lead_size (uplink_bits f payload auth rank)
  unfolding uplink_bits
  bits-quiet =
      let class = class_sent f payload in
      let k : class ≤ 4 = class-small f.bit (length payload) s.short-payload in
      subst (λ (x : FrameKind). Quiet lead_size (repetition x (frame_bytes f payload auth))) (sym (place_of rank class k h))
      (quiet (6 * rank + suc class) (frame_bytes f payload auth) (omega arith))

-- ---- what a call left

-- an accepted call has no cause, its count is that of the bits, and it left all three repetitions
record Accepted (f : UplinkFields) (payload auth before after : List ℕ) (count : ℕ) : Type 0 where
  none : write_cause f payload auth (length before) ≡ 0
  counted : count ≡ bit_count f payload
  wrote : after ≡ put_all (uplink_bits f payload auth) before

accepts : (f : UplinkFields) (payload auth before after : List ℕ) (r : Result ℕ Refusal) (count : ℕ) → Call f payload auth before after r → said r ≡ accepted count
    → Accepted f payload auth before after count
unfolding answer number leaves
accepts f payload auth before after r count c e =
    go (write_cause f payload auth (length before)) refl (sym e ∙ c.answered)
  where
    go : (cause : ℕ) → cause ≡ write_cause f payload auth (length before) → accepted count ≡ answer cause (bit_count f payload) → Accepted f payload auth before after count
    go zero k g =
        record { none = sym k; counted = cc; wrote = c.left ∙ ap (λ (a : Answer ℕ). leaves (number a) (put_all (uplink_bits f payload auth) before) before) e }
    go (suc m) k g = absurd (omega (arith, ap number g))

module _ (f : UplinkFields) (payload auth before after : List ℕ) (r : Result ℕ Refusal) (count rank : ℕ) (c : Call f payload auth before after r) (e : said r ≡ accepted count) (h : rank ≤ 2) where
  there : written_at rank count after ≡ map bit_of (uplink_bits f payload auth rank)
  there =
      let a = accepts f payload auth before after r count c e in
      let b = accepted_causes f payload auth (length before) a.none in
      ap₂ (λ (n : ℕ) (o : List ℕ). take n (drop (places * rank) o)) a.counted a.wrote ∙ written-there f payload auth b.0 before b.1 rank h

  sendable : Sendable f payload auth
  sendable = (accepted_causes f payload auth (length before) (accepts f payload auth before after r count c e).none).0

  odds : map odd (written_at rank count after) ≡ uplink_bits f payload auth rank
  odds = ap (map odd) there ∙ bits-odd (uplink_bits f payload auth rank)

pub round_trip : RoundTrip
round_trip f payload auth before after r count rank t c e h q =
    let l = uplink_bits f payload auth rank in
    let s = sendable f payload auth before after r count rank c e h in
    ap uplink_answer (there f payload auth before after r count rank c e h)
    ∙ sym (answer_is (map bit_of l) (omega (arith, length-map-bits l, length-uplink f payload auth s rank, count_most f payload auth s)) (bits_are l))
    ∙ ap accepted (ap decode_uplink (bits-odd l)
    ∙ bits_back f payload auth rank s h t (subst (Quiet lead_size) (odds f payload auth before after r count rank c e h) q))

pub always-quiet : AlwaysQuiet
always-quiet f payload auth before after r count rank c e h =
    subst (Quiet lead_size) (sym (odds f payload auth before after r count rank c e h))
    (bits-quiet f payload auth rank (sendable f payload auth before after r count rank c e h) h)

pub round_trip_always : RoundTripAlways
round_trip_always f payload auth before after r count rank t c e h =
    round_trip f payload auth before after r count rank t c e h (always-quiet f payload auth before after r count rank c e h)

pub kept : Kept
kept f payload auth before after r count i c e past =
    let a = accepts f payload auth before after r count c e in
    let b = accepted_causes f payload auth (length before) a.none in
    ap (λ (o : List ℕ). get_or o i 0) a.wrote
    ∙ kept-elsewhere f payload auth b.0 before b.1 i (subst (λ (n : ℕ). (rank : ℕ) → rank ≤ 2 → (i < places * rank) ⊎ (places * rank + n ≤ i)) a.counted past)
