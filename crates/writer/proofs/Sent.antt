-- What stands in the bytes of a frame that is sent: its length by its class, its CRC, and every field. Assumes nothing.
use Rattle.std.proofs.Common.{Option, None, Some}
use mathlib.Core.Path.{◌≡◌, refl, sym, ap, ap₂, ◌∙◌}
use mathlib.Core.Bool.{Bool, true, false}
use mathlib.Core.List.{List, [], ◌∷◌, ◌++◌}
use Prim.Native.Nat.{ℕ, zero, suc, ◌+◌, ◌-◌, ◌*◌, ◌/◌, ◌%◌, ◌≤◌, ◌<◌}
use native.Mathlib.Omega.{arith}
use lib.Dec.{eqb}
use lib.ListN.{length, take, drop, get_or, length-append}
use lib.Seq.{take_at, get_or_at, get_or-append-add, take-append-le, drop-append-le, drop_at, drop-drop}
use borrow.Author.Tests.{eq-eqb, eqb-true, not-false}
use Rattle.endian.specs.Bytes.{bytes_of, number_at}
use Rattle.endian.proofs.Numbers.{bytes_small, number-bytes}
use Rattle.coding.specs.Bits.{bit_of, bytes_bits}
use Rattle.coding.specs.Crc.{crc_of}
use Rattle.coding.proofs.BitLaws.{bit-lt, odd-bit}
use Rattle.coding.proofs.Division.{crc_is}
use Rattle.frame.specs.Sizes.{header_size, most_payload, most_auth, payload_size, auth_size, body_bytes}
use Rattle.frame.specs.Fields.{li, bf, counter_of, device_of, payload_of, auth_of, bit_from, crc_right, padded, frame_from}
use Rattle.frame.specs.Header.{class_of, li_of, header_bytes}
use Rattle.frame.specs.Kinds.{plain}
use Rattle.frame.specs.declared.header.UplinkFields.{UplinkFields}
use Rattle.frame.specs.declared.UplinkFrame.{UplinkFrame}
use Rattle.frame.proofs.HeaderLaws.{length_header}
use Rattle.frame.proofs.SizeLaws.{li_cancels, payload_more, bit_none}
use Rattle.writer.specs.Uplink.{with_crc, frame_bytes, class_sent, sent_frame}
use Rattle.writer.specs.Answers.{highest_counter, bit_and_payload, auth_called}
use Rattle.writer.specs.RoundTrip.{Typed}

-- each element of two lists together is below a bound where each of both is
below-append : (a b : List ℕ) (m : ℕ) → ((i : ℕ) → get_or a i 0 < m) → ((i : ℕ) → get_or b i 0 < m) → (i : ℕ) → get_or (a ++ b) i 0 < m
below-append [] b m h k i = k i
below-append (x ∷ a) b m h k zero = h 0
below-append (x ∷ a) b m h k (suc i) = below-append a b m (λ j. h (suc j)) k i

-- what cause 10 leaves
pub record Sendable (f : UplinkFields) (payload auth : List ℕ) : Type 0 where
  pub short-payload : length payload ≤ most_payload
  pub one_of_both : bit_and_payload f.bit (length payload) ≡ false
  pub counter : f.counter ≤ highest_counter
  pub auth-size : length auth ≡ auth_called f payload

-- ---- class and LI tell the payload's length and the single bit again

pub li-small : (b : (Option Bool)) (n : ℕ) → li_of b n ≤ 3
li-small None zero = omega arith
li-small None (suc zero) = omega arith
li-small None (suc (suc n)) = omega arith
li-small (Some b) n = omega (arith, bit-lt b)

pub class-small : (b : (Option Bool)) (n : ℕ) → n ≤ most_payload → class_of b n ≤ 4
class-small None zero h = omega arith
class-small None (suc zero) h = omega arith
class-small None (suc (suc n)) h = omega arith
class-small (Some b) n h = omega arith

pub payload_back : (b : (Option Bool)) (n : ℕ) → bit_and_payload b n ≡ false → payload_size (class_of b n) (li_of b n) ≡ n
payload_back None zero h = unfold payload_size in refl
payload_back None (suc zero) h = unfold payload_size in refl
payload_back None (suc (suc n)) h =
    sym (payload_more (suc n / 4 + 2) (3 - suc n % 4) (λ e. omega arith) (λ e. omega arith)) ∙ (let e : 4 * (suc n / 4 + 2 - 1) - (3 - suc n % 4) ≡ suc (suc n) = omega arith in e)
payload_back (Some b) n h = unfold payload_size in sym (eqb-true n 0 (not-false (eqb n 0) h))

pub bit_back : (b : (Option Bool)) (n : ℕ) → bit_from (class_of b n) (li_of b n) ≡ b
bit_back None zero = unfold bit_from in refl
bit_back None (suc zero) = unfold bit_from in refl
bit_back None (suc (suc n)) = sym (bit_none (suc n / 4 + 2) (3 - suc n % 4) (λ e. omega arith))
bit_back (Some true) n = unfold bit_from in refl
bit_back (Some false) n = unfold bit_from in refl

-- ---- the CRC

crc-small : (bytes : List ℕ) → crc_of bytes < 65536
unfolding crc_of
crc-small bytes = omega (arith, crc_is (bytes_bits bytes))

pub crc_made : (bytes : List ℕ) (n : ℕ) → n ≡ length bytes + 2 → crc_right n (with_crc bytes) ≡ true
unfolding crc_right with_crc
crc_made bytes n e =
    let c = crc_of bytes in
    let two = c / 256 ∷ c % 256 ∷ [] in
    let h : length bytes ≡ n - 2 = omega arith in
    let k : n - 1 ≡ length bytes + 1 = omega arith in
    let front : take (n - 2) (bytes ++ two) ≡ bytes = take_at bytes two (n - 2) h in
    let high : get_or (bytes ++ two) (n - 2) 0 ≡ c / 256 = get_or_at bytes (c / 256) (c % 256 ∷ []) 0 (n - 2) h in
    let low : get_or (bytes ++ two) (n - 1) 0 ≡ c % 256 = ap (λ (i : ℕ). get_or (bytes ++ two) i 0) k ∙ get_or-append-add bytes two 1 0 in
    let f : crc_of (take (n - 2) (bytes ++ two)) ≡ c = ap crc_of front in
    eq-eqb (crc_of (take (n - 2) (bytes ++ two))) (get_or (bytes ++ two) (n - 2) 0 * 256 + get_or (bytes ++ two) (n - 1) 0) (omega (arith, f, high, low))

-- ---- a frame by its fields

abbrev framed : ℕ → ℕ → ℕ → List ℕ → ℕ → (Option Bool) → Bool → List ℕ → ℕ → Bool → UplinkFrame
framed rank device counter payload plen bit downlink auth alen ok = record {
  rank = rank;
  device_id = device;
  counter = counter;
  payload = payload;
  payload_len = plen;
  bit = bit;
  downlink = downlink;
  control = false;
  auth = auth;
  auth_len = alen;
  crc_ok = ok;
  repaired = None;
}

same_frame : (r d d' c c' : ℕ) (p p' : List ℕ) (n n' : ℕ) (b b' : (Option Bool)) (w w' : Bool) (a a' : List ℕ) (m m' : ℕ) (o o' : Bool)
    → d ≡ d' → c ≡ c' → p ≡ p' → n ≡ n' → b ≡ b' → w ≡ w' → a ≡ a' → m ≡ m' → o ≡ o' → framed r d c p n b w a m o ≡ framed r d' c' p' n' b' w' a' m' o'
same_frame r d d' c c' p p' n n' b b' w w' a a' m m' o o' e1 e2 e3 e4 e5 e6 e7 e8 e9 = cc

-- ---- a frame that is sent

module _ (f : UplinkFields) (payload auth : List ℕ) (s : Sendable f payload auth) where
  pub length_sent : length (frame_bytes f payload auth) ≡ body_bytes (class_sent f payload)
  unfolding frame_bytes with_crc
  length_sent =
      let covered = header_bytes f payload ++ auth in
      let c = crc_of covered in
      omega (
        arith,
        length-append covered (c / 256 ∷ c % 256 ∷ []),
        length-append (header_bytes f payload) auth,
        length_header f payload,
        li_cancels (class_sent f payload) (li_of f.bit (length payload)) (li-small f.bit (length payload)),
        payload_back f.bit (length payload) s.one_of_both,
        s.auth-size,
      )

  pub right_sent : crc_right (body_bytes (class_sent f payload)) (frame_bytes f payload auth) ≡ true
  unfolding frame_bytes
  right_sent =
      let covered = header_bytes f payload ++ auth in
      crc_made covered (body_bytes (class_sent f payload))
      (omega (
        arith,
        length-append (header_bytes f payload) auth,
        length_header f payload,
        li_cancels (class_sent f payload) (li_of f.bit (length payload)) (li-small f.bit (length payload)),
        payload_back f.bit (length payload) s.one_of_both,
        s.auth-size,
      ))

  li_sent : li (frame_bytes f payload auth) ≡ li_of f.bit (length payload)
  unfolding frame_bytes with_crc header_bytes
  li_sent = omega (arith, li-small f.bit (length payload), bit-lt f.downlink)

  bf_sent : bf (frame_bytes f payload auth) ≡ f.downlink
  unfolding frame_bytes with_crc header_bytes
  bf_sent =
      let l = li_of f.bit (length payload) in
      let d = bit_of f.downlink in
      let e : (l * 64 + d * 32 + f.counter / 256 % 16) / 32 % 2 ≡ d % 2 = omega (arith, bit-lt f.downlink) in
      ap (λ (x : ℕ). eqb x 1) e ∙ odd-bit f.downlink

  counter_sent : counter_of (frame_bytes f payload auth) ≡ f.counter
  unfolding frame_bytes with_crc header_bytes
  counter_sent = omega (arith, s.counter)

  rest : List ℕ
  unfolding with_crc
  rest = let c = crc_of (header_bytes f payload ++ auth) in (payload ++ auth) ++ (c / 256 ∷ c % 256 ∷ [])

  after_header : drop header_size (frame_bytes f payload auth) ≡ rest
  unfolding frame_bytes with_crc header_bytes bytes_of rest
  after_header = refl

  payload_sent : payload_of (length payload) (frame_bytes f payload auth) ≡ payload
  unfolding rest
  payload_sent =
      let c = crc_of (header_bytes f payload ++ auth) in
      ap (take (length payload)) after_header
      ∙ take-append-le (length payload) (payload ++ auth) (c / 256 ∷ c % 256 ∷ []) (omega (arith, length-append payload auth))
      ∙ take_at payload auth (length payload) refl

  auth_sent : auth_of (length payload) (length auth) (frame_bytes f payload auth) ≡ auth
  unfolding rest
  auth_sent =
      let c = crc_of (header_bytes f payload ++ auth) in
      let two = c / 256 ∷ c % 256 ∷ [] in
      ap (take (length auth)) (sym (drop-drop (length payload) header_size (frame_bytes f payload auth)) ∙ ap (drop (length payload)) after_header
      ∙ drop-append-le (length payload) (payload ++ auth) two (omega (arith, length-append payload auth))
      ∙ ap (λ (l : List ℕ). l ++ two) (drop_at payload auth (length payload) refl))
      ∙ take_at auth two (length auth) refl

  module _ (t : Typed f payload auth) where
    pub small-sent : (i : ℕ) → get_or (frame_bytes f payload auth) i 0 < 256
    unfolding frame_bytes with_crc header_bytes
    small-sent =
        let covered = header_bytes f payload ++ auth in
        let c = crc_of covered in
        let ch = crc-small covered in
        below-append covered (c / 256 ∷ c % 256 ∷ []) 256
        (below-append (header_bytes f payload) auth 256 header-small t.auth-bytes) (two_small (c / 256) (c % 256) (omega arith) (omega arith))
      where
        two_small : (a b : ℕ) → a < 256 → b < 256 → (i : ℕ) → get_or (a ∷ b ∷ []) i 0 < 256
        two_small a b h k zero = h
        two_small a b h k (suc zero) = k
        two_small a b h k (suc (suc i)) = omega arith

        header-small : (i : ℕ) → get_or (header_bytes f payload) i 0 < 256
        header-small zero = omega (arith, li-small f.bit (length payload), bit-lt f.downlink)
        header-small (suc zero) = omega arith
        header-small (suc (suc i)) = below-append (bytes_of 4 f.device_id) payload 256 (bytes_small 4 f.device_id) t.payload-bytes i

    device-sent : device_of (frame_bytes f payload auth) ≡ f.device_id
    unfolding frame_bytes with_crc header_bytes number_at bytes_of
    device-sent = number-bytes 4 f.device_id t.device

    pub fields-sent : (rank : ℕ) → frame_from (plain rank (class_sent f payload)) None (frame_bytes f payload auth) ≡ sent_frame f payload auth rank
    unfolding frame_from
    fields-sent rank =
        let w = frame_bytes f payload auth in
        let n = length payload in
        let c = class_of f.bit n in
        let pl : payload_size c (li w) ≡ n = ap (payload_size c) li_sent ∙ payload_back f.bit n s.one_of_both in
        let al : auth_size c (li w) ≡ length auth = ap (auth_size c) li_sent ∙ sym s.auth-size in
        let b : bit_from c (li w) ≡ f.bit = ap (bit_from c) li_sent ∙ bit_back f.bit n in
        let p : padded most_payload (payload_of (payload_size c (li w)) w) ≡ padded most_payload payload =
        ap (λ (k : ℕ). padded most_payload (payload_of k w)) pl ∙ ap (padded most_payload) payload_sent in
        let a : padded most_auth (auth_of (payload_size c (li w)) (auth_size c (li w)) w) ≡ padded most_auth auth =
        ap₂ (λ (k m : ℕ). padded most_auth (auth_of k m w)) pl al ∙ ap (padded most_auth) auth_sent in
        same_frame rank _ _ _ _ _ _ _ _ _ _ _ _ _ _ _ _ _ _ device-sent counter_sent p pl b bf_sent a al right_sent
