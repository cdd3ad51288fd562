-- What every frame of a burst obeys: its rank is at most 2, its payload at most 12 bytes and its authentication at most 5, in 12 and 5 places, its device has
-- 4 bytes and its counter 2; its time is a binary64 number, and its RSSI a binary32 one where the burst's peak is. Assumes nothing.
use Rattle.std.proofs.Common.{Option, None, Some}
use mathlib.Core.Path.{◌≡◌, refl, ◌∙◌, subst}
use lib.IntN.{ℤ}
use mathlib.Core.Bool.{Bool, true, false, cond}
use mathlib.Core.List.{List, map}
use Prim.Native.Nat.{ℕ, zero, suc, ◌+◌, ◌-◌, ◌*◌, ◌^◌, ◌≤◌, ◌<◌}
use native.Mathlib.Omega.{arith}
use lib.Dec.{T, leb}
use lib.ListN.{length, take, drop, replicate, length-append, length-take, length-replicate}
use lib.Ieee.{Float, binary32, binary64, div, fits}
use lib.Ieee.Fits.{add-fits}
use Rattle.floats.specs.Number.{num}
use Rattle.endian.proofs.Numbers.{number_lt}
use Rattle.coding.specs.Bits.{odd, value, to_bytes}
use Rattle.coding.specs.Convolution.{fresh, deconvolved}
use Rattle.coding.proofs.ByteLists.{byte-lt}
use Rattle.frame.specs.Kinds.{sync_size, kinds, kind_of}
use Rattle.frame.specs.Sizes.{header_size, most_payload, most_auth, payload_size, auth_size, body_bytes}
use Rattle.frame.specs.Fields.{byte_at, li, padded, frame_from}
use Rattle.frame.specs.Repairs.{repaired}
use Rattle.frame.specs.Decode.{passes, first_repair, parse_body, decode_body, decide_at, first_start, starts, search_from, decode_uplink}
use Rattle.frame.specs.declared.kinds.FrameKind.{FrameKind}
use Rattle.frame.specs.declared.Repair.{Repair}
use Rattle.frame.specs.declared.UplinkFrame.{UplinkFrame}
use Rattle.frame.proofs.KindLaws.{found_rank, found_class}
use Rattle.frame.proofs.SizeLaws.{payload_most, auth_most}
use Rattle.frame.proofs.FieldLaws.{li-lt}
use Rattle.bursts.specs.declared.Burst.{Burst}
use Rattle.clock.specs.Bits as bits
use Rattle.demod.specs.Decode.{segment_of, time_at, depth_byte, with_burst, heard_in, decode_burst}
use Rattle.demod.specs.declared.DecodedFrame.{DecodedFrame}

pub record Lawful (f : UplinkFrame) : Type 0 where
  pub rank : f.rank ≤ 2
  pub payload : f.payload_len ≤ most_payload
  pub auth : f.auth_len ≤ most_auth
  pub payload-places : length f.payload ≡ most_payload
  pub auth-places : length f.auth ≡ most_auth
  pub device : f.device_id < 256 ^ 4
  pub counter : f.counter < 256 ^ 2

-- of every frame that may be there
abbrev pub Each : (UplinkFrame → Type 0) → Option UplinkFrame → Type 0
Each P None = T true
Each P (Some f) = P f

places : (n k : ℕ) (l : List ℕ) → k ≤ n → length (padded n (take k l)) ≡ n
places n k l h =
    length-append (take k l) (replicate (n - length (take k l)) 0) ∙ omega (arith, length-take k l, length-replicate {A = ℕ} (n - length (take k l)) 0)

parsed : (kind : FrameKind) (how : Option Repair) (body : List Bool) → kind.rank ≤ 2 → kind.class ≤ 4 → Each Lawful (parse_body kind how body)
unfolding parse_body frame_from
parsed kind how body r c = go (leb (8 * body_bytes kind.class) (length (repaired how body)))
  where
    go : (t : Bool) → Each Lawful (cond t (Some (frame_from kind how (to_bytes (body_bytes kind.class) (deconvolved kind.rank fresh (repaired how body))))) None)
    go true =
        let plain = deconvolved kind.rank fresh (repaired how body) in
        let bytes = to_bytes (body_bytes kind.class) plain in
        let small : (i : ℕ) → byte_at bytes i < 256 = λ i. byte-lt (body_bytes kind.class) i plain in
        let p = payload_most kind.class (li bytes) c in
        let a = auth_most kind.class (li bytes) (li-lt (body_bytes kind.class) plain) in
        record {
          rank = r;
          payload = p;
          auth = a;
          payload-places = places most_payload (payload_size kind.class (li bytes)) (drop header_size bytes) p;
          auth-places = places most_auth (auth_size kind.class (li bytes)) (drop (header_size + payload_size kind.class (li bytes)) bytes) a;
          device = number_lt 4 bytes 2 small;
          counter = omega (arith, small 0, small 1);
        }
    go false = tt

searched : (n start : ℕ) (l : List Bool) → Each Lawful (search_from n start l)
unfolding search_from decode_body
searched zero start l = tt
searched (suc n) start l =
    go (leb (start + sync_size) (length l)) (kind_of (value (take sync_size (drop start l))) kinds) refl (searched n (suc start) l)
  where
    go : (t : Bool) (k : Option FrameKind) → kind_of (value (take sync_size (drop start l))) kinds ≡ k → Each Lawful (search_from n (suc start) l)
        → Each Lawful (cond t (decide_at k (drop (start + sync_size) l) (search_from n (suc start) l)) None)
    go false k e s = tt
    go true None e s = s
    go true (Some kind) e s =
        let body = drop (start + sync_size) l in
        let ft = value (take sync_size (drop start l)) in
        parsed kind (cond (passes kind body None) None (first_repair kind body)) body (found_rank ft kind e) (found_class ft kind e)

pub decoded_lawful : (l : List Bool) → Each Lawful (decode_uplink l)
unfolding decode_uplink
decoded_lawful l = searched starts first_start l

-- of every frame that a burst gives
heard_lawful : (t e r : Float) (m : ℤ) (h : ℕ) (o : Option UplinkFrame) (x : DecodedFrame) → with_burst t e r m h o ≡ Some x → Each Lawful o → Lawful x.frame
unfolding with_burst
heard_lawful t e r m h None x q f = absurd (let z : ◌≡◌ {A = ℕ} 0 1 = cc in omega arith)
heard_lawful t e r m h (Some f) x q l =
    let z : ◌≡◌ {A = DecodedFrame} (record { frame = f; time = t; end = e; rssi = r; clock_error_ppm = m; depth = h }) x = cc in
    subst (λ (d : DecodedFrame). Lawful d.frame) z l

burst_in : (t e r : Float) (o : bits.Outcome) (x : DecodedFrame) → heard_in t e r o ≡ Some x → Lawful x.frame
unfolding heard_in
burst_in t e r None x q = absurd (let z : ◌≡◌ {A = ℕ} 0 1 = cc in omega arith)
burst_in t e r (Some b) x q = heard_lawful t e r b.ppm (depth_byte b.depth) (decode_uplink (map odd b.bits)) x q (decoded_lawful (map odd b.bits))

pub burst_lawful : (dbm : List Float) (rate : ℕ) (b : Burst) (t0 : Float) (x : DecodedFrame) → decode_burst dbm rate b t0 ≡ Some x → Lawful x.frame
unfolding decode_burst
burst_lawful dbm rate b t0 x q = burst_in (time_at t0 rate b.start) (time_at t0 rate b.end) b.peak_dbm (bits.outcome (segment_of dbm rate b) rate) x q

-- ---- times and levels

pub record Written (d : DecodedFrame) : Type 0 where
  pub time : T (fits binary64 d.time)
  pub rssi : T (fits binary32 d.rssi)

heard-written : (t e r : Float) (m : ℤ) (h : ℕ) (o : Option UplinkFrame) (x : DecodedFrame) → with_burst t e r m h o ≡ Some x → T (fits binary64 t) → T (fits binary32 r) → Written x
unfolding with_burst
heard-written t e r m h None x q p s = absurd (let z : ◌≡◌ {A = ℕ} 0 1 = cc in omega arith)
heard-written t e r m h (Some f) x q p s =
    let z : ◌≡◌ {A = DecodedFrame} (record { frame = f; time = t; end = e; rssi = r; clock_error_ppm = m; depth = h }) x = cc in
    subst Written z (record { time = p; rssi = s })

written_in : (t e r : Float) (o : bits.Outcome) (x : DecodedFrame) → heard_in t e r o ≡ Some x → T (fits binary64 t) → T (fits binary32 r) → Written x
unfolding heard_in
written_in t e r None x q p s = absurd (let z : ◌≡◌ {A = ℕ} 0 1 = cc in omega arith)
written_in t e r (Some b) x q p s = heard-written t e r b.ppm (depth_byte b.depth) (decode_uplink (map odd b.bits)) x q p s

pub burst_written : (dbm : List Float) (rate : ℕ) (b : Burst) (t0 : Float) (x : DecodedFrame) → decode_burst dbm rate b t0 ≡ Some x → T (fits binary32 b.peak_dbm) → Written x
unfolding decode_burst
burst_written dbm rate b t0 x q h =
    written_in (time_at t0 rate b.start) (time_at t0 rate b.end) b.peak_dbm (bits.outcome (segment_of dbm rate b) rate) x q
    (add-fits binary64 t0 (div binary64 (num b.start) (num rate))) h
