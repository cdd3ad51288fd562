-- A body's bytes in a longer array read the same; which bits they come from; and when a repair passes. Assumes nothing.
use Rattle.std.proofs.Common.{Option, None, Some}
use mathlib.Core.Path.{◌≡◌, refl, sym, ap, ap₂, ◌∙◌}
use mathlib.Core.Bool.{Bool, true, false, cond, ◌&&◌}
use mathlib.Core.List.{List, [], ◌∷◌, ◌++◌, map}
use Prim.Native.Nat.{ℕ, zero, suc, ◌+◌, ◌-◌, ◌*◌, ◌/◌, ◌≤◌, ◌<◌}
use native.Mathlib.Omega.{arith}
use native.Mathlib.Nat.{sub-zero}
use lib.Dec.{eqb, leb}
use lib.ListN.{length, take, drop, get_or, replicate, get_or-append, length-drop}
use lib.Seq.{take-append-le, drop-append-le, take-take, take-nil}
use borrow.Author.Tests.{le-leb, lt-leb}
use Rattle.endian.specs.Bytes.{number_of, number_at}
use Rattle.coding.specs.Bits.{odd, value, to_bytes}
use Rattle.coding.specs.Crc.{crc_of}
use Rattle.coding.specs.Convolution.{fresh, deconvolved}
use Rattle.coding.proofs.ByteLists.{length-bytes, byte-lt}
use Rattle.coding.proofs.Codes.{deconvolve-take}
use Rattle.frame.specs.Sizes.{header_size, most_payload, most_auth, most_bytes, payload_size, auth_size, body_bytes}
use Rattle.frame.specs.Fields.{byte_at, li, counter_of, device_of, payload_of, auth_of, bit_from, crc_right, padded, frame_from}
use Rattle.frame.specs.Repairs.{repaired}
use Rattle.frame.specs.Decode.{is_right, parse_body, passes, mends}
use Rattle.frame.specs.Plain.{right_bits}
use Rattle.frame.specs.Splices.{spliced}
use Rattle.frame.specs.Bodies.{bits_of, IsOf}
use Rattle.frame.specs.declared.bodies.Body.{Body}
use Rattle.frame.specs.declared.splices.Spliced.{Spliced}
use Rattle.frame.specs.declared.kinds.FrameKind.{FrameKind}
use Rattle.frame.specs.declared.Repair.{Repair}
use Rattle.frame.specs.declared.UplinkFrame.{UplinkFrame}
use Rattle.frame.proofs.SizeLaws.{li_cancels, body_least}
use Rattle.frame.proofs.SpliceLaws.{bits_are}

-- ---- LI is below 4

pub li-lt : (n : ℕ) (l : List Bool) → li (to_bytes n l) ≤ 3
li-lt n l = omega (arith, byte-lt n 0 l)

-- ---- zeros after a body change no field

part-front : (b z : List ℕ) (i n : ℕ) → i + n ≤ length b → take n (drop i (b ++ z)) ≡ take n (drop i b)
part-front b z i n h =
    ap (take n) (drop-append-le i b z (omega arith)) ∙ take-append-le n (drop i b) z (omega (arith, length-drop i b))

number-front : (b z : List ℕ) (i n : ℕ) → i + n ≤ length b → number_at n (b ++ z) i ≡ number_at n b i
unfolding number_at
number-front b z i n h = ap number_of (part-front b z i n h)

pub crc-front : (n : ℕ) (b z : List ℕ) → 2 ≤ n → length b ≡ n → crc_right n (b ++ z) ≡ crc_right n b
unfolding crc_right
crc-front n b z h e =
    let at : (i : ℕ) → i < n → get_or (b ++ z) i 0 ≡ get_or b i 0 = λ i k. get_or-append b z 0 i (omega arith) in
    ap₂ eqb (ap crc_of (take-append-le (n - 2) b z (omega arith)))
    (ap₂ (λ (x y : ℕ). x * 256 + y) (at (n - 2) (omega arith)) (at (n - 1) (omega arith)))

-- a frame by its fields
abbrev made : FrameKind → Option Repair → ℕ → ℕ → ℕ → List ℕ → List ℕ → Bool → UplinkFrame
made kind how first device counter payload auth ok = record {
  rank = kind.rank;
  device_id = device;
  counter = counter;
  payload = payload;
  payload_len = payload_size kind.class (first / 64);
  bit = bit_from kind.class (first / 64);
  downlink = odd (first / 32);
  control = kind.control;
  auth = auth;
  auth_len = auth_size kind.class (first / 64);
  crc_ok = ok;
  repaired = how;
}

pub frame-front : (kind : FrameKind) (how : Option Repair) (b z : List ℕ) → length b ≡ body_bytes kind.class → byte_at b 0 < 256
    → frame_from kind how (b ++ z) ≡ frame_from kind how b
unfolding frame_from
frame-front kind how b z e h =
    let n = body_bytes kind.class in
    let least = body_least kind.class in
    let at : (i : ℕ) → i < 10 → get_or (b ++ z) i 0 ≡ get_or b i 0 = λ i k. get_or-append b z 0 i (omega arith) in
    let p = payload_size kind.class (li b) in
    let a = auth_size kind.class (li b) in
    let c = li_cancels kind.class (li b) (omega arith) in
    let f = byte_at (b ++ z) 0 in
    let first : f ≡ byte_at b 0 = at 0 (omega arith) in
    let device : device_of (b ++ z) ≡ device_of b = number-front b z 2 4 (omega arith) in
    let counter : counter_of (b ++ z) ≡ counter_of b = omega (arith, first, at 1 (omega arith)) in
    let payload : padded most_payload (payload_of (payload_size kind.class (f / 64)) (b ++ z)) ≡ padded most_payload (payload_of p b) =
    ap (λ (x : ℕ). padded most_payload (payload_of (payload_size kind.class (x / 64)) (b ++ z))) first
    ∙ ap (padded most_payload) (part-front b z header_size p (omega arith)) in
    let auth : padded most_auth (auth_of (payload_size kind.class (f / 64)) (auth_size kind.class (f / 64)) (b ++ z)) ≡ padded most_auth (auth_of p a b) =
    ap (λ (x : ℕ). padded most_auth (auth_of (payload_size kind.class (x / 64)) (auth_size kind.class (x / 64)) (b ++ z))) first
    ∙ ap (padded most_auth) (part-front b z (header_size + p) a (omega arith)) in
    let ok : crc_right n (b ++ z) ≡ crc_right n b = crc-front n b z (omega arith) e in
    ap₂ (λ (x d : ℕ). made kind how x d (counter_of (b ++ z)) (padded most_payload (payload_of (payload_size kind.class (f / 64)) (b ++ z)))
    (padded most_auth (auth_of (payload_size kind.class (f / 64)) (auth_size kind.class (f / 64)) (b ++ z))) (crc_right n (b ++ z))) first device
    ∙ ap₂ (λ (x : ℕ) (y : List ℕ). made kind how (byte_at b 0) (device_of b) x y
    (padded most_auth (auth_of (payload_size kind.class (f / 64)) (auth_size kind.class (f / 64)) (b ++ z))) (crc_right n (b ++ z))) counter payload
    ∙ ap₂ (λ (x : List ℕ) (y : Bool). made kind how (byte_at b 0) (device_of b) (counter_of b) (padded most_payload (payload_of p b)) x y) auth ok

-- ---- n bytes come from the first 8 n bits

pub drop-take : (m n : ℕ) (l : List Bool) → drop m (take n l) ≡ take (n - m) (drop m l)
drop-take zero n l = ap (λ (k : ℕ). take k l) (sym (sub-zero n))
drop-take (suc m) zero l = ap (λ (k : ℕ). take k (drop (suc m) l)) (let z : 0 ≡ 0 - suc m = omega arith in z)
drop-take (suc m) (suc n) [] = sym (take-nil (suc n - suc m))
drop-take (suc m) (suc n) (b ∷ l) = drop-take m n l ∙ ap (λ (k : ℕ). take k (drop m l)) (let z : n - m ≡ suc n - suc m = omega arith in z)

bytes_take : (n : ℕ) (l : List Bool) → to_bytes n (take (8 * n) l) ≡ to_bytes n l
unfolding to_bytes
bytes_take zero l = refl
bytes_take (suc n) l =
    let e : 8 * suc n - 8 ≡ 8 * n = omega arith in
    ap₂ (λ (x : List Bool) (y : List Bool). value x ∷ to_bytes n y) (take-take 8 (8 * suc n) l (omega arith))
    (drop-take 8 (8 * suc n) l ∙ ap (λ (k : ℕ). take k (drop 8 l)) e)
    ∙ ap (λ (r : List ℕ). value (take 8 l) ∷ r) (bytes_take n (drop 8 l))

pub bytes_same : (rank n : ℕ) (l m : List Bool) → take (8 * n) l ≡ take (8 * n) m → to_bytes n (deconvolved rank fresh l) ≡ to_bytes n (deconvolved rank fresh m)
bytes_same rank n l m e =
    let plain : List Bool → List Bool = deconvolved rank fresh in
    sym (bytes_take n (plain l))
    ∙ ap (to_bytes n) (sym (deconvolve-take (8 * n) rank fresh l) ∙ ap plain e ∙ deconvolve-take (8 * n) rank fresh m)
    ∙ bytes_take n (plain m)

pub right_same : (rank n : ℕ) (l m : List Bool) → 8 * n ≤ length l → 8 * n ≤ length m → take (8 * n) l ≡ take (8 * n) m → right_bits rank n l ≡ right_bits rank n m
unfolding right_bits
right_same rank n l m a b e =
    ap₂ ◌&&◌ (le-leb (8 * n) (length l) a ∙ sym (le-leb (8 * n) (length m) b)) (ap (crc_right n) (bytes_same rank n l m e))

pub right_short : (rank n : ℕ) (l : List Bool) → length l < 8 * n → false ≡ right_bits rank n l
unfolding right_bits
right_short rank n l h = simp (lt-leb _ _ h)

-- from the bytes that the code has, with zeros after them
pub right_padded : (rank n : ℕ) (l : List Bool) (bytes : List ℕ) → 2 ≤ n → 8 * n ≤ length l → bytes ≡ padded most_bytes (to_bytes n (deconvolved rank fresh l))
    → crc_right n bytes ≡ right_bits rank n l
unfolding right_bits
right_padded rank n l bytes h k e =
    let b = to_bytes n (deconvolved rank fresh l) in
    ap (crc_right n) e ∙ crc-front n b (replicate (most_bytes - length b) 0) h (length-bytes n (deconvolved rank fresh l))
    ∙ ap (λ (t : Bool). t && crc_right n b) (sym (le-leb (8 * n) (length l) k))

-- ---- when a repair passes

module _ (kind : FrameKind) (how : Option Repair) (body : List Bool) where
  pub passes_is : passes kind body how ≡ right_bits kind.rank (body_bytes kind.class) (repaired how body)
  unfolding parse_body right_bits frame_from
  passes_is = go (leb (8 * body_bytes kind.class) (length (repaired how body)))
    where
      go : (b : Bool)
          → is_right (cond b (Some (frame_from kind how (to_bytes (body_bytes kind.class) (deconvolved kind.rank fresh (repaired how body))))) None)
          ≡ b && crc_right (body_bytes kind.class) (to_bytes (body_bytes kind.class) (deconvolved kind.rank fresh (repaired how body)))
      go true = refl
      go false = refl

  pub parse-short : length (repaired how body) < 8 * body_bytes kind.class → None ≡ parse_body kind how body
  unfolding parse_body
  parse-short h = simp (lt-leb _ _ h)

  -- from the bytes that the code has, with zeros after them
  pub parse-long : (l : List Bool) (bytes : List ℕ) → l ≡ repaired how body → 8 * body_bytes kind.class ≤ length l
      → bytes ≡ padded most_bytes (to_bytes (body_bytes kind.class) (deconvolved kind.rank fresh l)) → Some (frame_from kind how bytes) ≡ parse_body kind how body
  unfolding parse_body
  parse-long l bytes e h g =
      let n = body_bytes kind.class in
      let b = to_bytes n (deconvolved kind.rank fresh l) in
      ap (λ (x : List ℕ). Some (frame_from kind how x)) g
      ∙ ap Some (frame-front kind how b (replicate (most_bytes - length b) 0) (length-bytes n (deconvolved kind.rank fresh l)) (byte-lt n 0 (deconvolved kind.rank fresh l)))
      ∙ ap (λ (t : Bool). cond t (Some (frame_from kind how b)) None) (sym (le-leb (8 * n) (length l) h))
      ∙ ap (λ (x : List Bool). cond (leb (8 * n) (length x)) (Some (frame_from kind how (to_bytes n (deconvolved kind.rank fresh x)))) None) e

-- what the code's test of a body with a splice says of the repair that it makes
pub tested : (b : Body) (how : Repair) (v : Spliced) (r : Bool) → IsOf v b → spliced v.splice (map odd b.bits.now) ≡ repaired (Some how) (map odd b.bits.now)
    → r ≡ right_bits v.rank v.size (bits_of v) → mends b.kind (map odd b.bits.now) how ≡ r
tested b how v r e m f =
    passes_is b.kind (Some how) (map odd b.bits.now)
    ∙ sym (f ∙ ap (λ (k : ℕ). right_bits k v.size (bits_of v)) e.1
    ∙ ap₂ (right_bits b.kind.rank) (e.2 ∙ b.whole) (bits_are b v e (repaired (Some how) (map odd b.bits.now)) m))
