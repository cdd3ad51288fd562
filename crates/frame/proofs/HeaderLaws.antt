-- Laws of an uplink's header: class and LI by the payload's length, its bytes one part after the other, and the answers. Assumes nothing.
use mathlib.Core.Path.{◌≡◌, refl, ap, ap₂, ◌∙◌}
use mathlib.Core.List.{List, [], ◌∷◌, ◌++◌}
use Prim.Native.Nat.{ℕ, zero, suc, ◌+◌, ◌*◌, ◌/◌, ◌%◌, ◌≤◌, ◌<◌}
use native.Mathlib.Omega.{arith}
use lib.ListN.{length, drop, length-append}
use lib.Seq.{sets, sets-eq}
use borrow.Author.Tests.{lt-ltb, le-ltb}
use Rattle.limits.specs.Limits.{short, bad_number}
use Rattle.limits.specs.Answer.{refused, accepted, answer, leaves}
use Rattle.coding.specs.Bits.{bit_of}
use Rattle.endian.specs.Bytes.{bytes_of}
use Rattle.frame.specs.Sizes.{header_size, most_payload, auth_size}
use Rattle.frame.specs.Header.{class_of, li_of, header_bytes, most_header, header_cause, header_answer, header_out}
use Rattle.frame.specs.declared.header.UplinkFields.{UplinkFields}
use Rattle.frame.proofs.CopyLaws.{sets_then}

-- ---- the bytes

length-bytes_of : (k n : ℕ) → length (bytes_of k n) ≡ k
unfolding bytes_of
length-bytes_of zero n = refl
length-bytes_of (suc k) n = ap suc (length-bytes_of k (n / 256))

pub length_header : (f : UplinkFields) (payload : List ℕ) → length (header_bytes f payload) ≡ header_size + length payload
unfolding header_bytes
length_header f payload = omega (arith, length-append (bytes_of 4 f.device_id) payload, length-bytes_of 4 f.device_id)

-- header, counter, device and payload one after the other
pub written : (out a b c d : List ℕ) (f : UplinkFields) (payload : List ℕ) (x y : ℕ) → a ≡ sets out 0 (x ∷ []) → b ≡ sets a 1 (y ∷ []) → c ≡ sets b 2 (bytes_of 4 f.device_id)
    → d ≡ sets c header_size payload
    → x ≡ li_of f.bit (length payload) * 64 + bit_of f.downlink * 32 + f.counter / 256 % 16 → y ≡ f.counter % 256
    → d ≡ sets out 0 (header_bytes f payload)
unfolding header_bytes
written out a b c d f payload x y ea eb ec ed ex ey =
    let dev = bytes_of 4 f.device_id in
    let fb : b ≡ sets out 0 (x ∷ y ∷ []) = eb ∙ ap (λ (l : List ℕ). sets l 1 (y ∷ [])) ea in
    let fc : c ≡ sets out 0 (x ∷ y ∷ dev) = ec ∙ ap (λ (l : List ℕ). sets l 2 dev) fb ∙ sets_then out 0 (x ∷ y ∷ []) dev 2 refl in
    let fd : d ≡ sets out 0 (x ∷ y ∷ (dev ++ payload)) =
    ed ∙ ap (λ (l : List ℕ). sets l header_size payload) fc
    ∙ sets_then out 0 (x ∷ y ∷ dev) payload header_size (omega (arith, length-bytes_of 4 f.device_id)) in
    fd ∙ ap₂ (λ (u v : ℕ). sets out 0 (u ∷ v ∷ (dev ++ payload))) ex ey

-- ---- the answers

module _ (f : UplinkFields) (payload out : List ℕ) where
  pub header_short : length out < most_header → (refused short ≡ header_answer f payload out) × (out ≡ header_out f payload out)
  unfolding answer leaves header_answer header_out header_cause
  header_short h = (simp (lt-ltb _ _ h), simp (lt-ltb _ _ h))

  module _ (h : most_header ≤ length out) where
    pub header-long : most_payload < length payload → (refused bad_number ≡ header_answer f payload out) × (out ≡ header_out f payload out)
    unfolding answer leaves header_answer header_out header_cause
    header-long k = (simp (le-ltb _ _ h, lt-ltb _ _ k), simp (le-ltb _ _ h, lt-ltb _ _ k))

    pub header_made : length payload ≤ most_payload → (class auth : ℕ) → class ≡ class_of f.bit (length payload)
        → auth ≡ auth_size class (li_of f.bit (length payload))
        → accepted (record { size = header_size + length payload; class = class; auth_size = auth }) ≡ header_answer f payload out
    unfolding answer header_answer header_cause
    header_made k class auth e g =
        ap₂ (λ (c a : ℕ). accepted (record { size = header_size + length payload; class = c; auth_size = a })) e
        (g ∙ ap (λ (c : ℕ). auth_size c (li_of f.bit (length payload))) e)
        ∙ simp (le-ltb _ _ h, le-ltb _ _ k)

    pub header-written : length payload ≤ most_payload → sets out 0 (header_bytes f payload) ≡ header_out f payload out
    unfolding leaves header_out header_cause
    header-written k =
        sets-eq (header_bytes f payload) out 0 (omega (arith, length_header f payload))
        ∙ ap (λ (n : ℕ). header_bytes f payload ++ drop n out) (let e : 0 + length (header_bytes f payload) ≡ header_size + length payload = omega (arith, length_header f payload) in e)
        ∙ simp (le-ltb _ _ h, le-ltb _ _ k)
