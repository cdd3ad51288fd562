-- What the steps of `write_uplink` leave, one after the other, and which cause each of its tests finds. Assumes nothing.
use mathlib.Core.Path.{◌≡◌, refl, sym, ap, ap₂, ◌∙◌}
use mathlib.Core.Bool.{Bool, true, false}
use mathlib.Core.List.{List, [], ◌∷◌, ◌++◌, map, append_assoc, append-nil}
use Prim.Native.Nat.{ℕ, suc, ◌+◌, ◌-◌, ◌*◌, ◌/◌, ◌%◌, ◌≤◌, ◌<◌}
use native.Mathlib.Omega.{arith}
use lib.ListN.{length, take, drop, replicate, length-append, length-replicate, drop_of_length-le, length-drop}
use lib.Seq.{sets, sets-eq, take_at, take_all, drop-drop}
use borrow.Author.Tests.{lt-ltb, le-ltb, eq-eqb, ne_eqb}
use borrow.Rule.Slice.PartMut.{put_mid}
use Rattle.limits.specs.Limits.{short, bad_uplink}
use Rattle.coding.specs.Bits.{odd, bit_of, digits, value, bytes_bits, are_bits}
use Rattle.coding.specs.Crc.{crc_of}
use Rattle.coding.specs.Convolution.{fresh, convolved}
use Rattle.coding.proofs.ByteLists.{length-bytes-bits}
use Rattle.coding.proofs.BitLaws.{odd-bit, length-map-odd}
use Rattle.coding.proofs.Values.{digits_value}
use Rattle.coding.proofs.Codes.{length-convolved}
use Rattle.frame.specs.Kinds.{alternating, sync_bits, plain}
use Rattle.frame.specs.Sizes.{header_size, most_payload, most_bytes, body_bytes}
use Rattle.frame.specs.Fields.{padded}
use Rattle.frame.specs.Header.{li_of, header_bytes}
use Rattle.frame.specs.declared.kinds.FrameKind.{FrameKind}
use Rattle.frame.specs.declared.header.UplinkFields.{UplinkFields}
use Rattle.frame.proofs.CopyLaws.{sets_then, fill-front}
use Rattle.frame.proofs.HeaderLaws.{length_header}
use Rattle.frame.proofs.SizeLaws.{li_cancels, body_most}
use Rattle.limits.specs.Answer.{Answer, answer, number, leaves, refused, accepted}
use Rattle.writer.specs.Uplink.{lead_size, lead, repetition_of, repeated, with_crc, frame_bytes, class_sent, uplink_bits, bit_count}
use Rattle.writer.specs.Answers.{all_places, highest_counter, bit_and_payload, auth_called, write_cause, put_rank, put_all}
use Rattle.writer.proofs.Stores.{length-map-bits, bits_then}
use Rattle.writer.proofs.Starts.{length-lead, length-sync}
use Rattle.writer.proofs.Sent.{Sendable, li-small, class-small, payload_back, length_sent}

-- ---- bits as bytes

pub bits-odd : (l : List Bool) → map odd (map bit_of l) ≡ l
bits-odd [] = refl
bits-odd (b ∷ l) = ap₂ ◌∷◌ (odd-bit b) (bits-odd l)

pub bits_are : (l : List Bool) → are_bits (map bit_of l) ≡ true
unfolding are_bits
bits_are [] = refl
bits_are (true ∷ l) = bits_are l
bits_are (false ∷ l) = bits_are l

-- ---- a part from a place on, stored to from its front

pub part-stored : (xs : List ℕ) (a : ℕ) (v r : List ℕ) (n : ℕ) → n ≡ length v → a + length v ≤ length xs → r ≡ v ++ drop n (take (length xs - a) (drop a xs))
    → put_mid a (length xs - a) xs r ≡ sets xs a v
part-stored xs a v r n k h e =
    let part : take (length xs - a) (drop a xs) ≡ drop a xs = take_all (length xs - a) (drop a xs) (omega (arith, length-drop a xs)) in
    let none : drop (length xs - a) (drop a xs) ≡ [] = drop_of_length-le (drop a xs) {i = length xs - a} (omega (arith, length-drop a xs)) in
    let f : r ≡ v ++ drop (length v) (drop a xs) = e ∙ ap₂ (λ (m : ℕ) (l : List ℕ). v ++ drop m l) k part in
    ap₂ (λ (r p : List ℕ). take a xs ++ (r ++ p)) f none
    ∙ ap (λ (l : List ℕ). take a xs ++ l) (append-nil (v ++ drop (length v) (drop a xs)))
    ∙ ap (λ (l : List ℕ). take a xs ++ (v ++ l)) (drop-drop (length v) a xs)
    ∙ sym (append_assoc (take a xs) v (drop (a + length v) xs)) ∙ sym (sets-eq v xs a h)

-- ---- a repetition

pub length-coded : (rank : ℕ) (body : List ℕ) → length body ≡ length (map bit_of (convolved rank fresh (map odd body)))
length-coded rank body = sym (length-map-bits (convolved rank fresh (map odd body)) ∙ length-convolved rank fresh (map odd body) ∙ length-map-odd body)

lead_is : digits lead_size 0xaaaaa ≡ lead
unfolding digits lead alternating
lead_is = refl

sync_is : (k : FrameKind) → digits 16 (value (sync_bits k)) ≡ sync_bits k
sync_is k = ap (λ (n : ℕ). digits n (value (sync_bits k))) (sym (length-sync k)) ∙ digits_value (sync_bits k)

pub repetition-stored : (rank class : ℕ) (body out a b c : List ℕ) (t at : ℕ) → a ≡ sets out at (map bit_of (digits lead_size 0xaaaaa))
    → t ≡ value (sync_bits (plain rank class)) → b ≡ sets a (at + 20) (map bit_of (digits 16 t)) → c ≡ sets b (at + 20 + 16) (map bit_of (convolved rank fresh (map odd body)))
    → c ≡ sets out at (map bit_of (repetition_of (plain rank class) (map odd body)))
unfolding repetition_of
repetition-stored rank class body out a b c t at ea et eb ec =
    let k = plain rank class in
    let s = sync_bits k in
    let v = convolved rank fresh (map odd body) in
    let fa : a ≡ sets out at (map bit_of lead) = ea ∙ ap (λ (l : List Bool). sets out at (map bit_of l)) lead_is in
    let fb : b ≡ sets a (at + 20) (map bit_of s) = eb ∙ ap (λ (x : ℕ). sets a (at + 20) (map bit_of (digits 16 x))) et ∙ ap (λ (l : List Bool). sets a (at + 20) (map bit_of l)) (sync_is k) in
    ec ∙ ap (λ (l : List ℕ). sets l (at + 20 + 16) (map bit_of v)) fb
    ∙ bits_then a (at + 20) s v (at + 20 + 16) (omega (arith, length-sync k))
    ∙ ap (λ (l : List ℕ). sets l (at + 20) (map bit_of (s ++ v))) fa
    ∙ bits_then out at lead (s ++ v) (at + 20) (omega (arith, length-lead))

pub all_stored : (bits : ℕ → List Bool) (out a b c : List ℕ) → a ≡ put_rank bits 0 out → b ≡ put_rank bits 1 a → c ≡ put_rank bits 2 b → c ≡ put_all bits out
unfolding put_all
all_stored bits out a b c ea eb ec = ec ∙ ap (put_rank bits 2) (eb ∙ ap (put_rank bits 1) ea)

-- ---- the bytes of a frame

module _ (f : UplinkFields) (payload auth : List ℕ) (room : header_size + length payload + length auth + 2 ≤ most_bytes) where
  covered : List ℕ
  covered = header_bytes f payload ++ auth

  length-covered : length covered ≡ header_size + length payload + length auth
  unfolding covered
  length-covered = omega (arith, length-append (header_bytes f payload) auth, length_header f payload)

  -- header, payload and authentication
  pub covered-stored : (a b : List ℕ) (at : ℕ) → a ≡ sets (replicate most_bytes 0) 0 (header_bytes f payload) → at ≡ header_size + length payload
      → b ≡ sets a at auth → b ≡ sets (replicate most_bytes 0) 0 (header_bytes f payload ++ auth)
  covered-stored a b at ea e eb =
      eb ∙ ap (λ (l : List ℕ). sets l at auth) ea
      ∙ sets_then (replicate most_bytes 0) 0 (header_bytes f payload) auth at (omega (arith, length_header f payload))

  pub covered_read : (b : List ℕ) (n : ℕ) → b ≡ sets (replicate most_bytes 0) 0 (header_bytes f payload ++ auth) → n ≡ header_size + length payload + length auth
      → take n b ≡ header_bytes f payload ++ auth
  unfolding covered
  covered_read b n e k =
      ap (take n) (e ∙ sets-eq covered (replicate most_bytes 0) 0 (omega (arith, length-covered, length-replicate {A = ℕ} most_bytes 0)))
      ∙ take_at covered (drop (0 + length covered) (replicate most_bytes 0)) n (omega (arith, length-covered))

  pub bytes-stored : (b c d : List ℕ) (n crc : ℕ) → b ≡ sets (replicate most_bytes 0) 0 (header_bytes f payload ++ auth) → n ≡ header_size + length payload + length auth
      → crc ≡ crc_of (take n b) → c ≡ sets b n (crc / 256 ∷ []) → d ≡ sets c (n + 1) (crc % 256 ∷ []) → d ≡ padded most_bytes (frame_bytes f payload auth)
  unfolding frame_bytes with_crc covered
  bytes-stored b c d n crc eb k e ec ed =
      let z : List ℕ = replicate most_bytes 0 in
      let g : crc ≡ crc_of covered = e ∙ ap crc_of (covered_read b n eb k) in
      let two = crc_of covered / 256 ∷ crc_of covered % 256 ∷ [] in
      let fc : c ≡ sets z 0 (covered ++ (crc / 256 ∷ [])) = ec ∙ ap (λ (l : List ℕ). sets l n (crc / 256 ∷ [])) eb ∙ sets_then z 0 covered (crc / 256 ∷ []) n (omega (arith, length-covered)) in
      let fd : d ≡ sets z 0 ((covered ++ (crc / 256 ∷ [])) ++ (crc % 256 ∷ [])) =
      ed ∙ ap (λ (l : List ℕ). sets l (n + 1) (crc % 256 ∷ [])) fc
      ∙ sets_then z 0 (covered ++ (crc / 256 ∷ [])) (crc % 256 ∷ []) (n + 1) (omega (arith, length-covered, length-append covered (crc / 256 ∷ []))) in
      fd ∙ ap (sets z 0) (append_assoc covered (crc / 256 ∷ []) (crc % 256 ∷ []))
      ∙ ap (λ (x : ℕ). sets z 0 (covered ++ (x / 256 ∷ x % 256 ∷ []))) g
      ∙ fill-front most_bytes (covered ++ two) (omega (arith, length-covered, length-append covered two))

-- ---- what is handed on from step to step

module _ (f : UplinkFields) (payload auth : List ℕ) (s : Sendable f payload auth) where
  pub size_is : header_size + length payload + length auth + 2 ≡ body_bytes (class_sent f payload)
  size_is =
      omega (
        arith,
        li_cancels (class_sent f payload) (li_of f.bit (length payload)) (li-small f.bit (length payload)),
        payload_back f.bit (length payload) s.one_of_both,
        s.auth-size,
      )

  pub size_most : header_size + length payload + length auth + 2 ≤ most_bytes
  size_most = omega (arith, size_is, body_most (class_sent f payload) (class-small f.bit (length payload) s.short-payload))

  pub count_is : 36 + 8 * (header_size + length payload + length auth + 2) ≡ bit_count f payload
  unfolding bit_count
  count_is = omega (arith, size_is)

  pub frame_read : (b : List ℕ) → b ≡ padded most_bytes (frame_bytes f payload auth) → take (header_size + length payload + length auth + 2) b ≡ frame_bytes f payload auth
  frame_read b e =
      let w = frame_bytes f payload auth in
      ap (take (header_size + length payload + length auth + 2)) e
      ∙ take_at w (replicate (most_bytes - length w) 0) (header_size + length payload + length auth + 2) (length_sent f payload auth s ∙ sym size_is)

  pub body_read_back : (b body : List ℕ) → b ≡ padded most_bytes (frame_bytes f payload auth)
      → body ≡ sets (replicate 176 0) 0 (map bit_of (bytes_bits (take (header_size + length payload + length auth + 2) b)))
      → take (8 * (header_size + length payload + length auth + 2)) body ≡ map bit_of (bytes_bits (frame_bytes f payload auth))
  body_read_back b body e g =
      let z : List ℕ = replicate 176 0 in
      let w = frame_bytes f payload auth in
      let v = map bit_of (bytes_bits w) in
      let n : length v ≡ 8 * (header_size + length payload + length auth + 2) =
      omega (arith, length-map-bits (bytes_bits w), length-bytes-bits w, length_sent f payload auth s, size_is) in
      let m = 8 * (header_size + length payload + length auth + 2) in
      ap (take m) (g ∙ ap (λ (l : List ℕ). sets z 0 (map bit_of (bytes_bits l))) (frame_read b e)
      ∙ sets-eq v z 0 (omega (arith, size_most, length-replicate {A = ℕ} 176 0)))
      ∙ take_at v (drop (0 + length v) z) m n

  -- the bits that are handed to the repetitions, and how many
  pub body_are : (l : List ℕ) → l ≡ map bit_of (bytes_bits (frame_bytes f payload auth)) → are_bits l ≡ true
  body_are l e = ap are_bits e ∙ bits_are (bytes_bits (frame_bytes f payload auth))

  pub body-odd : (l : List ℕ) (class : ℕ) (out o : List ℕ) → l ≡ map bit_of (bytes_bits (frame_bytes f payload auth)) → class ≡ class_sent f payload
      → o ≡ put_all (repeated class (map odd l)) out → o ≡ put_all (uplink_bits f payload auth) out
  unfolding uplink_bits
  body-odd l class out o e k g =
      g ∙ ap₂ (λ (x : ℕ) (y : List Bool). put_all (repeated x y) out) k (ap (map odd) e ∙ bits-odd (bytes_bits (frame_bytes f payload auth)))

-- ---- the answers

module _ (f : UplinkFields) (payload auth out : List ℕ) where
  -- what a call that answers a and leaves o has to show
  abbrev pub Ends : Answer ℕ → List ℕ → Type 0
  Ends a o =
      (a ≡ answer (write_cause f payload auth (length out)) (bit_count f payload)) × (o ≡ leaves (number a) (put_all (uplink_bits f payload auth) out) out)

  pub refuses : (n : ℕ) → write_cause f payload auth (length out) ≡ suc n → Ends (refused (suc n)) out
  unfolding answer number leaves
  refuses n e = (ap (λ (c : ℕ). answer c (bit_count f payload)) (sym e), refl)

  pub writes : write_cause f payload auth (length out) ≡ 0 → (n : ℕ) (o : List ℕ) → n ≡ bit_count f payload → o ≡ put_all (uplink_bits f payload auth) out → Ends (accepted n) o
  unfolding answer number leaves
  writes e n o g h = (ap accepted g ∙ ap (λ (c : ℕ). answer c (bit_count f payload)) (sym e), h)

  pub cause-short : length out < all_places → write_cause f payload auth (length out) ≡ short
  unfolding write_cause
  cause-short h = simp (lt-ltb _ _ h)

  module _ (h : all_places ≤ length out) where
    pub cause-long : most_payload < length payload → write_cause f payload auth (length out) ≡ bad_uplink
    unfolding write_cause
    cause-long k = simp (le-ltb _ _ h, lt-ltb _ _ k)

    module _ (k : length payload ≤ most_payload) where
      pub cause-both : bit_and_payload f.bit (length payload) ≡ true → write_cause f payload auth (length out) ≡ bad_uplink
      unfolding write_cause
      cause-both e = simp (le-ltb _ _ h, le-ltb _ _ k, e)

      module _ (e : bit_and_payload f.bit (length payload) ≡ false) where
        pub cause-counter : highest_counter < f.counter → write_cause f payload auth (length out) ≡ bad_uplink
        unfolding write_cause
        cause-counter c = simp (le-ltb _ _ h, le-ltb _ _ k, e, lt-ltb _ _ c)

        module _ (c : f.counter ≤ highest_counter) where
          pub cause-auth : (length auth ≡ auth_called f payload → ⊥) → write_cause f payload auth (length out) ≡ bad_uplink
          unfolding write_cause
          cause-auth a = simp (le-ltb _ _ h, le-ltb _ _ k, e, le-ltb _ _ c, ne_eqb _ _ a)

    pub no_cause : Sendable f payload auth → write_cause f payload auth (length out) ≡ 0
    unfolding write_cause
    no_cause s = simp (le-ltb _ _ h, le-ltb _ _ s.short-payload, s.one_of_both, le-ltb _ _ s.counter, eq-eqb _ _ s.auth-size)
