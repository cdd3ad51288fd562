-- What stands at each place after a call: the repetitions at theirs, and everywhere else what stood there. Assumes nothing.
use mathlib.Core.Path.{◌≡◌, refl, sym, ap, ◌∙◌}
use mathlib.Core.Bool.{Bool, true, false, cond}
use mathlib.Core.List.{List, [], ◌∷◌, ◌++◌, map, append_assoc}
use mathlib.Core.Logic.{◌⊎◌, inl, inr, ⊎_elim}
use Prim.Native.Nat.{ℕ, zero, suc, ◌+◌, ◌*◌, ◌≤◌, ◌<◌}
use native.Mathlib.Omega.{arith}
use lib.Dec.{ltb, eqb}
use lib.ListN.{length, take, drop, get_or, set, length-append}
use lib.Seq.{sets, sets-eq, length-sets, take_at, drop_at, length-take-le, take-add, take-set-le, get_or-set_other}
use borrow.Author.Tests.{ltb-false, eqb-true}
use Rattle.limits.specs.Limits.{short, bad_uplink}
use Rattle.coding.specs.Bits.{bit_of, bytes_bits}
use Rattle.coding.specs.Convolution.{fresh, convolved}
use Rattle.coding.proofs.ByteLists.{length-bytes-bits}
use Rattle.coding.proofs.Codes.{length-convolved}
use Rattle.frame.specs.Kinds.{sync_bits, plain}
use Rattle.frame.specs.Sizes.{most_payload}
use Rattle.frame.specs.declared.header.UplinkFields.{UplinkFields}
use Rattle.frame.proofs.SizeLaws.{body_most}
use Rattle.writer.specs.Uplink.{lead, repetition_of, frame_bytes, class_sent, uplink_bits, bit_count}
use Rattle.writer.specs.Answers.{places, all_places, highest_counter, bit_and_payload, auth_called, write_cause, put_all}
use Rattle.writer.proofs.Stores.{length-map-bits}
use Rattle.writer.proofs.Starts.{length-lead, length-sync}
use Rattle.writer.proofs.Sent.{Sendable, class-small, length_sent}

-- ---- stores, at their place, before it and elsewhere

pub stored_there : (l v : List ℕ) (a n : ℕ) → n ≡ length v → a + n ≤ length l → take n (drop a (sets l a v)) ≡ v
stored_there l v a n e h =
    let rest = drop (a + length v) l in
    ap (λ (x : List ℕ). take n (drop a x)) (sets-eq v l a (omega arith) ∙ append_assoc (take a l) v rest)
    ∙ ap (take n) (drop_at (take a l) (v ++ rest) a (length-take-le a l (omega arith))) ∙ take_at v rest n (sym e)

take_sets : (n : ℕ) (l : List ℕ) (a : ℕ) (v : List ℕ) → n ≤ a → take n (sets l a v) ≡ take n l
take_sets n l a [] h = refl
take_sets n l a (x ∷ v) h = take_sets n (set l a x) (suc a) v (omega arith) ∙ take-set-le n l a x h

part_of_front : (l : List ℕ) (b m : ℕ) → b ≤ length l → take m (drop b l) ≡ drop b (take (b + m) l)
part_of_front l b m h = sym (ap (drop b) (take-add b m l) ∙ drop_at (take b l) (take m (drop b l)) b (length-take-le b l h))

pub stored-later : (l v : List ℕ) (a b m : ℕ) → b + m ≤ a → b ≤ length l → take m (drop b (sets l a v)) ≡ take m (drop b l)
stored-later l v a b m h k =
    part_of_front (sets l a v) b m (omega (arith, length-sets l a v)) ∙ ap (drop b) (take_sets (b + m) l a v h) ∙ sym (part_of_front l b m k)

pub stored-elsewhere : (l v : List ℕ) (a i : ℕ) → (i < a) ⊎ (a + length v ≤ i) → get_or (sets l a v) i 0 ≡ get_or l i 0
stored-elsewhere l [] a i h = refl
stored-elsewhere l (x ∷ v) a i h =
    stored-elsewhere (set l a x) v (suc a) i (⊎_elim (λ w. inl (omega arith)) (λ w. inr (omega arith)) h)
    ∙ get_or-set_other l a i x 0 (λ e. ⊎_elim (λ w. omega arith) (λ w. omega arith) h)

-- ---- nothing is refused

pub accepted_causes : (f : UplinkFields) (payload auth : List ℕ) (room : ℕ) → write_cause f payload auth room ≡ 0 → Sendable f payload auth × (all_places ≤ room)
unfolding write_cause
accepted_causes f payload auth room e =
    go (ltb room all_places) (ltb most_payload (length payload)) (bit_and_payload f.bit (length payload)) (ltb highest_counter f.counter) (eqb (length auth) (auth_called f payload))
    e (ltb-false room all_places) (ltb-false most_payload (length payload)) refl (ltb-false highest_counter f.counter) (eqb-true (length auth) (auth_called f payload))
  where
    go : (r p b c a : Bool) → cond r short (cond p bad_uplink (cond b bad_uplink (cond c bad_uplink (cond a 0 bad_uplink)))) ≡ 0
        → (r ≡ false → all_places ≤ room) → (p ≡ false → length payload ≤ most_payload) → b ≡ bit_and_payload f.bit (length payload)
        → (c ≡ false → f.counter ≤ highest_counter) → (a ≡ true → length auth ≡ auth_called f payload) → Sendable f payload auth × (all_places ≤ room)
    go false false false false true e r p b c a = (record { short-payload = p refl; one_of_both = sym b; counter = c refl; auth-size = a refl }, r refl)
    go true p b c a e i j k l m = absurd (omega arith)
    go false true b c a e i j k l m = absurd (omega arith)
    go false false true c a e i j k l m = absurd (omega arith)
    go false false false true a e i j k l m = absurd (omega arith)
    go false false false false false e i j k l m = absurd (omega arith)

-- ---- the bits of a repetition, and where they stand

module _ (f : UplinkFields) (payload auth : List ℕ) (s : Sendable f payload auth) where
  pub length-uplink : (rank : ℕ) → length (uplink_bits f payload auth rank) ≡ bit_count f payload
  unfolding uplink_bits repetition_of bit_count
  length-uplink rank =
      let k = plain rank (class_sent f payload) in
      let w = frame_bytes f payload auth in
      let v = convolved rank fresh (bytes_bits w) in
      omega (
        arith,
        length-append lead (sync_bits k ++ v),
        length-append (sync_bits k) v,
        length-lead,
        length-sync k,
        length-convolved rank fresh (bytes_bits w),
        length-bytes-bits w,
        length_sent f payload auth s,
      )

  pub count_most : bit_count f payload ≤ places
  unfolding bit_count
  count_most = omega (arith, body_most (class_sent f payload) (class-small f.bit (length payload) s.short-payload))

  stored : ℕ → List ℕ
  stored rank = map bit_of (uplink_bits f payload auth rank)

  length-stored : (rank : ℕ) → length (stored rank) ≡ bit_count f payload
  unfolding stored
  length-stored rank = length-map-bits (uplink_bits f payload auth rank) ∙ length-uplink rank

  module _ (out : List ℕ) (h : all_places ≤ length out) where
    done : List ℕ
    done = sets (sets (sets out 0 (stored 0)) 212 (stored 1)) 424 (stored 2)

    all-is : put_all (uplink_bits f payload auth) out ≡ done
    unfolding put_all done stored
    all-is = refl

    rank-there : (rank : ℕ) → rank ≤ 2 → take (bit_count f payload) (drop (places * rank) done) ≡ stored rank
    unfolding done
    rank-there zero k =
        let n = bit_count f payload in
        let o = sets out 0 (stored 0) in
        let lo = length-sets out 0 (stored 0) in
        let lp = length-sets o 212 (stored 1) in
        let m = count_most in
        stored-later (sets o 212 (stored 1)) (stored 2) 424 0 n (omega arith) (omega arith)
        ∙ stored-later o (stored 1) 212 0 n (omega arith) (omega arith)
        ∙ stored_there out (stored 0) 0 n (sym (length-stored 0)) (omega arith)
    rank-there (suc zero) k =
        let n = bit_count f payload in
        let o = sets out 0 (stored 0) in
        let lo = length-sets out 0 (stored 0) in
        let lp = length-sets o 212 (stored 1) in
        let m = count_most in
        stored-later (sets o 212 (stored 1)) (stored 2) 424 212 n (omega arith) (omega arith)
        ∙ stored_there o (stored 1) 212 n (sym (length-stored 1)) (omega arith)
    rank-there (suc (suc zero)) k =
        let n = bit_count f payload in
        let o = sets out 0 (stored 0) in
        let lo = length-sets out 0 (stored 0) in
        let lp = length-sets o 212 (stored 1) in
        let m = count_most in
        stored_there (sets o 212 (stored 1)) (stored 2) 424 n (sym (length-stored 2)) (omega arith)
    rank-there (suc (suc (suc rank))) k = absurd (omega arith)

    kept_there : (i : ℕ) → ((rank : ℕ) → rank ≤ 2 → (i < places * rank) ⊎ (places * rank + bit_count f payload ≤ i)) → get_or done i 0 ≡ get_or out i 0
    unfolding done
    kept_there i past =
        let o = sets out 0 (stored 0) in
        stored-elsewhere (sets o 212 (stored 1)) (stored 2) 424 i (⊎_elim (λ w. inl w) (λ w. inr (omega (arith, length-stored 2))) (past 2 (omega arith)))
        ∙ stored-elsewhere o (stored 1) 212 i (⊎_elim (λ w. inl w) (λ w. inr (omega (arith, length-stored 1))) (past 1 (omega arith)))
        ∙ stored-elsewhere out (stored 0) 0 i (⊎_elim (λ w. inl w) (λ w. inr (omega (arith, length-stored 0))) (past 0 (omega arith)))

    -- the repetition of a rank stands at its places
    pub written-there : (rank : ℕ) → rank ≤ 2 → take (bit_count f payload) (drop (places * rank) (put_all (uplink_bits f payload auth) out)) ≡ map bit_of (uplink_bits f payload auth rank)
    unfolding stored
    written-there rank k = ap (λ (x : List ℕ). take (bit_count f payload) (drop (places * rank) x)) all-is ∙ rank-there rank k

    -- every other place keeps its contents
    pub kept-elsewhere : (i : ℕ) → ((rank : ℕ) → rank ≤ 2 → (i < places * rank) ⊎ (places * rank + bit_count f payload ≤ i)) → get_or (put_all (uplink_bits f payload auth) out) i 0 ≡ get_or out i 0
    kept-elsewhere i past = ap (λ (x : List ℕ). get_or x i 0) all-is ∙ kept_there i past
