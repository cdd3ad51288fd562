-- The sizes of a frame's parts: that LI cancels, and bounds. Assumes nothing.
use Rattle.std.proofs.Common.{None, Some}
use mathlib.Core.Path.{◌≡◌, refl, sym, ap}
use mathlib.Core.Bool.{Bool, true, false, cond, ◌&&◌}
use Prim.Native.Nat.{ℕ, zero, suc, ◌+◌, ◌-◌, ◌*◌, ◌≤◌, ◌<◌}
use native.Mathlib.Omega.{arith}
use lib.Dec.{eqb}
use borrow.Author.Tests.{ne_eqb, le-leb, lt-leb}
use Rattle.frame.specs.Sizes.{header_size, crc_size, most_payload, most_auth, most_bytes, payload_size, auth_size, body_bytes}
use Rattle.frame.specs.Fields.{bit_from}

-- ---- by class

pub payload_none : (c li : ℕ) → c ≡ 0 → 0 ≡ payload_size c li
unfolding payload_size
payload_none c li e = ap (λ (x : ℕ). payload_size x li) (sym e)

pub payload_one : (c li : ℕ) → c ≡ 1 → 1 ≡ payload_size c li
unfolding payload_size
payload_one c li e = ap (λ (x : ℕ). payload_size x li) (sym e)

pub payload_more : (c li : ℕ) → (c ≡ 0 → ⊥) → (c ≡ 1 → ⊥) → 4 * (c - 1) - li ≡ payload_size c li
unfolding payload_size
payload_more zero li h k = absurd (h refl)
payload_more (suc zero) li h k = absurd (k refl)
payload_more (suc (suc c)) li h k = ap (λ (x : ℕ). 4 * x - li) (let e : suc (suc c) - 1 ≡ suc c = omega arith in e)

pub auth_two : (c li : ℕ) → c < 2 → 2 ≡ auth_size c li
unfolding auth_size
auth_two zero li h = refl
auth_two (suc zero) li h = refl
auth_two (suc (suc c)) li h = absurd (omega arith)

pub auth_more : (c li : ℕ) → 2 ≤ c → li + 2 ≡ auth_size c li
unfolding auth_size
auth_more zero li h = absurd (omega arith)
auth_more (suc zero) li h = absurd (omega arith)
auth_more (suc (suc c)) li h = refl

-- ---- what LI takes from the payload it gives to the authentication

pub li_cancels : (c li : ℕ) → li ≤ 3 → header_size + payload_size c li + auth_size c li + crc_size ≡ body_bytes c
unfolding payload_size auth_size body_bytes
li_cancels zero li h = refl
li_cancels (suc zero) li h = refl
li_cancels (suc (suc c)) li h = omega arith

-- ---- bounds

pub payload_most : (c li : ℕ) → c ≤ 4 → payload_size c li ≤ most_payload
unfolding payload_size
payload_most zero li h = omega arith
payload_most (suc zero) li h = omega arith
payload_most (suc (suc c)) li h = omega arith

pub auth_most : (c li : ℕ) → li ≤ 3 → auth_size c li ≤ most_auth
unfolding auth_size
auth_most zero li h = omega arith
auth_most (suc zero) li h = omega arith
auth_most (suc (suc c)) li h = omega arith

pub body_most : (c : ℕ) → c ≤ 4 → body_bytes c ≤ most_bytes
unfolding body_bytes payload_size auth_size
body_most zero h = omega arith
body_most (suc zero) h = omega arith
body_most (suc (suc c)) h = omega arith

pub body_least : (c : ℕ) → 10 ≤ body_bytes c
unfolding body_bytes payload_size auth_size
body_least zero = omega arith
body_least (suc zero) = omega arith
body_least (suc (suc c)) = omega arith

-- ---- the single bit

pub bit_is : (c li : ℕ) → c ≡ 0 → 2 ≤ li → Some (eqb li 3) ≡ bit_from c li
unfolding bit_from
bit_is c li e h = simp (e, le-leb 2 li h)

pub bit-low : (c li : ℕ) → li < 2 → None ≡ bit_from c li
unfolding bit_from
bit-low c li h = simp (lt-leb 2 li h) (go (eqb c 0))
  where
    go : (b : Bool) → None ≡ cond (b && false) (Some (eqb li 3)) None
    go true = refl
    go false = refl

pub bit_none : (c li : ℕ) → (c ≡ 0 → ⊥) → None ≡ bit_from c li
unfolding bit_from
bit_none c li h = simp (ne_eqb c 0 h)
