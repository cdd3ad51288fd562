-- A record loses its zeros' signs field by field. Assumes nothing.
use mathlib.Core.Path.{◌≡◌}
use mathlib.Core.List.{List}
use Prim.Native.Nat.{ℕ}
use Rattle.record.specs.Same.{unsigned_at, unsigned_times, without_signs}

pub signs-gone : (l : List ℕ) {a b c d e f g h i : List ℕ} → a ≡ unsigned_at 4 40 l → b ≡ unsigned_at 8 48 a → c ≡ unsigned_at 8 56 b → d ≡ unsigned_at 8 64 c → e ≡ unsigned_at 8 72 d
    → f ≡ unsigned_at 8 80 e → g ≡ unsigned_at 8 88 f → h ≡ unsigned_at 8 96 g → i ≡ unsigned_at 8 104 h → i ≡ without_signs l
unfolding without_signs unsigned_times
signs-gone l p q r s t u v w x = rw (x, w, v, u, t, s, r, q, p)
