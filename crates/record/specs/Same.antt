-- Records are equal if their bytes are, a zero's sign aside (01, receiver.rs), over a named set of compared bytes. Assumes nothing.
use Rattle.std.specs.Prelude.{ℕ, ◌*◌, ◌-◌, ◌^◌, ◌≡◌, Bool, true, cond, List, [], ◌∷◌, eqb, ltb, get_or}
use Rattle.std.proofs.lemmas.List.Edits.{sets}
use Rattle.limits.specs.Limits.{record_size}
use Rattle.endian.specs.Bytes.{bytes_of, number_at}

-- a zero's pattern without its sign
abbrev pub unsigned : ℕ → ℕ → ℕ
unsigned k n = cond (eqb n (2 ^ (8 * k - 1))) 0 n

-- a list with the sign taken from a zero in the k bytes at a place
unfoldable pub unsigned_at : ℕ → ℕ → List ℕ → List ℕ
unsigned_at k at l = sets l at (bytes_of k (unsigned k (number_at k l at)))

-- the places of binary64 fields: time, end, and those of three spans
abbrev pub time_places : List ℕ
time_places = 48 ∷ 56 ∷ 64 ∷ 72 ∷ 80 ∷ 88 ∷ 96 ∷ 104 ∷ []

unfoldable pub unsigned_times : List ℕ → List ℕ → List ℕ
unfolding unsigned_at
unsigned_times [] l = l
unsigned_times (p ∷ ps) l = unsigned_times ps (unsigned_at 8 p l)

-- a record with no zero's sign: RSSI is binary32 at 40
unfoldable pub without_signs : List ℕ → List ℕ
unfolding unsigned_times
without_signs l = unsigned_times time_places (unsigned_at 4 40 l)

-- the bytes that are compared: all
abbrev pub compared : ℕ → Bool
compared i = ltb i record_size

pub record SameRecord (a b : List ℕ) : Type 0 where
  pub bytes : (i : ℕ) → compared i ≡ true → get_or (without_signs a) i 0 ≡ get_or (without_signs b) i 0
