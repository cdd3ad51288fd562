-- The convolutional codes of the repetitions (Sigfox radio specifications; frame.rs CONV_OUT, CONV_NEXT). A list of bits is a power series over GF(2) in
-- the delay D, its first bit the constant term; a repetition is sent as its product with the rank's generator. Assumes nothing.
use Rattle.std.specs.Prelude.{ℕ, zero, suc, ◌+◌, ◌*◌, ◌/◌, ◌%◌, Bool, true, false, ◌&&◌, List, [], ◌∷◌}
use Rattle.coding.specs.Bits.{plus, odd, bit_of}

-- the coefficients of 1, D, D²: rank 1 is sent with 1 + D + D², rank 2 with 1 + D², the first transmission as it is
abbrev pub generator : ℕ → List Bool
generator zero = true ∷ false ∷ false ∷ []
generator (suc zero) = true ∷ true ∷ true ∷ []
generator (suc (suc zero)) = true ∷ false ∷ true ∷ []
generator (suc (suc (suc r))) = true ∷ false ∷ false ∷ []

-- the sum of the products of two lists of bits
abbrev pub dot : List Bool → List Bool → Bool
dot [] xs = false
dot (g ∷ gs) [] = false
dot (g ∷ gs) (x ∷ xs) = plus (g && x) (dot gs xs)

-- an encoder's state: the last input and the one before it
pub record State : Type 0 where
  pub last : Bool
  pub second : Bool

-- 'both start from zeros'
abbrev pub fresh : State
fresh = record { last = false; second = false }

-- the state after an input, and after many
abbrev pub shift : State → Bool → State
shift s a = record { last = a; second = s.last }

unfoldable pub state_after : State → List Bool → State
state_after s [] = s
state_after s (a ∷ l) = state_after (shift s a) l

-- the product's bit for an input
abbrev pub coded : ℕ → State → Bool → Bool
coded r s a = dot (generator r) (a ∷ s.last ∷ s.second ∷ [])

-- inputs to product (frame.rs convolve)
unfoldable pub convolved : ℕ → State → List Bool → List Bool
convolved r s [] = []
convolved r s (a ∷ l) = coded r s a ∷ convolved r (shift s a) l

-- what a state adds to an input (frame.rs CONV_OUT)
abbrev pub tap : ℕ → State → Bool
tap r s = coded r s false

-- product to inputs (frame.rs deconvolve); law `deconvolve-undone`: it undoes `convolved`
unfoldable pub deconvolved : ℕ → State → List Bool → List Bool
deconvolved r s [] = []
deconvolved r s (b ∷ l) = plus b (tap r s) ∷ deconvolved r (shift s (plus b (tap r s))) l

-- the state of the code's loops: two bits as numbers, the last input and the one before it
abbrev pub state_of : ℕ → ℕ → State
state_of p q = record { last = odd p; second = odd q }

-- a state as frame.rs has it (CONV_NEXT), a number under 4: the last input counts 2, the one before it 1
abbrev pub state_number : State → ℕ
state_number s = 2 * bit_of s.last + bit_of s.second

abbrev pub numbered : ℕ → State
numbered n = state_of (n / 2) (n % 2)
