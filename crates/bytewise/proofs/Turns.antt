-- The turns of `undo_into`. Assumes nothing.
use mathlib.Core.Path.{◌≡◌, sym, ap, ap₂, ◌∙◌}
use mathlib.Core.List.{List, ◌∷◌, ◌++◌}
use Prim.Native.Nat.{ℕ, suc, ◌+◌, ◌≤◌, ◌<◌}
use native.Mathlib.Omega.{arith}
use native.Mathlib.Numerals.{add-one}
use native.Mathlib.Nat.{le_antisymm}
use lib.ListN.{length, take, drop, get_or, set, drop_of_length-le, take-append-drop}
use lib.Seq.{drop-cons, take-suc-set, drop-set-lt, append_snoc}
use Rattle.conv_tables.specs.Tables.{decoded_byte, next_state}
use Rattle.bytewise.specs.Steps.{by_bytes, state_bytes}

-- what is written, what is left to do and what is kept make the whole
unfoldable pub whole : ℕ → List ℕ → List ℕ → ℕ → ℕ → List ℕ
whole rank bytes out n i = take i out ++ (by_bytes rank n (drop i bytes) ++ drop (length bytes) out)

module _ (rank : ℕ) (bytes out : List ℕ) (n i : ℕ) where
  pub whole-turn : (v m : ℕ) → i < length bytes → length bytes ≤ length out → v ≡ decoded_byte rank n (get_or bytes i 0) → m ≡ next_state rank n (get_or bytes i 0)
      → whole rank bytes (set out i v) m (i + 1) ≡ whole rank bytes out n i
  unfolding whole by_bytes
  whole-turn v m h k e f =
      let b = get_or bytes i 0 in
      let rest : ℕ → List ℕ = λ s. by_bytes rank s (drop (suc i) bytes) in
      let t = drop (length bytes) out in
      ap (λ (j : ℕ). take j (set out i v) ++ (by_bytes rank m (drop j bytes) ++ drop (length bytes) (set out i v))) (add-one i)
      ∙ ap₂ (λ (x y : List ℕ). x ++ (rest m ++ y)) (take-suc-set out i v (omega arith)) (drop-set-lt (length bytes) out i v h)
      ∙ append_snoc (take i out) v (rest m ++ t)
      ∙ ap₂ (λ (x s : ℕ). take i out ++ (x ∷ (rest s ++ t))) e f
      ∙ ap (λ (l : List ℕ). take i out ++ (by_bytes rank n l ++ t)) (sym (drop-cons bytes i 0 h))

  pub state-turn : (m : ℕ) → i < length bytes → m ≡ next_state rank n (get_or bytes i 0) → state_bytes rank m (drop (i + 1) bytes) ≡ state_bytes rank n (drop i bytes)
  unfolding state_bytes
  state-turn m h f = ap₂ (λ (s j : ℕ). state_bytes rank s (drop j bytes)) f (add-one i) ∙ ap (state_bytes rank n) (sym (drop-cons bytes i 0 h))

  pub whole_end : length bytes ≤ i → i ≤ length bytes → whole rank bytes out n i ≡ out
  unfolding whole by_bytes
  whole_end h k =
      ap (λ (d : List ℕ). take i out ++ (by_bytes rank n d ++ drop (length bytes) out)) (drop_of_length-le bytes {i = i} h)
      ∙ ap (λ (j : ℕ). take i out ++ drop j out) (le_antisymm h k) ∙ take-append-drop i out

  pub state_end : length bytes ≤ i → state_bytes rank n (drop i bytes) ≡ n
  unfolding state_bytes
  state_end h = ap (state_bytes rank n) (drop_of_length-le bytes {i = i} h)
