-- What the two walks of `deconvolve_bytes` leave is what goes bit by bit. Assumes nothing.
use mathlib.Core.Path.{◌≡◌, sym, ap, ap₂, ◌∙◌}
use mathlib.Core.List.{List, map}
use Prim.Native.Nat.{ℕ, ◌*◌}
use lib.ListN.{length, drop}
use Rattle.coding.specs.Bits.{odd, to_bytes}
use Rattle.coding.specs.Convolution.{State, numbered, state_after, deconvolved}
use Rattle.bytewise.specs.Steps.{by_bytes, state_bytes}
use Rattle.bytewise.specs.Answers.{handed, undone}
use Rattle.bytewise.proofs.Walk.{bytes-agree, rest_agrees, state_agrees}

-- n is the number of the state at the start, m that of the state after the bytes
module _ (bytes rest : List ℕ) (rank n m : ℕ) (s : State) (e : numbered n ≡ s) (f : m ≡ state_bytes rank n bytes) where
  from_start : deconvolved rank (numbered n) (handed bytes rest) ≡ undone bytes rest rank s
  unfolding undone
  from_start = ap (λ (t : State). deconvolved rank t (handed bytes rest)) e

  pub bytes_are : by_bytes rank n bytes ≡ to_bytes (length bytes) (undone bytes rest rank s)
  bytes_are = sym (bytes-agree rank n bytes (map odd rest)) ∙ ap (to_bytes (length bytes)) from_start

  pub rest_is : deconvolved rank (numbered m) (map odd rest) ≡ drop (8 * length bytes) (undone bytes rest rank s)
  rest_is =
      ap (λ (k : ℕ). deconvolved rank (numbered k) (map odd rest)) f
      ∙ sym (rest_agrees rank n bytes (map odd rest)) ∙ ap (drop (8 * length bytes)) from_start

  pub state_is_lem : state_after (numbered m) (deconvolved rank (numbered m) (map odd rest)) ≡ state_after s (undone bytes rest rank s)
  state_is_lem =
      ap (λ (k : ℕ). state_after (numbered k) (deconvolved rank (numbered k) (map odd rest))) f
      ∙ state_agrees rank n bytes (map odd rest) ∙ ap₂ state_after e from_start
