-- The turns of a loop that takes the largest float of a list. Assumes nothing.
use Rattle.std.proofs.Common.{◌≡◌, ℕ, ◌+◌, ◌<◌, List, length, get_or, drop, sym, ap, ◌∙◌, add-one, drop-cons}
use lib.Seq.{drop-length}
use lib.Ieee.{Float, nan}
use Rattle.floats.specs.Fold.{max_of, max_from}

pub max_step : (m : Float) (s : List Float) (i : ℕ) → i < length s → max_from m (drop i s) ≡ max_from (max_of m (get_or s i nan)) (drop (i + 1) s)
unfolding max_from
max_step m s i h =
    ap (max_from m) (drop-cons s i nan h) ∙ ap (λ (j : ℕ). max_from (max_of m (get_or s i nan)) (drop j s)) (sym (add-one i))

pub max_end : (m : Float) (s : List Float) (i : ℕ) → i ≡ length s → max_from m (drop i s) ≡ m
unfolding max_from
max_end m s i h = ap (λ (j : ℕ). max_from m (drop j s)) h ∙ ap (max_from m) (drop-length s)
