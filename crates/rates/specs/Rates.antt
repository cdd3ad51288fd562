-- Counts of samples that the Rust works out from the rate, and its tests of counts, by the Rust's binary64 expressions, operation by operation. `as usize` is `to_unsigned 64`. Assumes nothing.
use Rattle.std.specs.Prelude.{ℕ, ◌-◌, Bool, Float}
use Rattle.std.specs.Float.{binary64}
use Rattle.std.specs.Float.Ieee.{mul, div, le, lt, to_unsigned}
use Rattle.floats.specs.Floor.{floor, round_half_up}
use Rattle.floats.specs.Number.{num}
use Rattle.limits.specs.Limits.{buffer_s}
use Rattle.rates.specs.Numbers.{bit_rate, side_bits, half_bits, pad_s, floor_quantile, level_quantile, gap_ms, ms_per_s, step_s, tail_s, same_burst_s}
use Rattle.rates.specs.Rounding.{round_half_away}

-- ---- demod.rs

-- burst_bits, `nominal`: samples of a bit
abbrev pub nominal_of : ℕ → Float
nominal_of rate = div binary64 (num rate) (num bit_rate)

-- find_dips, `half`: round(nominal * 0.4)
unfoldable pub half_of : ℕ → ℕ
half_of rate = to_unsigned 64 (round_half_up (mul binary64 (nominal_of rate) half_bits))

-- find_dips, `win`: round(nominal * 1.5)
unfoldable pub win_of : ℕ → ℕ
win_of rate = to_unsigned 64 (round_half_up (mul binary64 (nominal_of rate) side_bits))

-- decode_burst, `pad`: round(rate * 0.02)
unfoldable pub pad_of : ℕ → ℕ
pad_of rate = to_unsigned 64 (round_half_up (mul binary64 (num rate) pad_s))

-- find_bursts, `gap`: round(gap_ms / 1000 * rate), of any gap_ms and of the default
abbrev pub gap_at : Float → ℕ → ℕ
gap_at ms rate = to_unsigned 64 (round_half_up (mul binary64 (div binary64 ms ms_per_s) (num rate)))

unfoldable pub gap_of : ℕ → ℕ
gap_of rate = gap_at gap_ms rate

-- find_bursts: d samples from the first loud one to the last are a burst, (last - first) / rate >= min_ms / 1000, of any min_ms
abbrev pub long_at : Float → ℕ → ℕ → Bool
long_at ms rate d = le (div binary64 ms ms_per_s) (div binary64 (num d) (num rate))

-- quantile: the place floor(len * q) in the sorted samples, of any q and of the two in use
abbrev pub index_at : Float → ℕ → ℕ
index_at q n = to_unsigned 64 (floor (mul binary64 (num n) q))

unfoldable pub fifth_of : ℕ → ℕ
fifth_of n = index_at floor_quantile n

unfoldable pub nine_tenths_of : ℕ → ℕ
nine_tenths_of n = index_at level_quantile n

-- ---- receiver.rs

-- SigfoxReceiver::new, the buffer's length: (BUFFER_S * rate).round()
unfoldable pub buffer_of : ℕ → ℕ
buffer_of rate = to_unsigned 64 (round_half_away (mul binary64 (num buffer_s) (num rate)))

-- scan, `tail`: (TAIL_S * rate).round()
unfoldable pub tail_of : ℕ → ℕ
tail_of rate = to_unsigned 64 (round_half_away (mul binary64 tail_s (num rate)))

-- scan: a start d samples from a remembered one is the same burst, d < SAME_BURST_S * rate
abbrev pub too_near : ℕ → ℕ → Bool
too_near rate d = lt (num d) (mul binary64 same_burst_s (num rate))

-- push: u samples unscanned make a scan due, u >= STEP_S * rate
abbrev pub scan_due : ℕ → ℕ → Bool
scan_due rate u = le (mul binary64 step_s (num rate)) (num u)

-- scan, `oldest`: base.saturating_sub(rate as usize), the start from which on starts are kept
abbrev pub oldest_kept : ℕ → ℕ → ℕ
oldest_kept base rate = base - to_unsigned 64 (num rate)
