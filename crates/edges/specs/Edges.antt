-- 01's edges, P1 to P10, in one table over the definitions of frame.rs, demod.rs, frequency.rs and the numbers. Assumes nothing.
use Rattle.std.specs.Prelude.{◌≡◌, true, false, List, [], ◌∷◌, ◌++◌, ℕ, zero, suc, ◌+◌, take, replicate, pos, negsuc, Float, None, Some}
use Rattle.std.specs.Float.Ieee.{neg}
use Rattle.floats.specs.Number.{num, near}
use Rattle.floats.specs.Floor.{round_half_up}
use Rattle.coding.specs.Crc.{crc_of}
use Rattle.coding.specs.Convolution.{fresh, deconvolved}
use Rattle.frame.specs.Sizes.{auth_size}
use Rattle.frame.specs.Header.{class_of, li_of, header_bytes}
use Rattle.frame.specs.declared.header.UplinkFields.{UplinkFields}
use Rattle.bursts.specs.Levels.{noise_floor}
use Rattle.rates.specs.Numbers.{gap_ms}
use Rattle.bursts.specs.Numbers.{above_db}
use Rattle.bursts.specs.Bursts.{threshold, loud, bursts_of, Cluster, cluster}
use Rattle.bursts.specs.declared.Burst.{Burst}
use Rattle.bursts.specs.declared.BurstOptions.{BurstOptions}
use Rattle.limits.specs.Answer.{accepted}
use Rattle.cfo.specs.Cfo.{signed, step_hz}
use Rattle.frequency_lists.specs.declared.Reading.{Reading}
use Rattle.frequency_measure.specs.Measured.{frame1}
use Rattle.record.specs.declared.FrameSpan.{FrameSpan}

-- ---- P5 and P6: what is heard over a floor of -100 dBm

-- the default's 15 dB and 40 ms, and 300 ms by its number
abbrev pub options : BurstOptions
options = record { above_db = above_db; min_ms = num 300; gap_ms = gap_ms }

abbrev pub floor : Float
floor = neg (num 100)

-- where bursts start and end
unfoldable pub spans : List Burst → List Cluster
spans [] = []
spans (b ∷ bs) = cluster b.start b.end ∷ spans bs

abbrev pub heard : List Float → List Cluster
heard l = spans (bursts_of l 1000 options floor)

-- loud samples of -60 dBm, and quiet ones of -100
abbrev pub high : ℕ → List Float
high n = replicate n (neg (num 60))

abbrev pub low : ℕ → List Float
low n = replicate n (neg (num 100))

-- ---- P9

abbrev pub two_bytes : ℕ → UplinkFields
two_bytes device = record { device_id = device; counter = 0x123; bit = None; downlink = false }

-- ---- P10: frames 1, 2 and 3 on air at 1 s, 5 s and 9 s for 1 s each, with five readings in each of them

-- k readings of the frequency h, from the sample at on
unfoldable pub readings : ℕ → ℕ → ℕ → List Reading
readings zero at h = []
readings (suc k) at h = record { at = at; lo = 868130000; hz = num h } ∷ readings k (at + 8) h

unfoldable pub measured : ℕ → ℕ → ℕ → List Reading
measured a b c = readings 5 1500 a ++ (readings 5 5500 b ++ readings 5 9500 c)

unfoldable pub on_air : List FrameSpan
on_air = record { rank = 0; time = num 1; end = num 2 } ∷ record { rank = 1; time = num 5; end = num 6 } ∷ record { rank = 2; time = num 9; end = num 10 } ∷ []

-- ---- THE TABLE

pub record Edges : Type 0 where
  -- CRC of nothing FFFF, of byte 01 EFDE (hex)
  pub p1 : (crc_of [] ≡ 0xffff) × (crc_of (1 ∷ []) ≡ 0xefde)
  -- register 7FF is 2047, 800 is −2048, FFF is −1
  pub p2 : (signed 0x7ff ≡ pos 2047) × (signed 0x800 ≡ negsuc 2047) × (signed 0xfff ≡ negsuc 0)
  -- bandwidth code 0A (hex), 100 bit/s: step 122.0703125
  pub p3 : step_hz 0x0a 100 ≡ accepted (near 1220703125 10000000)
  -- bits 1 0 0 give 1 1 0 in rank 1, 1 0 1 in rank 2
  pub p4 : (deconvolved 1 fresh (true ∷ false ∷ false ∷ []) ≡ true ∷ true ∷ false ∷ []) × (deconvolved 2 fresh (true ∷ false ∷ false ∷ []) ≡ true ∷ false ∷ true ∷ [])
  -- at 1,000/s, 301 loud samples are a burst, 300 are not; 40 quiet ones are bridged, 41 are not
  pub p5 : (heard (low 1 ++ high 301) ≡ cluster 1 302 ∷ []) × (heard (low 1 ++ high 300) ≡ [])
      × (heard (low 1 ++ (high 301 ++ (low 40 ++ high 301))) ≡ cluster 1 643 ∷ [])
      × (heard (low 1 ++ (high 301 ++ (low 41 ++ high 301))) ≡ cluster 1 302 ∷ cluster 343 644 ∷ [])
  -- floor −100: −84.5 is loud, −85 isn't
  pub p6 : (loud (threshold options floor) (neg (near 169 2)) ≡ true) × (loud (threshold options floor) (neg (num 85)) ≡ false)
  -- empty noise floor −120
  pub p7 : noise_floor [] ≡ neg (num 120)
  -- 2.5 rounds to 3, −2.5 to −2
  pub p8 : (round_half_up (near 5 2) ≡ num 3) × (round_half_up (neg (near 5 2)) ≡ neg (num 2))
  -- two bytes, no downlink, counter 123 hex: header starts 81 23 (hex), auth 4
  pub p9 : (device a b : ℕ) → (take 2 (header_bytes (two_bytes device) (a ∷ b ∷ [])) ≡ 0x81 ∷ 0x23 ∷ []) × (auth_size (class_of None 2) (li_of None 2) ≡ 4)
  -- downlink, frames 2 and 3 at ±6,000 Hz give their middle; spacing 9,000 Hz falls back to frame 1; so does a message without downlink
  pub p10 : (frame1 1000 (measured 868130100 868136000 868124000) on_air true ≡ Some 868130000)
      × (frame1 1000 (measured 868130100 868134500 868125500) on_air true ≡ Some 868130100)
      × (frame1 1000 (measured 868130100 868136000 868124000) on_air false ≡ Some 868130100)
