-- frequency.rs: cfo_signed, cfo_step_hz, a reading's frequency, round_hz. Assumes nothing.
use Rattle.std.specs.Prelude.{ℕ, ◌+◌, ◌-◌, ◌/◌, ◌%◌, ◌^◌, cond, ltb, eqb, ℤ, pos, negsuc, Float}
use Rattle.std.specs.Float.{binary64}
use Rattle.std.specs.Float.Ieee.{add, mul, div, lt, of_int, to_unsigned}
use Rattle.floats.specs.Floor.{floor, round_half_up}
use Rattle.floats.specs.Number.{num, near}
use Rattle.limits.specs.Limits.{bad_number}
use Rattle.limits.specs.Answer.{Answer, answer}

-- XTAL_HZ
abbrev pub xtal_hz : ℕ
xtal_hz = 32000000

-- the register has 12 bits (0x1000); from its sign bit (0x800) on its values are negative
abbrev pub register : ℕ
register = 4096

abbrev pub sign : ℕ
sign = 2048

-- CFO_SCALE
abbrev pub cfo_scale : Float
cfo_scale = near 93 100

-- cfo_signed: the low 12 bits, from 0x800 on less 0x1000
unfoldable pub signed : ℕ → ℤ
signed v = cond (ltb (v % register) sign) (pos (v % register)) (negsuc (register - 1 - v % register))

-- [4.0, 8.0, 10.0, 12.0][bw_code >> 3 & 3]
unfoldable pub mantissa : ℕ → ℕ
mantissa k = cond (eqb k 0) 4 (cond (eqb k 1) 8 (cond (eqb k 2) 10 12))

-- interp, of osr
abbrev pub interpolation : Float → Float
interpolation osr = cond (lt osr (num 4)) (num 4) (cond (lt osr (num 8)) (num 2) (num 1))

-- cf_fs: XTAL_HZ / (mant * f64::from(1u32 << ((bw_code & 7) + 1)))
unfoldable pub cf_fs : ℕ → Float
unfolding mantissa
cf_fs bw = div binary64 (num xtal_hz) (mul binary64 (num (mantissa (bw / 8 % 4))) (num (2 ^ (bw % 8 + 1))))

-- cf_fs * interp / 4096.0
unfoldable pub step_of : ℕ → ℕ → Float
unfolding cf_fs
step_of bw rate = div binary64 (mul binary64 (cf_fs bw) (interpolation (floor (div binary64 (cf_fs bw) (num rate))))) (num register)

-- the cause that applies to `cfo_step_hz`, 0 where none does: 9 bit rate 0
unfoldable pub step_cause : ℕ → ℕ
step_cause rate = cond (eqb rate 0) bad_number 0

unfoldable pub step_hz : ℕ → ℕ → Answer Float
unfolding step_of step_cause
step_hz bw rate = answer (step_cause rate) (step_of bw rate)

-- a reading's frequency, of receiver frequency, register value and step: f64::from(lo) + f64::from(cfo_signed(v)) * step_hz / CFO_SCALE
unfoldable pub reading_hz : ℕ → ℕ → Float → Float
unfolding signed
reading_hz lo v step = add binary64 (num lo) (div binary64 (mul binary64 (of_int binary64 (signed v)) step) cfo_scale)

-- round_hz: (x + 0.5).floor() as u32
unfoldable pub round_hz : Float → ℕ
round_hz x = to_unsigned 32 (round_half_up x)
