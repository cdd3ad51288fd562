-- A list of four event records that the receiver wrote, computed: its report, the report in another order, the sums, and what is refused with 12. Assumes nothing.
use Rattle.std.proofs.Common.{◌≡◌, ℕ, true, false, List, [], ◌∷◌, ◌++◌, set, ℤ, pos, negsuc, refl}
use lib.Seq.{sets}
use lib.Ieee.{round, of_int, of_bits, mul, le, neg, to_signed}
use Rattle.floats.specs.Floor.{floor}
use Rattle.endian.specs.Bytes.{bytes_of, number_of, number_at, signed_of}
use Rattle.event_list.specs.Events.{records_of, all_ok, list_ok}
use Rattle.event_list.specs.Sums.{those, sum_of}
use Rattle.fleet_sheet.specs.Fleet.{half_decibels, min_z, max_z, over_from, over, row_from, insert, devices_of}
use Rattle.fleet_sheet.specs.Report.{sheet_of, sheet, fleet_messages, sheet_cause, fleet_cause}
use Rattle.fleet_sheet.specs.Claims.{column}

-- a frame of device 1
abbrev frame : List ℕ
frame = bytes_of 120 0x000000000000012c00000000000000000000000000000000000000000000000000000000000000000000000000000000000000000000000040052f1a9fbe76c93ff333333333333300ffffffc270000000000000000000000403020100000000000000000000cdab00000123000000010000000402040001

-- messages: device 3, rank 1, -8321 ppm, -81.6 dBm; device 3, rank 0, 7673 ppm, -119.7 dBm; device 15, all ranks, -1526 ppm, -85.9 dBm
abbrev third : List ℕ
third = bytes_of 120 0x000000aa2b4653c2000000000000000000000000000000000000000000000000000000000000000041f0624dd250dd2f41f0624dd239a9fc41f0624dd1d0dd2f41f0624dd1b9a9fc00ffff01c2a335fcffffdf7f0000000000007c80000000000000000000000000000000060000000300000002003e0202

abbrev again : List ℕ
again = bytes_of 120 0x000000e0bc6769ef000000000000000000000000000000000000000000000000000000000000000041f0624dd260dd2f41f0624dd249a9fc41f0624dd1e0dd2f41f0624dd1c9a9fc00ffff00c2ef5b7d00001df9000000000000abf20000000000000000b5fc97ca00000005000000030000000204260102

abbrev fifteenth : List ℕ
fifteenth = bytes_of 120 0x00000091edfdd93441f0624dd2f8dd2f41f0624dd2e1a9fc41f0624dd2b8dd2f41f0624dd2a1a9fc41f0624dd278dd2f41f0624dd261a9fc41f0624dd23ac8b441f0624dd261a9fc00020001c2abde23fffffa0a00000000000050dc0000000000000000000022af000000050000000f00000002022e0702

abbrev all : List ℕ
all = fifteenth ++ (third ++ (frame ++ again))

-- half decibels: -163.2 and -239.4 are rounded down to -164 and -240, -171.9 to -172; the frame's device has no row
abbrev rows : List ℤ
rows =
    pos 3 ∷ pos 2 ∷ pos 2 ∷ pos 0 ∷ pos 0 ∷ negsuc 8320 ∷ pos 7673 ∷ negsuc 403 ∷ pos 2
    ∷ pos 15 ∷ pos 1 ∷ pos 0 ∷ pos 0 ∷ pos 1 ∷ negsuc 1525 ∷ negsuc 1525 ∷ negsuc 171 ∷ pos 1
    ∷ []

pub reported : (fleet_cause all 2304 ≡ 0) × (sheet (fleet_messages all) ≡ rows)
unfolding fleet_cause sheet_cause sheet_of row_from over over_from min_z max_z half_decibels devices_of insert those sum_of records_of all_ok bytes_of number_at number_of signed_of of_bits of_int round mul floor to_signed le neg
reported = (refl, refl)

pub other_order : sheet (fleet_messages (again ++ (frame ++ (fifteenth ++ third)))) ≡ rows
unfolding sheet_of row_from over over_from min_z max_z half_decibels devices_of insert those sum_of records_of bytes_of number_at number_of signed_of of_bits of_int round mul floor to_signed
other_order = refl

-- three messages, two with one rank and one with three, -576 half decibels
pub added : (column 2 1 rows ≡ pos 3) × (column 2 2 rows ≡ pos 2) × (column 2 3 rows ≡ pos 0) × (column 2 4 rows ≡ pos 1) × (column 2 7 rows ≡ negsuc 575) × (column 2 8 rows ≡ pos 3)
unfolding column
added = (refl, refl, refl, refl, refl, refl)

-- a byte too few; kind 3; byte 1 of 0 and 8; a NaN; the least number under -200 dBm, and -200 itself; a frame with byte 1 of 8 and a NaN
pub tested : (fleet_cause (0 ∷ all) 2304 ≡ 12) × (list_ok (set third 0 3) ≡ false) × (list_ok (set third 1 0) ≡ false) × (list_ok (set third 1 8) ≡ false)
    × (list_ok (sets third 40 (bytes_of 4 0x7fc00000)) ≡ false) × (list_ok (sets third 40 (bytes_of 4 0xc3480001)) ≡ false)
    × (list_ok (sets third 40 (bytes_of 4 0xc3480000)) ≡ true) × (list_ok (sets (set frame 1 8) 40 (bytes_of 4 0x7fc00000)) ≡ true)
unfolding fleet_cause sheet_cause records_of all_ok bytes_of number_at number_of of_bits of_int round le neg
tested = (refl, refl, refl, refl, refl, refl, refl, refl)
