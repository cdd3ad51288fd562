-- The numbers of 01's table of causes ('Causes and returns') and of those that 02 adds, each by one name; the code has one name for each too. Assumes nothing.
use Rattle.std.specs.Prelude.{ℕ, ◌^◌, Float}
use Rattle.std.specs.Float.Ieee.{neg}
use Rattle.floats.specs.Number.{num}

-- refusals
abbrev pub bad_rate : ℕ
bad_rate = 1

abbrev pub short : ℕ
short = 2

abbrev pub long : ℕ
long = 3

abbrev pub bad_sample : ℕ
bad_sample = 4

abbrev pub bad_state : ℕ
bad_state = 5

abbrev pub stream : ℕ
stream = 7

abbrev pub full : ℕ
full = 8

abbrev pub bad_number : ℕ
bad_number = 9

-- 02, request 01: an uplink that no frame carries
abbrev pub bad_uplink : ℕ
bad_uplink = 10

-- 02, request 03: a start second, windows or closed dates as they must not be
abbrev pub bad_shifts : ℕ
bad_shifts = 11

-- 02, request 09: bytes that are no whole event records, each a frame or a message as it must be; a 257th device
abbrev pub bad_records : ℕ
bad_records = 12

abbrev pub many_devices : ℕ
many_devices = 13

-- 02, request 11: a time or distance that is no finite number, or a negative distance
abbrev pub bad_time : ℕ
bad_time = 14

-- 02, request 13: a plan or a month's start as it must not be; a message outside the month
abbrev pub bad_plan : ℕ
bad_plan = 15

abbrev pub outside_month : ℕ
outside_month = 16

-- rate not 200 to 4,000
abbrev pub lowest_rate : ℕ
lowest_rate = 200

abbrev pub highest_rate : ℕ
highest_rate = 4000

-- samples 12 × rate; a call without a rate reads 4,000 there
abbrev pub buffer_s : ℕ
buffer_s = 12

abbrev pub most_samples : ℕ
most_samples = 48000

-- over 4,096 readings or 1,024 bits handed in
abbrev pub most_readings : ℕ
most_readings = 4096

abbrev pub most_bits : ℕ
most_bits = 1024

-- 02, request 09: 'over 120,000,000 bytes of records are refusal 3'
abbrev pub most_record_bytes : ℕ
most_record_bytes = 120000000

-- events 30,720 bytes (C function: 120)
abbrev pub record_size : ℕ
record_size = 120

abbrev pub events_size : ℕ
events_size = 30720

-- 02, request 05: 'refusal 2 now wants 6,000 f64 of scratch'
abbrev pub scratch64 : ℕ
scratch64 = 6000

-- stream would pass 2^40 samples
abbrev pub longest_stream : ℕ
longest_stream = 2 ^ 40

-- sample not in −200 to 100 dBm
abbrev pub lowest_dbm : Float
lowest_dbm = neg (num 200)

abbrev pub highest_dbm : Float
highest_dbm = num 100

-- times not within ±10^9
abbrev pub farthest_s : Float
farthest_s = num 1000000000
