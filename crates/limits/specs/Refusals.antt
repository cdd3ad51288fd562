-- The numbers of the refusals (01's table of causes, and what 02 adds). Assumes nothing.
use Rattle.std.specs.Prelude.{ℕ}
use Rattle.limits.specs.Limits.{bad_rate, short, long, bad_sample, bad_state, stream, full, bad_number, bad_uplink, bad_shifts, bad_records, many_devices, bad_time, bad_plan, outside_month}
use Rattle.limits.specs.declared.Refusal.{Refusal}
use Rattle.limits.specs.declared.Refusal.TheVariants.{BadRate, Short, Long, BadSample, BadState, Stream, Full, BadNumber, BadUplink, BadShifts, BadRecords, ManyDevices, BadTime, BadPlan, OutsideMonth}

-- the paper's number of a refusal
abbrev pub number_of : Refusal → ℕ
number_of BadRate = bad_rate
number_of Short = short
number_of Long = long
number_of BadSample = bad_sample
number_of BadState = bad_state
number_of Stream = stream
number_of Full = full
number_of BadNumber = bad_number
number_of BadUplink = bad_uplink
number_of BadShifts = bad_shifts
number_of BadRecords = bad_records
number_of ManyDevices = many_devices
number_of BadTime = bad_time
number_of BadPlan = bad_plan
number_of OutsideMonth = outside_month
