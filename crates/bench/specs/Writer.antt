-- Of an answer of `write_uplink` the number that the benchmark compares, and the fields that it hands over. Assumes nothing.
use Rattle.std.specs.Prelude.{ℕ, false, None}
use Rattle.limits.specs.Answer.{Answer, refused, accepted}
use Rattle.frame.specs.declared.header.UplinkFields.{UplinkFields}

-- how many bits a repetition has, 0 where the call is refused
abbrev pub sent_of : Answer ℕ → ℕ
sent_of (refused n) = 0
sent_of (accepted n) = n

-- no single bit, no downlink asked for
abbrev pub plain_fields : ℕ → ℕ → UplinkFields
plain_fields device counter = record { device_id = device; counter = counter; bit = None; downlink = false }
