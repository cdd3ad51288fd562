-- 01's order rules for the counts and indices of a tracker ('In order: ..'), and the range of its floor. Assumes nothing.
use Rattle.std.specs.Prelude.{ℕ, ◌≤◌, Bool, true, ◌&&◌, nat_le, Float, Option, None, Some}
use Rattle.limits.specs.Limits.{longest_stream}
use Rattle.limits.specs.Samples.{is_dbm}
use Rattle.frequency_signal.specs.declared.Signal.{Signal}

-- 'last signal .. indices 0 to that count, frame start −1 to it': `None` is the Rust's None and -1
abbrev pub Index : ℕ → Option ℕ → Type 0
Index n None = Unit
Index n (Some s) = s ≤ n

abbrev pub index_ok : ℕ → Option ℕ → Bool
index_ok n None = true
index_ok n (Some s) = nat_le s n

-- 'stream count 0 to 2^40, line start, last signal .. indices 0 to that count, frame start −1 to it'
abbrev pub signal_ok : ℕ → Signal → Bool
signal_ok line s = nat_le s.n longest_stream && (nat_le line s.n && (index_ok s.n s.last_signal && index_ok s.n s.frame_from))

-- cause 9: 'floor not −200 to 100'
abbrev pub floor_ok : Option Float → Bool
floor_ok None = true
floor_ok (Some f) = is_dbm f
