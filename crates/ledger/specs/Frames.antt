-- A frame of the ledger: what a burst decodes to, and where in the stream it starts. Assumes nothing.
use Rattle.std.specs.Prelude.{ℕ, Bool, ◌&&◌, eqb, Float}
use Rattle.ledger.specs.Types.{UplinkFrame, DecodedFrame, Reception}

-- device and counter: "joins the open message with its device and counter"
pub record Key : Type 0 where
  pub device : ℕ
  pub counter : ℕ

abbrev pub same : Key → Key → Bool
same a b = eqb a.device b.device && eqb a.counter b.counter

-- what is decoded, and what a receiver adds to it: the two parts of a frame's record
pub record Frame : Type 0 where
  pub uplink : UplinkFrame
  pub reception : Reception

-- a decoded burst (demod.rs `DecodedFrame`) with its absolute start sample
abbrev pub frame_at : ℕ → DecodedFrame → Frame
frame_at s d =
    record {
      uplink = d.frame;
      reception = record { clock_error_ppm = d.clock_error_ppm; rssi = d.rssi; time = d.time; end = d.end; start = s; depth = d.depth };
    }

unfoldable pub key_of : Frame → Key
key_of f = record { device = f.uplink.device_id; counter = f.uplink.counter }

unfoldable pub rank_of : Frame → ℕ
rank_of f = f.uplink.rank

unfoldable pub right_crc : Frame → Bool
right_crc f = f.uplink.crc_ok

unfoldable pub rssi_of : Frame → Float
rssi_of f = f.reception.rssi

unfoldable pub time_of : Frame → Float
time_of f = f.reception.time

unfoldable pub start_of : Frame → ℕ
start_of f = f.reception.start
