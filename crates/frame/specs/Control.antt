-- The payload of a control frame: a type byte, then little-endian voltages and temperature; a downlink confirmation adds the RSSI at which the device received
-- the downlink (sigfox-ep-lib; frame.rs decode_control). Assumes nothing.
use Rattle.std.specs.Prelude.{ℕ, suc, ◌-◌, ◌/◌, cond, ◌&&◌, List, eqb, ltb, length, get_or, ℤ, pos, negsuc, Float, Option, None, Some}
use Rattle.std.specs.Float.{binary64}
use Rattle.std.specs.Float.Ieee.{of_int, div}
use Rattle.floats.specs.Number.{num}
use Rattle.limits.specs.Answer.{Answer, accepted}
use Rattle.endian.specs.Bytes.{number_at}
use Rattle.frame.specs.declared.control.ControlMessage.{ControlMessage}
use Rattle.frame.specs.declared.control.ControlMessage.TheVariants as message

-- type bytes and payload lengths
abbrev pub keep_alive : ℕ
keep_alive = 8

abbrev pub keep_alive_size : ℕ
keep_alive_size = 7

abbrev pub confirmation : ℕ
confirmation = 9

abbrev pub confirmation_size : ℕ
confirmation_size = 8

-- two's complement below m
unfoldable pub signed_below : ℕ → ℕ → ℤ
signed_below m n = cond (ltb n (m / 2)) (pos n) (negsuc (m - suc n))

-- a - b
unfoldable pub minus : ℕ → ℕ → ℤ
minus a b = cond (ltb a b) (negsuc (b - suc a)) (pos (a - b))

-- tenths of a degree (`f64::from(i16) / 10.0`)
unfoldable pub celsius : ℕ → Float
unfolding signed_below
celsius n = div binary64 (of_int binary64 (signed_below 65536 n)) (num 10)

-- `i16::from(payload[7] as i8) - 100`: a byte from 128 on is 256 less
unfoldable pub rssi_of : ℕ → ℤ
unfolding minus
rssi_of b = cond (ltb b 128) (minus b 100) (minus b 356)

-- the Rust's `ControlKind`, and its `ControlMessage`
pub data ControlKind : Type 0 where
  KeepAlive : ControlKind
  DownlinkConfirmation : ControlKind

pub record Control : Type 0 where
  pub kind : ControlKind
  pub voltage_idle_mv : ℕ
  pub voltage_tx_mv : ℕ
  pub temperature_c : Float
  pub downlink_rssi_dbm : Option ℤ

unfoldable pub control_from : ControlKind → List ℕ → Option ℤ → Control
unfolding celsius
control_from kind l rssi =
    record {
      kind = kind;
      voltage_idle_mv = number_at 2 l 1;
      voltage_tx_mv = number_at 2 l 3;
      temperature_c = celsius (number_at 2 l 5);
      downlink_rssi_dbm = rssi;
    }

-- by the type byte and the length; none for any other
unfoldable pub control_of : List ℕ → Option Control
unfolding control_from rssi_of
control_of l =
    cond (eqb (length l) keep_alive_size && eqb (get_or l 0 0) keep_alive) (Some (control_from KeepAlive l None))
    (cond (eqb (length l) confirmation_size && eqb (get_or l 0 0) confirmation) (Some (control_from DownlinkConfirmation l (Some (rssi_of (get_or l 7 0)))))
    None)

-- 01's number and values of each answer: no call is refused
unfoldable pub said : Option ControlMessage → Answer (Option Control)
said None = accepted None
said (Some (message.KeepAlive idle tx celsius)) =
    accepted (Some (record { kind = KeepAlive; voltage_idle_mv = idle; voltage_tx_mv = tx; temperature_c = celsius; downlink_rssi_dbm = None }))
said (Some (message.DownlinkConfirmation idle tx celsius rssi)) =
    accepted (Some (record { kind = DownlinkConfirmation; voltage_idle_mv = idle; voltage_tx_mv = tx; temperature_c = celsius; downlink_rssi_dbm = Some rssi }))
