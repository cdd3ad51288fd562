-- The types of frames, bursts and messages, under one roof.
use Rattle.std.specs.Prelude.{Option, None, Some, Bool, Float}
pub use Rattle.frame.specs.declared.Repair.{Repair}
pub use Rattle.frame.specs.declared.Repair.TheVariants.{Inserted, Deleted, Flipped}
pub use Rattle.frame.specs.declared.UplinkFrame.{UplinkFrame}
pub use Rattle.demod.specs.declared.DecodedFrame.{DecodedFrame}
pub use Rattle.bursts.specs.declared.Burst.{Burst}
pub use Rattle.record.specs.declared.Reception.{Reception}
pub use Rattle.record.specs.declared.FrameSpan.{FrameSpan}
pub use Rattle.record.specs.declared.SigfoxMessage.{SigfoxMessage}
pub use Rattle.ledger.specs.declared.Pending.{Pending}
