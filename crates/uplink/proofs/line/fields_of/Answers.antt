use Rattle.uplink.proofs.Frames.{same_fields}
use Rattle.uplink.proofs.line.fields_of.Goals as goal

pub returns : goal.returns
returns c = let a = c.args in
    same_fields a.device.now a.counter.now a.payload.now a.downlink.now c.number.result c.number-2.result c.bit_in.result c.number-3.result c.number.ensures.0 c.number-2.ensures.0 c.bit_in.ensures c.number-3.ensures.0
