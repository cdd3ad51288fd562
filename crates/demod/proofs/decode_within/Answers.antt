use Rattle.std.proofs.Common.{None, refl, ◌≡◌}
use Rattle.clock.specs.Bits.{outcome}
use Rattle.demod.specs.Decode.{segment_of, with_burst, decode_burst}
use Rattle.demod.proofs.FrameLaws.{told_nothing, sent_short, sent_bits, heard-frame}
use Rattle.demod.proofs.decode_within.Goals.{After-burst_samples}
use Rattle.demod.proofs.decode_within.Goals as goal

-- the bits of the segment
same : (c : After-burst_samples) → outcome c.burst_samples.result.dbm.now c.burst_samples.result.rate ≡ outcome (segment_of c.args.samples.dbm.now c.args.samples.rate c.args.burst) c.args.samples.rate
same c = rw (c.burst_samples.ensures.0, c.burst_samples.ensures.1)

pub decode_bits-requires : goal.decode_bits-requires
decode_bits-requires c =
    let s = c.burst_samples.result in (
      sent_bits s.dbm.now s.rate c.in_ok-b.b c.in_ok-b.ensures.0 _ c.bits_of.new.bits c.in_ok-b.ensures.1 c.min-len.result c.min-len.ensures,
      sent_short s.dbm.now s.rate c.in_ok-b.b c.in_ok-b.ensures.0 _ c.bits_of.new.bits c.in_ok-b.ensures.1 c.min-len.result c.min-len.ensures,
    )

pub returns-in_err-b : goal.returns-in_err-b
unfolding decode_burst
returns-in_err-b c = rw (c.from_residual.ensures, ← same (goal.at.returns-in_err-b c).After-burst_samples) (told_nothing _ _ _ _ c.in_err-b.ensures.0)

pub returns-in_err-frame : goal.returns-in_err-frame
unfolding decode_burst with_burst
returns-in_err-frame c =
    let a = c.args in
    let s = c.burst_samples.result in
    rw (c.from_residual-in_err-frame.ensures, ← same (goal.at.returns-in_err-frame c).After-burst_samples)
    (heard-frame s.dbm.now s.rate c.in_ok-b.b c.in_ok-b.ensures.0 _ c.bits_of.new.bits c.in_ok-b.ensures.1 c.min-len.result c.min-len.ensures _ _ a.burst.peak_dbm
    _ c.decode_bits.result None refl c.decode_bits.ensures (rw c.in_err-frame.was))

pub returns : goal.returns
unfolding decode_burst with_burst
returns c =
    let a = c.args in
    let s = c.burst_samples.result in
    rw (c.time_at.ensures, c.time_at-2.ensures, ← same (goal.at.returns c).After-burst_samples)
    (heard-frame s.dbm.now s.rate c.in_ok-b.b c.in_ok-b.ensures.0 _ c.bits_of.new.bits c.in_ok-b.ensures.1 c.min-len.result c.min-len.ensures _ _ a.burst.peak_dbm
    c.depth_byte.result c.decode_bits.result _ c.depth_byte.ensures c.decode_bits.ensures (rw c.in_ok-frame.was))
