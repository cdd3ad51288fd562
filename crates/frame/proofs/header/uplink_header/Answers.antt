use mathlib.Core.Path.{ap, ◌∙◌}
use Rattle.limits.specs.Answer.{said_by}
use Rattle.frame.specs.Sizes.{auth_size}
use Rattle.frame.proofs.HeaderLaws.{header_short, header-long, header_made, header-written}
use Rattle.frame.proofs.header.uplink_header.Goals as goal

pub returns-then-out-lt-MOST_HEADER : goal.returns-then-out-lt-MOST_HEADER
unfolding said_by
returns-then-out-lt-MOST_HEADER c = let a = c.args in header_short a.fields a.payload.now a.out.now c.if-out-lt-MOST_HEADER.true

pub returns-then-payload-gt-MOST_PAYLOAD : goal.returns-then-payload-gt-MOST_PAYLOAD
unfolding said_by
returns-then-payload-gt-MOST_PAYLOAD c = let a = c.args in
    header-long a.fields a.payload.now a.out.now c.if-out-lt-MOST_HEADER.false c.if-payload-gt-MOST_PAYLOAD.true

pub returns : goal.returns
unfolding said_by
returns c = let a = c.args in
    let r = c.new-layout in (
      header_made a.fields a.payload.now a.out.now c.if-out-lt-MOST_HEADER.false c.if-payload-gt-MOST_PAYLOAD.false r.result.class c.auth_size.result r.ensures.0
          (c.auth_size.ensures.0 ∙ ap (auth_size r.result.class) r.ensures.1),
      c.write_header.ensures ∙ header-written a.fields a.payload.now a.out.now c.if-out-lt-MOST_HEADER.false c.if-payload-gt-MOST_PAYLOAD.false,
    )
