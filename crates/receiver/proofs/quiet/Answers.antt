use mathlib.Core.Bool.{false, true}
use mathlib.Core.Path.{◌≡◌, ◌∙◌, refl, sym}
use Prim.Native.Nat.{◌+◌}
use native.Mathlib.Omega.{arith}
use Rattle.ledger.proofs.Basics.{clash}
use Rattle.receiver.specs.State.{given_cause, samples_ok}
use Rattle.receiver.specs.Running.{viewed}
use Rattle.receiver.proofs.CauseLaws.{given-fits, given_same, no_error}
use Rattle.receiver.proofs.QuickLaws.{given-rated, samples-calm, stream_none}
use Rattle.receiver.proofs.StateLaws.{samples-fit}
use Rattle.receiver.proofs.quiet.Goals.{Else-is_err, Else-not-samples_in_order}
use Rattle.receiver.proofs.quiet.Goals as goal

given : (c : Else-is_err) → given_cause c.args.s.now.rate (viewed c.args.lent) c.args.n ≡ 0
given c = sym (given_same _ _ c.lengths.ensures c.check_given.ensures) ∙ no_error c.check_given.result (sym c.is_err.ensures.value ∙ c.if-is_err.false)

ordered : (c : Else-not-samples_in_order) → let s = c.args.s.now in samples_ok s.rate s.held s.base s.unscanned s.starts c.args.lent.samples.now ≡ true
ordered c = sym c.samples_in_order.ensures ∙ c.if-not-samples_in_order.false

pub returns-then-is_err : goal.returns-then-is_err
returns-then-is_err c e = clash false e refl

pub samples_in_order-requires : goal.samples_in_order-requires
samples_in_order-requires c =
    let f = given-fits c.args.s.now.rate (viewed c.args.lent) c.args.n (given (goal.at.samples_in_order-requires c).Else-is_err) in
    f.0

pub returns-then-not-samples_in_order : goal.returns-then-not-samples_in_order
returns-then-not-samples_in_order c e = clash false e refl

pub check_stream-requires : goal.check_stream-requires
check_stream-requires c =
    let s = c.args.s.now in
    let d = goal.at.check_stream-requires c in
    let z = given d.Else-is_err in
    let f = given-fits s.rate (viewed c.args.lent) c.args.n z in
    omega (arith, f.1, given-rated s.rate (viewed c.args.lent) c.args.n z, (samples-fit s.rate s.held s.base s.unscanned s.starts c.args.lent.samples.now (ordered d.Else-not-samples_in_order)).1)

pub returns-then-is_err-2 : goal.returns-then-is_err-2
returns-then-is_err-2 c e = clash false e refl

pub fits-requires : goal.fits-requires
fits-requires c =
    let s = c.args.s.now in
    let d = goal.at.fits-requires c in
    let z = given d.Else-is_err in
    let y = ordered d.Else-not-samples_in_order in
    let f = given-fits s.rate (viewed c.args.lent) c.args.n z in
    (given-rated s.rate (viewed c.args.lent) c.args.n z, (samples-fit s.rate s.held s.base s.unscanned s.starts c.args.lent.samples.now y).0, f.1, samples-calm s.rate s.held s.base s.unscanned s.starts c.args.lent.samples.now y)

pub returns : goal.returns
returns c e =
    let s = c.args.s.now in
    let d = goal.at.returns c in
    let r = c.fits.ensures e in
    let k = c.check_stream in
    record {
      given = given d.Else-is_err;
      order = ordered d.Else-not-samples_in_order;
      stream = stream_none (s.base + s.held + c.args.n) _ k.ensures (no_error k.result (sym c.is_err-2.ensures.value ∙ c.if-is_err-2.false));
      some = r.0;
      fits = r.1;
      calm = r.2;
    }
