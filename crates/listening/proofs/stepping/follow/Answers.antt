use mathlib.Core.Path.{◌≡◌, refl}
use mathlib.Core.List.{[]}
use native.Mathlib.Omega.{arith}
use Rattle.limits.specs.Answer.{cause_of}
use lib.ListN.{length, take}
use lib.Seq.{length-take-le}
use Rattle.ledger.specs.Ledger.{by_frames, Ledger}
use Rattle.listening_lines.proofs.TextLaws.{nothing}
use Rattle.listening.proofs.StepLaws.{dbm_is, begun-room, begun-leads, step_is, passed_is, passed-leads, follows_as}
use Rattle.listening.proofs.stepping.follow.Goals as goal

pub returns-then-waits : goal.returns-then-waits
unfolding cause_of
returns-then-waits c =
    let b = c.pass in record {
      follows = record {
        stops = λ k. absurd (k refl);
        text = [];
        added = λ w. nothing _ 0;
        on = λ w g. passed_is c.args.l.now b.new.l _ g c.args.bytes.now _ b.ensures c.get-now_hz.ensures c.if-waits.true;
      };
      leads = passed-leads c.args.l.now b.new.l _ _ b.ensures c.requires.0;
    }

pub dbm_of_all-requires : goal.dbm_of_all-requires
dbm_of_all-requires c = omega (arith, length-take-le 8 c.args.bytes.now (omega (arith, c.requires.3)))

pub track-requires : goal.track-requires
track-requires c =
    let b = c.begin.ensures in
    (b.single _ c.requires.0, begun-room _ _ _ b.value _ c.requires.1, c.requires.2)

pub returns : goal.returns
returns c =
    let x = c.track.ensures in
    let b = c.begin in
    let raw = take 8 c.args.bytes.now in
    let e : length raw ≡ 8 = length-take-le 8 c.args.bytes.now (omega (arith, c.requires.3)) in
    let d = dbm_is raw _ _ e refl c.dbm_of_all.ensures in
    let u = c.get-now_hz.ensures in
    let v = c.get-cfo.ensures in
    let w = c.if-waits.false in record { follows = follows_as (x.by_index raw) (λ (g : Ledger by_frames). step_is c.args.l.now b.new.l _ b.ensures.value _ g c.args.bytes.now _ _ _ refl d u v w); leads = begun-leads c.args.l.now b.new.l _ b.ensures.value _ _ _ _ x.leads }
