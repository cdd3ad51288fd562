use mathlib.Core.List.{List}
use mathlib.Core.Path.{◌∙◌, ◌≡◌, refl, sym}
use Prim.Native.Nat.{◌+◌, ◌≤◌}
use native.Mathlib.Omega.{arith}
use lib.ListN.{drop, length, length-set, set, take}
use lib.Seq.{drop-length, drop-set-lt, length-take-le}
use borrow.Author.Rules.{rules}
use Rattle.ledger.specs.Causes.{all_fit, any_nan}
use Rattle.ledger.specs.Ledger.{by_entry}
use Rattle.ledger.specs.Room.{open_places}
use Rattle.ledger.specs.declared.Pending.{Pending}
use Rattle.receiver_message.proofs.SpanLaws.{length_mapped}
use Rattle.receiver_waiting.proofs.WaitingLaws.{counters-turn, expires-turn, fit-turn, key-turn, nan-turn, outside-message, seen_is}
use Rattle.receiver_waiting.specs.Waiting.{any_expires}
use Rattle.receiver_waiting.proofs.look.Goals as goal

pub loop-i-preserved : goal.loop-i-preserved
loop-i-preserved c =
    let ms = c.args.messages.now in
    let l = c.loop-i in
    let v = l.invariant in
    let k = c.key_of in
    record {
      places = simp length-set v.places;
      keys = key-turn l.keys ms l.i k.result outside-message (omega (arith, v.places)) (omega arith) v.keys k.ensures.0;
      counters = counters-turn ms l.i outside-message (omega arith) v.counters k.ensures.1;
      fit = fit-turn ms l.i outside-message (omega arith) l.fit c.fits-fit.result (all_fit by_entry ms) c.fits-fit.ensures v.fit;
      nan = nan-turn ms l.i outside-message (omega arith) l.nans c.has_nan-nans.result (any_nan by_entry ms) c.has_nan-nans.ensures v.nan;
      expires = expires-turn ms l.i outside-message (omega arith) l.any c.expires-any.result (any_expires c.args.now ms) c.args.now c.expires-any.ensures v.expires;
    }

pub returns : goal.returns
returns c =
    let ms = c.args.messages.now in
    let l = c.loop-i in
    let v = l.invariant in
    seen_is ms c.args.now (record { keys = l.keys; fit = l.fit; nan = l.nans; expires = l.any }) l.i (omega arith) v.keys v.counters v.fit v.nan v.expires
