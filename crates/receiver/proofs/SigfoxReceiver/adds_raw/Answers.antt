use mathlib.Core.Bool.{false, true, not, ◌&&◌}
use mathlib.Core.List.{map}
use mathlib.Core.Path.{◌≡◌, ◌∙◌, refl, sym}
use native.Mathlib.Omega.{arith}
use lib.ListN.{length, length-map}
use Rattle.limits.specs.Samples.{all_dbm}
use Rattle.shifts.specs.Shifts.{schedule, schedule_cause}
use Rattle.ledger.specs.Ledger.{dbm_of}
use Rattle.ledger.proofs.Basics.{and_true, clash}
use Rattle.ledger.proofs.Raw.{raw-valid}
use Rattle.receiver.specs.Running.{Quiet, viewed}
use Rattle.receiver.proofs.CauseLaws.{below_all, messages-nan, no_error}
use Rattle.receiver.proofs.QuickLaws.{given-rated, none_expire, only_adds, view_quiet}
use Rattle.receiver.proofs.StateLaws.{not_true}
use Rattle.receiver.proofs.SigfoxReceiver.adds_raw.Goals.{Else-is_err, Start}
use Rattle.receiver.proofs.SigfoxReceiver.adds_raw.Goals as goal

still : (c : Else-is_err) → let s = c.args.self.now in Quiet s.rate s.held s.base s.unscanned s.starts c.args.lent.samples.now (viewed c.args.lent) (length c.args.raw.now)
still c =
    let u = c.quiet in
    u.ensures c.if-not-quiet.false

planned : (c : Else-is_err) → schedule_cause (schedule c.args.given.now) ≡ 0
planned c = sym c.check.ensures ∙ no_error c.check.result (sym c.is_err.ensures.value ∙ c.if-is_err.false)

valid : (c : Else-is_err) → all_dbm (map dbm_of c.args.raw.now) ≡ true
valid c =
    let raw = c.args.raw.now in
    raw-valid raw (below_all 256 raw (λ i h. omega (arith, c.type_inv.raw i)))

pub returns-then-not-quiet : goal.returns-then-not-quiet
returns-then-not-quiet c e = clash false e refl

pub returns-then-is_err : goal.returns-then-is_err
returns-then-is_err c e = clash false e refl

pub overflow_add-held : goal.overflow_add-held
overflow_add-held c =
    let d = goal.at.overflow_add-held c in
    let q = still d.Else-is_err in
    omega (arith, q.fits, given-rated c.args.self.now.rate (viewed c.args.lent) (length c.args.raw.now) q.given)

pub overflow_add-self : goal.overflow_add-self
overflow_add-self c =
    let q = still (goal.at.overflow_add-self c).Else-is_err in
    omega (arith, q.stream)

pub seconds-time-requires : goal.seconds-time-requires
seconds-time-requires c =
    let q = still (goal.at.seconds-time-requires c).Else-is_err in
    omega (arith, q.stream)

pub returns : goal.returns
returns c e m w =
    let k = c.check-c in
    let s = c.args.self.now in
    let raw = c.args.raw.now in
    let d = goal.at.returns c in
    let x = and_true k.result.ok (not k.result.nan && not k.result.expires) e in
    let y = and_true (not k.result.nan) (not k.result.expires) x.1 in
    let q = view_quiet s.rate s.held s.base s.unscanned s.starts c.args.lent m (length raw) w (still d.Else-is_err) in
    only_adds s (schedule c.args.given.now) m (map dbm_of raw) (length raw) (sym (length-map raw dbm_of)) (valid d.Else-is_err) (planned d.Else-is_err) q
    (messages-nan s.waiting k.result k.ensures x.0 0 (rw (not_true k.result.nan y.0) refl))
    (rw c.seconds-time.ensures at (none_expire s.waiting k.result k.ensures x.0 (not_true k.result.expires y.1)))
