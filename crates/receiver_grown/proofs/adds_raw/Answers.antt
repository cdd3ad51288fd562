use mathlib.Core.Bool.{false, true, not}
use mathlib.Core.List.{map}
use mathlib.Core.Path.{◌≡◌, ◌∙◌, refl, sym}
use Prim.Native.Nat.{◌+◌}
use native.Mathlib.Omega.{arith}
use lib.ListN.{length, length-map}
use Rattle.limits.specs.Samples.{all_dbm}
use Rattle.shifts.specs.Shifts.{schedule, schedule_cause}
use Rattle.ledger.specs.Ledger.{dbm_of}
use Rattle.ledger.proofs.Basics.{and_true, clash}
use Rattle.ledger.proofs.Raw.{raw-valid}
use Rattle.receiver.specs.State.{given_cause, samples_ok}
use Rattle.receiver.specs.Running.{Quiet, viewed}
use Rattle.receiver.proofs.CauseLaws.{below_all, given-fits, given_same, messages-nan, no_error}
use Rattle.receiver.proofs.QuickLaws.{given-rated, none_expire, only_adds, samples-calm, stream_none, view_quiet}
use Rattle.receiver.proofs.StateLaws.{not_true, samples-fit}
use Rattle.receiver_waiting.specs.Waiting.{waiting_ok}
use Rattle.receiver_grown.proofs.GrownLaws.{parts}
use Rattle.receiver_grown.proofs.adds_raw.Goals.{Else-is_err, Else-is_err-3}
use Rattle.receiver_grown.proofs.adds_raw.Goals as goal

given : (c : Else-is_err) → given_cause c.args.s.now.rate (viewed c.args.lent) (length c.args.raw.now) ≡ 0
given c = sym (given_same _ _ c.lengths.ensures c.check_given.ensures) ∙ no_error c.check_given.result (sym c.is_err.ensures.value ∙ c.if-is_err.false)

-- what is held is in order
ordered : (c : Else-is_err) → let s = c.args.s.now in (samples_ok s.rate s.held s.base s.unscanned s.starts c.args.lent.samples.now ≡ true) × (waiting_ok s.waiting ≡ true)
ordered c = parts c.args.s.now c.args.lent.samples.now (viewed c.args.lent) (length c.args.raw.now) c.requires (given c)

still : (c : Else-is_err-3) → let s = c.args.s.now in Quiet s.rate s.held s.base s.unscanned s.starts c.args.lent.samples.now (viewed c.args.lent) (length c.args.raw.now)
still c =
    let a = c.args in
    let z : given_cause a.s.now.rate (viewed c.args.lent) (length a.raw.now) ≡ 0 = sym (given_same _ _ c.lengths.ensures c.check_given.ensures) ∙ no_error c.check_given.result (sym c.is_err.ensures.value ∙ c.if-is_err.false) in
    let f = c.fits in
    let r = f.ensures (c.if-not-fits.false) in
    let k = c.check_stream in
    record {
      given = z;
      order = (parts a.s.now a.lent.samples.now (viewed c.args.lent) (length a.raw.now) c.requires z).0;
      stream = stream_none (a.s.now.base + a.s.now.held + length a.raw.now) _ k.ensures (no_error k.result (sym c.is_err-2.ensures.value ∙ c.if-is_err-2.false));
      some = r.0;
      fits = r.1;
      calm = r.2;
    }

planned : (c : Else-is_err-3) → schedule_cause (schedule c.args.given.now) ≡ 0
planned c = sym c.check.ensures ∙ no_error c.check.result (sym c.is_err-3.ensures.value ∙ c.if-is_err-3.false)

valid : (c : Else-is_err) → all_dbm (map dbm_of c.args.raw.now) ≡ true
valid c =
    let raw = c.args.raw.now in
    raw-valid raw (below_all 256 raw (λ i h. omega (arith, c.type_inv.raw i)))

pub returns-then-is_err : goal.returns-then-is_err
returns-then-is_err c e = clash false e refl

pub check_stream-requires : goal.check_stream-requires
check_stream-requires c =
    let s = c.args.s.now in
    let n = length c.args.raw.now in
    let f = given-fits s.rate (viewed c.args.lent) n (given (goal.at.check_stream-requires c).Else-is_err) in
    omega (arith, f.1, given-rated s.rate (viewed c.args.lent) n (given (goal.at.check_stream-requires c).Else-is_err), (samples-fit s.rate s.held s.base s.unscanned s.starts c.args.lent.samples.now (ordered (goal.at.check_stream-requires c).Else-is_err).0).1)

pub returns-then-is_err-2 : goal.returns-then-is_err-2
returns-then-is_err-2 c e = clash false e refl

pub fits-requires : goal.fits-requires
fits-requires c =
    let s = c.args.s.now in
    let n = length c.args.raw.now in
    let o = (ordered (goal.at.fits-requires c).Else-is_err).0 in
    (given-rated s.rate (viewed c.args.lent) n (given (goal.at.fits-requires c).Else-is_err), (samples-fit s.rate s.held s.base s.unscanned s.starts c.args.lent.samples.now o).0, (given-fits s.rate (viewed c.args.lent) n (given (goal.at.fits-requires c).Else-is_err)).1, samples-calm s.rate s.held s.base s.unscanned s.starts c.args.lent.samples.now o)

pub returns-then-not-fits : goal.returns-then-not-fits
returns-then-not-fits c e = clash false e refl

pub returns-then-is_err-3 : goal.returns-then-is_err-3
returns-then-is_err-3 c e = clash false e refl

pub overflow_add-held : goal.overflow_add-held
overflow_add-held c =
    let q = still (goal.at.overflow_add-held c).Else-is_err-3 in
    omega (arith, q.fits, given-rated c.args.s.now.rate (viewed c.args.lent) (length c.args.raw.now) q.given)

pub overflow_add-s : goal.overflow_add-s
overflow_add-s c =
    let q = still (goal.at.overflow_add-s c).Else-is_err-3 in
    omega (arith, q.stream)

pub seconds-time-requires : goal.seconds-time-requires
seconds-time-requires c =
    let q = still (goal.at.seconds-time-requires c).Else-is_err-3 in
    omega (arith, q.stream)

pub returns : goal.returns
returns c e m w =
    let k = c.check-c in
    let raw = c.args.raw.now in
    let ok = k.ensures.ok ∙ (ordered (goal.at.returns c).Else-is_err).1 in
    let y = and_true (not k.result.nan) (not k.result.expires) e in
    let s = c.args.s.now in
    let q = view_quiet s.rate s.held s.base s.unscanned s.starts c.args.lent m (length raw) w (still (goal.at.returns c).Else-is_err-3) in
    only_adds s (schedule c.args.given.now) m (map dbm_of raw) (length raw) (sym (length-map raw dbm_of)) (valid (goal.at.returns c).Else-is_err) (planned (goal.at.returns c).Else-is_err-3) q
    (messages-nan c.args.s.now.waiting k.result k.ensures ok 0 (rw (not_true k.result.nan y.0) refl))
    (rw c.seconds-time.ensures at (none_expire c.args.s.now.waiting k.result k.ensures ok (not_true k.result.expires y.1)))
