use mathlib.Core.List.{[], ◌∷◌, ◌++◌}
use mathlib.Core.Path.{◌≡◌, ap, ◌∙◌}
use native.Mathlib.Omega.{arith}
use lib.IntN.{pos}
use lib.Ieee.{Float}
use mir.Syntax.{w32}
use mir.Val.{to_z, of_z}
use mir.ValLaws.{to_z-of_z}
use Rattle.demod.specs.Decode.{decode_burst}
use Rattle.receiver_starts.specs.Starts.{distances}
use Rattle.receiver_starts.proofs.StartLaws.{stands, stands_more}
use Rattle.receiver_scan.proofs.TakeLaws.{does_without, does_frame}
use Rattle.receiver_scan.proofs.take_burst.Goals.{After-remember}
use Rattle.receiver_scan.proofs.take_burst.Goals as goal

pub distance-requires : goal.distance-requires
distance-requires c = omega (arith, c.requires.1, c.args.held.samples.short, c.args.held.samples.high)

-- the start is remembered as its distance
begun : (c : After-remember) → distances c.remember.new.s ≡ distances c.args.s.now.starts ++ (pos c.args.burst.start ∷ [])
begun c =
    let d = c.distance in
    let x : to_z w32 (of_z w32 d.result) ≡ pos c.args.burst.start = to_z-of_z w32 d.result (record { sfits = d.type_inv }) ∙ d.ensures in
    (stands _ _ _ (rw x at c.remember.ensures)).0

pub returns-in_default : goal.returns-in_default
returns-in_default c =
    let a = c.args in
    does_without a.held.samples.rate a.burst a.held.samples.dbm.now a.held.base a.s.now a.events.now c.remember.new.s c.decode_within.result (begun (goal.at.returns-in_default c).After-remember)
    (c.decode_within.ensures ∙ ap (λ (t : Float). decode_burst a.held.samples.dbm.now a.held.samples.rate a.burst t) c.seconds-t0.ensures) c.in_default.is
    (record { starts = omega (arith, stands_more _ _ _ c.remember.ensures, c.requires.3); waiting = omega (arith, c.requires.4); count = omega (arith, c.requires.5) })

pub returns-in-Some : goal.returns-in-Some
returns-in-Some c =
    let a = c.args in
    does_frame a.held.samples.rate a.burst a.held.samples.dbm.now a.held.base a.s.now a.events.now c.remember.new.s c.decode_within.result (begun (goal.at.returns-in-Some c).After-remember)
    (c.decode_within.ensures ∙ ap (λ (t : Float). decode_burst a.held.samples.dbm.now a.held.samples.rate a.burst t) c.seconds-t0.ensures) c.in-Some.d c.hear.new.waiting _
    c.in-Some.is
    (record { starts = omega (arith, stands_more _ _ _ c.remember.ensures, c.requires.3); waiting = c.hear.ensures.1; count = omega (arith, c.requires.5) })
    (omega (arith, c.requires.5, c.requires.0.events)) c.hear.ensures.0 c.hear.ensures.2
