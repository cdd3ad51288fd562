use mir.ValLaws.{to_z-of_z}
use Rattle.rates.specs.Rates.{nominal_of}
use Rattle.clock.proofs.BitLaws.{ppm-fits}
use Rattle.std.proofs.Common.{◌≡◌, ℕ, ◌-◌, max, List, ◌∷◌, ◌++◌, length, take, drop, length-take-le, ℤ, sym, refl, ap, ◌∙◌, arith, w32, to_z, of_z}
use Rattle.clock.specs.Clock.{lost}
use Rattle.clock.specs.Bits.{ppm_of}
use Rattle.clock.specs.Walk.{walked, places}
use Rattle.clock.proofs.BitLaws.{tells_none, clock-few, clock-lost, clock-bits}
use Rattle.clock.proofs.clocked_bits.Goals.{After-min-len}
use Rattle.clock.proofs.clocked_bits.Goals as goal

pub returns-then-c-lt-ENOUGH_POINTS : goal.returns-then-c-lt-ENOUGH_POINTS
returns-then-c-lt-ENOUGH_POINTS c =
    let a = c.args in
    tells_none _ a.bits.now (clock-few a.samples.rate a.samples.dbm.now a.level (places a.points.now) a.depths.now a.c c.if-c-lt-ENOUGH_POINTS.true)

pub returns-in_err-index : goal.returns-in_err-index
returns-in_err-index c =
    let a = c.args in
    rw c.from_residual.ensures
    (tells_none _ a.bits.now (clock-lost a.samples.rate a.samples.dbm.now a.level (places a.points.now) a.depths.now a.c c.if-c-lt-ENOUGH_POINTS.false
    (ap lost (sym c.end_index.ensures) ∙ c.in_err-index.ensures)))

pub overflow_sub-count : goal.overflow_sub-count
overflow_sub-count c =
    let o = c.requires.2.order (omega (arith, c.if-c-lt-ENOUGH_POINTS.false)) in
    omega (arith, o, c.max-end.ensures)

pub overflow_add-count : goal.overflow_add-count
overflow_add-count c =
    let o = c.requires.2.low (omega (arith, c.if-c-lt-ENOUGH_POINTS.false)) in
    omega (arith, o, c.max-end.ensures, c.place.ensures.1)

-- the bits that are written
written : (c : After-min-len) → length (take c.min-len.result c.args.bits.now) ≡ c.min-len.result
written c = length-take-le c.min-len.result c.args.bits.now (omega (arith, c.min-len.ensures, c.requires.1))

pub write_bits-requires : goal.write_bits-requires
write_bits-requires c =
    let w = written (goal.at.write_bits-requires c).After-min-len in
    let h = c.if-c-lt-ENOUGH_POINTS.false in
    (omega (arith, w, c.min-len.ensures), omega (arith, w, c.min-len.ensures), omega (arith, c.requires.2.order (omega (arith, h)), c.requires.2.low (omega (arith, h))))

pub select-requires : goal.select-requires
select-requires c = (omega (arith, c.requires.0, c.if-c-lt-ENOUGH_POINTS.false), c.requires.3)

pub returns : goal.returns
returns c =
    let a = c.args in
    let i = c.in_ok-index.index in
    let points = places a.points.now in
    let len = c.min-len.result in
    let p : to_z w32 (of_z w32 c.ppm_of.result) ≡ ppm_of a.c.period (nominal_of a.samples.rate) =
    ap (λ (z : ℤ). to_z w32 (of_z w32 z)) (c.ppm_of.ensures ∙ ap (ppm_of a.c.period) c.nominal_of.ensures) ∙ to_z-of_z w32 _ (ppm-fits a.c.period (nominal_of a.samples.rate)) in
    let w = ap (λ (n : ℕ). (1 ∷ walked points a.c.first (n - 1)) ++ drop len a.bits.now) (written (goal.at.returns c).After-min-len) in
    clock-bits a.samples.rate a.samples.dbm.now a.level points a.depths.now a.c i.k c.max-end.result _ len _ c.select.result a.bits.now _ c.if-c-lt-ENOUGH_POINTS.false
    (c.in_ok-index.ensures ∙ c.end_index.ensures) i.kept (c.max-end.ensures ∙ ap (max a.c.last) c.place.ensures.0) refl c.min-len.ensures p c.select.ensures c.requires.2
    (ap (λ (l : List ℕ). l ++ drop len a.bits.now) c.write_bits.ensures ∙ w)
