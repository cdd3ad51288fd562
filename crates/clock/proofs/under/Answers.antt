use Rattle.clock.proofs.under.Goals as goal

pub returns : goal.returns
returns c = rw c.f32_to_f64_with_nan.ensures
