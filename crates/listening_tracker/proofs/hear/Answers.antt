use Rattle.limits.specs.Answer.{cause_of}
use Rattle.listening_tracker.proofs.TurnLaws.{samples-stop, samples_on}
use Rattle.frequency_grown.proofs.KnownLaws.{grown-known}
use Rattle.frequency_grown.proofs.RisingLaws.{single-grown, single-rises, after_samples}
use Rattle.listening_tracker.proofs.hear.Goals as goal

pub samples_rising-requires : goal.samples_rising-requires
samples_rising-requires c = let g = c.requires in (grown-known (single-grown g), single-rises g)

pub returns-in_err-samples_rising : goal.returns-in_err-samples_rising
unfolding cause_of
returns-in_err-samples_rising c = record {
  turned = samples-stop _ _ _ c.in_err-samples_rising.field-0.0 c.from_residual.ensures.1 _ _ _ _ _ c.in_err-samples_rising.ensures;
  single = after_samples _ _ c.requires c.in_err-samples_rising.ensures;
}

pub read-requires : goal.read-requires
unfolding cause_of
read-requires c = after_samples _ _ c.requires c.in_ok-samples_rising.ensures

pub returns : goal.returns
unfolding cause_of
returns c = record {
  turned = samples_on _ _ _ _ _ _ _ _ _ _ c.in_ok-samples_rising.ensures c.read.ensures.turned;
  single = c.read.ensures.single;
}
