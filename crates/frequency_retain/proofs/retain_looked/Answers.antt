use Rattle.std.proofs.Common.{arith}
use Rattle.std.proofs.lemmas.List.{length-map}
use Rattle.frequency_lists.specs.declared.Reading.{Reading}
use Rattle.frequency_lists.specs.Lists.{ats}
use Rattle.frequency_retain.proofs.Retained.{front_goes}
use Rattle.frequency_retain.specs.Retain.{Leads}
use Rattle.frequency_signal.proofs.Indices.{kept_from}
use Rattle.frequency_signal.specs.Seconds.{oldest_of}
use Rattle.frequency_retain.proofs.retain_looked.Goals.{In-Some}
use Rattle.frequency_retain.proofs.retain_looked.Goals as goal

-- what the look says of its number
front : (c : In-Some) → let a = c.args in Leads (oldest_of a.stream.rate a.stream.n) c.in-Some.lead (ats a.readings.now)
front c = rw c.in-Some.is at c.requires.1

pub forget-requires : goal.forget-requires
forget-requires c =
    let l = (front (goal.at.forget-requires c).In-Some).leads in
    let n = length-map c.args.readings.now (λ (x : Reading). x.at) in
    omega arith

pub returns : goal.returns
returns c =
    let a = c.args in
    front_goes a.stream.rate a.stream.n (oldest_of a.stream.rate a.stream.n) a.readings.now c.requires.0 (λ b h. kept_from a.stream.rate a.stream.right a.stream.n b a.stream.short h) c.in-Some.lead
    (front (goal.at.returns c).In-Some) _ _ c.forget.ensures.count c.forget.ensures.list
