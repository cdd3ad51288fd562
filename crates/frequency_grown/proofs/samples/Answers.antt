use Rattle.std.proofs.Common.{ℕ, ◌≤◌}
use Rattle.std.proofs.lemmas.Option.{IfSome_then}
use Rattle.frequency_retain.specs.Retain.{Looked}
use Rattle.frequency_grown.proofs.samples.Goals as goal

pub hear-requires : goal.hear-requires
hear-requires c = (c.requires, IfSome_then _ c.first_look-look.ensures (λ (lead : ℕ) (l : (_ ≤ _) × Looked _ _ lead _). l.1.front))

pub returns : goal.returns
returns c = c.hear.ensures
