use Rattle.journeys.proofs.Spans.{waiting_is_gaps}
use Rattle.journeys.proofs.facts.waiting_is_gaps.Goals as goal

pub returns : goal.returns
returns c = waiting_is_gaps
