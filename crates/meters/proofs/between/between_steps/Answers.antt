use Rattle.meters.proofs.Betweens.{shows_meters}
use Rattle.meters.proofs.Clocks.{clock_leads}
use Rattle.meters.proofs.between.between_steps.Goals as goal

pub returns : goal.returns
returns c = record {
  shown = shows_meters;
  clock = clock_leads;
}
