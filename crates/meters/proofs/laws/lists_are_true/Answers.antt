use Rattle.meters.proofs.Common.{alone_since, of_meters, view_of}
use Rattle.table_theory.proofs.Certainty.{by_both, surely_pass, surely_reach, surely_real}
use Rattle.meters.proofs.Lawful.{reaches_lead, real_event, stays_lawful}
use Rattle.table_theory.proofs.Saying.{real_lawful}
use Rattle.meters.proofs.laws.lists_are_true.Goals as goal

pub returns : goal.returns
returns c = record {
  seat = λ seat. seat.valid;
  entries = λ old new entries a. surely_real of_meters old (view_of new) entries new.valid a;
  order = λ old new entries a. surely_pass of_meters (view_of old) (view_of new) entries old.valid new.valid a;
  alone = λ old new entries whole a. by_both of_meters (view_of old) (view_of new) old.valid new.valid squash₁ (λ x h. ∣ (alone_since of_meters (view_of old) (view_of new) entries whole x h a).0 ∣₁);
  since = λ old new entries a. surely_reach of_meters (view_of old) (view_of new) entries old.valid new.valid a;
  leads = reaches_lead;
  event = real_event;
  lawful = real_lawful of_meters (λ m n words shows lawful b. stays_lawful m n words shows lawful b);
}
