use Rattle.thread_table.proofs.Common.{∥∥₁_map, view_of}
use Rattle.thread_table.proofs.Schedule.Once.{counted_done}
use Rattle.thread_table.proofs.Events.Lone.{all_alone}
use Rattle.thread_table.proofs.Schedule.Orders.{both_told, adds_real, adds_pass, adds_in_order, adds_follow, reach_leads, real_allows, valid_grows}
use Rattle.thread_table.proofs.laws.lists_are_true.Goals as goal

pub returns : goal.returns
returns c = record {
  hand = λ hand. hand.valid;
  entries = λ old new entries a. ∥∥₁_map new.valid (λ h. adds_real old (view_of new) entries h a);
  passes = λ old new entries a. both_told old new _ (λ x h. adds_pass (view_of old) (view_of new) entries x h a);
  leads = reach_leads;
  alone = λ old new entries whole a. both_told old new _ (λ x h. (all_alone (view_of old) (view_of new) entries whole x h a).0);
  order = λ old new entries a. both_told old new _ (λ x h. adds_in_order (view_of old) (view_of new) entries x h a);
  among = λ old new entries a. ∥∥₁_map new.valid (λ h. adds_follow old (view_of new) entries h a);
  grows = λ hand past b. ∥∥₁_map hand.valid (λ h. valid_grows (view_of hand) h past b);
  allowed = real_allows;
  counted = λ past element allowed. counted_done past allowed element;
}
