use Rattle.meters.proofs.Common.{sym, ◌∙◌, did_both, ends_word, of_meters, view_of}
use Rattle.table_theory.proofs.Certainty.{by_both, surely_counted, surely_joined}
use Rattle.table_theory.proofs.Reaching.{reaches_led}
use Rattle.meters.proofs.laws.joins_are_true.Goals as goal

pub returns : goal.returns
returns c = record {
  both = λ old other new s. (
    by_both of_meters (view_of old) (view_of new) old.valid new.valid squash₁ (λ x z. ∣ reaches_led of_meters (view_of old) (view_of new) x.leads z s.first s.one ∣₁),
    by_both of_meters (view_of other) (view_of new) other.valid new.valid squash₁ (λ y z. ∣ reaches_led of_meters (view_of other) (view_of new) y.leads z (s.first ∙ sym s.other_first) s.other ∣₁),
  );
  since = λ old other new t. surely_joined of_meters did_both ends_word (view_of old) (view_of other) (view_of new) new.valid t.0 old.valid other.valid;
  entry = λ old other new t. surely_counted of_meters did_both ends_word (view_of old) (view_of other) (view_of new) new.valid t.0;
}
