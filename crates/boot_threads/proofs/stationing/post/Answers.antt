use Rattle.boot_threads.proofs.Common.{◌≡◌, ◌<◌, ◌≤◌, ◌*◌, ◌^◌, ◌%◌, ◌∙◌, ℕ, refl, sym, ap, subst, IsFree, is_in, AreSplit, view_of}
use Rattle.boot_threads.proofs.Posting.{one_mask, divisible, only_free, born_free}
use Rattle.boot_threads.proofs.stationing.post.Goals as goal

pub split_station-requires-clause-divisible : goal.split_station-requires-clause-divisible
split_station-requires-clause-divisible g c = divisible c.args.station.now.parts c.requires.split

pub split_station-requires-clause-free : goal.split_station-requires-clause-free
split_station-requires-clause-free g c k below at =
    only_free c.number.result (view_of c.args.station.now.parts.hand)
    (subst (λ (z : ℕ). (k : ℕ) → z ≤ k → k < 8 → IsFree k (view_of c.args.station.now.parts.hand)) (sym c.number.ensures.value) c.requires.free)
    k below (ap (λ (m : ℕ). is_in m k) (sym (one_mask c.number.result c.number.ensures.within)) ∙ at)

-- the split, by the processor's number
split_by : (a b c : _) (n p : ℕ) → n ≡ p → n < 8 → AreSplit (1 * 2 ^ n % 256) a b c → AreSplit (2 ^ p) a b c
split_by a b c n p is low s = subst (λ (z : ℕ). AreSplit (2 ^ z) a b c) is (subst (λ (z : ℕ). AreSplit z a b c) (one_mask n low) s)

pub returns-clause-posted : goal.returns-clause-posted
returns-clause-posted g c =
    let s = split_by _ _ _ c.number.result c.args.p c.number.ensures.value c.number.ensures.within c.in_ok-born.ensures.split in record {
      station = c.in_ok-born.born;
      is = refl;
      manned = record {
        parts_are = c.in_ok-born.ensures.born;
        free = born_free c.args.p c.args.station.now.parts c.split_station.new.station.parts c.in_ok-born.born.parts s (subst (λ (z : ℕ). z < 8) c.number.ensures.value c.number.ensures.within);
        room = c.in_ok-born.ensures.room;
      };
      fresh = c.in_ok-born.ensures.fresh;
      split = s;
      did = c.in_ok-born.ensures.effect.0;
      kept_are = c.in_ok-born.ensures.shares.0;
      given_are = c.in_ok-born.ensures.shares.1;
    }
