use Rattle.boot_objects.proofs.Common.{arith, ◌∷◌, ◌++◌, [], length, sym, ap, ◌∙◌, append_assoc, length_push, map-append, into_iter_items, homes_in, Home, home_in}
use Rattle.turn_io.proofs.Queues.{same_ends_on}
use Rattle.boot_objects.proofs.PortGains.{home_more}
use Rattle.boot_objects.proofs.closing.homing.bring_all_home.Goals as goal

pub loop-home-preserved : goal.loop-home-preserved
loop-home-preserved c = let v = c.loop-home.invariant in let b = c.bring_home.ensures in record {
  gained = record {
    small_gained = home_more (λ (home : Home). home.small) c.loop-home.yielded c.in-Some.home c.args.ends.now.small.items c.loop-home.ends.small.items c.bring_home.new.ends.small.items v.gained.small_gained b.gained.small_gained;
    large_gained = home_more (λ (home : Home). home.large) c.loop-home.yielded c.in-Some.home c.args.ends.now.large.items c.loop-home.ends.large.items c.bring_home.new.ends.large.items v.gained.large_gained b.gained.large_gained;
  };
  same = same_ends_on c.args.ends.now c.loop-home.ends c.bring_home.new.ends v.same b.handle;
  fit = b.ends;
  parts = append_assoc c.loop-home.yielded (c.in-Some.home ∷ []) (into_iter_items c.next.new.self) ∙ (ap (λ z. c.loop-home.yielded ++ z) (sym c.in-Some.ensures.steps.0) ∙ v.parts);
  left = let was = v.left in let gone = c.in-Some.ensures.steps.1 in let short = ap length c.in-Some.ensures.steps.0 in omega arith;
  counts = ap homes_in c.push_reserved.ensures.items ∙ (map-append home_in c.loop-home.counts.items (c.bring_home.result ∷ []) ∙ (λ i. v.counts i ++ b.came i ∷ []));
  number = let was = v.number in let more = length_push c.loop-home.yielded c.in-Some.home in let put = c.push_reserved.ensures.len in omega arith;
  room = let was = v.room in let same = c.push_reserved.ensures.capacity in omega arith;
}
