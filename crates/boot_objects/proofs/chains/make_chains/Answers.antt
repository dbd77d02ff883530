use Rattle.boot_objects.proofs.Common.{rules, ◌≡◌, ◌+◌, the_whole, opening_of, chain_end_share, IsIdleChainEnd, zip_more}
use Rattle.proc_chain.specs.Handles.{world_of, first_of}
use Rattle.boot_objects.proofs.Lists.{all_pushed, map_pushed}
use Rattle.boot_objects.proofs.chains.make_chains.Goals as goal

pub loop-quaject-preserved : goal.loop-quaject-preserved
loop-quaject-preserved c = let v = c.loop-quaject.invariant in let m = c.in_ok-chain.ensures in let chain = c.in_ok-chain.chain in let end = c.in_ok-chain.end in record {
  room = search rules;
  room_too = search rules;
  ready = λ k d below. let steps = c.in-Some.ensures.steps in let h = v.ready (k + 1) d in grind rules;
  made = record {
    openings = map_pushed opening_of c.loop-quaject.chains.items c.push_reserved.new.self.items chain c.loop-quaject.yielded c.in-Some.quaject c.push_reserved.ensures.items v.made.openings m.opening;
    over = all_pushed (λ z. world_of z ≡ c.args.queues.now) c.loop-quaject.chains.items c.push_reserved.new.self.items chain c.push_reserved.ensures.items v.made.over m.over;
    firsts = all_pushed (λ z. first_of z ≡ 0) c.loop-quaject.chains.items c.push_reserved.new.self.items chain c.push_reserved.ensures.items v.made.firsts m.first;
    stock = zip_more IsIdleChainEnd _ _ _ _ _ _ c.push_reserved.ensures.items c.push_reserved-in-loop-quaject.ensures.items v.made.stock m.stock;
    whole = all_pushed (λ z. chain_end_share z ≡ the_whole) c.loop-quaject.ends.items c.push_reserved-in-loop-quaject.new.self.items end c.push_reserved-in-loop-quaject.ensures.items v.made.whole m.whole;
  };
}
