use Rattle.batch_queue.proofs.Common.{arith, refl, ◌∷◌, [], load, head_word, tail_word}
use Rattle.table_theory.proofs.Parting.{made_then}
use Rattle.batch_queue.proofs.Going.{goes_made}
use Rattle.batch_queue.proofs.Growing.{taken_claimed}
use Rattle.batch_queue.proofs.Reporting.{head_is}
use Rattle.batch_queue.proofs.Stepping.{step_real}
use Rattle.batch_queue.proofs.ends.BatchQueue.len.Goals as goal

pub overflow_sub-result : goal.overflow_sub-result
overflow_sub-result g c = let t = c.load_tail-tail.ensures.tail.0 in let f = c.load_head-head.ensures.found in let e = step_real _ _ _ _ f in let h = head_is _ refl e in let g = f.grows.taken in let b = taken_claimed _ e.lawful in omega arith

pub returns-clause-trace : goal.returns-clause-trace
returns-clause-trace g c = let t = c.load_tail-tail.ensures.found in let f = c.load_head-head.ensures.found in record {
  tail = c.load_tail-tail.result;
  at_tail = c.load_tail-tail.new.seat.me.0.seen;
  head = c.load_head-head.result;
  at_head = c.load_head-head.new.seat.me.0.seen;
  is = refl;
  made = made_then _ _ _ (load tail_word c.load_tail-tail.result c.load_tail-tail.new.seat.me.0.seen ∷ []) (load head_word c.load_head-head.result c.load_head-head.new.seat.me.0.seen ∷ []) _ (λ d. d) t.made f.made;
}

pub returns-clause-result : goal.returns-clause-result
returns-clause-result g c = let t = c.load_tail-tail.ensures.found in let f = c.load_head-head.ensures.found in record {
  before = [];
  first = load tail_word c.load_tail-tail.result c.load_tail-tail.new.seat.me.0.seen;
  between = [];
  second = load head_word c.load_head-head.result c.load_head-head.new.seat.me.0.seen;
  after = [];
  adds = (made_then _ _ _ (load tail_word c.load_tail-tail.result c.load_tail-tail.new.seat.me.0.seen ∷ []) (load head_word c.load_head-head.result c.load_head-head.new.seat.me.0.seen ∷ []) _ (λ d. d) t.made f.made).adds;
  holds = (let is = c.load_tail-tail.ensures.tail.0 in let e = step_real _ _ _ _ f in let h = head_is _ refl e in let g = f.grows.taken in let b = taken_claimed _ e.lawful in omega arith);
}

pub returns-clause-frame : goal.returns-clause-frame
returns-clause-frame g c = let t = c.load_tail-tail.ensures.found in let f = c.load_head-head.ensures.found in
    goes_made _ _ _ _ c.args.end.now.ruled c.load_head-head.ensures.queue.1.2 refl (made_then _ _ _ (load tail_word c.load_tail-tail.result c.load_tail-tail.new.seat.me.0.seen ∷ []) (load head_word c.load_head-head.result c.load_head-head.new.seat.me.0.seen ∷ []) _ (λ d. d) t.made f.made)
