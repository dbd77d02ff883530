use Rattle.boot_threads.proofs.Common.{◌≡◌, ℕ, ◌++◌, ◌∷◌, [], ◌+◌, ◌∙◌, List, rules, refl, sym, ap, subst, arith, into_iter_len, Work, CanSplit, IsPosted, ArePosted, View}
use Rattle.std.proofs.Common.{length-append}
use Rattle.boot_threads.proofs.Posting.{posted_more, fewer, can_split, still_free, still_prepared}
use Rattle.boot_threads.proofs.stationing.post_all.Goals as goal

pub loop-gate-init : goal.loop-gate-init
loop-gate-init g c = record {
  room = search rules;
  capacity = refl;
  number = refl;
  rest = search rules;
  few = search rules;
  parts = c.requires.parts;
  split = fewer _ 8 c.args.station.now.parts (grind rules) c.requires.split;
  free = λ k past. c.requires.free k;
  none_on = λ h. h;
  prepared = λ plan h. h;
  heard = refl;
  posted = search rules;
}

pub post-requires-clause-split : goal.post-requires-clause-split
post-requires-clause-split g c = let steps = c.in-Some.ensures.steps in fewer 1 (into_iter_len c.loop-gate.gate-iterator) c.loop-gate.station.parts (grind rules) c.loop-gate.invariant.split

pub returns-clause-free : goal.returns-clause-free
returns-clause-free g c k past = let steps = c.in-None.ensures.steps in let r = c.loop-gate.invariant.rest in c.loop-gate.invariant.free k (grind rules)

pub loop-gate-preserved : goal.loop-gate-preserved
loop-gate-preserved g c =
    let v = c.loop-gate.invariant in
    let steps = c.in-Some.ensures.steps in
    let one : into_iter_len c.loop-gate.gate-iterator ≡ into_iter_len c.next.new.self + 1 = grind rules in
    let room = v.room in
    let few = v.few in
    let post = subst (λ (k : ℕ). IsPosted c.args.shared.now k c.args.turns c.in-Some.gate c.loop-gate.station.parts c.post.new.station.parts c.in_ok-work.work) c.in-Some-new.ensures.value c.in_ok-work.ensures.posted in
    let posts = posted_more c.args.shared.now 0 c.loop-gate.number c.args.turns c.loop-gate.yielded c.in-Some.gate c.args.station.now.parts c.loop-gate.station.parts c.post.new.station.parts
    c.loop-gate.works.items c.in_ok-work.work v.posted (let n = v.number in omega arith) post in
    record {
      room = grind rules;
      capacity = c.push_reserved.ensures.capacity ∙ v.capacity;
      number = let n = v.number in omega (arith, length-append c.loop-gate.yielded (c.in-Some.gate ∷ []));
      rest = let r = v.rest in grind rules;
      few = grind rules;
      parts = c.post.ensures.parts;
      split = can_split (into_iter_len c.next.new.self) c.loop-gate.station.parts c.post.new.station.parts post.kept_are c.post.ensures.handle (subst (λ (k : ℕ). CanSplit k c.loop-gate.station.parts) one v.split);
      free = λ k past. still_free c.loop-gate.number c.loop-gate.station.parts c.post.new.station.parts post.station.parts post.split v.free k (omega arith);
      none_on = λ none. ap (λ (w : View). w.own.on) post.split.hand.acts.has ∙ v.none_on none;
      prepared = λ plan h. still_prepared c.loop-gate.number c.loop-gate.station.parts c.post.new.station.parts post.station.parts post.split post.did plan (v.prepared plan h);
      heard = post.split.heard ∙ v.heard;
      posted = subst (λ (z : List (Work g.row.G.Denot)). ArePosted c.args.shared.now 0 c.args.turns (c.loop-gate.yielded ++ c.in-Some.gate ∷ []) c.args.station.now.parts c.post.new.station.parts z)
          (sym c.push_reserved.ensures.items) posts;
    }
