use Rattle.spooler.proofs.Common.{array_into_iter_items, rules, ◌≡◌, ◌∙◌, suc, List, [], ◌∷◌, ◌++◌, map, length, get_or, refl, sym, ap, subst, arith, append_assoc, append-nil, map-append, QueueEnd, View, view_of, IsEndOf, HasPut, AreEndsOf, Gathered, lines_of}
use Rattle.claim_queue.specs.Plain.{ClaimQueue}
use Rattle.spooler.proofs.Gathering.{gathered_none, gathered_more, gathered_same, puts_each}
use Rattle.spooler.proofs.spool.fn.run_spool.putting.Goals as goal

abbrev End : Type 0
End = QueueEnd 64

first_of : (queue : ClaimQueue 64) (xs ys : List End) (x : End) → xs ≡ x ∷ ys → AreEndsOf queue xs → IsEndOf queue x
first_of queue xs ys x e h = subst (AreEndsOf queue) e h 0 x (omega arith)

following : (queue : ClaimQueue 64) (xs ys : List End) (x : End) → xs ≡ x ∷ ys → AreEndsOf queue xs → AreEndsOf queue ys
following queue xs ys x e h = let k = subst (AreEndsOf queue) e h in λ i d low. k (suc i) d (omega arith)

nothing_left : (l : List End) → length l ≡ 0 → l ≡ []
nothing_left [] h = refl
nothing_left (x ∷ xs) h = absurd (omega arith)

pub loop-end-init : goal.loop-end-init
loop-end-init g c =
    let gives = c.into_iter-end-iterator.ensures.into_iter_gives in
    let ends : length c.captures.ends ≡ 3 = search rules in
    let long : length c.for_each_mut.new.s ≡ 3 = sym (ap length gives.0) ∙ gives.1 in record {
      mine = search rules;
      theirs = subst (AreEndsOf c.captures.shared.now) (sym gives.0)
          (λ i d low. let at = (c.for_each_mut.ensures i d (omega arith)).1 in subst (λ (z : End). IsEndOf c.captures.shared.now z) at.left at.call.0);
      all = refl;
      gathered = gathered_none (view_of c.captures.last);
    }

pub join-requires : goal.join-requires
join-requires g c = let i = c.loop-end.invariant in
    (omega arith, (omega arith, (i.mine, first_of c.captures.shared.now _ _ c.in-Some.end c.in-Some.ensures.steps i.theirs)))

pub loop-end-preserved : goal.loop-end-preserved
loop-end-preserved g c =
    let at = c.loop-end in
    let i = at.invariant in
    let x = c.in-Some.end in
    let steps : array_into_iter_items at.end-iterator ≡ x ∷ array_into_iter_items c.next.new.self = c.in-Some.ensures.steps in
    let v : View = view_of c.captures.last in
    let z : View = view_of c.join.new.end in record {
      mine = c.join.ensures.handle.0 ∙ i.mine;
      theirs = following c.captures.shared.now _ _ x steps i.theirs;
      all = append_assoc at.yielded (x ∷ []) (array_into_iter_items c.next.new.self) ∙ (ap (λ (l : List End). at.yielded ++ l) (sym steps) ∙ i.all);
      gathered = subst (λ (us : List View). Gathered v us z) (sym (map-append view_of at.yielded (x ∷ [])))
          (gathered_more v (view_of at.last) (view_of x) z (map view_of at.yielded) i.gathered c.join.ensures.trace);
    }

pub shut-was_open-requires : goal.shut-was_open-requires
shut-was_open-requires g c = (omega arith, (omega arith, c.loop-end.invariant.mine))

pub returns : goal.returns
returns g c =
    let at = c.loop-end in
    let i = at.invariant in
    let gives = c.into_iter-end-iterator.ensures.into_iter_gives in
    let backs : List End = c.for_each_mut.new.s in
    let ends : length c.captures.ends ≡ 3 = search rules in
    let jobs : length c.captures.jobs.now ≡ 3 = search rules in
    let long : length backs ≡ 3 = sym (ap length gives.0) ∙ gives.1 in
    let empty : array_into_iter_items at.end-iterator ≡ [] = nothing_left _ c.in-None.ensures.steps.0 in
    let all : at.yielded ≡ backs = sym (append-nil at.yielded) ∙ (ap (λ (l : List End). at.yielded ++ l) (sym empty) ∙ (i.all ∙ gives.0)) in
    let v : View = view_of c.captures.last in
    let z : View = view_of c.shut-was_open.new.end in
    let same = c.shut-was_open.ensures.trace.3 in (
      c.shut-was_open.ensures.handle.0 ∙ i.mine,
      record {
        backs = map view_of backs;
        puts = puts_each c.captures.jobs.now c.captures.ends backs (jobs ∙ sym ends) (long ∙ sym ends)
            (λ k j d low. let call = (c.for_each_mut.ensures k d low).1 in let lines = lines_of (get_or c.captures.jobs.now k j).items in
            subst (λ (x : End). HasPut lines (view_of x) (view_of (get_or backs k d))) call.argument_is
            (subst (λ (x : End). HasPut lines (view_of call.argument.now) (view_of x)) call.left (call.call.1 j)));
        gathered = subst (λ (l : List End). Gathered v (map view_of l) z) all
            (gathered_same v (view_of at.last) z (map view_of at.yielded) i.gathered (λ k. (same.did k).runs) (λ k. (same.did k).takes) (λ k. (same.member k).share));
      },
    )
