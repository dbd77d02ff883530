use Rattle.synth_kernel.proofs.Common.{◌≡◌, ◌++◌, [], append-nil, nil_from_length, ◌∷◌, length, Ok, append_assoc, sym, refl, rules, ap, ◌∙◌, arith, into_iter_items, processed_in, served_in, all_there}
use Rattle.synth_kernel.proofs.Sorting.{processed_append, served_append, there_more, there_none, none_processed, none_served, room_for}
use Rattle.synth_kernel.proofs.gathering.sort_backs.Goals as goal

pub sort_back-requires-clause-processed : goal.sort_back-requires-clause-processed
sort_back-requires-clause-processed g c = let v = c.loop-back.invariant in
    room_for processed_in processed_append c.loop-back.yielded (Ok c.in-Ok.back) (into_iter_items c.next.new.self) c.args.backs.items c.loop-back.processed.items
    (ap (λ z. c.loop-back.yielded ++ z ∷ into_iter_items c.next.new.self) (sym c.in-Ok.is) ∙ (ap (λ z. c.loop-back.yielded ++ z) (sym c.in-Some.ensures.steps.0) ∙ v.parts)) v.processed _ (let r = c.requires.processed.1 in let s = v.room in omega arith)

pub sort_back-requires-clause-served : goal.sort_back-requires-clause-served
sort_back-requires-clause-served g c = let v = c.loop-back.invariant in
    room_for served_in served_append c.loop-back.yielded (Ok c.in-Ok.back) (into_iter_items c.next.new.self) c.args.backs.items c.loop-back.served.items
    (ap (λ z. c.loop-back.yielded ++ z ∷ into_iter_items c.next.new.self) (sym c.in-Ok.is) ∙ (ap (λ z. c.loop-back.yielded ++ z) (sym c.in-Some.ensures.steps.0) ∙ v.parts)) v.served _ (let r = c.requires.served.1 in let s = v.served_room in omega arith)

pub loop-back-preserved-in-Ok : goal.loop-back-preserved-in-Ok
loop-back-preserved-in-Ok g c = let v = c.loop-back.invariant in let s = c.sort_back.ensures in record {
  parts = append_assoc c.loop-back.yielded (c.in-Some.back ∷ []) (into_iter_items c.next.new.self) ∙ (ap (λ z. c.loop-back.yielded ++ z) (sym c.in-Some.ensures.steps.0) ∙ v.parts);
  left = let was = v.left in let gone = c.in-Some.ensures.steps.1 in let short = ap length c.in-Some.ensures.steps.0 in omega arith;
  processed = s.processed ∙ ((λ i. v.processed i ++ processed_in (sym c.in-Ok.is i ∷ [])) ∙ sym (processed_append c.loop-back.yielded (c.in-Some.back ∷ [])));
  served = s.served ∙ ((λ i. v.served i ++ served_in (sym c.in-Ok.is i ∷ [])) ∙ sym (served_append c.loop-back.yielded (c.in-Some.back ∷ [])));
  all = v.all ∙ (sym (there_more c.loop-back.yielded c.in-Ok.back) ∙ ap (λ z. all_there (c.loop-back.yielded ++ z ∷ [])) (sym c.in-Ok.is));
  room = s.room.0 ∙ v.room;
  served_room = s.room.1 ∙ v.served_room;
}

pub loop-back-preserved : goal.loop-back-preserved
loop-back-preserved g c = let v = c.loop-back.invariant in record {
  parts = append_assoc c.loop-back.yielded (c.in-Some.back ∷ []) (into_iter_items c.next.new.self) ∙ (ap (λ z. c.loop-back.yielded ++ z) (sym c.in-Some.ensures.steps.0) ∙ v.parts);
  left = let was = v.left in let gone = c.in-Some.ensures.steps.1 in let short = ap length c.in-Some.ensures.steps.0 in omega arith;
  processed = v.processed ∙ (none_processed c.loop-back.yielded c.in-Err._lost ∙ ap (λ z. processed_in (c.loop-back.yielded ++ z ∷ [])) (sym c.in-Err.is));
  served = v.served ∙ (none_served c.loop-back.yielded c.in-Err._lost ∙ ap (λ z. served_in (c.loop-back.yielded ++ z ∷ [])) (sym c.in-Err.is));
  all = sym (ap (λ z. all_there (c.loop-back.yielded ++ z ∷ [])) c.in-Err.is ∙ there_none c.loop-back.yielded c.in-Err._lost);
  room = v.room;
  served_room = v.served_room;
}

pub loop-back-init : goal.loop-back-init
loop-back-init g c = record {
  parts = c.into_iter-back-iterator.ensures.into_iter_gives.0;
  left = search rules;
  processed = c.requires.processed.0;
  served = c.requires.served.0;
  all = refl;
  room = refl;
  served_room = refl;
}

pub returns-then-all : goal.returns-then-all
returns-then-all g c = let v = c.loop-back.invariant in
    let empty : into_iter_items c.loop-back.back-iterator ≡ [] = nil_from_length _ (sym v.left ∙ c.in-None.ensures.steps.0) in
    let every : c.loop-back.yielded ≡ c.args.backs.items = sym (append-nil c.loop-back.yielded) ∙ (ap (λ z. c.loop-back.yielded ++ z) (sym empty) ∙ v.parts) in
    record {
      sorted = (v.processed ∙ (λ i. processed_in (every i)), v.served ∙ (λ i. served_in (every i)), (λ i. all_there (sym every i)) ∙ (sym v.all ∙ c.if-all.true));
      missing = λ none. absurd cc;
    }

pub returns-else-all : goal.returns-else-all
returns-else-all g c = let v = c.loop-back.invariant in
    let empty : into_iter_items c.loop-back.back-iterator ≡ [] = nil_from_length _ (sym v.left ∙ c.in-None.ensures.steps.0) in
    let every : c.loop-back.yielded ≡ c.args.backs.items = sym (append-nil c.loop-back.yielded) ∙ (ap (λ z. c.loop-back.yielded ++ z) (sym empty) ∙ v.parts) in
    record {
      sorted = tt;
      missing = λ _. (λ i. all_there (sym every i)) ∙ (sym v.all ∙ c.if-all.false);
    }
