-- Moments of a call before which the end changed nothing, as seen from a longer call.
use Rattle.batch_queue.proofs.Common.{BatchState, EndRecord, List, Performed, Step, View, [], append_assoc, ap, refl, subst, sym, ℕ, ◌++◌, ◌/◌, ◌∙◌, ◌∷◌, ◌≡◌}
use Rattle.std.specs.List.{AllByRecursion}
use Rattle.table_theory.proofs.Reaching.{adds_after, all_on}
use Rattle.table_theory.specs.Ledgers.{ExtendsTrace}
use Rattle.table_theory.specs.declared.views.Part.{Part}
use Rattle.batch_queue.specs.Moments.{BeforeChanges, ChangedByOthers, IsLoad}
use Rattle.batch_queue.specs.Walks.{FollowedBy, IsStop, Walk, at_mark, at_most, walked}

-- THE LOADS OF A WALK

walked_quiet : (room p : ℕ) (walk : Walk) → AllByRecursion IsLoad (walked room p walk)
walked_quiet room p [] = tt
walked_quiet room p (found ∷ walk) = (refl, walked_quiet room (found.0 / 2) walk)

stop_quiet : (parity most room p : ℕ) (loads : List (Step BatchState)) → IsStop parity most room p loads → AllByRecursion IsLoad loads
stop_quiet parity most room p loads (at_most is none_there) = subst (AllByRecursion IsLoad) (sym none_there) tt
stop_quiet parity most room p loads (at_mark low mark m short is) = subst (AllByRecursion IsLoad) (sym is) (refl, tt)

pub followed_quiet : (parity most room from to : ℕ) (loads : List (Step BatchState)) → FollowedBy parity most room from to loads → AllByRecursion IsLoad loads
followed_quiet parity most room from to loads f = subst (AllByRecursion IsLoad) (sym f.loads_are) (all_on IsLoad (walked room from f.walk) f.stop (walked_quiet room from f.walk) (stop_quiet parity most room to f.stop f.stops))

-- MOMENTS

pub quiet_map : (v w : View) (P Q : BatchState → Type 0) → ((o : BatchState) → P o → Q o) → BeforeChanges v w P → BeforeChanges v w Q
quiet_map v w P Q f s = record { moment = record { before = s.moment.before; step = s.moment.step; after = s.moment.after; adds = s.moment.adds; holds = f s.moment.step.then.object s.moment.holds }; quiet = s.quiet }

-- other steps came before it, which changed nothing
pub quiet_after : (v u w : View) (xs : List (Step BatchState)) (P : BatchState → Type 0) → u.member.share ≡ v.member.share → ExtendsTrace v xs u → AllByRecursion IsLoad xs → BeforeChanges u w P → BeforeChanges v w P
quiet_after v u w xs P share a quiet s = record {
  moment = record {
    before = xs ++ s.moment.before;
    step = s.moment.step;
    after = s.moment.after;
    adds = subst (λ (z : List (Step BatchState)). ExtendsTrace v z w) (sym (append_assoc xs s.moment.before (s.moment.step ∷ s.moment.after))) (adds_after v u w xs (s.moment.before ++ s.moment.step ∷ s.moment.after) share a s.moment.adds);
    holds = s.moment.holds;
  };
  quiet = all_on IsLoad xs s.moment.before quiet s.quiet;
}

-- the end's step found it so, and a moment after it so
pub others_by : (v u w : View) (e : Step BatchState) (own : EndRecord) (P : BatchState → BatchState → Type 0) → Performed v (e ∷ []) own u → IsLoad e → (s : BeforeChanges u w (λ o. P e.then.object o)) → ChangedByOthers v w P
others_by v u w e own P m quiet s = record {
  moments = record {
    before = [];
    first = e;
    between = s.moment.before;
    second = s.moment.step;
    after = s.moment.after;
    adds = adds_after v u w (e ∷ []) (s.moment.before ++ s.moment.step ∷ s.moment.after) (ap (λ (z : Part). z.share) m.member) m.adds s.moment.adds;
    holds = s.moment.holds;
  };
  quiet = (quiet, s.quiet);
}

pub others_map : (v w : View) (P Q : BatchState → BatchState → Type 0) → ((o later : BatchState) → P o later → Q o later) → ChangedByOthers v w P → ChangedByOthers v w Q
others_map v w P Q f s = let t = s.moments in record { moments = record { before = t.before; first = t.first; between = t.between; second = t.second; after = t.after; adds = t.adds; holds = f t.first.then.object t.second.then.object t.holds }; quiet = s.quiet }

-- other steps came before them
pub others_after : (v u w : View) (xs : List (Step BatchState)) (P : BatchState → BatchState → Type 0) → u.member.share ≡ v.member.share → ExtendsTrace v xs u → ChangedByOthers u w P → ChangedByOthers v w P
others_after v u w xs P share a s = let t = s.moments in let rest : List (Step BatchState) = t.first ∷ (t.between ++ t.second ∷ t.after) in record {
  moments = record {
    before = xs ++ t.before;
    first = t.first;
    between = t.between;
    second = t.second;
    after = t.after;
    adds = subst (λ (z : List (Step BatchState)). ExtendsTrace v z w) (sym (append_assoc xs t.before rest)) (adds_after v u w xs (t.before ++ rest) share a t.adds);
    holds = t.holds;
  };
  quiet = s.quiet;
}

-- other steps came after them
pub others_then : (v u w : View) (ys : List (Step BatchState)) (P : BatchState → BatchState → Type 0) → u.member.share ≡ v.member.share → ChangedByOthers v u P → ExtendsTrace u ys w → ChangedByOthers v w P
others_then v u w ys P share s a = let t = s.moments in let rest : List (Step BatchState) = t.first ∷ (t.between ++ t.second ∷ t.after) in record {
  moments = record {
    before = t.before;
    first = t.first;
    between = t.between;
    second = t.second;
    after = t.after ++ ys;
    adds = subst (λ (z : List (Step BatchState)). ExtendsTrace v z w)
        (append_assoc t.before rest ys ∙ ap (λ (z : List (Step BatchState)). t.before ++ t.first ∷ z) (append_assoc t.between (t.second ∷ t.after) ys))
        (adds_after v u w (t.before ++ rest) ys share t.adds a);
    holds = t.holds;
  };
  quiet = s.quiet;
}
