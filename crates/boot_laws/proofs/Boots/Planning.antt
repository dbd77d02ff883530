-- What was made for a plan is the plan's after any note.
use Rattle.boot_laws.proofs.Common.{◌-◌, ◌≡◌, ℕ, zero, suc, ◌≤◌, ◌<◌, List, [], ◌∷◌, ◌++◌, map, length, refl, sym, ap, ◌∙◌, arith, Option, Some, None, flat_map, subst, All, BootPlan, Mover, PlannedMover, raw_queue, line_queue, screen_queue, ProcChain, AnyQuaject, Way, Queues, IsMover, IsTty, MadeOfNew, routes_of, ◌^◌, slice_get, AreQuajectsOf, quajects_of, SameEnds, MadeOf, key_of, index_of, way_post, run_count, sides_of}
use Rattle.std.proofs.Math.Nat.{mod-eq_of_lt}
use Rattle.std.proofs.lemmas.Option.{get_or_from_slice_get, slice_get_within}
use Rattle.boot_data.specs.declared.plan.Mover.TheVariants as movers
use Rattle.boot_data.specs.declared.plan.Way.{Way as PlannedWay}
use Rattle.boot_objects.specs.Planned as objects
use Rattle.boot_objects.specs.Planned.{IsReady, four_ways, way_key, way_to}
use Rattle.proc_chain.specs.Handles.{opening_of}
use Rattle.quajects.specs.declared.any.AnyQuaject.TheVariants as any
use Rattle.quajects.specs.Ports.{Post}

-- WAYS

abbrev post_index : Option Post → Option ℕ
post_index None = None
post_index (Some post) = Some post.index

by_post : (way : Option Way) → index_of way ≡ post_index (way_post way)
by_post None = refl
by_post (Some way) = refl

by_posts : (ways : List (Option Way)) → map index_of ways ≡ map post_index (map way_post ways)
by_posts [] = refl
by_posts (way ∷ ways) = λ k. by_post way k ∷ by_posts ways k

same_indexes : (new old : List (Option Way)) → map way_post new ≡ map way_post old → map index_of new ≡ map index_of old
same_indexes new old e = by_posts new ∙ (ap (map post_index) e ∙ sym (by_posts old))

abbrev planned_routes : Option PlannedWay → List (ℕ × ℕ)
planned_routes None = []
planned_routes (Some way) = (way.key, way.to) ∷ []

one_route : (way : Option Way) (planned : Option PlannedWay) → key_of way ≡ way_key planned → index_of way ≡ way_to planned → routes_of way ≡ planned_routes planned
one_route None None e f = refl
one_route None (Some planned) e f = absurd (cc)
one_route (Some way) None e f = absurd (cc)
one_route (Some way) (Some planned) e f = let k : way.key ≡ planned.key = cc in let i : way.outlet.index ≡ planned.to = cc in λ j. (k j, i j) ∷ []

all_routes : (ways : List (Option Way)) (planned : List (Option PlannedWay)) → map key_of ways ≡ map way_key planned → map index_of ways ≡ map way_to planned → flat_map routes_of ways ≡ flat_map planned_routes planned
all_routes [] [] e f = refl
all_routes [] (p ∷ ps) e f = absurd (cc)
all_routes (w ∷ ws) [] e f = absurd (cc)
all_routes (w ∷ ws) (p ∷ ps) e f =
    let k : key_of w ≡ way_key p = cc in let i : index_of w ≡ way_to p = cc in
    let ks : map key_of ws ≡ map way_key ps = cc in let is : map index_of ws ≡ map way_to ps = cc in
    λ j. one_route w p k i j ++ all_routes ws ps ks is j

four_routes : (ways : List PlannedWay) → length ways ≤ 4 → flat_map planned_routes (four_ways ways) ≡ map (λ way. (way.key, way.to)) ways
four_routes [] few = refl
four_routes (a ∷ []) few = refl
four_routes (a ∷ b ∷ []) few = refl
four_routes (a ∷ b ∷ c ∷ []) few = refl
four_routes (a ∷ b ∷ c ∷ d ∷ []) few = refl
four_routes (a ∷ b ∷ c ∷ d ∷ e ∷ ways) few = absurd (omega arith)

-- QUAJECTS

-- the planned pump or switch; if none is planned, this tty's cooked tty, after so many queues and pipes
abbrev pub IsPlanned : ℕ → ℕ → Option PlannedMover → AnyQuaject → Type 0
IsPlanned queues tty (Some planned) quaject = IsMover planned.mover quaject
IsPlanned queues tty None quaject = IsTty (raw_queue queues tty) (line_queue tty) (screen_queue tty) quaject

-- it is the quaject of the plan with this number: the pumps and switches come first, and then the cooked ttys
abbrev pub IsOfPlan : BootPlan → ℕ → AnyQuaject → Type 0
IsOfPlan plan number quaject = IsPlanned (length plan.queues) (number - length plan.movers) (slice_get plan.movers number) quaject

mover_stays : (mover : Mover) (old new : AnyQuaject) → objects.IsMover mover old → SameEnds old new → IsMover mover new
mover_stays (movers.Pump from to) (any.Pump a) (any.Pump b) h s = ((ap (λ (z : Post). z.index) s.source ∙ h.from_is), (ap (λ (z : Post). z.index) s.target ∙ h.to_is))
mover_stays (movers.Pump from to) (any.Pump a) (any.Cooked b) h s = absurd s
mover_stays (movers.Pump from to) (any.Pump a) (any.Switch b) h s = absurd s
mover_stays (movers.Pump from to) (any.Cooked a) new h s = absurd h
mover_stays (movers.Pump from to) (any.Switch a) new h s = absurd h
mover_stays (movers.Switch from other ways) (any.Switch a) (any.Switch b) h s = (
  (ap (λ (z : Post). z.index) s.source ∙ h.from_is),
  (ap (λ (z : Post). z.index) s.other ∙ h.other_is),
  all_routes b.ways (four_ways ways) (s.keys ∙ h.keys_are) (same_indexes b.ways a.ways s.ways ∙ h.indexes_are) ∙ four_routes ways h.few,
)
mover_stays (movers.Switch from other ways) (any.Switch a) (any.Cooked b) h s = absurd s
mover_stays (movers.Switch from other ways) (any.Switch a) (any.Pump b) h s = absurd s
mover_stays (movers.Switch from other ways) (any.Cooked a) new h s = absurd h
mover_stays (movers.Switch from other ways) (any.Pump a) new h s = absurd h

tty_stays : (raw tty : ℕ) (old new : AnyQuaject) → objects.IsTty raw tty old → SameEnds old new → IsTty raw (line_queue tty) (screen_queue tty) new
tty_stays raw tty (any.Cooked a) (any.Cooked b) h s =
    ((ap (λ (z : Post). z.index) s.raw ∙ h.raw_is), (ap (λ (z : Post). z.index) s.line ∙ h.line_is), (ap (λ (z : Post). z.index) s.screen ∙ h.screen_is))
tty_stays raw tty (any.Cooked a) (any.Pump b) h s = absurd s
tty_stays raw tty (any.Cooked a) (any.Switch b) h s = absurd s
tty_stays raw tty (any.Pump a) new h s = absurd h
tty_stays raw tty (any.Switch a) new h s = absurd h

stays : (queues tty : ℕ) (planned : Option PlannedMover) (old new : AnyQuaject) → objects.IsPlanned queues tty planned old → SameEnds old new → IsPlanned queues tty planned new
stays queues tty (Some planned) old new h s = mover_stays planned.mover old new h s
stays queues tty None old new h s = tty_stays (raw_queue queues tty) tty old new h s

opening_at : (list : List (ProcChain AnyQuaject Queues)) (k : ℕ) (chain : ProcChain AnyQuaject Queues) → slice_get list k ≡ Some chain → slice_get (quajects_of list) k ≡ Some (opening_of chain)
opening_at [] k chain e = absurd (cc)
opening_at (x ∷ list) zero chain e = let same : x ≡ chain = cc in ap (λ z. Some (opening_of z)) same
opening_at (x ∷ list) (suc k) chain e = opening_at list k chain e

pub planned_stay : (plan : BootPlan) (world : Queues) (list : List (ProcChain AnyQuaject Queues)) → AreQuajectsOf plan world (quajects_of list)
    → (number : ℕ) (chain : ProcChain AnyQuaject Queues) (quaject : AnyQuaject) → slice_get list number ≡ Some chain → SameEnds (opening_of chain) quaject → IsOfPlan plan number quaject
planned_stay plan world list are number chain quaject at s = stays _ _ (slice_get plan.movers number) (opening_of chain) quaject (are.kinds number (opening_of chain) (opening_at list number chain at)) s

pub all_got : {A : Type 0} (P : A → Type 0) (xs : List A) (k : ℕ) (x : A) → All P xs → slice_get xs k ≡ Some x → P x
all_got P xs k x all e = subst P (get_or_from_slice_get xs k x x e) (all k x (slice_get_within xs k x e))

pub made_new : (plan : BootPlan) (world : Queues) (list : List (ProcChain AnyQuaject Queues)) → AreQuajectsOf plan world (quajects_of list)
    → (number : ℕ) (chain : ProcChain AnyQuaject Queues) (quaject : AnyQuaject) (notes : List ℕ) → slice_get list number ≡ Some chain → MadeOf (opening_of chain) quaject notes → length notes < 2 ^ 64 → MadeOfNew quaject
made_new plan world list are number chain quaject notes at m few =
    let r = all_got (IsReady world) (quajects_of list) number (opening_of chain) are.ready (opening_at list number chain at) in record {
      first = opening_of chain;
      none_taken = r.none_taken;
      none_put = r.none_put;
      none_held = r.none_held;
      none_run = r.none_run;
      sides = sides_of (opening_of chain);
      none_shut = r.none_shut;
      notes = notes;
      made = m;
      all = run_count quaject notes m.count ∙ mod-eq_of_lt few;
    }
