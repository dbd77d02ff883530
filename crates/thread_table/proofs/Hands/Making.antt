-- A step that is an event keeps the rule.
use Rattle.thread_table.proofs.Common.{◌≡◌, ◌≢◌, ℕ, ◌<◌, Bool, true, false, ◌||◌, List, [], ◌∷◌, ◌++◌, map, length, get_or, set, Result, Ok, sym, refl, ap, ◌∙◌, subst, arith, length-set, get_or-set_other, false_from_ne_true, list_any, some, get_elem?, Elements, holds, is_put, IsLawfulElements, ◌>>=◌, State, effect, in_elements, counted, step, Event, Refusal, of_hands, IsValidStep, EndsStand, stand_same, at_below, ELEMENTS, Shape, View, Grows, thread_at, WordsShow, IsActive, IsSteady, HandIs, Seen, Rule, nothing_of, now_of, may_step, serves, HandDid, HandStands, had_by_both, left_by_event, AreMade, made_of, is_join, map-set, at_map, set_here}
use Rattle.thread_table.proofs.Hands.HeldLists.{hand_kept}
use Rattle.table_theory.specs.Ledgers.{Step}
use Rattle.table_theory.proofs.Ends.{begins_on}
use Rattle.thread_table.specs.Schedules.{state_after, elements_after}
use Rattle.thread_table.proofs.Schedule.Courses.{joins_same}
use Rattle.thread_table.proofs.Schedule.JoinEvents.{joined_event, joined_set, none_uncounted}
use Rattle.thread_table.specs.Entries.{change as change_of}
use Rattle.thread_table.specs.Views.{after_event}
use Rattle.thread_table.proofs.Schedule.Acting.{stepped, event_counts}
use Rattle.thread_table.proofs.Schedule.ListedEvents.{made_push}
use Rattle.thread_table.proofs.Hands.CountSteps.{may_of}
use Rattle.thread_table.proofs.Events.Effects.{Leaves, Effect}
use Rattle.thread_table.proofs.Events.Owing.{Owes, claims_set}
use Rattle.thread_table.proofs.Hands.OnlyLoads.{St, steps_to, now_at, hand_quiet, seen_all, each_set, sole_set, real_event, order_goes, stepped_now}
use Rattle.thread_table.proofs.Schedule.Schedules.{after_more, elements_after_more, elements_of, lawful_after, grows_trans}

-- an element whose step a call may count is no other call's
abbrev pub OthersCount : Type 0
OthersCount = (id call element : ℕ) (e : Elements) → IsLawfulElements e → length e.threads ≡ 64 → element < ELEMENTS → call ≢ id → may_step call element e ≡ true → may_step id element e ≡ false

-- what was seen is still earlier after one event more
pub seen_more : (u : View) (events : List Event) (event : Event) → Seen u events → Grows (elements_after events) (elements_after (events ++ event ∷ [])) → Seen u (events ++ event ∷ [])
seen_more u events event s grows = record {
  schedule = begins_on u.seen.object events event s.schedule;
  grows = grows_trans (elements_after u.seen.object) (elements_after events) (elements_after (events ++ event ∷ [])) s.grows grows;
}

-- another call may step what it could step
may_still : (id call element : ℕ) (v : View) (e f : Elements) → Leaves id v e f → call ≢ id → may_step call element f ≡ may_step call element e
may_still id call element v e f leaves other = ap (λ (z : Bool). z || list_any (is_put call element) f.processors) (leaves.held call element other) ∙ ap (λ (z : Bool). holds call element e || z) (leaves.puts call element other)

-- an event of the call id leaves another hand what it has
pub hand_left : OthersCount → (id j : ℕ) (v u : View) (e f : Elements) → Leaves id v e f → IsLawfulElements e → length e.threads ≡ 64 → j ≢ id → ((p : ℕ) → serves u p ≡ true → serves v p ≡ false) → HandIs j u e → HandIs j u f
hand_left others id j v u e f leaves lawful long other apart h = hand_kept j u e f h (λ x. leaves.held j x other) (λ p up. leaves.processors p (apart p up) ∙ h.on p up) (λ c. leaves.runs j c other)
    (λ c n. record { known = n.known; may = may_still id j c.element v e f leaves other ∙ n.may; done = leaves.steps c.element (others id j c.element e lawful long n.known other n.may) ∙ n.done })

-- an event of the elements that goes is a step of the core
pub steps : (events : List Event) (event : Event) (change : Elements → Result Elements Refusal) (f : Elements) → ((t : State) → effect event t ≡ in_elements change t) → change (elements_after events) ≡ Ok f
    → step event (state_after events) ≡ Ok (counted (record (state_after events) { elements = f }))
steps events event change f is goes = let s : State = state_after events in let goes' : change s.elements ≡ Ok f = ap change (sym (elements_of events)) ∙ goes in
    ap (λ (z : Result State Refusal). z >>= λ next. Ok (counted next)) (is s ∙ ap (λ (z : Result Elements Refusal). z >>= λ elements. Ok (record s { elements = elements })) goes')

-- the rule, and the step's result, after an event
pub made : OthersCount → (key : Shape) (s : St) (k : Rule key s) (id : ℕ) (v : View) (event : Event) (change : Elements → Result Elements Refusal) (i y found : ℕ) → found ≡ get_or s.words i 0 → get_elem? s.views id ≡ some v → IsActive v → 0 < i
    → ((t : State) → effect event t ≡ in_elements change t) → is_join event ≡ false → Effect id v (left_by_event event (elements_after k.events) v) key.first change (elements_after k.events) (set s.words i y)
    → (w : View) × Rule key record { words = set s.words i y; homes = s.homes; views = set s.views id w } × HandDid id v i found event w × HandStands id w
made others key s k id v event change i y found found_is at live past is plain effect =
    let old : List Event = k.events in let new : List Event = old ++ event ∷ [] in let e : Elements = elements_after old in let f : Elements = effect.f in let now : View = after_event event old v in
    let en : Step (List Event) = change_of i found (now_at k) event in let w : View = stepped v now (steps_to k) en in
    let ok = steps old event change f is effect.goes in let more = after_more old event (counted (record (state_after old) { elements = f })) k.allowed ok in
    let same : elements_after new ≡ f = elements_after_more old event (counted (record (state_after old) { elements = f })) f refl more.0 in
    let leaves : Leaves id v e (elements_after new) = subst (Leaves id v e) (sym same) effect.leaves in
    let lawful : IsLawfulElements e = lawful_after old k.allowed in
    let real : IsValidStep (of_hands key.first) en = real_event key s k i found event found_is more.1 leaves.grows in
    let ends_same : get_or (set s.words i y) 0 0 ≡ get_or s.words 0 0 = get_or-set_other s.words i 0 y 0 (λ z. omega arith) in
    let order = order_goes key s k id v w w.own v.member en (now_of new (set s.words i y)) at live.0 refl refl real (ap (λ (z : ℕ). record { ends = z; object = new }) (sym ends_same)) in
    let kept : Rule key record { words = set s.words i y; homes = s.homes; views = set s.views id w } = record {
      events = new;
      allowed = more.1;
      shows = subst (λ (z : Elements). WordsShow key.first z (set s.words i y)) (sym same) effect.shows;
      first = each_set (λ j u. u.own.first ≡ key.first) s.views id w (λ j u ne has. k.first j u has) (k.first id v at);
      seen = each_set (λ j u. Seen u new) s.views id w (λ j u ne has. seen_more u old event (k.seen j u has) leaves.grows) (seen_all w new refl);
      hands = each_set (λ j u. HandIs j u (elements_after new)) s.views id w
          (λ j u ne has. hand_left others id j v u e (elements_after new) leaves lawful k.shows.threads ne (λ p up. false_from_ne_true (serves v p) (λ mine. ne (k.sole j id p u v has at up mine))) (k.hands j u has))
          (subst (HandIs id w) (sym same) (hand_quiet id (left_by_event event e v) w f refl refl refl refl refl effect.hand));
      sole = sole_set s.views id v w at refl k.sole;
      owned = claims_set s.views id v w e (elements_after new) at (subst (Owes v w e) (sym same) effect.owes) k.owned;
      strange = λ call element far. let l = length-set s.views id w in let b = at_below s.views id v at in leaves.held call element (λ z. omega arith) ∙ k.strange call element (omega arith);
      steady = each_set (λ j u. IsSteady u new) s.views id w
          (λ j u ne has up x low may. ap (λ (z : Elements). (thread_at z x).done) same
          ∙ (effect.leaves.steps x (others id j x e lawful k.shows.threads low ne (may_of j u e x (k.hands j u has) may)) ∙ k.steady j u has up x low may))
          (λ up x low may. refl);
      made = subst (AreMade new) (sym (map-set made_of s.views id w))
          (made_push old (map made_of s.views) id v.own.made event plain k.made (at_map made_of s.views id v at));
      undoubled = each_set (λ j u. u.own.doubled ≡ false) s.views id w (λ j u ne has. k.undoubled j u has) (k.undoubled id v at);
      ends = subst (λ (c : ℕ). EndsStand (nothing_of key.first) c (set s.views id w)) (sym ends_same) (stand_same (nothing_of key.first) had_by_both (get_or s.words 0 0) s.views id v w k.ends at live.0 refl);
      joined = joined_set new s.views id v w at live.0 live.0 (let n = none_uncounted v live.1 in omega arith) (joined_event old event s.views plain k.joined);
      joiner = k.joiner;
      are_joins = joins_same old event k.joiner.steps plain k.are_joins;
      order = order.0;
      newest = order.1;
    } in (
      w,
      kept,
      record {
        before = now_at k;
        hand = k.hands id v at;
        step = stepped_now key s _ k kept id v now i found (record (now_at k) { object = new }) at live.1 (set_here s.views id w (at_below s.views id v at)) found_is (event ∷ [], refl)
            (λ x. event_counts x old v.own.made event (state_after old));
      },
      subst (HandIs id w) (sym same) (hand_quiet id (left_by_event event e v) w f refl refl refl refl refl effect.hand),
    )
