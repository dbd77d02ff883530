-- A join of a hand to another keeps the rule.
use Rattle.thread_table.proofs.Common.{map, ◌≡◌, ◌≢◌, ◌⊎◌, ⊎_elim, inl, inr, ℕ, suc, ◌≤◌, Bool, true, false, ◌||◌, ne_eqb, List, [], ◌∷◌, ◌++◌, ◌∙◌, map, length, get_or, set, Option, Some, None, option_map, slice_get, Ok, refl, sym, ap, ap₂, subst, arith, length-set, some, get_elem?, Elements, hold, holds, join_elements, renamed, join_queue, ◌>>=◌, Event, UnknownName, set_else, at_below, IsValidStep, EndsStand, Begins, order_to, if◌then◌else◌, nat_lt, Shape, View, Past, ring_at, element_at, Grows, WordsShow, Rule, HandIs, Seen, nothing_of, serves, running, claim_of, had_by_both, both, emptied, or_left, or_parts, false_from_ne_true, map-set, at_map, MadeEvent, AreMade, made_of, IsActive, IsSteady, IsNewest, may_step, has, any_both, list_any, get_or-eq_default, joining, of_hands, is_put, IsLawfulElements, dite, dec_lt, thread_at}
use Rattle.thread_table.proofs.Lists.Entries.{Passed, one_passes}
use Rattle.thread_table.proofs.Lists.Entries.{each_joined}
use Rattle.atomic_table.specs.Table.{Joins}
use Rattle.event_theory.specs.Chains.{join_chain}
use Rattle.event_theory.specs.Results.{refused_if}
use Rattle.event_theory.specs.States as core
use Rattle.event_theory.specs.declared.event.Event.TheVariants as events
use Rattle.table_theory.proofs.Standing.{stand_join}
use Rattle.thread_table.specs.Schedules.{state_after, elements_after, IsAllowed}
use Rattle.thread_table.proofs.Events.Owing.{AllOwned, IsOwned, owned_set}
use Rattle.thread_table.proofs.Shown.QueueWords.{none_some}
use Rattle.thread_table.proofs.Lists.Copies.{get_or-copies}
use Rattle.thread_table.proofs.Lists.Entries.{or_else, length-either, either_or, length-either_on, get_or-either_on, either_on_first}
use Rattle.std.proofs.lemmas.Bool.{or_cases}
use Rattle.thread_table.proofs.Hands.HeldLists.{hand_idle, hand_kept}
use Rattle.thread_table.proofs.Hands.Making.{seen_more}
use Rattle.thread_table.specs.Rules.{no_processors}
use Rattle.thread_table.proofs.Hands.Renaming.{renamed_call, renamed_other, renamed_third, held_third, held_call, held_other, processor_renamed, claim_third, count_third, grows_joined, open_joined, words_joined}
use Rattle.thread_table.proofs.Schedule.Schedules.{after_more, elements_after_more, elements_of}
use Rattle.thread_table.proofs.Schedule.Courses.{order_joined}
use Rattle.thread_table.proofs.Schedule.ListedEvents.{made_join}
use Rattle.thread_table.proofs.Schedule.JoinEvents.{joined_join}
use Rattle.thread_table.specs.Joins.{no_word}
use Rattle.thread_table.proofs.Hands.OnlyLoads.{now_at, no_other, real_event}
use Rattle.thread_table.proofs.Hands.Strangers.{others_count}
use Rattle.thread_table.proofs.Schedule.Schedules.{lawful_after}

-- no place has a mark in both
none_both : (bs ms : List Bool) → ((i : ℕ) → get_or bs i false ≡ true → get_or ms i false ≡ true → ⊥) → any_both bs ms ≡ false
none_both [] ms none = refl
none_both (b ∷ bs) [] none = refl
none_both (true ∷ bs) (true ∷ ms) none = absurd (none 0 refl refl)
none_both (true ∷ bs) (false ∷ ms) none = none_both bs ms (λ i. none (suc i))
none_both (false ∷ bs) (m ∷ ms) none = none_both bs ms (λ i. none (suc i))

-- no element is held by two hands
held_apart : (id other : ℕ) (v w : View) (e : Elements) → other ≢ id → IsLawfulElements e → length e.threads ≡ 64 → HandIs id v e → HandIs other w e → (x : ℕ) → has v x ≡ true → has w x ≡ true → ⊥
held_apart id other v w e ne lawful long mine its x up up' = dite (dec_lt x 64)
    (λ known. let low : may_step id x e ≡ false = others_count id other x e lawful long known ne (or_left (holds other x e) (list_any (is_put other x) e.processors) (its.held x ∙ up')) in
    let high : may_step id x e ≡ true = or_left (holds id x e) (list_any (is_put id x) e.processors) (mine.held x ∙ up) in absurd (cc))
    (λ past. let l = mine.held_long in let none : has v x ≡ false = get_or-eq_default v.own.held false (omega (arith, past)) in absurd (cc))

-- the two hands before the join: no processor is served by both
record Two (id other : ℕ) (v w : View) (e : Elements) : Type 0 where
  mine : HandIs id v e
  its : HandIs other w e
  apart : (p : ℕ) → serves v p ≡ true → serves w p ≡ true → ⊥

both_on : (id other p : ℕ) (v w : View) (e : Elements) → Two id other v w e → (serves v p ≡ true) ⊎ (serves w p ≡ true) → slice_get (join_elements id other e).processors p ≡ Some (option_map (hold id) (running (both v w) p))
both_on id other p v w e h (inl s) = let none : running w p ≡ None = h.its.off p (false_from_ne_true (serves w p) (λ z. h.apart p s z)) in
    processor_renamed id other id id p e (running v p) (renamed_call id other) (h.mine.on p s) ∙ sym (ap (λ (x : Option ℕ). Some (option_map (hold id) x)) (either_on_first v.own.on w.own.on p (h.its.on_long ∙ sym h.mine.on_long) none))
both_on id other p v w e h (inr s) = let none : running v p ≡ None = h.mine.off p (false_from_ne_true (serves v p) (λ z. h.apart p z s)) in
    processor_renamed id other other id p e (running w p) (renamed_other id other) (h.its.on p s)
    ∙ sym (ap (λ (x : Option ℕ). Some (option_map (hold id) x)) (get_or-either_on v.own.on w.own.on p (h.its.on_long ∙ sym h.mine.on_long) ∙ ap (λ (x : Option ℕ). or_else x (running w p)) none))

serves_either : (id other p : ℕ) (v w : View) (e : Elements) → Two id other v w e → serves (both v w) p ≡ (serves v p || serves w p)
serves_either id other p v w e h = either_or v.own.serves w.own.serves p (h.its.serves_long ∙ sym h.mine.serves_long)

hand_both : (id other : ℕ) (v w : View) (e : Elements) → Two id other v w e → HandIs id (both v w) (join_elements id other e)
hand_both id other v w e h = record {
  held_long = length-either v.own.held w.own.held ∙ h.mine.held_long;
  serves_long = length-either v.own.serves w.own.serves ∙ h.mine.serves_long;
  on_long = length-either_on v.own.on w.own.on ∙ h.mine.on_long;
  held = λ element. held_call id other element e ∙ (ap₂ (λ (a b : Bool). a || b) (h.mine.held element) (h.its.held element) ∙ sym (either_or v.own.held w.own.held element (h.its.held_long ∙ sym h.mine.held_long)));
  on = λ p s. both_on id other p v w e h (or_cases (serves v p) (serves w p) (sym (serves_either id other p v w e h) ∙ s));
  off = λ p s. let none = or_parts (serves v p) (serves w p) (sym (serves_either id other p v w e h) ∙ s) in
      either_on_first v.own.on w.own.on p (h.its.on_long ∙ sym h.mine.on_long) (h.its.off p none.1) ∙ h.mine.off p none.0;
  claimed = λ c is. absurd (cc);
  counted = λ c is. absurd (cc);
}

hand_emptied : (id other : ℕ) (v : View) (e : Elements) → id ≢ other → HandIs other (emptied v) (join_elements id other e)
hand_emptied id other v e ne = hand_idle other v.own.first no_processors false (emptied v) (join_elements id other e) refl (λ element. held_other id other element e ne)
    (λ p s. let no : serves (emptied v) p ≡ false = get_or-copies 8 false p in absurd (cc))

-- another hand has what it had
hand_third : (id other call : ℕ) (u : View) (e : Elements) → call ≢ id → call ≢ other → HandIs call u e → HandIs call u (join_elements id other e)
hand_third id other call u e ne ne' h = hand_kept call u e (join_elements id other e) h (λ x. held_third id other call x e ne ne')
    (λ p s. processor_renamed id other call call p e (running u p) (renamed_third id other call ne') (h.on p s)) (λ c. claim_third id other call c e ne') (λ c. count_third id other call c e ne ne')

-- who serves a processor after the join
before : (views : List View) (id other p : ℕ) (v w : View) (e : Elements) → get_elem? views id ≡ some v → get_elem? views other ≡ some w → Two id other v w e
    → (j : ℕ) (u : View) → get_elem? (set (set views id (both v w)) other (emptied v)) j ≡ some u → serves u p ≡ true → Passed (λ o. serves o p) (renamed id other) views j
before views id other p v w e at at' h = each_joined (λ (j : ℕ) (u : View). serves u p ≡ true → Passed (λ o. serves o p) (renamed id other) views j) views id other (both v w) (emptied v)
    (λ j u ne ne' there s. (j, u, there, s, sym (renamed_third id other j ne')))
    (λ s. ⊎_elim (λ s. (id, v, at, s, sym (renamed_call id other))) (λ s. (other, w, at', s, sym (renamed_other id other))) (or_cases (serves v p) (serves w p) (sym (serves_either id other p v w e h) ∙ s)))
    (λ s. let no : serves (emptied v) p ≡ false = get_or-copies 8 false p in absurd (cc))

-- the core's state after the join, except for its counting
abbrev joined : ℕ → ℕ → core.State → core.State
joined id other s = record s {
  queues = map (join_queue id other) s.queues;
  chains = map (join_chain id other) s.chains;
  elements = join_elements id other s.elements;
}

-- the schedule with the join
after_join : (id other : ℕ) (past : List Event) → IsAllowed past → id ≢ other
    → (elements_after (past ++ events.Join id other ∷ []) ≡ join_elements id other (elements_after past)) × IsAllowed (past ++ events.Join id other ∷ [])
after_join id other past allowed ne = let s : core.State = state_after past in let t : core.State = core.counted (joined id other s) in
    let more = after_more past (events.Join id other) t allowed (ap (λ (b : Bool). refused_if b UnknownName (Ok (joined id other s)) >>= λ next. Ok (core.counted next)) (ne_eqb id other ne)) in
    (elements_after_more past (events.Join id other) t (join_elements id other (elements_after past)) (ap (join_elements id other) (sym (elements_of past))) more.0, more.1)

-- what both had seen was earlier
seen_by : (v u : View) (events : List Event) → u.seen ≡ v.seen → Seen v events → Seen u events
seen_by v u events is s = record {
  schedule = subst (λ (z : Past). Begins z.object events) (sym is) s.schedule;
  grows = subst (λ (z : Past). Grows (elements_after z.object) (elements_after events)) (sym is) s.grows;
}

later_seen : (b : Bool) (v w u : View) (events : List Event) → u.seen ≡ (if b then w.seen else v.seen) → Seen v events → Seen w events → Seen u events
later_seen true v w u events is mine its = seen_by w u events is its
later_seen false v w u events is mine its = seen_by v u events is mine

-- the ends that exist after the join
ends_joined : (first n : ℕ) (views : List View) (id other : ℕ) (v w : View) → v.own.first ≡ first → EndsStand (nothing_of first) n views → get_elem? views id ≡ some v → get_elem? views other ≡ some w → other ≢ id → 1 ≤ v.member.ends
    → EndsStand (nothing_of first) n (set (set views id (both v w)) other (emptied v))
ends_joined first n views id other v w is k at at' ne live = subst (λ (z : ℕ). EndsStand (nothing_of z) n (set (set views id (both v w)) other (emptied v))) is
    (stand_join (nothing_of v.own.first) had_by_both n views id other v w (subst (λ (z : ℕ). EndsStand (nothing_of z) n views) (sym is) k) at at' ne live)

-- neither hand had a claim, and the others keep theirs
owned_joined : (views : List View) (id other : ℕ) (v w a b : View) (e : Elements) → get_elem? views id ≡ some v → get_elem? (set views id a) other ≡ some w → v.own.claimed ≡ None → w.own.claimed ≡ None
    → AllOwned views e → AllOwned (set (set views id a) other b) (join_elements id other e)
owned_joined views id other v w a b e at there idle idle' owned ring run below is =
    let old = open_joined id other e ring run is in let c = claim_of ring run (element_at (ring_at e ring) run) in
    subst (λ (x : ℕ). IsOwned (set (set views id a) other b) (claim_of ring run x)) (sym ((grows_joined id other e ring).items run old.0))
    (owned_set (set views id a) other w b c there (λ claims. none_some c w.own.claimed idle' claims) (owned_set views id v a c at (λ claims. none_some c v.own.claimed idle claims) (owned ring run below old)))

pub joins : (key : Shape) (id other : ℕ) (v w : View) → IsActive v → IsActive w → v.own.claimed ≡ None → w.own.claimed ≡ None → Joins (Rule key) id v other w (both v w) (emptied v)
joins key id other v w live live' idle idle' s k at ne there = let at' : get_elem? s.views other ≡ some w = sym (set_else s.views id other (both v w) ne) ∙ there in
    let e : Elements = elements_after k.events in let f : Elements = join_elements id other e in let ne' : id ≢ other = (λ z. ne (sym z)) in
    let two : Two id other v w e = record {
      mine = k.hands id v at;
      its = k.hands other w at';
      apart = λ p a b. ne' (k.sole id other p v w at at' a b);
    } in
    let after = after_join id other k.events k.allowed ne' in let event : Event = events.Join id other in
    let more : Grows e (elements_after (k.events ++ event ∷ [])) = subst (Grows e) (sym after.0) (grows_joined id other e) in
    let mine : Seen v (k.events ++ event ∷ []) = seen_more v k.events event (k.seen id v at) more in let its : Seen w (k.events ++ event ∷ []) = seen_more w k.events event (k.seen other w at') more in
    let here : IsValidStep (of_hands key.first) (joining (now_at k) id other) = real_event key s k no_word 0 event (sym (get_or-eq_default s.words 0 (let wide = k.shows.wide in omega arith))) after.1 more in
    let order = order_joined (of_hands key.first) (now_at k) s.views k.joiner id other v w k.are_joins k.order here at at' ne in record {
      events = k.events ++ event ∷ [];
      allowed = after.1;
      shows = subst (λ (z : Elements). WordsShow key.first z s.words) (sym after.0) (words_joined id other key.first e s.words k.shows);
      first = each_joined (λ (j : ℕ) (u : View). u.own.first ≡ key.first) s.views id other (both v w) (emptied v) (λ j u _ _ has. k.first j u has) (k.first id v at) (k.first id v at);
      seen = each_joined (λ (j : ℕ) (u : View). Seen u (k.events ++ event ∷ [])) s.views id other (both v w) (emptied v) (λ j u _ _ has. seen_more u k.events event (k.seen j u has) more)
          (later_seen (nat_lt (length v.course) (length w.course)) v w (both v w) (k.events ++ event ∷ []) refl mine its) (seen_by v (emptied v) (k.events ++ event ∷ []) refl mine);
      hands = each_joined (λ (j : ℕ) (u : View). HandIs j u (elements_after (k.events ++ event ∷ []))) s.views id other (both v w) (emptied v)
          (λ j u a b has. subst (HandIs j u) (sym after.0) (hand_third id other j u e a b (k.hands j u has)))
          (subst (HandIs id (both v w)) (sym after.0) (hand_both id other v w e two)) (subst (HandIs other (emptied v)) (sym after.0) (hand_emptied id other v e ne'));
      sole = λ i j p. one_passes (λ u. serves u p) (renamed id other) s.views (set (set s.views id (both v w)) other (emptied v)) (λ i j. k.sole i j p) (before s.views id other p v w e at at' two) i j;
      owned = subst (AllOwned (set (set s.views id (both v w)) other (emptied v))) (sym after.0) (owned_joined s.views id other v w (both v w) (emptied v) e at there idle idle' k.owned);
      strange = λ call element past. let below = at_below s.views id v at in let below' = at_below s.views other w at' in
          let past' : length s.views ≤ call = omega (arith, past, length-set (set s.views id (both v w)) other (emptied v), length-set s.views id (both v w)) in
          subst (λ (z : Elements). holds call element z ≡ false) (sym after.0) (held_third id other call element e (λ z. omega arith) (λ z. omega arith) ∙ k.strange call element past');
      steady = each_joined (λ (j : ℕ) (u : View). IsSteady u (k.events ++ event ∷ [])) s.views id other (both v w) (emptied v)
          (λ j u a b has up x low may. ap (λ (z : Elements). (thread_at z x).done) after.0 ∙ k.steady j u has up x low may)
          (λ up x low may. absurd (cc)) (λ up x low may. absurd (cc));
      undoubled = each_joined (λ (j : ℕ) (u : View). u.own.doubled ≡ false) s.views id other (both v w) (emptied v) (λ j u _ _ has. k.undoubled j u has)
          (let a = k.undoubled id v at in let b = k.undoubled other w at' in
          let c : any_both v.own.held w.own.held ≡ false = none_both v.own.held w.own.held (held_apart id other v w e ne (lawful_after k.events k.allowed) k.shows.threads two.mine two.its) in
          let d : any_both v.own.serves w.own.serves ≡ false = none_both v.own.serves w.own.serves two.apart in
          λ i. ((a i || b i) || c i) || d i)
          refl;
      made = subst (AreMade (k.events ++ event ∷ []))
          (sym (map-set made_of (set s.views id (both v w)) other (emptied v) ∙ ap (λ (z : List (List MadeEvent)). set z other []) (map-set made_of s.views id (both v w))))
          (made_join k.events (map made_of s.views) id other v.own.made w.own.made k.made (at_map made_of s.views id v at) (at_map made_of s.views other w at') ne);
      ends = ends_joined key.first (get_or s.words 0 0) s.views id other v w (k.first id v at) k.ends at at' ne live.0;
      joined = joined_join k.events s.views id other v w at at' ne live.0 live'.0 live.1 live'.1 k.joined;
      joiner = order.0;
      are_joins = order.1;
      order = order.2;
      newest = each_joined (λ (j : ℕ) (u : View). IsNewest u (order_to order.2)) s.views id other (both v w) (emptied v)
          (λ j u a b has whole up. absurd (no_other key.first (get_or s.words 0 0) s.views id j v u k.ends at live.0 has a whole))
          (λ whole up. absurd (cc)) (λ whole up. absurd (cc));
    }
