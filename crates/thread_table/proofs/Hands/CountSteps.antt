-- The steps that count hands, and the one that finds how many steps an element had done, keep the rule.
use Rattle.thread_table.proofs.Common.{IsUsed, by_ends, unused_kept, ◌≡◌, ℕ, suc, ◌+◌, ◌-◌, ◌%◌, ◌<◌, ◌≤◌, true, false, List, get_or, set, Some, Option, option_map, sym, refl, ap, ◌∙◌, subst, ⊎_elim, arith, length-set, get_or-set_same, get_or-set_other, slice_get, or_left, or_right, list_any_at, slice_get_within, get_or_from_slice_get, Hold, list_any, set-get_or, some, none, get_elem?, Me, keeps, Allows, Part, IsValidStep, EndsStand, load, count_up, count_down, stays, more, fewer, Event, Elements, hold, holds, is_put, stand_same, ELEMENTS, Shape, begins_refl, View, Counted, Past, thread_at, ends_word, done_word, WordsShow, uncounted, IsActive, HandIs, IsCounted, Rule, MayStep, nothing_of, may_step, count_of, HandStands, had_by_both, having_found, of_hands, set_here, at_below}
use Rattle.thread_table.proofs.Hands.Releases.{hold_own}
use Rattle.thread_table.proofs.Shown.QueueWords.{ring_kept, shows_else}
use Rattle.atomic_table.specs.Table.{step}
use Rattle.table_theory.specs.Ledgers.{Step}
use Rattle.table_theory.specs.Plays.{counts}
use Rattle.table_theory.proofs.Standing.{stand_up, stand_down, number_is}
use Rattle.thread_table.specs.Schedules.{elements_after}
use Rattle.thread_table.proofs.Schedule.JoinEvents.{joined_set, none_uncounted, one_uncounted}
use Rattle.thread_table.specs.Steps.{after, with_split, with_join, counts_up, counts_down, HasTallied, reads_pc}
use Rattle.thread_table.proofs.Schedule.Acting.{stepped}
use Rattle.thread_table.proofs.Hands.OnlyLoads.{St, steps_to, now_at, hand_counts, hand_quiet, stood_look, real_step, kept, kept_look, found_now, sees_of, valid_of, looked, stepped_now}

shows_count : (first y : ℕ) (e : Elements) (words : List ℕ) → WordsShow first e words → WordsShow first e (set words 0 y)
shows_count first y e words h = let same : (k : ℕ) → 1 ≤ k → get_or (set words 0 y) k 0 ≡ get_or words k 0 = λ k from. get_or-set_other words 0 k y 0 (λ z. omega arith) in
    shows_else first e e.rings e.notified e.held words (set words 0 y) h refl refl (length-set words 0 y) (λ k from to. same k from)
    (λ ring b. ring_kept first e e ring words (set words 0 y) refl refl (λ k from to. same k (omega arith)) (h.rings ring b)) (unused_kept IsUsed words 0 y (by_ends refl) h.unused)

-- the rule, where the number of hands becomes y, and another of them of the hand
pub kept_count : (key : Shape) (s : St) (k : Rule key s) (id y : ℕ) (v : View) (m : Part) (e : Step (List Event)) → e.then ≡ now_at k → IsValidStep (of_hands key.first) e → e.next ≡ record (now_at k) { ends = y } → get_elem? s.views id ≡ some v → 1 ≤ v.member.ends → 1 ≤ m.ends → m.joins ≡ v.member.joins + uncounted v
    → EndsStand (nothing_of key.first) y (set s.views id (after (record v { member = m }) (steps_to k) e))
    → Rule key record { words = set s.words 0 y; homes = s.homes; views = set s.views id (after (record v { member = m }) (steps_to k) e) }
kept_count key s k id y v m e found real leaves at live live' counts stand = let wide = k.shows.wide in let w : View = after (record v { member = m }) (steps_to k) e in let is : get_or (set s.words 0 y) 0 0 ≡ y = get_or-set_same s.words 0 y 0 (omega arith) in
    let sees : w.seen.object ≡ k.events = ap (λ (z : Past). z.object) leaves in
    kept key s k id (set s.words 0 y) v w w.own m e refl found real (leaves ∙ ap (λ (z : ℕ). record (now_at k) { ends = z }) (sym is)) at live (shows_count key.first y (elements_after k.events) s.words k.shows) refl sees refl refl (refl, refl)
    (hand_quiet id v w (elements_after k.events) refl refl refl refl refl (k.hands id v at))
    (subst (λ (n : ℕ). EndsStand (nothing_of key.first) n (set s.views id w)) (sym is) stand)
    (joined_set k.events s.views id v w at live live' (omega arith) k.joined)

pub ups : (key : Shape) (n id call : ℕ) (me : Me Unit View) → call ≡ id → me.0.member.ends + 1 ≤ me.0.member.share → IsActive me.0 → Allows (Rule key) n id me 0 (λ x. (x + 1) % 18446744073709551616) (counts_up call (step n 0 1 0 none) me)
ups key n id call me mine parts live s k _ at _ = let stands = live.0 in let v : View = me.0 in let c : ℕ = get_or s.words 0 0 in let y : ℕ = (c + 1) % 18446744073709551616 in let m : Part = with_split v.member in let e : Step (List Event) = count_up ends_word (now_at k) in
    let w : View = after (record v { member = m }) (steps_to k) e in
    let t = stand_up (nothing_of key.first) had_by_both c s.views id v w k.ends at parts refl in
    let real : IsValidStep (of_hands key.first) e = real_step key s k 0 c e.next refl (more refl) in
    let counts : Rule key record { words = set s.words 0 y; homes = s.homes; views = set s.views id w } = kept_count key s k id y v m e refl real (ap (λ (z : ℕ). record (now_at k) { ends = z }) (sym t.0)) at live.0 (omega arith) (let n = none_uncounted v live.1 in omega arith)
    (subst (λ (z : ℕ). EndsStand (nothing_of key.first) z (set s.views id w)) (sym t.0) t.1) in (
      w,
      keeps,
      tt,
      counts,
      (refl, record { past = steps_to k; follows = k.order.course.seen (suc id) v at; newest = λ whole. k.newest id v at whole live.1; before = now_at k; same = refl; sees = sees_of key s k id v at; valid = valid_of key _ counts id w (set_here s.views id w (at_below s.views id v at)) }, subst (λ (z : ℕ). HandStands z w) (sym mine) (hand_quiet id v w (elements_after k.events) refl refl refl refl refl (k.hands id v at))),
    )

pub downs : (key : Shape) (n id call : ℕ) (me : Me Unit View) → call ≡ id → 2 ≤ me.0.member.ends → me.0.own.fresh ≡ false → Allows (Rule key) n id me 0 (λ x. (x + (18446744073709551616 - 1)) % 18446744073709551616) (counts_down call (step n 0 1 0 none) me)
downs key n id call me mine live stale s k _ at _ = let v : View = me.0 in let c : ℕ = get_or s.words 0 0 in let y : ℕ = (c + (18446744073709551616 - 1)) % 18446744073709551616 in let m : Part = with_join v.member in let e : Step (List Event) = count_down ends_word (now_at k) in
    let w : View = after (record v { member = m }) (steps_to k) e in
    let t = stand_down (nothing_of key.first) had_by_both c s.views id v w k.ends at live refl in
    let real : IsValidStep (of_hands key.first) e = real_step key s k 0 c e.next refl (fewer refl t.1) in
    let counts : Rule key record { words = set s.words 0 y; homes = s.homes; views = set s.views id w } = kept_count key s k id y v m e refl real (ap (λ (z : ℕ). record (now_at k) { ends = z }) (sym t.0)) at (omega arith) (omega arith) (let n = one_uncounted v stale (omega arith) in omega arith)
    (subst (λ (z : ℕ). EndsStand (nothing_of key.first) z (set s.views id w)) (sym t.0) t.2) in (
      w,
      keeps,
      tt,
      counts,
      (
        refl,
        record {
          past = steps_to k;
          follows = k.order.course.seen (suc id) v at;
          joined = k.order.joined (suc id) v at;
          one_object = k.order.joined_first (suc id) v at ∙ sym (k.order.first_is (suc id) v at);
          before = now_at k;
          same = refl;
          sees = sees_of key s k id v at;
          valid = valid_of key _ counts id w (set_here s.views id w (at_below s.views id v at));
        },
        subst (λ (z : ℕ). HandStands z w) (sym mine) (hand_quiet id v w (elements_after k.events) refl refl refl refl refl (k.hands id v at)),
      ),
    )

-- the number of hands is found
pub tallies_ends : (key : Shape) (n id call : ℕ) (me : Me Unit View) → call ≡ id → me.0.member.ends ≡ 1 → me.0.own.fresh ≡ true → Allows (Rule key) n id me 0 (λ x. x) (counts (HasTallied call) (step n 0 0 0 none) me)
tallies_ends key n id call me mine live fresh s k _ at _ = let v : View = me.0 in let c : ℕ = get_or s.words 0 0 in let active : IsActive v = (omega arith, fresh) in (
  looked v 0 c (steps_to k) (now_at k),
  keeps,
  tt,
  kept_look key s k 0 id c v refl at active,
  (refl, (record { looked = found_now key s k 0 id v at active; number = refl; count = number_is (nothing_of key.first) had_by_both c s.views id v k.ends at live }, subst (λ (z : ℕ). HandStands z (looked v 0 c (steps_to k) (now_at k))) (sym mine) (stood_look key s k id 0 c v at))),
)

some_count : (a b : Counted) → ◌≡◌ {A = Option Counted} (Some a) (Some b) → a ≡ b
some_count a b is = cc

-- a hand that holds an element, or has it on a processor, may count a step of it
pub may_of : (call : ℕ) (v : View) (e : Elements) (element : ℕ) → HandIs call v e → MayStep v element → may_step call element e ≡ true
may_of call v e element h may = ⊎_elim
    (λ held. or_left (holds call element e) (list_any (is_put call element) e.processors) (h.held element ∙ held))
    (λ on. let seat : Option Hold = Some (hold call element) in
    let there : slice_get e.processors on.0 ≡ Some seat = h.on on.0 on.1 ∙ ap (λ (z : Option ℕ). Some (option_map (hold call) z)) on.2 in
    or_right (holds call element e) (list_any (is_put call element) e.processors) (list_any_at (is_put call element) e.processors on.0 seat (slice_get_within e.processors on.0 seat there)
    (ap (is_put call element) (get_or_from_slice_get e.processors on.0 seat seat there) ∙ hold_own call element)))
    may

-- the number of steps that an element had done is found
pub counts_done : (key : Shape) (n id call : ℕ) (me : Me Unit View) (element : ℕ) → call ≡ id → element < ELEMENTS → MayStep me.0 element → IsActive me.0 → Allows (Rule key) n id me (done_word element) (λ x. x) (reads_pc call element (step n (done_word element) 0 0 none) me)
counts_done key n id call me element mine known may live s k _ at _ = let v : View = me.0 in let e : Elements = elements_after k.events in let i : ℕ = done_word element in let found : ℕ = get_or s.words i 0 in
    let now : View = having_found v (count_of element found) in let w : View = stepped v now (steps_to k) (load i found (now_at k)) in let is : found ≡ (thread_at e element).done = k.shows.steps element known in
    let hand : HandIs id w e = (hand_counts id v w e refl refl refl refl (λ c has. subst (λ (z : Counted). IsCounted id z e) (some_count (count_of element found) c has) record { known = known; may = may_of id v e element (k.hands id v at) may; done = sym is }) (k.hands id v at)) in
    let counts : Rule key record { words = set s.words i found; homes = s.homes; views = set s.views id w } = subst (λ (z : List ℕ). Rule key record { words = z; homes = s.homes; views = set s.views id w }) (sym (set-get_or s.words i 0))
    (kept key s k id s.words v w w.own v.member (load i found (now_at k)) refl refl (real_step key s k i found (now_at k) refl (stays refl)) refl at live.0 k.shows refl refl refl refl (refl, refl)
    hand
    (stand_same (nothing_of key.first) had_by_both (get_or s.words 0 0) s.views id v w k.ends at live.0 refl)
    (joined_set k.events s.views id v w at live.0 live.0 (let n = none_uncounted v live.1 in omega arith) k.joined)) in (
      w,
      keeps,
      tt,
      counts,
      (refl, stepped_now key s _ k counts id v now i found (now_at k) at live.1 (set_here s.views id w (at_below s.views id v at)) refl (begins_refl k.events) (λ x. refl), subst (λ (z : ℕ). HandStands z w) (sym mine) hand),
    )

-- the same, where the word has another name
pub counts_at : (key : Shape) (n id call element i : ℕ) (me : Me Unit View) → call ≡ id → i ≡ done_word element → IsActive me.0 → element < ELEMENTS → MayStep me.0 element
    → Allows (Rule key) n id me i (λ x. x) (reads_pc call element (step n i 0 0 none) me)
counts_at key n id call element i me mine place live known may =
    subst (λ (z : ℕ). Allows (Rule key) n id me z (λ x. x) (reads_pc call element (step n z 0 0 none) me)) (sym place) (counts_done key n id call me element mine known may live)
