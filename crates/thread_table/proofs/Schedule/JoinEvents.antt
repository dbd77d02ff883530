-- The joins of the schedule, through each step of a hand, a split and a join.
use Rattle.thread_table.proofs.Common.{◌≡◌, ◌≢◌, ℕ, ◌+◌, ◌≤◌, ⊎_elim, Bool, true, false, cond, eq-eqb, ne_eqb, true≢false, List, [], ◌∷◌, ◌++◌, set, refl, sym, ap, ◌∙◌, arith, length-set, length-append, eqb_tells, total, length, count_by, if◌then◌else◌, some, some-ne-none, get_elem?, set_else, Event, at_below, View, uncounted, AreJoined, is_join, both, emptied}
use Rattle.thread_table.proofs.Lists.Entries.{each_put, each_push, each_joined}
use Rattle.std.specs.Prelude.{◌==◌}
use Rattle.std.proofs.lemmas.List.Sums.{sum_by_push}
use Rattle.event_theory.specs.declared.event.Event.TheVariants as events
use Rattle.table_theory.proofs.Totals.{total_set, total_push}
use Rattle.thread_table.specs.Joins.{is_join_of, times_joined}

-- one event more
pub count_more : (test : Event → Bool) (past : List Event) (event : Event) (b : Bool) → test event ≡ b → count_by test (past ++ event ∷ []) ≡ count_by test past + cond b 1 0
count_more test past event b is = sum_by_push (λ x. cond (test x) 1 0) past event ∙ ap (λ (z : Bool). count_by test past + cond z 1 0) is

pub count_same : (test : Event → Bool) (past : List Event) (event : Event) → test event ≡ false → count_by test (past ++ event ∷ []) ≡ count_by test past
count_same test past event is = let c = count_more test past event false is in omega arith

none_joined : (hand : ℕ) (event : Event) → is_join event ≡ false → is_join_of hand event ≡ false
none_joined hand (events.Join call other) plain = absurd (true≢false plain)
none_joined hand event plain = refl

pub none_uncounted : (v : View) → v.own.fresh ≡ true → uncounted v ≡ 0
none_uncounted v fresh = ap (λ (z : Bool). if z then 0 else (if v.member.ends == 0 then 0 else 1)) fresh

-- of a hand that exists
uncounted_by : (v : View) → 1 ≤ v.member.ends → uncounted v ≡ (if v.own.fresh then 0 else 1)
uncounted_by v live = ap (λ (z : Bool). if v.own.fresh then 0 else (if z then 0 else 1)) (ne_eqb v.member.ends 0 (λ z. omega arith))

pub one_uncounted : (v : View) → v.own.fresh ≡ false → 1 ≤ v.member.ends → uncounted v ≡ 1
one_uncounted v stale live = uncounted_by v live ∙ ap (λ (z : Bool). if z then 0 else 1) stale

pub same_uncounted : (v w : View) → w.own.fresh ≡ v.own.fresh → 1 ≤ v.member.ends → 1 ≤ w.member.ends → uncounted w ≡ uncounted v
same_uncounted v w same live live' = uncounted_by w live' ∙ (ap (λ (z : Bool). if z then 0 else 1) same ∙ sym (uncounted_by v live))

-- how often a hand was joined: once, if it no longer exists
abbrev gone : View → ℕ
gone v = if v.member.ends == 0 then 1 else 0

live_gone : (v : View) → 1 ≤ v.member.ends → gone v ≡ 0
live_gone v live = ap (λ (b : Bool). if b then 1 else 0) (ne_eqb v.member.ends 0 (λ e. omega arith))

times : (past : List Event) (views : List View) → AreJoined past views → (hand : ℕ) (v : View) → get_elem? views hand ≡ some v → times_joined hand past ≡ gone v
times past views j hand v at = ⊎_elim
    (λ none. j.once hand v at none.1 ∙ sym (ap (λ (b : Bool). if b then 1 else 0) none.0))
    (λ some. let live : 1 ≤ v.member.ends = let n = some.1 in omega arith in j.never hand v at live ∙ sym (live_gone v live))
    (eqb_tells v.member.ends 0)

are_joined : (past : List Event) (views : List View) → count_by is_join past ≡ total (λ v. v.member.joins) views + total uncounted views → ((hand : ℕ) (v : View) → get_elem? views hand ≡ some v → times_joined hand past ≡ gone v)
    → ((hand : ℕ) → length views ≤ hand → times_joined hand past ≡ 0) → AreJoined past views
are_joined past views number each strange = record {
  number = number;
  once = λ hand v at none. each hand v at ∙ ap (λ (b : Bool). if b then 1 else 0) (eq-eqb v.member.ends 0 none);
  never = λ hand v at live. each hand v at ∙ live_gone v live;
  strange = strange;
}

pub joined_first : (w : View) → w.member.ends ≡ 1 → w.member.joins ≡ 0 → w.own.fresh ≡ true → AreJoined [] (w ∷ [])
joined_first w one none fresh = are_joined [] (w ∷ []) (let n = none_uncounted w fresh in omega arith)
    (each_push (λ hand v. 0 ≡ gone v) [] w (λ hand v at. absurd (some-ne-none v (sym at))) (sym (live_gone w (omega arith)))) (λ hand far. refl)

-- an event that is no join
pub joined_event : (past : List Event) (event : Event) (views : List View) → is_join event ≡ false → AreJoined past views → AreJoined (past ++ event ∷ []) views
joined_event past event views plain j = let same : (hand : ℕ) → times_joined hand (past ++ event ∷ []) ≡ times_joined hand past = λ hand. count_same (is_join_of hand) past event (none_joined hand event plain) in record {
  number = count_same is_join past event plain ∙ j.number;
  once = λ hand v at no_end. same hand ∙ j.once hand v at no_end;
  never = λ hand v at stands. same hand ∙ j.never hand v at stands;
  strange = λ hand far. same hand ∙ j.strange hand far;
}

-- a step of a hand that exists
pub joined_set : (past : List Event) (views : List View) (id : ℕ) (v w : View) → get_elem? views id ≡ some v → 1 ≤ v.member.ends → 1 ≤ w.member.ends → w.member.joins + uncounted w ≡ v.member.joins + uncounted v
    → AreJoined past views → AreJoined past (set views id w)
joined_set past views id v w at live live' same j = are_joined past (set views id w)
    (let n = j.number in let t = total_set (λ (z : View). z.member.joins) views id v w at in let u = total_set uncounted views id v w at in omega arith)
    (each_put (λ hand u. times_joined hand past ≡ gone u) views id w (λ hand u ne has. times past views j hand u has) (j.never id v at live ∙ sym (live_gone w live')))
    (λ hand far. j.strange hand (let l = length-set views id w in omega arith))

-- a new hand
pub joined_new : (past : List Event) (views : List View) (w : View) → 1 ≤ w.member.ends → w.member.joins + uncounted w ≡ 0 → AreJoined past views → AreJoined past (views ++ w ∷ [])
joined_new past views w live none j = are_joined past (views ++ w ∷ [])
    (let n = j.number in let t = total_push (λ (z : View). z.member.joins) views w in let u = total_push uncounted views w in omega arith)
    (each_push (λ hand u. times_joined hand past ≡ gone u) views w (times past views j) (j.strange (length views) (omega arith) ∙ sym (live_gone w live)))
    (λ hand far. j.strange hand (let l = length-append views (w ∷ []) in omega arith))

-- a hand takes in another
pub joined_join : (past : List Event) (views : List View) (id other : ℕ) (v w : View) → get_elem? views id ≡ some v → get_elem? views other ≡ some w → other ≢ id → 1 ≤ v.member.ends → 1 ≤ w.member.ends → v.own.fresh ≡ true → w.own.fresh ≡ true
    → AreJoined past views → AreJoined (past ++ events.Join id other ∷ []) (set (set views id (both v w)) other (emptied v))
joined_join past views id other v w at at' ne live live' fresh fresh' j =
    let event : Event = events.Join id other in let new : List Event = past ++ event ∷ [] in let one : List View = set views id (both v w) in
    let there : get_elem? one other ≡ some w = set_else views id other (both v w) ne ∙ at' in
    let more : times_joined other new ≡ times_joined other past + 1 = count_more (is_join_of other) past event true (eq-eqb other other refl) in
    let same : (hand : ℕ) → hand ≢ other → times_joined hand new ≡ times_joined hand past = λ hand differ. count_same (is_join_of hand) past event (ne_eqb other hand (λ e. differ (sym e))) in
    are_joined new (set one other (emptied v))
    (let n = j.number in let c = count_more is_join past event true refl in
    let t = total_set (λ (z : View). z.member.joins) views id v (both v w) at in let t' = total_set (λ (z : View). z.member.joins) one other w (emptied v) there in
    let u = total_set uncounted views id v (both v w) at in let u' = total_set uncounted one other w (emptied v) there in let a = none_uncounted v fresh in let b = none_uncounted w fresh' in let d = one_uncounted (both v w) refl (omega arith) in omega arith)
    (each_joined (λ hand u. times_joined hand new ≡ gone u) views id other (both v w) (emptied v) (λ hand u _ differ has. same hand differ ∙ times past views j hand u has)
    (same id (λ e. ne (sym e)) ∙ (j.never id v at live ∙ sym (live_gone (both v w) (omega arith))))
    (let none = j.never other w at' live' in omega arith))
    (λ hand far. let below = at_below views other w at' in let l = length-set one other (emptied v) in let m = length-set views id (both v w) in
    same hand (λ z. omega arith) ∙ j.strange hand (omega arith))
