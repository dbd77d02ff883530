-- What a call adds to its hand's list, step by step.
use Rattle.thread_table.proofs.Common.{◌≡◌, inl, inr, get_or, None, Option, ℕ, ◌+◌, ◌<◌, Bool, true, false, cond, List, [], ◌∷◌, ◌++◌, ◌∙◌, refl, sym, ap, arith, append_assoc, append_cancel_left, count_by, sum_by-append, is_done, Event, ExtendsTrace, load, Begins, IsWhole, begins_trans, ELEMENTS, MadeEvent, View, Past, Course, made_in, MayStep, quiet, Step, steps_in, steps_by, seen_as, PerformsEvents, Sees, Found, State, Part}
use Rattle.std.proofs.lemmas.List.{append-nil}
use Rattle.table_theory.proofs.Reaching.{weaves_one, adds_after}
use Rattle.thread_table.specs.Entries.{left_by}
use Rattle.table_theory.proofs.Orders.{after}
use Rattle.thread_table.proofs.Schedule.Once.{counted_done}
use Rattle.thread_table.proofs.Schedule.Schedules.{allowed_before}

pub left_on : (past : Past) (xs ys : List Step) → left_by past (xs ++ ys) ≡ left_by (left_by past xs) ys
left_on past [] ys = refl
left_on past (e ∷ xs) ys = left_on e.next xs ys

-- one list of steps of the hand after another, if a step that it may count before and after both it may count between
pub acts_on : (u v w now now' last : View) (xs ys : List Step) → v.member.share ≡ u.member.share → PerformsEvents u xs now v → PerformsEvents v ys now' w → w ≡ seen_as last w
    → ((x : ℕ) → x < ELEMENTS → MayStep u x → MayStep w x → MayStep v x) → PerformsEvents u (xs ++ ys) last w
acts_on u v w now now' last xs ys share a b has bridge = let up : v.own.fresh ≡ true = ap (λ (z : View). z.own.fresh) a.has in record {
  adds = adds_after u v w xs ys share a.adds b.adds;
  has = has;
  seen = b.seen ∙ (ap (λ (z : Past). left_by z ys) a.seen ∙ sym (left_on u.seen xs ys));
  later = begins_trans u.seen.object v.seen.object w.seen.object a.later b.later;
  calm = λ fresh x low may after. let mid = bridge x low may after in let p = a.calm fresh x low may mid in let q = b.calm up x low mid after in omega arith;
}

-- the steps of an element are those that the events counted
pub steps_same : (v : View) (events : List Event) (s : Sees v events) (x : ℕ) → v.own.fresh ≡ true → x < ELEMENTS → MayStep v x → steps_in x events ≡ steps_in x v.seen.object
steps_same v events s x up low may = sym (counted_done events s.allowed x) ∙ (s.steady up x low may ∙ counted_done v.seen.object (allowed_before v.seen.object events s.seen.schedule s.allowed) x)

pub count_snoc : {A : Type 0} (p : A → Bool) (xs : List A) (x : A) → count_by p (xs ++ x ∷ []) ≡ count_by p xs + count_by p (x ∷ [])
count_snoc p xs x = sum_by-append (λ y. cond (p y) 1 0) xs (x ∷ [])

-- a step adds its entry
pub adds_step : (v w : View) (past : Course) (e : Step) → Begins v.course past → (IsWhole v.member.share → past ≡ v.course) → w.first ≡ v.first → w.steps ≡ v.steps ++ e ∷ [] → w.course ≡ past ++ e ∷ [] → ExtendsTrace v (e ∷ []) w
adds_step v w past e follows newest first steps course = record {
  first = first;
  entries_are = steps;
  since = follows.0 ++ e ∷ [];
  course_is = course ∙ (ap (λ (z : Course). z ++ e ∷ []) (sym follows.1) ∙ append_assoc v.course follows.0 (e ∷ []));
  own = weaves_one follows.0 e;
  alone = λ whole. ap (λ (z : Course). z ++ e ∷ []) (append_cancel_left v.course follows.0 [] (follows.1 ∙ (newest whole ∙ sym (append-nil v.course))));
}

-- a step that leaves the schedule as it was
pub acts_kept : (v w now : View) (past : Course) (e : Step) → Begins v.course past → (IsWhole v.member.share → past ≡ v.course) → Sees v w.seen.object → w.first ≡ v.first → w.steps ≡ v.steps ++ e ∷ [] → w.course ≡ past ++ e ∷ [] → w.seen ≡ e.next → w.own.made ≡ v.own.made
    → w ≡ seen_as now w → PerformsEvents v (e ∷ []) now w
acts_kept v w now past e follows newest sees first steps course left made has = record {
  adds = adds_step v w past e follows newest first steps course;
  has = has;
  seen = left;
  later = sees.seen.schedule;
  calm = λ up x low may after. let same = steps_same v w.seen.object sees x up low may in let made' = ap (λ (z : List MadeEvent). steps_by x z) made in omega arith;
}

-- the view after a step, after which the hand has what `now` has
abbrev pub stepped : View → View → Course → Step → View
stepped v now past e = after v (record now.own { fresh = true }) now.member past e

-- a step adds its entry, if it counts the steps that it makes
pub acts_step : (v now : View) (past : Course) (e : Step) → Begins v.course past → (IsWhole v.member.share → past ≡ v.course) → Sees v e.then.object → Begins e.then.object e.next.object
    → ((x : ℕ) → steps_in x e.next.object + steps_by x v.own.made ≡ steps_in x e.then.object + steps_by x now.own.made) → PerformsEvents v (e ∷ []) now (stepped v now past e)
acts_step v now past e follows newest sees grows counts = record {
  adds = adds_step v (stepped v now past e) past e follows newest refl refl refl;
  has = refl;
  seen = refl;
  later = begins_trans v.seen.object e.then.object e.next.object sees.seen.schedule grows;
  calm = λ up x low may after. let same = steps_same v e.then.object sees x up low may in let c = counts x in omega arith;
}

-- an event is counted in the schedule and in the hand's list
pub event_counts : (x : ℕ) (past : List Event) (made : List MadeEvent) (event : Event) (s : State) → steps_in x (past ++ event ∷ []) + steps_by x made ≡ steps_in x past + steps_by x (made ++ made_in event s ∷ [])
event_counts x past made event s = let a = count_snoc (is_done x) past event in let b = count_snoc (λ (z : MadeEvent). is_done x z.event) made (made_in event s) in omega arith

-- what a hand may step depends on what it has
pub may_as : (v w : View) → w.own.held ≡ v.own.held → w.own.serves ≡ v.own.serves → w.own.on ≡ v.own.on → (x : ℕ) → MayStep v x → MayStep w x
may_as v w held serve on x (inl h) = inl (ap (λ (l : List Bool). get_or l x false) held ∙ h)
may_as v w held serve on x (inr h) = inr (h.0, ap (λ (l : List Bool). get_or l h.0 false) serve ∙ h.1, ap (λ (l : List (Option ℕ)). get_or l h.0 None) on ∙ h.2)

-- one look after what the hand did
pub then_found : (u v w now : View) (xs : List Step) (word found : ℕ) → now.member ≡ u.member → PerformsEvents u xs now v → Found v word found w → PerformsEvents u (xs ++ load word found w.seen ∷ []) (quiet now) w
then_found u v w now xs word found member a f = let b = f.acts in
    acts_on u v w now (quiet v) (quiet now) xs (load word found w.seen ∷ []) (ap (λ (z : View). z.member.share) a.has ∙ ap (λ (m : Part). m.share) member) a b (b.has ∙ ap (λ (z : View). seen_as (quiet z) w) a.has)
    (λ x low before after. may_as w v (sym (ap (λ (z : View). z.own.held) b.has)) (sym (ap (λ (z : View). z.own.serves) b.has)) (sym (ap (λ (z : View). z.own.on) b.has)) x after)

pub acts_two : (u v w : View) (i r j s : ℕ) → Found u i r v → Found v j s w → PerformsEvents u (load i r v.seen ∷ load j s w.seen ∷ []) (quiet u) w
acts_two u v w i r j s a b = then_found u v w (quiet u) (load i r v.seen ∷ []) j s refl a.acts b

-- what the hand did after looks, of which it says no more than of what it had
pub then_acts : (u v w : View) (leaves : View → View) (xs ys : List Step) → PerformsEvents u xs (quiet u) v → PerformsEvents v ys (leaves v) w → seen_as (leaves (seen_as (quiet u) v)) w ≡ seen_as (leaves u) w → PerformsEvents u (xs ++ ys) (leaves u) w
then_acts u v w leaves xs ys a b same = acts_on u v w (quiet u) (leaves v) (leaves u) xs ys (ap (λ (z : View). z.member.share) a.has) a b (b.has ∙ (ap (λ (z : View). seen_as (leaves z) w) a.has ∙ same))
    (λ x low before after. may_as u v (ap (λ (z : View). z.own.held) a.has) (ap (λ (z : View). z.own.serves) a.has) (ap (λ (z : View). z.own.on) a.has) x before)
