-- The parts that a hand keeps over several steps, what the steps add, and that none of its elements is counted a step.
use Rattle.turn_dispatch.proofs.Common.{inl, inr, ∥∥₁_elim, ℕ_set, append-nil, MadeEvent, View, steps_in, MayStep, done_at, has, IsValidHandView, quiet, counted_done, IsFree, OnlyAdds, Steady, Tally, tally, followed_by, no_events, AddsToTally, ◌≡◌, ℕ, ◌+◌, ◌<◌, true, false, List, [], ◌++◌, get_or, Some, None, refl, sym, ap, ◌∙◌, arith, Step, PerformsEvents, IsCalm, serves, running, IsOn}
use Rattle.table_theory.specs.Ends.{Begins}
use Rattle.table_theory.proofs.Ends.{begins_refl, begins_trans}
use Rattle.thread_table.specs.Keeping.{Keeps}
use Rattle.turn_dispatch.proofs.Tallies.{adds_on, adds_before, adds_more, reported_steps, reported_more}

-- the hand has made a step, and only the hand counted steps of what it has before and after
pub record Calm (v w : View) : Type 0 where
  pub fresh : w.own.fresh ≡ true
  pub calm : IsCalm v w

-- its processors are unchanged, its events add this, and the events that it has seen are a beginning of those that it sees
pub record Goes (more : Tally) (v w : View) : Type 0 where
  pub keeps : Keeps v w
  pub adds : AddsToTally more v w
  pub calm : Calm v w
  pub later : Begins v.seen.object w.seen.object

-- the hand holds in between each element that it holds before and after
abbrev pub Bridges : View → View → View → Type 0
Bridges u v w = (e : ℕ) → e < 64 → has u e ≡ true → has w e ≡ true → has v e ≡ true

on_still : (v w : View) (e : ℕ) → w.own.serves ≡ v.own.serves → w.own.on ≡ v.own.on → ((p : ℕ) × (serves v p ≡ true) × (running v p ≡ Some e)) → (p : ℕ) × (serves w p ≡ true) × (running w p ≡ Some e)
on_still v w e serve stand on = (on.0, ap (λ xs. get_or xs on.0 false) serve ∙ on.1, ap (λ xs. get_or xs on.0 None) stand ∙ on.2)

in_between : (u v w : View) (e : ℕ) → Keeps u v → Keeps v w → (has u e ≡ true → has w e ≡ true → has v e ≡ true) → MayStep u e → MayStep w e → MayStep v e
in_between u v w e a b h (inr on) other = inr (on_still u v e a.serves a.on on)
in_between u v w e a b h (inl held) (inl still) = inl (h held still)
in_between u v w e a b h (inl held) (inr on) = inr (on_still w v e (sym b.serves) (sym b.on) on)

pub keeps_on : (u v w : View) → Keeps u v → Keeps v w → Keeps u w
keeps_on u v w a b = record { first = b.first ∙ a.first; serves = b.serves ∙ a.serves; on = b.on ∙ a.on; share = b.share ∙ a.share }

calm_on : (u v w : View) → Keeps u v → Keeps v w → v.own.fresh ≡ true → IsCalm u v → IsCalm v w → Bridges u v w → IsCalm u w
calm_on u v w a b new x y bridge up e low may after =
    let mid = in_between u v w e a b (bridge e low) may after in
    let p = x up e low may mid in
    let q = y new e low mid after in
    omega arith

pub goes_on : (s t : Tally) (u v w : View) → Goes s u v → Goes t v w → Bridges u v w → Goes (followed_by s t) u w
goes_on s t u v w a b bridge = record {
  keeps = keeps_on u v w a.keeps b.keeps;
  adds = adds_on s t u v w a.adds b.adds;
  calm = record { fresh = b.calm.fresh; calm = calm_on u v w a.keeps b.keeps a.calm.fresh a.calm.calm b.calm.calm bridge };
  later = begins_trans u.seen.object v.seen.object w.seen.object a.later b.later;
}

-- several steps, if the first ones add nothing, and if the last ones add nothing
pub goes_after : (t : Tally) (u v w : View) → Goes no_events u v → Goes t v w → Bridges u v w → Goes t u w
goes_after t u v w a b bridge = goes_on no_events t u v w a b bridge

pub goes_before : (t : Tally) (u v w : View) → Goes t u v → Goes no_events v w → Bridges u v w → Goes t u w
goes_before t u v w a b bridge = let g = goes_on t no_events u v w a b bridge in record { keeps = g.keeps; adds = adds_before t u v w a.adds b.adds; calm = g.calm; later = g.later }

-- if the hand holds the same elements on one side
pub left : (u v w : View) → v.own.held ≡ u.own.held → Bridges u v w
left u v w same e low held still = ap (λ xs. get_or xs e false) same ∙ held

pub right : (u v w : View) → w.own.held ≡ v.own.held → Bridges u v w
right u v w same e low held still = ap (λ xs. get_or xs e false) (sym same) ∙ still

-- only that, and nothing was added
abbrev pub OnlyLoads : View → View → Type 0
OnlyLoads v w = Goes no_events v w × (w.own.held ≡ v.own.held)

pub looks_none : (v : View) → v.own.fresh ≡ true → OnlyLoads v v
looks_none v up = (
  record {
    keeps = record { first = refl; serves = refl; on = refl; share = refl };
    adds = adds_more no_events v v [] (sym (append-nil v.own.made)) refl;
    calm = record { fresh = up; calm = λ _ e low may after. refl };
    later = begins_refl v.seen.object;
  },
  refl,
)

pub looks_on : (u v w : View) → OnlyLoads u v → OnlyLoads v w → OnlyLoads u w
looks_on u v w a b = (goes_before no_events u v w a.0 b.0 (left u v w a.1), b.1 ∙ a.1)

-- the hand after entries
pub acts_goes : (more : Tally) (v w now : View) (entries : List Step) (l : List MadeEvent) → Keeps v now → now.own.made ≡ v.own.made ++ l → tally l ≡ more → PerformsEvents v entries now w → Goes more v w
acts_goes more v w now entries l k grew is a = record {
  keeps = record {
    first = ap (λ (z : View). z.own.first) a.has ∙ k.first;
    serves = ap (λ (z : View). z.own.serves) a.has ∙ k.serves;
    on = ap (λ (z : View). z.own.on) a.has ∙ k.on;
    share = ap (λ (z : View). z.member.share) a.has ∙ k.share;
  };
  adds = adds_more more v w l (ap (λ (z : View). z.own.made) a.has ∙ grew) is;
  calm = record { fresh = ap (λ (z : View). z.own.fresh) a.has; calm = a.calm };
  later = a.later;
}

pub acts_held : (v w now : View) (entries : List Step) → PerformsEvents v entries now w → w.own.held ≡ now.own.held
acts_held v w now entries a = ap (λ (z : View). z.own.held) a.has

-- loads alone
pub acts_look : (v w : View) (entries : List Step) → PerformsEvents v entries (quiet v) w → OnlyLoads v w
acts_look v w entries a = (
  acts_goes no_events v w (quiet v) entries [] record { first = refl; serves = refl; on = refl; share = refl } (sym (append-nil v.own.made)) refl a,
  acts_held v w (quiet v) entries a,
)

-- how many steps of what a hand has were counted
pub steps_more : (more : Tally) (v w : View) (e : ℕ) → v.own.fresh ≡ true → AddsToTally more v w → IsCalm v w → e < 64 → MayStep v e → MayStep w e → steps_in e w.seen.object ≡ steps_in e v.seen.object + reported_steps e more
steps_more more v w e up adds calm low may after =
    let c = calm up e low may after in
    let m = reported_more e more v w adds in
    omega arith

-- the events that a hand has seen count the steps that an element has done
pub done_is : (v : View) (e : ℕ) → ∥ IsValidHandView v ∥₁ → done_at v.seen.object e ≡ steps_in e v.seen.object
done_is v e reported = ∥∥₁_elim reported (ℕ_set (done_at v.seen.object e) (steps_in e v.seen.object)) (λ (h : IsValidHandView v). counted_done v.seen.object h.allowed e)

-- if no step was counted
pub steady_by : (more : Tally) (v w : View) → ((e : ℕ) → reported_steps e more ≡ 0) → v.own.fresh ≡ true → ∥ IsValidHandView v ∥₁ → ∥ IsValidHandView w ∥₁ → AddsToTally more v w → IsCalm v w → Steady v w
steady_by more v w none up before followed_by adds calm e low may after =
    let s = steps_more more v w e up adds calm low may after in
    let n = none e in
    let x = done_is v e before in
    let y = done_is w e followed_by in
    omega arith

pub steady : (more : Tally) (v w : View) → ((e : ℕ) → reported_steps e more ≡ 0) → v.own.fresh ≡ true → ∥ IsValidHandView v ∥₁ → ∥ IsValidHandView w ∥₁ → Goes more v w → Steady v w
steady more v w none up before followed_by g = steady_by more v w none up before followed_by g.adds g.calm.calm

-- the hand keeps all that it had, and its events add this
pub only : (more : Tally) (v w : View) → ((e : ℕ) → reported_steps e more ≡ 0) → v.own.fresh ≡ true → ∥ IsValidHandView v ∥₁ → ∥ IsValidHandView w ∥₁ → Goes more v w → w.own.held ≡ v.own.held → OnlyAdds more v w
only more v w none up before followed_by g same = record { keeps = g.keeps; holds = λ e. ap (λ xs. get_or xs e false) same; adds = g.adds; steady = steady more v w none up before followed_by g }

-- a free processor stays free, and an element on a processor stays there
pub still_free : (p : ℕ) (v w : View) → Keeps v w → IsFree p v → IsFree p w
still_free p v w k f = (ap (λ xs. get_or xs p false) k.serves ∙ f.0, ap (λ xs. get_or xs p None) k.on ∙ f.1)

pub still_on : (p element : ℕ) (v w : View) → Keeps v w → IsOn p element v → IsOn p element w
still_on p element v w k f = (ap (λ xs. get_or xs p false) k.serves ∙ f.0, ap (λ xs. get_or xs p None) k.on ∙ f.1)
