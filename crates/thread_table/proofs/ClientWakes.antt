-- What the steps of a notify and of the wakes mean for their caller.
use Rattle.thread_table.proofs.Common.{◌≡◌, ◌⊎◌, inl, inr, ℕ, suc, ◌+◌, ◌<◌, List, [], ◌∷◌, ◌++◌, ◌∙◌, refl, sym, ap, subst, arith, map, Result, Ok, Err, Option, Some, None, flat_map, append_assoc, map-append, AllByRecursion, load, change, Event, Past, Step, RINGS, WAITS, MadeEvent, View, NextRefusal, IsValidHandView, take_event, head_word, tail_word, place_word, wait_ring, BeforeAnswer, NotifiedNow, head_in, Found}
use Rattle.std.specs.Prelude.{MatchResult}
use Rattle.event_theory.specs.declared.event.Event.TheVariants as events
use Rattle.table_theory.specs.Ledgers.{ExtendsTrace}
use Rattle.table_theory.specs.Moments.{AtTwoMoments}
use Rattle.table_theory.proofs.Moments.{moment_after, moment_then, two_after}
use Rattle.table_theory.proofs.Reaching.{adds_after, all_after}
use Rattle.thread_table.proofs.Clients.{event_in, Are, look_effect, one_made, take_effect, real_after}
use Rattle.thread_table.specs.declared.takings.NextRefusal.TheVariants as nexts
use Rattle.thread_table.specs.Wakes.{Try, took, missed, entries_of, IsTry, made_by_try, WokeAll}
use Rattle.std.proofs.lemmas.List.Concat.{flat_map-append}
use Rattle.thread_table.specs.Keeping.{Keeps}
use Rattle.thread_table.proofs.Hands.Unchanged.{keeps_by}
use Rattle.thread_table.specs.Client.{queue_after, events_of, Made, MadeNothing, MadeOnly, TookOldest, WhyNotTaken, NotifyFound, BeforeDid, BeforeFound, WhyNotBefore, takings, Woke, WokeAllBefore, WokeNoMore}
use Rattle.thread_table.specs.Telling.{IsValidHandStep}
use Rattle.thread_table.proofs.Events.Saying.{head_says, tail_says}

pub notify_effect : (call wait head : ℕ) (v w : View) → NotifiedNow call v wait head w → MadeOnly v (events.NotifyWait call wait ∷ []) w
notify_effect call wait head v w (word, r, is, acts) = one_made v w _ _ (events.NotifyWait call wait) 0 [] acts refl refl (inr (events.NotifyWait call wait, [], refl, refl, refl))

pub notify_result : (call wait head : ℕ) (v w : View) → wait < WAITS → IsValidHandView w → NotifiedNow call v wait head w → NotifyFound call wait head v w
notify_result call wait head v w low h (word, r, is, acts) = let one : Step = change (head_word (wait_ring wait)) word r (events.NotifyWait call wait) in let same : w.own.first ≡ v.own.first = ap (λ (z : View). z.own.first) acts.has in
    let below : wait_ring wait < RINGS = omega arith in let found = (head_says w.own.first one (real_after v w h [] (one ∷ []) acts.adds).0 (wait_ring wait) below refl).0 in
    record { before = []; step = one; after = []; adds = acts.adds; makes = refl; holds = omega arith }

pub before_effect : (call ring head : ℕ) (v w : View) (r : Result (Option ℕ) NextRefusal) → BeforeAnswer call v ring head r w → MatchResult r (λ taken. BeforeDid call ring taken v w) (λ refusal. MadeNothing v w)
before_effect call ring head v w (Ok None) (tail, q, reached, acts) = look_effect v w _ acts (refl, tt)
before_effect call ring head v w (Ok (Some element)) (tail, q, less, a) = take_effect (load (tail_word ring) tail q ∷ []) call ring v w (Ok element) (refl, tt) a
before_effect call ring head v w (Err refusal) (tail, q, less, a) = take_effect (load (tail_word ring) tail q ∷ []) call ring v w (Err refusal) (refl, tt) a

pub before_reached : (call ring head : ℕ) (v w : View) → ring < RINGS → IsValidHandView w → BeforeAnswer call v ring head (Ok None) w → BeforeFound call ring head None v w
before_reached call ring head v w below h (tail, q, reached, acts) = let one : Step = load (tail_word ring) tail q in let same : w.own.first ≡ v.own.first = ap (λ (z : View). z.own.first) acts.has in
    let is = tail_says w.own.first one (real_after v w h [] (one ∷ []) acts.adds).0 ring below refl in record { before = []; step = one; after = []; adds = acts.adds; holds = omega arith }

-- how many of these tries took an element
abbrev pub number_took : List Try → ℕ
number_took [] = 0
number_took (took before tail place q r s t ∷ tries) = suc (number_took tries)
number_took (missed before tail place seen q r s t ∷ tries) = number_took tries

tries_list : (call ring : ℕ) (tries : List Try) → map event_in (flat_map (made_by_try call ring) tries) ≡ takings call ring (number_took tries)
tries_list call ring [] = refl
tries_list call ring (took before tail place q r s t ∷ tries) = ap (λ (z : List Event). take_event call ring ∷ z) (tries_list call ring tries)
tries_list call ring (missed before tail place seen q r s t ∷ tries) = tries_list call ring tries

tries_made : (call ring : ℕ) (tries : List Try) (e : Step) → e.next.object ≡ e.then.object → Are (flat_map (entries_of call ring) tries ++ e ∷ []) (takings call ring (number_took tries))
tries_made call ring [] e look = inl (look, refl)
tries_made call ring (took before tail place q r s t ∷ tries) e look = inl (refl, inl (refl, inl (refl, inr (take_event call ring, takings call ring (number_took tries), refl, refl, tries_made call ring tries e look))))
tries_made call ring (missed before tail place seen q r s t ∷ tries) e look = inl (refl, inl (refl, inl (refl, inl (refl, tries_made call ring tries e look))))

wake_made : (call wait mask : ℕ) (v w : View) (a : WokeAll call v wait mask w) → Made v (events.NotifyWait call wait ∷ takings call (wait_ring wait) (number_took a.tries)) w
wake_made call wait mask v w a = let ring : ℕ = wait_ring wait in let notify : MadeEvent = record { event = events.NotifyWait call wait; number = 0; signals = [] } in (
  ap events_of a.acts.has ∙ (map-append event_in v.own.made (notify ∷ flat_map (made_by_try call ring) a.tries) ∙ ap (λ (z : List Event). events_of v ++ events.NotifyWait call wait ∷ z) (tries_list call ring a.tries)),
  record {
    steps = change (head_word ring) a.word a.first (events.NotifyWait call wait) ∷ flat_map (entries_of call ring) a.tries ++ load (tail_word ring) a.tail a.last ∷ [];
    adds = a.acts.adds;
    are = inr (events.NotifyWait call wait, takings call ring (number_took a.tries), refl, refl, tries_made call ring a.tries (load (tail_word ring) a.tail a.last) refl);
  },
)

pub wake_effect : (call wait mask : ℕ) (v w : View) → WokeAll call v wait mask w → Woke call wait mask v w
wake_effect call wait mask v w a = (a.holds, a.woken, number_took a.tries, wake_made call wait mask v w a)

pub wake_keeps : (call wait mask : ℕ) (v w : View) → WokeAll call v wait mask w → Keeps v w
wake_keeps call wait mask v w a = keeps_by v w _ _ a.acts refl refl refl refl

pub wake_result : (call wait mask : ℕ) (v w : View) → wait < WAITS → IsValidHandView w → WokeAll call v wait mask w → WokeAllBefore call wait v w
wake_result call wait mask v w low h a = let ring : ℕ = wait_ring wait in let below : wait_ring wait < RINGS = omega arith in let same : w.own.first ≡ v.own.first = ap (λ (z : View). z.own.first) a.acts.has in
    let one : Step = change (head_word ring) a.word a.first (events.NotifyWait call wait) in let two : Step = load (tail_word ring) a.tail a.last in let between : List Step = flat_map (entries_of call ring) a.tries in
    let real = real_after v w h [] (one ∷ (between ++ two ∷ [])) a.acts.adds in let was = (head_says w.own.first one real.0 ring below refl).0 in
    let is = tail_says w.own.first two (all_after (IsValidHandStep w.own.first) between (two ∷ []) real.1).0 ring below refl in let reached = a.reached in record {
      before = [];
      notify = one;
      between = between;
      last = two;
      after = [];
      adds = a.acts.adds;
      makes = refl;
      reached = omega arith;
    }

-- what a later part of a call says is so of the whole call
module _ (v u w : View) (xs : List Step) (share : u.member.share ≡ v.member.share) (first : u.own.first ≡ v.own.first) (a : ExtendsTrace v xs u) where
  pub took_after : (call ring element : ℕ) → TookOldest call ring element u w → TookOldest call ring element v w
  took_after call ring element s = record {
    before = xs ++ s.before;
    step = s.step;
    after = s.after;
    adds = subst (λ (z : List Step). ExtendsTrace v z w) (sym (append_assoc xs s.before (s.step ∷ s.after))) (adds_after v u w xs (s.before ++ s.step ∷ s.after) share a s.adds);
    makes = s.makes;
    holds = s.holds;
  }

  pub error_after : (ring : ℕ) (r : NextRefusal) → WhyNotTaken ring r u w → WhyNotTaken ring r v w
  error_after ring nexts.NoneReady s = moment_after v u w xs _ share a s
  error_after ring (nexts.Lost seen) s = two_after v u w xs _ share a
      (subst (λ (f : ℕ). AtTwoMoments u w (λ past later. (f + (queue_after past ring).taken < f + (queue_after later ring).taken) × (f + (queue_after later ring).taken ≡ seen))) first s)

-- the tail was found before a position, and then the oldest element was taken
pub before_found : (v u w : View) (call ring head tail element : ℕ) → ring < RINGS → Found v (tail_word ring) tail u → tail < head → TookOldest call ring element u w → BeforeFound call ring head (Some element) v w
before_found v u w call ring head tail element below f less s = let one : Step = load (tail_word ring) tail u.seen in let share : u.member.share ≡ v.member.share = ap (λ (z : View). z.member.share) f.acts.has in
    let same : u.own.first ≡ v.own.first = ap (λ (z : View). z.own.first) f.acts.has in let is = tail_says u.own.first one (real_after v u f.valid [] (one ∷ []) f.acts.adds).0 ring below refl in (
      moment_then v u w (s.before ++ s.step ∷ s.after) _ share (record { before = []; step = one; after = []; adds = f.acts.adds; holds = omega arith }) s.adds,
      took_after v u w (one ∷ []) share same f.acts.adds call ring element s,
    )

-- the tail was found before a position, and then nothing was taken
pub before_refused : (v u w : View) (ring head tail : ℕ) (r : NextRefusal) → ring < RINGS → Found v (tail_word ring) tail u → tail < head → WhyNotTaken ring r u w → WhyNotBefore ring head r v w
before_refused v u w ring head tail r below f less s = let one : Step = load (tail_word ring) tail u.seen in let share : u.member.share ≡ v.member.share = ap (λ (z : View). z.member.share) f.acts.has in
    let same : u.own.first ≡ v.own.first = ap (λ (z : View). z.own.first) f.acts.has in let is = tail_says u.own.first one (real_after v u f.valid [] (one ∷ []) f.acts.adds).0 ring below refl in let a = adds_of r s in (
      moment_then v u w a.0 _ share (record { before = []; step = one; after = []; adds = f.acts.adds; holds = omega arith }) a.1,
      error_after v u w (one ∷ []) share same f.acts.adds ring r s,
    )
  where
    adds_of : (r : NextRefusal) → WhyNotTaken ring r u w → (es : List Step) × ExtendsTrace u es w
    adds_of nexts.NoneReady s = (s.before ++ s.step ∷ s.after, s.adds)
    adds_of (nexts.Lost seen) s = (s.before ++ s.first ∷ (s.between ++ s.second ∷ s.after), s.adds)

-- the last try that took an element, if one did
last_took : (tries : List Try) → (number_took tries ≡ 0) ⊎ ((xs : List Try) × (before : ℕ) × (tail : ℕ) × (place : ℕ) × (q : Past) × (r : Past) × (s : Past) × (t : Past) × (ys : List Try) × (tries ≡ xs ++ took before tail place q r s t ∷ ys) × (number_took ys ≡ 0))
last_took [] = inl refl
last_took (x ∷ tries) = by x (last_took tries)
  where
    by : (x : Try) → (number_took tries ≡ 0) ⊎ ((xs : List Try) × (before : ℕ) × (tail : ℕ) × (place : ℕ) × (q : Past) × (r : Past) × (s : Past) × (t : Past) × (ys : List Try) × (tries ≡ xs ++ took before tail place q r s t ∷ ys) × (number_took ys ≡ 0))
        → (number_took (x ∷ tries) ≡ 0) ⊎ ((xs : List Try) × (before : ℕ) × (tail : ℕ) × (place : ℕ) × (q : Past) × (r : Past) × (s : Past) × (t : Past) × (ys : List Try) × (x ∷ tries ≡ xs ++ took before tail place q r s t ∷ ys) × (number_took ys ≡ 0))
    by x (inr (xs, before, tail, place, q, r, s, t, ys, is, none)) = inr (x ∷ xs, before, tail, place, q, r, s, t, ys, ap (λ (z : List Try). x ∷ z) is, none)
    by (took before tail place q r s t) (inl none) = inr ([], before, tail, place, q, r, s, t, tries, refl, none)
    by (missed before tail place seen q r s t) (inl none) = inl none

pub wake_bound : (call wait mask : ℕ) (v w : View) → wait < WAITS → IsValidHandView w → WokeAll call v wait mask w → WokeNoMore call wait v w
wake_bound call wait mask v w low h a = by (last_took a.tries)
  where
    below : wait_ring wait < RINGS
    below = omega arith

    first : w.own.first ≡ v.own.first
    first = ap (λ (z : View). z.own.first) a.acts.has

    one : Step
    one = change (head_word (wait_ring wait)) a.word a.first (events.NotifyWait call wait)

    last : Step
    last = load (tail_word (wait_ring wait)) a.tail a.last

    by : (number_took a.tries ≡ 0) ⊎ ((xs : List Try) × (before : ℕ) × (tail : ℕ) × (place : ℕ) × (q : Past) × (r : Past) × (s : Past) × (t : Past) × (ys : List Try) × (a.tries ≡ xs ++ took before tail place q r s t ∷ ys) × (number_took ys ≡ 0)) → WokeNoMore call wait v w
    by (inl none) = inl (subst (λ (n : ℕ). Made v (events.NotifyWait call wait ∷ takings call (wait_ring wait) n) w) none (wake_made call wait mask v w a))
    by (inr (xs, before, tail, place, q, r, s, t, ys, is, none)) =
        let ring : ℕ = wait_ring wait in let between : List Step = flat_map (entries_of call ring) xs in let look : Step = load (tail_word ring) before q in
        let soon : List Step = load (tail_word ring) tail r ∷ load (place_word ring tail) place s ∷ [] in let taking : Step = change (tail_word ring) tail t (take_event call ring) in
        let after : List Step = flat_map (entries_of call ring) ys ++ last ∷ [] in let rest : List Step = soon ++ taking ∷ after in
        let split : flat_map (entries_of call ring) a.tries ++ last ∷ [] ≡ between ++ look ∷ rest =
        ap (λ (z : List Try). flat_map (entries_of call ring) z ++ last ∷ []) is
        ∙ (ap (λ (z : List Step). z ++ last ∷ []) (flat_map-append (entries_of call ring) xs (took before tail place q r s t ∷ ys)) ∙ append_assoc between (flat_map (entries_of call ring) (took before tail place q r s t ∷ ys)) (last ∷ [])) in
        let adds : ExtendsTrace v (one ∷ (between ++ look ∷ rest)) w = subst (λ (z : List Step). ExtendsTrace v (one ∷ z) w) split a.acts.adds in
        let real = real_after v w h [] (one ∷ (between ++ look ∷ rest)) adds in let was = (head_says w.own.first one real.0 ring below refl).0 in
        let found = tail_says w.own.first look (all_after (IsValidHandStep w.own.first) between (look ∷ rest) real.1).0 ring below refl in
        let less = (all_after (IsTry (head_in a.word)) xs (took before tail place q r s t ∷ ys) (subst (AllByRecursion (IsTry (head_in a.word))) is a.each)).0.0 in let same = first in inr record {
          before = [];
          notify = one;
          between = between;
          look = look;
          soon = soon;
          taking = taking;
          rest = after;
          adds = adds;
          makes = refl;
          low = omega arith;
          near = omega arith;
          only = inl (refl, inl (refl, refl));
          takes = refl;
          last = subst (λ (n : ℕ). Are after (takings call ring n)) none (tries_made call ring ys last refl);
        }
