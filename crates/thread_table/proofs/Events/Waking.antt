-- Waking all that wait: the elements of the mask were taken since the notify, and weren't held before.
use Rattle.thread_table.proofs.Common.{or-true, or-false, or_parts, append-nil, ⊎_elim, ◌≡◌, ◌≢◌, ◌⊎◌, inl, inr, ℕ, ◌+◌, ◌*◌, ◌^◌, ◌<◌, ◌≤◌, Bool, true, false, ◌||◌, List, [], ◌∷◌, ◌++◌, ◌∙◌, ◌%◌, get_or, cond, Ok, Err, Some, None, refl, sym, ap, subst, arith, eqb, eq-eqb, ne_eqb, count_by, is_done, pow-lt, eqb_tells, nat_tests, bit_at, bit_or, AllByRecursion, MadeEvent, View, NextRefusal, ELEMENTS, NOTIFY, head_word, tail_word, wait_ring, Past, has, serves, running, MayStep, quiet, with_held, load, Step, change, seen_as, PerformsEvents, with_event, take_event, steps_in, steps_by, Found, HandDid, TakeAnswer, is_in, head_in, NotifiedNow, BeforeAnswer}
use Rattle.std.proofs.Math.Bool.{or_assoc}
use Rattle.std.proofs.Common.{append_assoc, eqb-true}
use mathlib.Core.Path.{transport}
use Rattle.std.specs.Prelude.{flat_map}
use Rattle.thread_table.proofs.Schedule.JoinEvents.{count_same}
use Rattle.std.proofs.lemmas.List.Concat.{flat_map-append}
use Rattle.event_theory.specs.declared.event.Event.TheVariants as events
use Rattle.table_theory.proofs.Reaching.{all_on}
use Rattle.thread_table.specs.declared.takings.NextRefusal.TheVariants as nexts
use Rattle.thread_table.specs.Wakes.{Try, took, missed, entries_of, IsTry, IsStill, made_by_try, taken_in, is_among, AreApart, with_wakes, WokeAll}
use Rattle.thread_table.proofs.Schedule.Acting.{count_snoc, acts_on, then_found, then_acts}
use Rattle.thread_table.proofs.Events.Answering.{word_parts}
use Rattle.thread_table.proofs.Shown.StateBits.{bit_set_here, bit_set_other}

-- what the hand has after a notify and these tries, where it holds what w holds
abbrev with_tries : ℕ → ℕ → ℕ → View → List Try → View → View
with_tries call wait ring v tries w = record v { own = record v.own { held = w.own.held; counted = None; made = v.own.made ++ record { event = events.NotifyWait call wait; number = 0; signals = [] } ∷ flat_map (made_by_try call ring) tries } }

-- the hand holds the element that was taken, and no step of it was counted since
abbrev pub IsHeld : View → Try → Type 0
IsHeld w (took before tail place q r s t) = (place % 256 < ELEMENTS) × (has w (place % 256) ≡ true) × (steps_in (place % 256) w.seen.object ≡ steps_in (place % 256) t.object)
IsHeld w (missed before tail place seen q r s t) = Unit {0}

all_as : {A : Type 0} (P Q : A → Type 0) → ((x : A) → P x → Q x) → (xs : List A) → AllByRecursion P xs → AllByRecursion Q xs
all_as P Q f [] all = tt
all_as P Q f (x ∷ xs) all = (f x all.0, all_as P Q f xs all.1)

-- the hand still holds a taken element after entries that count no step and let nothing go
held_on : (l w now : View) (es : List Step) → PerformsEvents l es now w → l.own.fresh ≡ true → ((x : ℕ) → has l x ≡ true → has w x ≡ true) → ((x : ℕ) → steps_by x w.own.made ≡ steps_by x l.own.made) → (try : Try) → IsHeld l try → IsHeld w try
held_on l w now es a up more made (took before tail place q r s t) h = (
  h.0,
  more (place % 256) h.1,
  (let c = a.calm up (place % 256) h.0 (inl h.1) (inl (more (place % 256) h.1)) in let m = made (place % 256) in omega (arith, h.2)),
)
held_on l w now es a up more made (missed before tail place seen q r s t) h = tt

-- The hand made a notify, and then there were these tries, by which it took the elements of the mask, none of which it
-- held before
pub record Rounds (call wait ring word : ℕ) (v : View) (mask : ℕ) (w : View) : Type 0 where
  pub tries : List Try
  pub first : Past
  pub each : AllByRecursion (IsTry (head_in word)) tries
  pub acts : PerformsEvents v (change (head_word (wait_ring wait)) word first (events.NotifyWait call wait) ∷ flat_map (entries_of call ring) tries) (with_tries call wait ring v tries w) w
  pub mask_is : (e : ℕ) → e < ELEMENTS → is_in mask e ≡ is_among (taken_in tries) e
  pub apart : AreApart (taken_in tries)
  pub holds : (e : ℕ) → e < ELEMENTS → has w e ≡ (has v e || is_in mask e)
  pub woken : (e : ℕ) → e < ELEMENTS → is_in mask e ≡ true → has v e ≡ false
  pub held : AllByRecursion (IsHeld w) tries

-- the view `now` can name the held elements as those of w
holding : {v now w : View} {es : List Step} → PerformsEvents v es now w → PerformsEvents v es (record now { own = record now.own { held = w.own.held } }) w
holding {v} {now} {w} {es} a = subst (λ (z : List Bool). PerformsEvents v es (record now { own = record now.own { held = z } }) w) (sym (ap (λ (z : View). z.own.held) a.has)) a

-- numbers that differ do so in either order
apart_of : (y x : ℕ) → eqb x y ≡ false → eqb y x ≡ false
apart_of y x differ = ne_eqb y x (λ is. absurd (let same : eqb x y ≡ true = eq-eqb x y (sym is) in cc))

either_of : (a b : Bool) → (a || b) ≡ true → (a ≡ true) ⊎ (b ≡ true)
either_of true b up = inl refl
either_of false b up = inr up

-- no bit of zero is set
none_in : (e : ℕ) → is_in 0 e ≡ false
none_in e = grind (arith, nat_tests)

-- the mask with one bit more
in_by : (mask n e : ℕ) → ((eqb e n ≡ true) × (e ≡ n)) ⊎ ((eqb e n ≡ false) × (e ≢ n)) → is_in (bit_or mask (2 ^ n)) e ≡ (is_in mask e || eqb e n)
in_by mask n e (inl same) = ap (λ k. eqb (bit_at (bit_or mask (2 ^ n)) k) 1) same.1 ∙ (ap (λ k. eqb k 1) (bit_set_here mask n) ∙ (sym (or-true (is_in mask e)) ∙ ap (λ b. is_in mask e || b) (sym same.0)))
in_by mask n e (inr other) = ap (λ k. eqb k 1) (bit_set_other mask n e other.1) ∙ (sym (or-false (is_in mask e)) ∙ ap (λ b. is_in mask e || b) (sym other.0))

in_more : (mask n e : ℕ) → is_in (bit_or mask (2 ^ n)) e ≡ (is_in mask e || eqb e n)
in_more mask n e = in_by mask n e (eqb_tells e n)

-- the hand has taken nothing
pub rounds_none : (call wait ring word : ℕ) (v u : View) → HandDid call v (head_word (wait_ring wait)) word (events.NotifyWait call wait) u → Rounds call wait ring word v 0 u
rounds_none call wait ring word v u d = record {
  tries = [];
  first = d.before;
  each = tt;
  acts = holding d.step.acts;
  mask_is = λ e below. none_in e;
  apart = tt;
  holds = λ e below. ap (λ (z : View). has z e) d.step.acts.has ∙ (sym (or-false (has v e)) ∙ ap (λ b. has v e || b) (sym (none_in e)));
  woken = λ e below up. absurd (let n = none_in e in cc);
  held = tt;
}

flat_snoc : {A B : Type 0} (f : A → List B) (xs : List A) (x : A) → flat_map f (xs ++ x ∷ []) ≡ flat_map f xs ++ f x
flat_snoc f xs x = flat_map-append f xs (x ∷ []) ∙ ap (λ z. flat_map f xs ++ z) (append-nil (f x))

-- the elements taken by two lists of tries
taken_on : (xs ys : List Try) → taken_in (xs ++ ys) ≡ taken_in xs ++ taken_in ys
taken_on [] ys = refl
taken_on (took before tail place q r s t ∷ xs) ys = ap (λ z. place % 256 ∷ z) (taken_on xs ys)
taken_on (missed before tail place seen q r s t ∷ xs) ys = taken_on xs ys

-- one number more at the end of a list
among_more : (xs : List ℕ) (x e : ℕ) → is_among (xs ++ x ∷ []) e ≡ (is_among xs e || eqb e x)
among_more [] x e = (or-false (eqb e x))
among_more (y ∷ xs) x e = ap (λ b. eqb e y || b) (among_more xs x e) ∙ sym (or_assoc (eqb e y) (is_among xs e) (eqb e x))

apart_more : (xs : List ℕ) (x : ℕ) → AreApart xs → is_among xs x ≡ false → AreApart (xs ++ x ∷ [])
apart_more [] x apart new = (refl, tt)
apart_more (y ∷ xs) x apart new =
    let differ : eqb x y ≡ false = (or_parts (eqb x y) (is_among xs x) new).0 in
    (among_more xs x y ∙ (ap (λ b. b || eqb y x) apart.0 ∙ apart_of y x differ), apart_more xs x apart.1 ((or_parts (eqb x y) (is_among xs x) new).1))

-- one try more, of which this is known
module _ (call wait ring word : ℕ) (v l w : View) (mask : ℕ) (past : Rounds call wait ring word v mask l) (try : Try) where
  abbrev made : List MadeEvent
  made = made_by_try call ring try

  abbrev adding : View → View
  adding z = record z { own = record z.own { held = w.own.held; counted = None; made = z.own.made ++ made } }

  kept : (x : ℕ) → x < ELEMENTS → MayStep v x → MayStep l x
  kept x low (inl h) = inl (past.holds x low ∙ ap (λ b. b || is_in mask x) h)
  kept x low (inr h) = inr (h.0, ap (λ (z : View). serves z h.0) past.acts.has ∙ h.1, ap (λ (z : View). running z h.0) past.acts.has ∙ h.2)

  round_on : PerformsEvents l (entries_of call ring try) (adding l) w
      → PerformsEvents v (change (head_word (wait_ring wait)) word past.first (events.NotifyWait call wait) ∷ flat_map (entries_of call ring) (past.tries ++ try ∷ [])) (with_tries call wait ring v (past.tries ++ try ∷ []) w) w
  round_on a =
      let notify : Step = change (head_word (wait_ring wait)) word past.first (events.NotifyWait call wait) in let valid : MadeEvent = record { event = events.NotifyWait call wait; number = 0; signals = [] } in
      let before : View = with_tries call wait ring v past.tries l in let all : List MadeEvent = flat_map (made_by_try call ring) past.tries in
      let lists : flat_map (entries_of call ring) past.tries ++ entries_of call ring try ≡ flat_map (entries_of call ring) (past.tries ++ try ∷ []) = sym (flat_snoc (entries_of call ring) past.tries try) in
      let events : (v.own.made ++ valid ∷ all) ++ made ≡ v.own.made ++ valid ∷ flat_map (made_by_try call ring) (past.tries ++ try ∷ []) =
      append_assoc v.own.made (valid ∷ all) made ∙ ap (λ (z : List MadeEvent). v.own.made ++ valid ∷ z) (sym (flat_snoc (made_by_try call ring) past.tries try)) in
      let two = acts_on v l w before (adding l) (adding before) (notify ∷ flat_map (entries_of call ring) past.tries) (entries_of call ring try) (ap (λ (z : View). z.member.share) past.acts.has) past.acts a
      (a.has ∙ ap (λ (z : View). seen_as (adding z) w) past.acts.has) (λ x low may after. kept x low may) in
      transport (λ i. PerformsEvents v (notify ∷ lists i) (record v { own = record v.own { held = w.own.held; counted = None; made = events i } }) w) two

  -- what was taken before is still held
  held_then : {now : View} → PerformsEvents l (entries_of call ring try) now w → ((x : ℕ) → has l x ≡ true → has w x ≡ true) → ((x : ℕ) → steps_by x w.own.made ≡ steps_by x l.own.made) → AllByRecursion (IsHeld w) past.tries
  held_then {now} a more made = all_as (IsHeld l) (IsHeld w) (held_on l w now _ a (ap (λ (z : View). z.own.fresh) past.acts.has) more made) past.tries past.held

or_itself : (b : Bool) (e : ℕ) → (b || eqb e e) ≡ true
or_itself true e = refl
or_itself false e = ⊎_elim (λ same. same.0) (λ other. absurd (other.1 refl)) (eqb_tells e e)

still_of : (w : View) (try : Try) → IsHeld w try → IsStill w try
still_of w (took before tail place q r s t) h = h.2
still_of w (missed before tail place seen q r s t) h = tt

count_snoc_none : (p : MadeEvent → Bool) (xs : List MadeEvent) (x : MadeEvent) → p x ≡ false → count_by p (xs ++ x ∷ []) ≡ count_by p xs
count_snoc_none p xs x is = let c = count_snoc p xs x in let n : count_by p (x ∷ []) ≡ 0 = ap (λ (b : Bool). 0 + cond b 1 0) is in omega arith

-- a bit that is shifted to its place is whole
one_bit : (n : ℕ) → n < 64 → 2 ^ n ≡ 1 * 2 ^ n % 18446744073709551616
one_bit n below = let m : 2 ^ n < 18446744073709551616 = pow-lt {i = n} {j = 64} below in omega arith

-- the tail was found below the head, and then the hand took nothing
missed_more : (call wait ring word : ℕ) (v l w : View) (mask : ℕ) (past : Rounds call wait ring word v mask l) (before tail place seen : ℕ) (q r s t : Past) → IsTry (head_in word) (missed before tail place seen q r s t)
    → PerformsEvents l (entries_of call ring (missed before tail place seen q r s t)) (quiet l) w → Rounds call wait ring word v mask w
missed_more call wait ring word v l w mask past before tail place seen q r s t is a =
    let try : Try = missed before tail place seen q r s t in let same_held : w.own.held ≡ l.own.held = ap (λ (z : View). z.own.held) a.has in
    let same : taken_in past.tries ≡ taken_in (past.tries ++ try ∷ []) = sym (taken_on past.tries (try ∷ []) ∙ append-nil (taken_in past.tries)) in
    let lists : List MadeEvent → View = λ z. record l { own = record l.own { held = w.own.held; counted = None; made = z } } in record {
      tries = past.tries ++ try ∷ [];
      first = past.first;
      each = all_on (IsTry (head_in word)) past.tries (try ∷ []) past.each (is, tt);
      acts = round_on call wait ring word v l w mask past try (subst (λ (z : List MadeEvent). PerformsEvents l (entries_of call ring try) (lists z) w) (sym (append-nil l.own.made)) (holding a));
      mask_is = λ e known. past.mask_is e known ∙ ap (λ (z : List ℕ). is_among z e) same;
      apart = subst AreApart same past.apart;
      holds = λ e known. ap (λ (k : List Bool). get_or k e false) same_held ∙ past.holds e known;
      woken = past.woken;
      held = all_on (IsHeld w) past.tries (try ∷ []) (held_then call wait ring word v l w mask past try a (λ x h. ap (λ (k : List Bool). get_or k x false) same_held ∙ h) (λ x. ap (λ (z : View). steps_by x z.own.made) a.has)) (tt, tt);
    }

pub rounds_missed : (call wait ring word tail : ℕ) (u l v w : View) (mask : ℕ) (r : NextRefusal) → Rounds call wait ring word u mask l → Found l (tail_word ring) tail v → tail < head_in word → TakeAnswer call v ring (Err r) w → Rounds call wait ring word u mask w
rounds_missed call wait ring word tail u l v w mask nexts.NoneReady past found below a = missed_more call wait ring word u l w mask past tail a.0 a.1 a.0 v.seen a.2 a.3 a.4 (below, inl (refl, a.5))
    (then_acts l v w quiet (load (tail_word ring) tail v.seen ∷ []) _ found.acts a.6 refl)
rounds_missed call wait ring word tail u l v w mask (nexts.Lost seen) past found below a = missed_more call wait ring word u l w mask past tail a.0 a.1 seen v.seen a.2 a.3 a.4 (below, inr a.5)
    (then_acts l v w quiet (load (tail_word ring) tail v.seen ∷ []) _ found.acts a.6 refl)

-- the hand took one more
pub rounds_took : (call wait ring word tail element : ℕ) (u l v w : View) (mask : ℕ) → element < ELEMENTS → Rounds call wait ring word u mask l → Found l (tail_word ring) tail v → tail < head_in word → TakeAnswer call v ring (Ok element) w
    → Rounds call wait ring word u (bit_or mask (1 * 2 ^ element % 18446744073709551616)) w
rounds_took call wait ring word tail element u l v w mask bounded past found below a = subst (λ k. Rounds call wait ring word u (bit_or mask k) w) (one_bit element bounded) (
    let look = found.acts in let same : (x : ℕ) → has v x ≡ has l x = λ x. ap (λ (z : View). has z x) look.has in
    let try : Try = took tail a.0 a.1 v.seen a.2 a.3 a.4 in
    let acts : PerformsEvents l (entries_of call ring try) (with_event (with_held l element true) (take_event call ring)) w = then_acts l v w (λ z. with_event (with_held z element true) (take_event call ring)) (load (tail_word ring) tail v.seen ∷ []) _ look a.8 refl in
    let unheld : has l element ≡ false = sym (same element) ∙ a.7.0 in
    let more : taken_in past.tries ++ element ∷ [] ≡ taken_in (past.tries ++ try ∷ []) = ap (λ (k : ℕ). taken_in past.tries ++ k ∷ []) a.6 ∙ sym (taken_on past.tries (try ∷ [])) in
    let free : has u element ≡ false = (or_parts (has u element) (is_in mask element) (sym (past.holds element bounded) ∙ unheld)).0 in
    record {
      tries = past.tries ++ try ∷ [];
      first = past.first;
      each = all_on (IsTry (head_in word)) past.tries (try ∷ []) past.each ((below, a.5), tt);
      acts = round_on call wait ring word u l w mask past try (holding acts);
      mask_is = λ e known. in_more mask element e ∙ (ap (λ b. b || eqb e element) (past.mask_is e known) ∙ (sym (among_more (taken_in past.tries) element e) ∙ ap (λ (z : List ℕ). is_among z e) more));
      apart = subst AreApart more (apart_more (taken_in past.tries) element past.apart (sym (past.mask_is element bounded) ∙ (or_parts (has u element) (is_in mask element) (sym (past.holds element bounded) ∙ unheld)).1));
      holds = λ e known. a.7.1 e ∙ (ap (λ b. b || eqb e element) (same e ∙ past.holds e known) ∙ (or_assoc (has u e) (is_in mask e) (eqb e element) ∙ ap (λ b. has u e || b) (sym (in_more mask element e))));
      woken = λ e known up. ⊎_elim (past.woken e known) (λ is. ap (has u) (eqb-true e element is) ∙ free) (either_of (is_in mask e) (eqb e element) (sym (in_more mask element e) ∙ up));
      held = all_on (IsHeld w) past.tries (try ∷ [])
          (held_then call wait ring word u l w mask past try acts (λ x h. a.7.1 x ∙ (ap (λ b. b || eqb x element) (same x ∙ h) ∙ refl))
          (λ x. ap (λ (z : View). steps_by x z.own.made) acts.has ∙ count_snoc_none (λ (m : MadeEvent). is_done x m.event) l.own.made (record { event = take_event call ring; number = 0; signals = [] }) refl)) (
            (
              subst (λ (k : ℕ). k < ELEMENTS) a.6 bounded,
              subst (λ (k : ℕ). has w k ≡ true) a.6 (a.7.1 element ∙ or_itself (has v element) element),
              ap (λ (z : Past). steps_in (a.1 % 256) z.object) a.8.seen ∙ count_same (is_done (a.1 % 256)) a.4.object (take_event call ring) refl,
            ),
            tt,
          );
    })

-- the notify, and then all that was claimed before it was taken
pub woke_all : (call wait word tail mask : ℕ) (v l w : View) → Rounds call wait (wait_ring wait) word v mask l → Found l (tail_word (wait_ring wait)) tail w → head_in word ≤ tail → WokeAll call v wait mask w
woke_all call wait word tail mask v l w past found reached = let look = found.acts in record {
  holds = λ e known. ap (λ (z : View). has z e) look.has ∙ past.holds e known;
  woken = past.woken;
  tries = past.tries;
  mask_is = past.mask_is;
  apart = past.apart;
  word = word;
  tail = tail;
  first = past.first;
  last = w.seen;
  each = past.each;
  still = all_as (IsHeld l) (IsStill w) (λ try h. still_of w try (held_on l w (quiet l) _ look (ap (λ (z : View). z.own.fresh) past.acts.has) (λ x h. ap (λ (z : View). has z x) look.has ∙ h) (λ x. ap (λ (z : View). steps_by x z.own.made) look.has) try h)) past.tries past.held;
  reached = reached;
  acts = holding (then_found v l w (with_wakes v call wait past.tries l) (change (head_word (wait_ring wait)) word past.first (events.NotifyWait call wait) ∷ flat_map (entries_of call (wait_ring wait)) past.tries) (tail_word (wait_ring wait)) tail refl past.acts found);
}

-- one notify, and the head that it found
pub notified_now : (call wait word head mark : ℕ) (v u : View) → (n : HandDid call v (head_word (wait_ring wait)) word (events.NotifyWait call wait) u) → word ≡ head + mark * NOTIFY → head < 4294967296 → NotifiedNow call v wait head u
notified_now call wait word head mark v u n is bounded = (word, n.before, sym (word_parts word head mark is bounded).0, n.step.acts)

-- the tail was found to have reached a position
pub has_reached : (call ring head tail : ℕ) (v w : View) → Found v (tail_word ring) tail w → head ≤ tail → BeforeAnswer call v ring head (Ok None) w
has_reached call ring head tail v w found reached = (tail, w.seen, reached, found.acts)

-- the tail was found before a position, and then a taking had this answer
pub took_before : (call ring head tail element : ℕ) (v u w : View) → Found v (tail_word ring) tail u → tail < head → TakeAnswer call u ring (Ok element) w → BeforeAnswer call v ring head (Ok (Some element)) w
took_before call ring head tail element v u w found below a =
    let look = found.acts in let same : (x : ℕ) → has u x ≡ has v x = λ x. ap (λ (z : View). has z x) look.has in (
      tail,
      u.seen,
      below,
      (
        a.0,
        a.1,
        a.2,
        a.3,
        a.4,
        a.5,
        a.6,
        (sym (same element) ∙ a.7.0, λ e. a.7.1 e ∙ ap (λ b. b || eqb e element) (same e)),
        then_acts v u w (λ z. with_event (with_held z element true) (take_event call ring)) (load (tail_word ring) tail u.seen ∷ []) _ look a.8 refl,
      ),
    )

pub missed_before : (call ring head tail : ℕ) (v u w : View) (r : NextRefusal) → Found v (tail_word ring) tail u → tail < head → TakeAnswer call u ring (Err r) w → BeforeAnswer call v ring head (Err r) w
missed_before call ring head tail v u w nexts.NoneReady found below a =
    (tail, u.seen, below, (a.0, a.1, a.2, a.3, a.4, a.5, then_acts v u w quiet (load (tail_word ring) tail u.seen ∷ []) _ found.acts a.6 refl))
missed_before call ring head tail v u w (nexts.Lost seen) found below a =
    (tail, u.seen, below, (a.0, a.1, a.2, a.3, a.4, a.5, then_acts v u w quiet (load (tail_word ring) tail u.seen ∷ []) _ found.acts a.6 refl))
