-- There is room for each line that is heard.
use Rattle.processor.proofs.Common.{◌≡◌, ◌+◌, ℕ, ◌<◌, ◌≤◌, ◌==◌, Bool, true, false, List, [], ◌∷◌, ◌++◌, map, length, Some, refl, sym, ap, ◌∙◌, subst, arith, eqb-true, append-nil, AllByRecursion, BootPlan, Step, Counted, CountAnswer, IsNumber, View, done_at, StepOutcome, IsOutcomeOf, heard_by, is_heard, Key, same_key, is_hear, IsHear, AreHears, hear_count, step_of, key_of, IsPast, Parts, view_of, Stepped, Line, map-append, IsDistinct, longest_line, HasRoom}
use Rattle.std.proofs.Common.{length-append}
use Rattle.std.proofs.lemmas.Bool.{and_parts as split}
use Rattle.boot_data.specs.declared.plan.Step.TheVariants as steps
use Rattle.turn_dispatch.specs.declared.counting.Counted.TheVariants as counted
use Rattle.processor.specs.declared.step_outcome.StepOutcome.TheVariants as step_outcomes
use Rattle.processor.specs.declared.phases.HearAnswer.TheVariants as answers
use Rattle.processor.proofs.Rising.{NeverFalls}
use Rattle.processor.proofs.Rooms.{few}

abbrev pub key_in : StepOutcome → ℕ → ℕ → List Key
key_in (step_outcomes.Hear queue (answers.Taken woken)) e n = (e, n) ∷ []
key_in step_outcome e n = []

key_of_heard : (step_outcome : StepOutcome) (e n : ℕ) (text : List ℕ) → map key_of (heard_by step_outcome e n text) ≡ key_in step_outcome e n
key_of_heard (step_outcomes.Hear queue (answers.Taken woken)) e n text = refl
key_of_heard step_outcome e n text = refl

-- whose lines there are, with what is kept of a step
pub keys_more : (lines lines' : List Line) (step_outcome : StepOutcome) (e n : ℕ) (text : List ℕ) → lines' ≡ lines ++ heard_by step_outcome e n text → map key_of lines' ≡ map key_of lines ++ key_in step_outcome e n
keys_more lines lines' step_outcome e n text h = ap (map key_of) h ∙ map-append key_of lines (heard_by step_outcome e n text) ∙ ap (λ ks. map key_of lines ++ ks) (key_of_heard step_outcome e n text)

all_push : (P : Key → Type 0) (ks : List Key) (k : Key) → AllByRecursion P ks → P k → AllByRecursion P (ks ++ k ∷ [])
all_push P [] k all p = (p, tt)
all_push P (x ∷ xs) k all p = (all.0, all_push P xs k all.1 p)

distinct_push : (ks : List Key) (k : Key) → IsDistinct same_key ks → AllByRecursion (λ x. same_key x k ≡ false) ks → IsDistinct same_key (ks ++ k ∷ [])
unfolding IsDistinct
distinct_push [] k d all = (tt, tt)
distinct_push (x ∷ xs) k d all = (all_push (λ y. same_key x y ≡ false) xs k d.0 all.0, distinct_push xs k d.1 all.1)

apart : (v : View) (e n : ℕ) (k : Key) → n ≡ done_at v.seen.object e → IsPast v k → (b : Bool) → same_key k (e, n) ≡ b → b ≡ false
apart v e n k is past false h = refl
apart v e n k is past true h = absurd (clash (split (k.0 == e) (k.1 == n) h))
  where
    clash : ((k.0 == e) ≡ true) × ((k.1 == n) ≡ true) → ⊥
    clash p = let a = eqb-true k.0 e p.0 in let b = eqb-true k.1 n p.1 in
        let low : k.1 < done_at v.seen.object e = subst (λ (z : ℕ). k.1 < done_at v.seen.object z) a past in omega arith

all_apart : (v : View) (e n : ℕ) (ks : List Key) → n ≡ done_at v.seen.object e → AllByRecursion (IsPast v) ks → AllByRecursion (λ x. same_key x (e, n) ≡ false) ks
all_apart v e n [] is all = tt
all_apart v e n (k ∷ ks) is all = (let f = apart v e n k is all.0 (same_key k (e, n)) refl in f, all_apart v e n ks is all.1)

all_later : (v w : View) (ks : List Key) → NeverFalls v w → AllByRecursion (IsPast v) ks → AllByRecursion (IsPast w) ks
all_later v w [] rises all = tt
all_later v w (k ∷ ks) rises all = (let a = all.0 in let b = rises k.0 in omega arith, all_later v w ks rises all.1)

-- a step that heard a line hears
heard_hears : (step : Step) (step_outcome : StepOutcome) (line : List ℕ) → IsOutcomeOf step step_outcome line → is_heard step_outcome ≡ true → is_hear step ≡ true
heard_hears (steps.Hear queue) step_outcome line a h = refl
heard_hears step (step_outcomes.Hear at answer) line a h = absurd a
heard_hears step step_outcome line a h = cc

-- a step that is done is counted, if the number of steps is small enough
counts_one : (call e : ℕ) (answer : Counted) (did after v w : View) → CountAnswer call e true did answer after → IsNumber answer e v w → done_at v.seen.object e < 64
    → done_at v.seen.object e < done_at w.seen.object e
counts_one call e (counted.Done number) did after v w a is low = let p = is.0 in let q = is.1 in omega arith
counts_one call e counted.Spent did after v w a is low = absurd (let p = is.0 in omega arith)
counts_one call e counted.Undone did after v w a is low = absurd a

-- with a line more that was heard
pub hears_more : (e n : ℕ) (plan : BootPlan) (step : Step) (step_outcome : StepOutcome) (line : List ℕ) (v : View) (keys : List Key) → step_of plan e n ≡ Some step → IsOutcomeOf step step_outcome line → n ≡ done_at v.seen.object e
    → AreHears plan keys → AllByRecursion (IsPast v) keys → AreHears plan (keys ++ key_in step_outcome e n)
hears_more e n plan step (step_outcomes.Hear queue (answers.Taken woken)) line v keys is d now hears past = (
  all_push (IsHear plan) keys (e, n) hears.0 (record { step = step; is = is; hears = heard_hears step (step_outcomes.Hear queue (answers.Taken woken)) line d refl }),
  distinct_push keys (e, n) hears.1 (all_apart v e n keys now past),
)
hears_more e n plan step step_outcome line v keys is d now hears past = subst (AreHears plan) (sym (append-nil keys)) hears

pub past_more : (call p e n : ℕ) (plan : BootPlan) (step_outcome : StepOutcome) (answer : Counted) (v u w : View) (keys : List Key)
    → Stepped call plan p e step_outcome answer v u → IsNumber answer e v u → n ≡ done_at v.seen.object e → n < 64 → NeverFalls v u → NeverFalls u w
    → AllByRecursion (IsPast v) keys → AllByRecursion (IsPast w) (keys ++ key_in step_outcome e n)
past_more call p e n plan (step_outcomes.Hear queue (answers.Taken woken)) answer v u w keys s is now low rises on past =
    let counts = counts_one call e answer s.did s.after v u s.counts is (omega (arith, now, low)) in
    all_push (IsPast w) keys (e, n) (all_later u w keys on (all_later v u keys rises past)) (let q = on e in omega (arith, now, counts, q))
past_more call p e n plan step_outcome answer v u w keys s is now low rises on past =
    subst (AllByRecursion (IsPast w)) (sym (append-nil keys)) (all_later u w keys on (all_later v u keys rises past))

pub room_left : (plan : BootPlan) (keys : List Key) (step_outcome : StepOutcome) (e n : ℕ) → AreHears plan (keys ++ key_in step_outcome e n) → is_heard step_outcome ≡ true → length keys < hear_count plan
room_left plan keys (step_outcomes.Hear queue (answers.Taken woken)) e n h is = let f = few plan (keys ++ (e, n) ∷ []) h in omega (arith, length-append keys ((e, n) ∷ []), f)
room_left plan keys step_outcome e n h is = cc

-- nothing more was heard, and no step is undone
pub room_kept : (plan : BootPlan) (old new : Parts) → HasRoom plan old → new.heard ≡ old.heard → NeverFalls (view_of old.hand) (view_of new.hand) → HasRoom plan new
room_kept plan old new h same rises = record {
  room = subst (λ z. hear_count plan ≤ z.room) (sym same) h.room;
  longest = subst (λ z. longest_line plan ≤ z.longest) (sym same) h.longest;
  hears = subst (λ z. AreHears plan (map key_of z.lines)) (sym same) h.hears;
  past = subst (λ z. AllByRecursion (IsPast (view_of new.hand)) (map key_of z.lines)) (sym same) (all_later (view_of old.hand) (view_of new.hand) (map key_of old.heard.lines) rises h.past);
}

-- nothing was heard
pub room_new : (plan : BootPlan) (parts : Parts) → parts.heard.lines ≡ [] → hear_count plan ≤ parts.heard.room → longest_line plan ≤ parts.heard.longest → HasRoom plan parts
unfolding IsDistinct
room_new plan parts none room longest = record {
  room = room;
  longest = longest;
  hears = subst (λ (lines : List Line). AreHears plan (map key_of lines)) (sym none) (tt, tt);
  past = subst (λ (lines : List Line). AllByRecursion (IsPast (view_of parts.hand)) (map key_of lines)) (sym none) tt;
}
