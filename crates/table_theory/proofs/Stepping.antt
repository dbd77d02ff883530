-- The facts that every step of every table keeps and reports, for any object.
use Rattle.table_theory.proofs.Common.{◌≡◌, ◌≢◌, ℕ, ◌+◌, ◌-◌, ◌%◌, ◌<◌, ◌≤◌, List, [], ◌∷◌, ◌++◌, length, get_or, set, sym, refl, ap, ◌∙◌, subst, arith, get_or-set_same, get_or-set_other, some, get_elem?, AbsState, Part, EndState, IsWhole, IsCount, IsPortion, ObjectModel, Step, StepEffect, stays, event, more, fewer, IsValidStep, IsValidView, Reaches, ExtendsTrace, Performed, CountedUp, CountedDown, Tallied, EndsStand, IsIdle, TableInv, opened, first_of, rest_without, newborn_with, both, emptied, AreOrdered}
use Rattle.std.proofs.lemmas.List.{set-get_or}
use Rattle.table_theory.specs.Ledgers.{count_down, Looked}
use Rattle.table_theory.proofs.Ends.{begins_on}
use Rattle.table_theory.proofs.Alone.{sole_course}
use Rattle.table_theory.proofs.Ledgers.{steps_to, after, order_of, with_ends}
use Rattle.table_theory.proofs.Orders.{newest_seen, order_true, order_leads, order_adds, order_after, order_step, order_split, order_join, order_first}
use Rattle.table_theory.proofs.Totals.{sole_total}
use Rattle.table_theory.proofs.Standing.{stand_same, stand_up, stand_down, stand_parted, stand_join, stand_opened, number_is, rest_spent}

module _ {K O : Type 0} {T : ObjectModel O} {nothing : K} {first : O} {now : AbsState O} {words : List ℕ} {vs : List (EndState K O)} (s : TableInv T nothing first now words vs) where
  -- all steps of all ends up to now
  abbrev pub past : List (Step O)
  past = steps_to s.true_ends

  -- a step that found this number in this word, and leaves this moment
  abbrev pub step_to : ℕ → ℕ → AbsState O → Step O
  step_to word found n = record { word = word; found = found; then = now; next = n }

  pub real_step : (word found : ℕ) (n : AbsState O) → found ≡ get_or words word 0 → StepEffect T now n → IsValidStep T (step_to word found n)
  real_step word found n is effect = record { lawful = s.lawful; words = words; shows = s.shows; ends = s.number; is = is; effect = effect }

  -- an end of it
  module _ (id : ℕ) (v : EndState K O) (at : get_elem? vs id ≡ some v) where
    abbrev order : AreOrdered T first now vs
    order = order_of s.true_ends

    -- its list is true, and what it has seen leads to now
    pub honest : IsValidView T v
    honest = order_true T first now vs id v order at

    pub leads : Reaches T v.seen now
    leads = order_leads T first now vs id v order at

    -- with the whole every other end is spent, it has seen all steps and the object as it is, and it is the only one
    pub rest_idle : IsWhole v.member.share → (i : ℕ) (u : EndState K O) → get_elem? vs i ≡ some u → i ≢ id → IsIdle nothing u
    rest_idle whole = rest_spent nothing (λ d e. d) now.ends vs id v s.true_ends.ends at whole

    whole_past : IsWhole v.member.share → past ≡ v.course
    whole_past whole = sole_course (λ u. u.steps) (λ u. u.course) (opened first) now vs id v s.true_ends.course at (λ i u has ne. (rest_idle whole i u has ne).steps)

    pub whole_now : IsWhole v.member.share → now ≡ v.seen
    whole_now whole = newest_seen T first now vs id v order at (whole_past whole)

    pub number_now : v.member.ends ≡ 1 → IsCount v.member.share now.ends
    number_now one = number_is nothing (λ d e. d) now.ends vs id v s.true_ends.ends at one

    -- it made a step, and is then this one of the ends, which did this
    abbrev pub stepped : K → Part → ℕ → ℕ → AbsState O → EndState K O
    stepped own member word found n = after v own member past (step_to word found n)

    pub adds_now : (own : K) (member : Part) (word found : ℕ) (n : AbsState O) → ExtendsTrace v (step_to word found n ∷ []) (stepped own member word found n)
    adds_now own member word found n = order_adds T first now vs id v own member (step_to word found n) order at whole_past

    pub made_now : (own : K) (word found : ℕ) (n : AbsState O) → Performed v (step_to word found n ∷ []) own (stepped own v.member word found n)
    made_now own word found n = record { adds = adds_now own v.member word found n; did = refl; member = refl }

    pub valid_now : (own : K) (member : Part) (word found : ℕ) (n : AbsState O) → found ≡ get_or words word 0 → StepEffect T now n → IsValidView T (stepped own member word found n)
    valid_now own member word found n is effect = order_after T first now vs id v own member (step_to word found n) order at refl (real_step word found n is effect)

    stands_step : (own : K) (member : Part) (word found y : ℕ) (n : AbsState O) → found ≡ get_or words word 0 → StepEffect T now n → EndsStand nothing n.ends (set vs id (stepped own member word found n)) → T.IsLawful n.object → T.Shows n.object (set words word y)
        → get_or (set words word y) T.ends_word 0 ≡ n.ends → TableInv T nothing first n (set words word y) (set vs id (stepped own member word found n))
    stands_step own member word found y n is effect stand lawful shows number = record { lawful = lawful; shows = shows; number = number; true_ends = with_ends (order_step T first now vs id v own member (step_to word found n) order at refl (real_step word found n is effect)) stand }

    -- a step that leaves the ends as they are
    same_ends : (own : K) (word found : ℕ) (n : AbsState O) → 1 ≤ v.member.ends → EndsStand nothing now.ends (set vs id (stepped own v.member word found n))
    same_ends own word found n live = stand_same nothing (λ d e. d) now.ends vs id v (stepped own v.member word found n) s.true_ends.ends at live refl

    -- an event
    abbrev pub acted : K → ℕ → ℕ → O → EndState K O
    acted own word found o = stepped own v.member word found (record now { object = o })

    pub valid_event : (own : K) (word found : ℕ) (o : O) → found ≡ get_or words word 0 → T.Happens now.object o → IsValidView T (acted own word found o)
    valid_event own word found o is b = valid_now own v.member word found (record now { object = o }) is (event o b refl)

    pub stands_event : (own : K) (word found y : ℕ) (o : O) → 1 ≤ v.member.ends → word ≢ T.ends_word → found ≡ get_or words word 0 → T.Happens now.object o → T.IsLawful o → T.Shows o (set words word y)
        → TableInv T nothing first (record now { object = o }) (set words word y) (set vs id (acted own word found o))
    stands_event own word found y o live beside is b lawful shows = let n : AbsState O = record now { object = o } in
        stands_step own v.member word found y n is (event o b refl) (same_ends own word found n live) lawful shows (get_or-set_other words word T.ends_word y 0 (λ e. beside (sym e)) ∙ s.number)

    -- a look at a word
    abbrev pub looked : ℕ → EndState K O
    looked word = stepped v.own v.member word (get_or words word 0) now

    pub valid_look : (word : ℕ) → IsValidView T (looked word)
    valid_look word = valid_now v.own v.member word (get_or words word 0) now refl (stays refl)

    pub found_now : (word : ℕ) → Looked v word (get_or words word 0) (looked word)
    found_now word = record { at = now; made = made_now v.own word (get_or words word 0) now; seen = refl }

    -- a look after which the end did this
    pub stands_seen : (own : K) (word : ℕ) → 1 ≤ v.member.ends → TableInv T nothing first now (set words word (get_or words word 0)) (set vs id (stepped own v.member word (get_or words word 0) now))
    stands_seen own word live = let found : ℕ = get_or words word 0 in let same : set words word found ≡ words = set-get_or words word 0 in
        stands_step own v.member word found found now refl (stays refl) (same_ends own word found now live) s.lawful (subst (T.Shows now.object) (sym same) s.shows) (ap (λ (z : List ℕ). get_or z T.ends_word 0) same ∙ s.number)

    pub stands_look : (word : ℕ) → 1 ≤ v.member.ends → TableInv T nothing first now (set words word (get_or words word 0)) (set vs id (looked word))
    stands_look word live = stands_seen v.own word live

    -- a step on the number of ends
    abbrev pub counted : Part → ℕ → ℕ → EndState K O
    counted member found number = stepped v.own member T.ends_word found (record now { ends = number })

    -- one end more
    abbrev pub one_more : Part
    one_more = record v.member { ends = v.member.ends + 1; splits = v.member.splits + 1 }

    abbrev pub upped : EndState K O
    upped = counted one_more now.ends (now.ends + 1)

    pub counted_up : CountedUp T.ends_word v upped
    counted_up = record { found = now; adds = adds_now v.own one_more T.ends_word now.ends (record now { ends = now.ends + 1 }); own = refl; member = refl }

    pub valid_up : IsValidView T upped
    valid_up = valid_now v.own one_more T.ends_word now.ends (record now { ends = now.ends + 1 }) (sym s.number) (more refl)

    pub stands_up : v.member.ends + 1 ≤ v.member.share → T.ends_word < length words → ((y : ℕ) → T.Shows now.object (set words T.ends_word y))
        → TableInv T nothing first (record now { ends = now.ends + 1 }) (set words T.ends_word ((get_or words T.ends_word 0 + 1) % 18446744073709551616)) (set vs id upped)
    stands_up parts wide shows = let stand = stand_up nothing (λ d e. d) now.ends vs id v upped s.true_ends.ends at parts refl in let y : ℕ = (get_or words T.ends_word 0 + 1) % 18446744073709551616 in
        stands_step v.own one_more T.ends_word now.ends y (record now { ends = now.ends + 1 }) (sym s.number) (more refl) stand.1 s.lawful (shows y) (get_or-set_same words T.ends_word y 0 wide ∙ (ap (λ (z : ℕ). (z + 1) % 18446744073709551616) s.number ∙ stand.0))

    -- one end less
    abbrev pub one_less : Part
    one_less = record v.member { ends = v.member.ends - 1; joins = v.member.joins + 1 }

    abbrev pub downed : EndState K O
    downed = counted one_less now.ends (now.ends - 1)

    pub counted_down : CountedDown T.ends_word v downed
    counted_down = record {
      found = now;
      adds = adds_now v.own one_less T.ends_word now.ends (record now { ends = now.ends - 1 });
      own = refl;
      member = refl;
      joined = begins_on v.joined past (count_down T.ends_word now) (s.true_ends.joined id v at);
      one_object = s.true_ends.joined_first id v at ∙ sym (s.true_ends.first_is id v at);
    }

    module _ (two : 2 ≤ v.member.ends) where
      abbrev down : ((now.ends + (18446744073709551616 - 1)) % 18446744073709551616 ≡ now.ends - 1) × (1 ≤ now.ends) × EndsStand nothing (now.ends - 1) (set vs id downed)
      down = stand_down nothing (λ d e. d) now.ends vs id v downed s.true_ends.ends at two refl

      pub valid_down : IsValidView T downed
      valid_down = valid_now v.own one_less T.ends_word now.ends (record now { ends = now.ends - 1 }) (sym s.number) (fewer refl down.1)

      pub stands_down : T.ends_word < length words → ((y : ℕ) → T.Shows now.object (set words T.ends_word y))
          → TableInv T nothing first (record now { ends = now.ends - 1 }) (set words T.ends_word ((get_or words T.ends_word 0 + (18446744073709551616 - 1)) % 18446744073709551616)) (set vs id downed)
      stands_down wide shows = let y : ℕ = (get_or words T.ends_word 0 + (18446744073709551616 - 1)) % 18446744073709551616 in
          stands_step v.own one_less T.ends_word now.ends y (record now { ends = now.ends - 1 }) (sym s.number) (fewer refl down.1) down.2 s.lawful (shows y) (get_or-set_same words T.ends_word y 0 wide ∙ (ap (λ (z : ℕ). (z + (18446744073709551616 - 1)) % 18446744073709551616) s.number ∙ down.0))

    -- the number is found
    pub tallied_now : v.member.ends ≡ 1 → Tallied T.ends_word v (get_or words T.ends_word 0) (looked T.ends_word)
    tallied_now one = record {
      found = now;
      made = made_now v.own T.ends_word (get_or words T.ends_word 0) now;
      is = s.number;
      count = subst (IsCount v.member.share) (sym s.number) (number_now one);
      still = whole_now;
    }

    -- the end is split, and takes in another
    pub stands_split : (parts : ℕ) → (2 ≤ v.member.share → IsPortion parts v.member.share) → v.member.ends ≡ 2 → TableInv T nothing first now words (set vs id (rest_without parts v) ++ newborn_with parts nothing v ∷ [])
    stands_split parts fits two = record { lawful = s.lawful; shows = s.shows; number = s.number; true_ends = with_ends (order_split T first now vs id v v.own nothing (rest_without parts v).member (newborn_with parts nothing v).member order at) (stand_parted nothing (λ d e. d) now.ends vs id v (rest_without parts v) (newborn_with parts nothing v) parts fits s.true_ends.ends at two refl refl) }

    pub stands_join : (plus : K → K → K) (other : ℕ) (u : EndState K O) → get_elem? vs other ≡ some u → other ≢ id → 1 ≤ v.member.ends → TableInv T nothing first now words (set (set vs id (both plus v u)) other (emptied nothing v))
    stands_join plus other u at' ne live = record { lawful = s.lawful; shows = s.shows; number = s.number; true_ends = with_ends (order_join T nothing plus first now vs id other v u order at at' ne) (stand_join nothing plus now.ends vs id other v u s.true_ends.ends at at' ne live) }

-- a new object with its first end
pub stands_first : {K O : Type 0} (T : ObjectModel O) (nothing : K) (first : O) (words : List ℕ) → T.IsLawful first → T.Shows first words → get_or words T.ends_word 0 ≡ 1 → TableInv T nothing first (opened first) words (first_of nothing first ∷ [])
stands_first T nothing first words lawful shows number = record { lawful = lawful; shows = shows; number = number; true_ends = with_ends (order_first T nothing first) (stand_opened nothing (λ d e. d) nothing first) }

-- The facts when the only end, which knew v, closes its object: it has seen it as it is, and each other end is spent
pub record Closes {K O : Type 0} (nothing : K) (now : AbsState O) (vs : List (EndState K O)) (id : ℕ) (v : EndState K O) : Type 0 where
  pub whole : IsWhole v.member.share
  pub now_is : now ≡ v.seen
  pub sole : v.seen.ends ≡ 1
  pub joined : v.member.splits ≡ v.member.joins
  pub idle : (i : ℕ) (u : EndState K O) → get_elem? vs i ≡ some u → i ≢ id → IsIdle nothing u

-- it found the number of ends, which was 1, and then was w
pub closes : {K O : Type 0} {T : ObjectModel O} {nothing : K} {first : O} {now : AbsState O} {words : List ℕ} {vs : List (EndState K O)} (s : TableInv T nothing first now words vs) (id : ℕ) (v w : EndState K O) → get_elem? vs id ≡ some w → (word found : ℕ) → Tallied word v found w → found ≡ 1 → v.member.ends ≡ 1 → Closes nothing now vs id v
closes {K} {O} {nothing} {vs} s id v w at word found t is one = let whole : IsWhole v.member.share = t.count.alone is in let still : IsWhole w.member.share = ap (λ (z : Part). z.share) t.made.member ∙ whole in
    let same = whole_now s id w at still ∙ t.still whole in let idle = rest_idle s id w at still in record {
      whole = whole;
      now_is = same;
      sole = ap (λ (z : AbsState O). z.ends) (sym same) ∙ (number_now s id w at (ap (λ (z : Part). z.ends) t.made.member ∙ one)).whole still;
      joined = (let b = s.true_ends.ends.balanced in let x = sole_total (λ (u : EndState K O). u.member.splits) vs id w at (λ i u has ne. (idle i u has ne).splits) in let y = sole_total (λ (u : EndState K O). u.member.joins) vs id w at (λ i u has ne. (idle i u has ne).joins) in
          let n = (number_now s id w at (ap (λ (z : Part). z.ends) t.made.member ∙ one)).whole still in let e = ap (λ (z : Part). z.splits) t.made.member in let f = ap (λ (z : Part). z.joins) t.made.member in omega arith);
      idle = idle;
    }
