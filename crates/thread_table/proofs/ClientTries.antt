-- Each try of a wake took an element, or could not.
use Rattle.thread_table.proofs.Common.{◌≡◌, ◌≢◌, ◌⊎◌, ◌+◌, ◌/◌, inl, inr, ℕ, ◌<◌, List, [], ◌∷◌, ◌++◌, refl, sym, ap, subst, arith, map, flat_map, AllByRecursion, load, change, Past, Step, RINGS, WAITS, View, IsValidHandView, take_event, head_word, tail_word, place_word, wait_ring}
use Rattle.event_theory.specs.declared.event.Event.TheVariants as events
use Rattle.table_theory.specs.Ledgers.{ExtendsTrace}
use Rattle.thread_table.specs.Client.{FoundUnraised, FoundTailMoved, IsWakeTry, TriedAlways}
use Rattle.thread_table.specs.Entries.{AreInOrder}
use Rattle.thread_table.specs.Telling.{IsValidHandStep}
use Rattle.thread_table.specs.Wakes.{Try, took, missed, entries_of, IsTry, WokeAll}
use Rattle.thread_table.proofs.Clients.{real_after, in_order_after}
use Rattle.thread_table.proofs.Events.Saying.{tail_says, unraised_says}

flat_same : {A : Type 0} (f : A → List Step) (xs : List A) → flat_map (λ (try : List Step). try) (map f xs) ≡ flat_map f xs
flat_same f [] = refl
flat_same f (x ∷ xs) = ap (λ (z : List Step). f x ++ z) (flat_same f xs)

module _ (v w : View) (call ring head : ℕ) (below : ring < RINGS) (same : w.own.first ≡ v.own.first) where
  one_try : (x : Try) (rest : List Step) (p : Past) → IsTry head x → AllByRecursion (IsValidHandStep w.own.first) (entries_of call ring x ++ rest) → AreInOrder p (entries_of call ring x ++ rest) → IsWakeTry call ring v (entries_of call ring x)
  one_try (took before tail place q r s t) rest p is real order = (omega arith, inl (inl (refl, inl (refl, inl (refl, inr (take_event call ring, [], refl, refl, refl))))))
  one_try (missed before tail place seen q r s t) rest p is real order = (omega arith, inr (inl (refl, inl (refl, inl (refl, inl (refl, refl)))), why is.1))
    where
      look : Step
      look = load (tail_word ring) before q

      one : Step
      one = load (tail_word ring) tail r

      two : Step
      two = load (place_word ring tail) place s

      three : Step
      three = load (tail_word ring) seen t

      why : ((seen ≡ tail) × (place / 256 ≢ tail + 1)) ⊎ (tail < seen) → FoundUnraised ring (look ∷ one ∷ two ∷ three ∷ []) ⊎ FoundTailMoved v ring (look ∷ one ∷ two ∷ three ∷ [])
      why (inl (again, low)) = inl record {
        before = look ∷ one ∷ [];
        step = two;
        after = three ∷ [];
        are = refl;
        low = unraised_says w.own.first ring tail place r s t below real.1.0 real.1.1.0 order.2.2.1 order.2.2.2.1 (subst (λ (n : ℕ). IsValidHandStep w.own.first (load (tail_word ring) n t)) again real.1.1.1.0) low;
      }
      why (inr less) = let was = tail_says w.own.first one real.1.0 ring below refl in let is_now = tail_says w.own.first three real.1.1.1.0 ring below refl in inr record {
        before = look ∷ [];
        first = one;
        between = two ∷ [];
        second = three;
        after = [];
        are = refl;
        moved = omega (arith, same, was, is_now, less);
      }

  each_try : (tries : List Try) (rest : List Step) (p : Past) → AllByRecursion (IsTry head) tries → AllByRecursion (IsValidHandStep w.own.first) (flat_map (entries_of call ring) tries ++ rest) → AreInOrder p (flat_map (entries_of call ring) tries ++ rest)
      → AllByRecursion (IsWakeTry call ring v) (map (entries_of call ring) tries)
  each_try [] rest p all real order = tt
  each_try (took before tail place q r s t ∷ tries) rest p all real order =
      (one_try (took before tail place q r s t) (flat_map (entries_of call ring) tries ++ rest) p all.0 real order, each_try tries rest _ all.1 real.1.1.1.1 order.2.2.2.2)
  each_try (missed before tail place seen q r s t ∷ tries) rest p all real order =
      (one_try (missed before tail place seen q r s t) (flat_map (entries_of call ring) tries ++ rest) p all.0 real order, each_try tries rest _ all.1 real.1.1.1.1 order.2.2.2.2)

pub wake_tries : (call wait mask : ℕ) (v w : View) → wait < WAITS → IsValidHandView w → WokeAll call v wait mask w → TriedAlways call wait v w
wake_tries call wait mask v w low h a = let ring : ℕ = wait_ring wait in let below : wait_ring wait < RINGS = omega arith in let same : w.own.first ≡ v.own.first = ap (λ (z : View). z.own.first) a.acts.has in
    let one : Step = change (head_word ring) a.word a.first (events.NotifyWait call wait) in let last : Step = load (tail_word ring) a.tail a.last in
    let real = real_after v w h [] (one ∷ (flat_map (entries_of call ring) a.tries ++ last ∷ [])) a.acts.adds in let order = (in_order_after v w h [] (one ∷ (flat_map (entries_of call ring) a.tries ++ last ∷ [])) a.acts.adds).1 in record {
      notify = one;
      tries = map (entries_of call ring) a.tries;
      last = last;
      adds = subst (λ (z : List Step). ExtendsTrace v (one ∷ (z ++ last ∷ [])) w) (sym (flat_same (entries_of call ring) a.tries)) a.acts.adds;
      makes = refl;
      each = each_try v w call ring _ below same a.tries (last ∷ []) _ a.each real.1 order.2;
    }
