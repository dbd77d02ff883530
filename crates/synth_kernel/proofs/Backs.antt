-- The results of all threads, by the works: the stations of the processors, followed by the results of the devices.
use Rattle.synth_kernel.proofs.Common.{◌≡◌, ◌≤◌, ℕ, zero, suc, ◌+◌, true, List, [], ◌∷◌, ◌++◌, map, length, Option, Some, Result, Ok, Err, slice_get, refl, sym, ap, subst, ◌∙◌, arith, length-map, AllZip, PlannedTty, Calls, AllThree, Device, Shared, Parts, Work, Worked, back_of, GaveBack, AreServing, ArePosted, Back, HasWorked, Served, processed_in, served_in, all_there, take, nil_from_length, IsServing, RunsOf, RefusalsOf}
use Rattle.boot_threads.specs.declared.work.Worked.TheVariants as worked

abbrev pub back_served : {G : Type 0} → Served → Back G
back_served one = Ok (worked.Served one.line one.tty)

-- the results are those of so many processors, followed by those of so many devices
pub record Sorted {G : Type 0} (posts ttys : ℕ) (backs : List (Back G)) : Type 0 where
  pub is : backs ≡ map back_of (processed_in backs) ++ map back_served (served_in backs)
  pub posts_are : length (processed_in backs) ≡ posts
  pub ttys_are : length (served_in backs) ≡ ttys

module _ {G : Type 0} (ran : RunsOf G) (refused : RefusalsOf G) (T : Calls G) (shared : Shared) where
  -- one device's work
  few_serve : (ttys : List PlannedTty) (devices : List Device) (ws : List (Work G)) (backs : List (Back G)) → AllThree IsServing ttys devices ws → AllZip (GaveBack ran refused (HasWorked T) shared) ws backs
      → (processed_in backs ≡ []) × (length (served_in backs) ≤ length ttys)
  few_serve [] [] [] [] s r = (refl, omega arith)
  few_serve [] [] [] (x ∷ backs) s r = absurd r
  few_serve [] [] (w ∷ ws) backs s r = absurd s
  few_serve [] (d ∷ devices) ws backs s r = absurd s
  few_serve (t ∷ ttys) [] ws backs s r = absurd s
  few_serve (t ∷ ttys) (d ∷ devices) [] backs s r = absurd s
  few_serve (t ∷ ttys) (d ∷ devices) (w ∷ ws) [] s r = absurd r
  few_serve (t ∷ ttys) (d ∷ devices) (w ∷ ws) (Err lost ∷ backs) s r = let f = few_serve ttys devices ws backs s.1 r.1 in (f.0, let g = f.1 in omega arith)
  few_serve (t ∷ ttys) (d ∷ devices) (w ∷ ws) (Ok (worked.Processed b) ∷ backs) s r = absurd (subst (λ (z : Work G). GaveBack ran refused (HasWorked T) shared z (Ok (worked.Processed b))) s.0 r.0).1
  few_serve (t ∷ ttys) (d ∷ devices) (w ∷ ws) (Ok (worked.Served l y) ∷ backs) s r = let f = few_serve ttys devices ws backs s.1 r.1 in (f.0, let g = f.1 in omega arith)

  pub few_back : (p turns : ℕ) (gates : List G) (old new : Parts) (ttys : List PlannedTty) (devices : List Device) (posts ws : List (Work G)) (backs : List (Back G)) → ArePosted shared p turns gates old new posts
      → AreServing ttys devices posts ws → AllZip (GaveBack ran refused (HasWorked T) shared) ws backs → (length (processed_in backs) ≤ length posts) × (length (served_in backs) ≤ length ttys)
  few_back p turns [] old new ttys devices [] ws backs a s r = let f = few_serve ttys devices ws backs s r in let e = ap length f.0 in (omega arith, f.1)
  few_back p turns [] old new ttys devices (w ∷ posts) ws backs a s r = absurd a
  few_back p turns (g ∷ gates) old new ttys devices [] ws backs a s r = absurd a
  few_back p turns (g ∷ gates) old new ttys devices (w ∷ posts) [] backs a s r = absurd s
  few_back p turns (g ∷ gates) old new ttys devices (w ∷ posts) (w' ∷ ws) [] a s r = absurd r
  few_back p turns (g ∷ gates) old new ttys devices (w ∷ posts) (w' ∷ ws) (Err lost ∷ backs) a s r = let f = few_back (p + 1) turns gates a.0 new ttys devices posts ws backs a.2 s.1 r.1 in (let e = f.0 in omega arith, f.1)
  few_back p turns (g ∷ gates) old new ttys devices (w ∷ posts) (w' ∷ ws) (Ok (worked.Processed b) ∷ backs) a s r = let f = few_back (p + 1) turns gates a.0 new ttys devices posts ws backs a.2 s.1 r.1 in (let e = f.0 in omega arith, f.1)
  few_back p turns (g ∷ gates) old new ttys devices (w ∷ posts) (w' ∷ ws) (Ok (worked.Served l y) ∷ backs) a s r =
      absurd (subst (λ (z : Work G). GaveBack ran refused (HasWorked T) shared z (Ok (worked.Served l y))) (s.0 ∙ a.1.is) r.0).1

  sort_serve : (ttys : List PlannedTty) (devices : List Device) (ws : List (Work G)) (backs : List (Back G)) → AllThree IsServing ttys devices ws → AllZip (GaveBack ran refused (HasWorked T) shared) ws backs
      → all_there backs ≡ true → Sorted 0 (length ttys) backs
  sort_serve [] [] [] [] s r all = record { is = refl; posts_are = refl; ttys_are = refl }
  sort_serve [] [] [] (x ∷ backs) s r all = absurd r
  sort_serve [] [] (w ∷ ws) backs s r all = absurd s
  sort_serve [] (d ∷ devices) ws backs s r all = absurd s
  sort_serve (t ∷ ttys) [] ws backs s r all = absurd s
  sort_serve (t ∷ ttys) (d ∷ devices) [] backs s r all = absurd s
  sort_serve (t ∷ ttys) (d ∷ devices) (w ∷ ws) [] s r all = absurd r
  sort_serve (t ∷ ttys) (d ∷ devices) (w ∷ ws) (Err lost ∷ backs) s r all = absurd cc
  sort_serve (t ∷ ttys) (d ∷ devices) (w ∷ ws) (Ok (worked.Processed b) ∷ backs) s r all = absurd (subst (λ (z : Work G). GaveBack ran refused (HasWorked T) shared z (Ok (worked.Processed b))) s.0 r.0).1
  sort_serve (t ∷ ttys) (d ∷ devices) (w ∷ ws) (Ok (worked.Served l y) ∷ backs) s r all = let f = sort_serve ttys devices ws backs s.1 r.1 all in let none = nil_from_length (processed_in backs) f.posts_are in record {
    is = ap (λ z. Ok (worked.Served l y) ∷ z) f.is ∙ (ap (λ z. Ok (worked.Served l y) ∷ (map back_of z ++ map back_served (served_in backs))) none
        ∙ ap (λ z. map back_of z ++ Ok (worked.Served l y) ∷ map back_served (served_in backs)) (sym none));
    posts_are = f.posts_are;
    ttys_are = ap suc f.ttys_are;
  }

  pub sort_back : (p turns : ℕ) (gates : List G) (old new : Parts) (ttys : List PlannedTty) (devices : List Device) (posts ws : List (Work G)) (backs : List (Back G)) → ArePosted shared p turns gates old new posts
      → AreServing ttys devices posts ws → AllZip (GaveBack ran refused (HasWorked T) shared) ws backs → all_there backs ≡ true → Sorted (length posts) (length ttys) backs
  sort_back p turns [] old new ttys devices [] ws backs a s r all = sort_serve ttys devices ws backs s r all
  sort_back p turns [] old new ttys devices (w ∷ posts) ws backs a s r all = absurd a
  sort_back p turns (g ∷ gates) old new ttys devices [] ws backs a s r all = absurd a
  sort_back p turns (g ∷ gates) old new ttys devices (w ∷ posts) [] backs a s r all = absurd s
  sort_back p turns (g ∷ gates) old new ttys devices (w ∷ posts) (w' ∷ ws) [] a s r all = absurd r
  sort_back p turns (g ∷ gates) old new ttys devices (w ∷ posts) (w' ∷ ws) (Err lost ∷ backs) a s r all = absurd cc
  sort_back p turns (g ∷ gates) old new ttys devices (w ∷ posts) (w' ∷ ws) (Ok (worked.Processed b) ∷ backs) a s r all = let f = sort_back (p + 1) turns gates a.0 new ttys devices posts ws backs a.2 s.1 r.1 all in record {
    is = ap (λ z. Ok (worked.Processed b) ∷ z) f.is;
    posts_are = ap suc f.posts_are;
    ttys_are = f.ttys_are;
  }
  sort_back p turns (g ∷ gates) old new ttys devices (w ∷ posts) (w' ∷ ws) (Ok (worked.Served l y) ∷ backs) a s r all =
      absurd (subst (λ (z : Work G). GaveBack ran refused (HasWorked T) shared z (Ok (worked.Served l y))) (s.0 ∙ a.1.is) r.0).1

take_first : {A : Type 0} (xs ys : List A) → take (length xs) (xs ++ ys) ≡ xs
take_first [] ys = refl
take_first (x ∷ xs) ys = ap (λ z. x ∷ z) (take_first xs ys)

pub first_back : {G : Type 0} (posts ttys : ℕ) (backs : List (Back G)) → Sorted posts ttys backs → take posts backs ≡ map back_of (processed_in backs)
first_back posts ttys backs f =
    let long : length (map back_of (processed_in backs)) ≡ posts = length-map (processed_in backs) back_of ∙ f.posts_are in
    (λ i. take (sym long i) (f.is i)) ∙ take_first (map back_of (processed_in backs)) (map back_served (served_in backs))

get_after : {A : Type 0} (xs ys : List A) (t : ℕ) → slice_get (xs ++ ys) (length xs + t) ≡ slice_get ys t
get_after [] ys t = let e : 0 + t ≡ t = omega arith in ap (slice_get ys) e
get_after (x ∷ xs) ys t = let e : suc (length xs) + t ≡ suc (length xs + t) = omega arith in ap (slice_get (x ∷ xs ++ ys)) e ∙ get_after xs ys t

get_mapped : {A B : Type 0} (f : A → B) (xs : List A) (t : ℕ) (x : A) → slice_get xs t ≡ Some x → slice_get (map f xs) t ≡ Some (f x)
get_mapped f [] t x h = absurd (cc)
get_mapped f (y ∷ xs) zero x h = let e : y ≡ x = cc in ap (λ z. Some (f z)) e
get_mapped f (y ∷ xs) (suc t) x h = get_mapped f xs t x h

pub served_after : {G : Type 0} (posts ttys : ℕ) (backs : List (Back G)) → Sorted posts ttys backs → (t : ℕ) (one : Served) → slice_get (served_in backs) t ≡ Some one → slice_get backs (posts + t) ≡ Some (back_served one)
served_after posts ttys backs f t one at =
    let long : length (map back_of (processed_in backs)) ≡ posts = length-map (processed_in backs) back_of ∙ f.posts_are in
    (λ i. slice_get (f.is i) (sym long i + t)) ∙ (get_after (map back_of (processed_in backs)) (map back_served (served_in backs)) t ∙ get_mapped back_served (served_in backs) t one at)
