-- A hand that has the whole finds what it left: it loses to no other.
use Rattle.thread_table.proofs.Common.{◌≡◌, ◌≢◌, ◌⊎◌, inl, inr, ℕ, ◌<◌, ◌≤◌, List, ◌∙◌, Err, refl, sym, subst, arith, cases_lt, cases_eq, bit_at, Thread, Continues, load, ExtendsTrace, IsWhole, AllByRecursion, ELEMENTS, RINGS, WAITS, Lost, head_word, tail_word, state_word, wait_ring, View, Past, thread_at, StateShows, Step, TakeAnswer, MoveAnswer, WaitAnswer, StartAnswer, ParkAnswer, DeliverAnswer, Overtaken, BeforeAnswer, of_hands, IsValidHandView}
use Rattle.std.proofs.lemmas.Nat.Bits.{same_from_bits_below}
use Rattle.table_theory.proofs.Reaching.{alone_led}
use Rattle.thread_table.specs.declared.moves.MoveRefusal.TheVariants as moves
use Rattle.thread_table.specs.declared.takings.NextRefusal.TheVariants as nexts
use Rattle.thread_table.specs.Schedules.{elements_after}
use Rattle.thread_table.specs.Answers.{WasChanged}
use Rattle.thread_table.specs.Telling.{IsValidHandStep}
use Rattle.thread_table.proofs.Events.Saying.{tail_says, state_says}

-- the steps of a hand that has the whole are all there are, and real
pub all_alone : (v w : View) (es : List Step) → IsWhole v.member.share → IsValidHandView v → IsValidHandView w → ExtendsTrace v es w → Continues v.seen es w.seen × AllByRecursion (IsValidHandStep w.own.first) es
all_alone v w es whole x y a = alone_led (of_hands w.own.first) v w es whole x.list.leads y.list a

-- two looks at one word, when the table was the same, found the same
same_tail : (first ring a b : ℕ) (m n : Past) → ring < RINGS → m ≡ n → IsValidHandStep first (load (tail_word ring) a m) → IsValidHandStep first (load (tail_word ring) b n) → a ≡ b
same_tail first ring a b m n below is r s = tail_says first (load (tail_word ring) a m) r ring below refl
    ∙ sym (tail_says first (load (tail_word ring) b m) (subst (λ (z : Past). IsValidHandStep first (load (tail_word ring) b z)) (sym is) s) ring below refl)

same_head : (first ring a b : ℕ) (m n : Past) → ring < RINGS → m ≡ n → IsValidHandStep first (load (head_word ring) a m) → IsValidHandStep first (load (head_word ring) b n) → a ≡ b
same_head first ring a b m n below is r s' = let s : IsValidHandStep first (load (head_word ring) b m) = subst (λ (z : Past). IsValidHandStep first (load (head_word ring) b z)) (sym is) s' in
    r.is ∙ ((r.shows.rings ring below).head ∙ (sym (s.shows.rings ring below).head ∙ sym s.is))

pub same_state : (thread : Thread) (a b : ℕ) → StateShows thread a → StateShows thread b → a ≡ b
same_state thread a b p q = let low = p.bounded in let low' = q.bounded in same_from_bits_below 18 a b (omega arith) (omega arith) (λ i below. by i below (cases_lt i 16))
  where
    last : (i : ℕ) → i < 18 → i ≢ 16 → (i < 16 → ⊥) → i ≡ 17
    last i below ne past = omega (arith, below, ne, past)

    rest : (i : ℕ) → i < 18 → (i < 16 → ⊥) → (i ≡ 16) ⊎ (i ≢ 16) → bit_at a i ≡ bit_at b i
    rest i below past (inl is) = subst (λ (k : ℕ). bit_at a k ≡ bit_at b k) (sym is) (p.stop ∙ sym q.stop)
    rest i below past (inr ne) = subst (λ (k : ℕ). bit_at a k ≡ bit_at b k) (sym (last i below ne past)) (p.parked ∙ sym q.parked)

    by : (i : ℕ) → i < 18 → (i < 16) ⊎ (16 ≤ i) → bit_at a i ≡ bit_at b i
    by i below (inl few) = p.pending i few ∙ sym (q.pending i few)
    by i below (inr many) = rest i below (λ few. omega (arith, few, many)) (cases_eq i 16)

same_word : (first element a b : ℕ) (m n : Past) → element < ELEMENTS → m ≡ n → IsValidHandStep first (load (state_word element) a m) → IsValidHandStep first (load (state_word element) b n) → a ≡ b
same_word first element a b m n known is r s = same_state (thread_at (elements_after m.object) element) a b (state_says first (load (state_word element) a m) r element known refl)
    (state_says first (load (state_word element) b m) (subst (λ (z : Past). IsValidHandStep first (load (state_word element) b z)) (sym is) s) element known refl)

pub take_not_lost : (v w : View) (call ring seen : ℕ) → ring < RINGS → IsWhole v.member.share → IsValidHandView v → IsValidHandView w → TakeAnswer call v ring (Err (nexts.Lost seen)) w → ⊥
take_not_lost v w call ring seen below whole x y (tail, place, r, s, t, past, a) = let c = all_alone v w _ whole x y a.adds in
    let same : tail ≡ seen = same_tail w.own.first ring tail seen r t below (c.0.1.0 ∙ c.0.1.1.0) c.1.0 c.1.1.1.0 in omega (arith, past, same)

pub before_not_lost : (v w : View) (call ring head seen : ℕ) → ring < RINGS → IsWhole v.member.share → IsValidHandView v → IsValidHandView w → BeforeAnswer call v ring head (Err (nexts.Lost seen)) w → ⊥
before_not_lost v w call ring head seen below whole x y (first, q, less, (tail, place, r, s, t, past, a)) = let c = all_alone v w _ whole x y a.adds in
    let same : tail ≡ seen = same_tail w.own.first ring tail seen r t below (c.0.1.1.0 ∙ c.0.1.1.1.0) c.1.1.0 c.1.1.1.1.0 in omega (arith, past, same)

overtaken_not : (v w : View) (ring word seen : ℕ) → ring < RINGS → IsWhole v.member.share → IsValidHandView v → IsValidHandView w → Overtaken v ring word seen w → ⊥
overtaken_not v w ring word seen below whole x y (r, s, some, ne, a) = let c = all_alone v w _ whole x y a.adds in ne (sym (same_head w.own.first ring word seen r s below c.0.1.0 c.1.0 c.1.1.0))

pub move_not_lost : (v w : View) (call ring element seen : ℕ) → ring < RINGS → IsWhole v.member.share → IsValidHandView v → IsValidHandView w → MoveAnswer call v ring element (Err (moves.Lost seen)) w → ⊥
move_not_lost v w call ring element seen below whole x y (word, o) = overtaken_not v w ring word seen below whole x y o

pub wait_not_lost : (v w : View) (call wait element ticket seen : ℕ) → wait < WAITS → IsWhole v.member.share → IsValidHandView v → IsValidHandView w → WaitAnswer call v wait element ticket (Err (moves.Lost seen)) w → ⊥
wait_not_lost v w call wait element ticket seen below whole x y (word, one, two, o) = overtaken_not v w (wait_ring wait) word seen (omega (arith, below)) whole x y o

changed_not : (Is : ℕ → Type 0) (v w : View) (element seen : ℕ) → element < ELEMENTS → IsWhole v.member.share → IsValidHandView v → IsValidHandView w → WasChanged Is v element seen w → ⊥
changed_not Is v w element seen known whole x y (word, r, s, so, ne, a) = let c = all_alone v w _ whole x y a.adds in ne (sym (same_word w.own.first element word seen r s known c.0.1.0 c.1.0 c.1.1.0))

pub start_not_lost : (v w : View) (call element : ℕ) (l : Lost) → element < ELEMENTS → IsWhole v.member.share → IsValidHandView v → IsValidHandView w → StartAnswer call v element (Err l) w → ⊥
start_not_lost v w call element l known whole x y a = changed_not _ v w element l.seen known whole x y a

pub park_not_lost : (v w : View) (call element : ℕ) (l : Lost) → element < ELEMENTS → IsWhole v.member.share → IsValidHandView v → IsValidHandView w → ParkAnswer call v element (Err l) w → ⊥
park_not_lost v w call element l known whole x y a = changed_not _ v w element l.seen known whole x y a

pub deliver_not_lost : (v w : View) (call element : ℕ) (l : Lost) → element < ELEMENTS → IsWhole v.member.share → IsValidHandView v → IsValidHandView w → DeliverAnswer call v element (Err l) w → ⊥
deliver_not_lost v w call element l known whole x y a = changed_not _ v w element l.seen known whole x y a
