-- The closed queue's lines, as its producers put them and its takers took them.
use Rattle.spooler.proofs.Common.{◌≡◌, ℕ, zero, suc, ◌≤◌, true, List, [], ◌∷◌, ◌++◌, ◌∙◌, map, length, take, refl, sym, ap, subst, arith, Vec, concat, append-nil, length-map, ∥∥₁_elim, ∥∥₁_map, ℕ_set, take-length, some, some-injective, some-ne-none, get_elem?, Batch, Ascending, InOrder, joined, Interleaves, Grows, item_of, total, View, part_of, line_of, lines_taken, Line, HasTaken, KeepsPuts, Gathered, PutsEach, lines_of}
use Rattle.std.specs.Prelude.{Option}
use Rattle.table_theory.specs.declared.queues.Positions.{Positions}
use Rattle.table_theory.proofs.Interleaving.{runs_merge, takes_merge}
use Rattle.table_theory.proofs.Ordering.{order_none}
use Rattle.table_theory.proofs.Positioned.{grows_trans}
use Rattle.claim_queue.specs.Closings.{ClosedNow}
use Rattle.spooler.specs.Spooled.{IsSpooled}
use Rattle.spooler.proofs.Wholes.{AllWhole, all_whole, order_whole, one_cut}

-- ENDS

-- what these ends, one for each job, have put
pub record Produced (jobs : List (List (List ℕ))) (backs : List View) : Type 0 where
  pub puts : map (map line_of) (map (λ u. u.own.runs) backs) ≡ jobs
  pub up : (k : ℕ) (l : List Batch) → get_elem? (map (λ u. u.own.runs) backs) k ≡ some l → Ascending l
  pub none : joined (map (λ u. u.own.takes) backs) ≡ []

-- a taker's end has taken these lines and nothing else, and found the queue shut and all taken
pub record Taken (lines : List (List ℕ)) (v : View) : Type 0 where
  pub takes : lines_taken v ≡ lines
  pub order : InOrder v.own.takes
  pub none : v.own.runs ≡ []
  pub shut : v.seen.object.shut ≡ true
  pub all : v.seen.object.taken ≡ length v.seen.object.places

no_batch : (l : List Batch) → map line_of l ≡ [] → l ≡ []
no_batch [] e = refl
no_batch (x ∷ xs) e = absurd cc

abbrev pub Idle : View → Type 0
Idle v = (v.own.runs ≡ []) × (v.own.takes ≡ [])

abbrev pub AllIdle : List View → Type 0
AllIdle [] = Unit {0}
AllIdle (v ∷ vs) = Idle v × AllIdle vs

at_front : (x : List Batch) (xs : List (List Batch)) → Ascending x → ((k : ℕ) (l : List Batch) → get_elem? xs k ≡ some l → Ascending l) → (k : ℕ) (l : List Batch) → get_elem? (x ∷ xs) k ≡ some l → Ascending l
at_front x xs up ups zero l at = subst Ascending (some-injective x l at) up
at_front x xs up ups (suc k) l at = ups k l at

-- ends that had put and taken nothing
pub produced : (jobs : List (List (List ℕ))) (ends backs : List View) → AllIdle ends → PutsEach jobs ends backs → Produced jobs backs
produced [] ends [] idle p = record { puts = refl; up = λ k l at. absurd (some-ne-none l (sym at)); none = refl }
produced [] ends (w ∷ backs) idle p = absurd (let e : length (w ∷ backs) ≡ 0 = ap length p.1 in omega arith)
produced (job ∷ jobs) [] backs idle p = absurd p
produced (job ∷ jobs) (v ∷ ends) [] idle p = absurd p
produced (job ∷ jobs) (v ∷ ends) (w ∷ backs) idle p =
    let rest = produced jobs ends backs idle.1 p.1 in
    let puts : map line_of w.own.runs ≡ job = p.0.puts ∙ ap (λ (z : List Batch). map line_of z ++ job) idle.0.0 in
    let none : w.own.takes ≡ [] = no_batch w.own.takes (p.0.takes ∙ ap (map line_of) idle.0.1) in record {
      puts = λ i. puts i ∷ rest.puts i;
      up = at_front w.own.runs (map (λ (u : View). u.own.runs) backs) (p.0.order (subst InOrder (sym idle.0.0) order_none)).0 rest.up;
      none = (λ i. none i ++ rest.none i);
    }

-- the share of ends is what it was before they put
pub same_share : (jobs : List (List (List ℕ))) (ends backs : List View) → PutsEach jobs ends backs → total (λ u. u.member.share) backs ≡ total (λ u. u.member.share) ends
same_share [] ends backs p = ap (total (λ (u : View). u.member.share)) (p.1 ∙ sym p.0)
same_share (job ∷ jobs) [] backs p = absurd p
same_share (job ∷ jobs) (v ∷ ends) [] p = absurd p
same_share (job ∷ jobs) (v ∷ ends) (w ∷ backs) p = let one = p.0.share in let rest = same_share jobs ends backs p.1 in omega arith

pub taken : (lines : List (List ℕ)) (v w : View) → v.own.runs ≡ [] → v.own.takes ≡ [] → KeepsPuts v w → HasTaken lines v w → Taken lines w
taken lines v w runs takes k h = record {
  takes = h.takes ∙ ap (λ (z : List Batch). map line_of z ++ lines) takes;
  order = (h.order (subst InOrder (sym takes) order_none, λ m e at. absurd (some-ne-none e (sym (subst (λ (z : List Batch). get_elem? z m ≡ some e) takes at))))).0;
  none = no_batch w.own.runs (k.puts ∙ ap (map line_of) runs);
  shut = h.shut;
  all = h.all;
}

-- ALL ENDS

two : (a b l : List Batch) → Ascending a → Ascending b → (k : ℕ) → get_elem? (a ∷ b ∷ []) k ≡ some l → Ascending l
two a b l x y zero at = subst Ascending (some-injective a l at) x
two a b l x y (suc zero) at = subst Ascending (some-injective b l at) y
two a b l x y (suc (suc k)) at = absurd (some-ne-none l (sym at))

whole_jobs : (jobs : List (Vec Line)) (l : List (List ℕ)) (k : ℕ) → get_elem? (map (λ (job : Vec Line). lines_of job.items) jobs) k ≡ some l → AllWhole l
whole_jobs [] l k at = absurd (some-ne-none l (sym at))
whole_jobs (j ∷ jobs) l zero at = subst AllWhole (some-injective (lines_of j.items) l at) (all_whole j.items)
whole_jobs (j ∷ jobs) l (suc k) at = whole_jobs jobs l k at

whole_two : (a b : List Line) (l : List (List ℕ)) (k : ℕ) → get_elem? (lines_of a ∷ lines_of b ∷ []) k ≡ some l → AllWhole l
whole_two a b l zero at = subst AllWhole (some-injective (lines_of a) l at) (all_whole a)
whole_two a b l (suc zero) at = subst AllWhole (some-injective (lines_of b) l at) (all_whole b)
whole_two a b l (suc (suc k)) at = absurd (some-ne-none l (sym at))

-- a queue that was shut with all taken stays so
all_out : (q r : Positions) → Grows q r → q.shut ≡ true → q.taken ≡ length q.places → r.taken ≤ length r.places → r.taken ≡ length r.places
all_out q r g shut all following = let s = g.still shut in let f = g.further in omega arith

-- a queue that grew twice
pub grown_two : (q r s : Positions) → ∥ Grows q r ∥₁ → ∥ Grows r s ∥₁ → ∥ Grows q s ∥₁
grown_two q r s a b = ∥∥₁_elim a squash₁ (λ (g : Grows q r). ∥∥₁_map b (grows_trans q r s g))

module _ (jobs : List (Vec Line)) (one other : List Line) (first p t u v : View) (backs : List View) where
  abbrev lines_in : List (List (List ℕ))
  lines_in = map (λ (job : Vec Line). lines_of job.items) jobs

  abbrev runs_in : List (List Batch)
  runs_in = map (λ (w : View). w.own.runs) backs

  pub spooled : (begin put gone : ℕ) (left : List (Option ℕ)) → Idle first → Produced lines_in backs → Gathered first backs p → Taken (lines_of one) t → Taken (lines_of other) u
      → v.own.runs ≡ (p.own.runs ++ t.own.runs) ++ u.own.runs → v.own.takes ≡ (p.own.takes ++ t.own.takes) ++ u.own.takes
      → ∥ Grows t.seen.object v.seen.object ∥₁ → ClosedNow v begin put gone left → IsSpooled lines_in (lines_of one ∷ lines_of other ∷ [])
  spooled begin put gone left idle s g s' s'' runs takes grows closed =
      let q : Positions = v.seen.object in
      let p_runs : p.own.runs ≡ joined runs_in = g.runs ∙ ap (λ (z : List Batch). z ++ joined runs_in) idle.0 in
      let p_takes : p.own.takes ≡ [] = g.takes ∙ (λ i. idle.1 i ++ s.none i) in
      let put_is : v.own.runs ≡ joined runs_in = runs ∙ ((λ i. (p.own.runs ++ s'.none i) ++ s''.none i) ∙ (append-nil (p.own.runs ++ []) ∙ (append-nil p.own.runs ∙ p_runs))) in
      let now : v.own.takes ≡ joined (t.own.takes ∷ u.own.takes ∷ []) = takes ∙ ((λ i. (p_takes i ++ t.own.takes) ++ u.own.takes) ∙ ap (λ (z : List Batch). t.own.takes ++ z) (sym (append-nil u.own.takes))) in
      let m = runs_merge q (part_of v) runs_in closed.listed s.up put_is in
      let n = takes_merge q (part_of v) (t.own.takes ∷ u.own.takes ∷ []) closed.listed (λ k z at. two t.own.takes u.own.takes z s'.order.0 s''.order.0 k at) now in
      let put_so : Interleaves m.0 lines_in = subst (λ (z : List (List (List ℕ))). Interleaves m.0 z) s.puts m.1 in
      let took_so : Interleaves n.0 (lines_of one ∷ lines_of other ∷ []) = subst (λ (z : List (List (List ℕ))). Interleaves n.0 z) (λ i. s'.takes i ∷ s''.takes i ∷ []) n.1 in
      let following = closed.settled.taken_within in
      let is = closed.taken_is in
      let long : length (map item_of q.places) ≡ length q.places = length-map q.places item_of in
      let out : q.taken ≡ length q.places =
      ∥∥₁_elim grows (ℕ_set _ _) (λ (g : Grows t.seen.object q). all_out t.seen.object q g s'.shut s'.all (omega arith)) in
      let items : concat n.0 ≡ concat m.0 = n.2 ∙ (ap (map item_of) (ap (λ (z : ℕ). take z q.places) out ∙ take-length q.places) ∙ sym m.2) in
      let same : n.0 ≡ m.0 = one_cut n.0 m.0 (order_whole n.0 (lines_of one ∷ lines_of other ∷ []) took_so (λ k z at. whole_two one other z k at)) (order_whole m.0 lines_in put_so (λ k z at. whole_jobs jobs z k at)) items in
      record { order = m.0; of_producers = put_so; of_takers = subst (λ (z : List (List ℕ)). Interleaves z (lines_of one ∷ lines_of other ∷ [])) same took_so }
