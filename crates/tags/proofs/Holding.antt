-- What an end holds after a call of the queue.
use Rattle.tags.proofs.Common.{◌≡◌, ℕ, ◌+◌, ◌<◌, ◌≤◌, Bool, true, List, [], ◌∷◌, ◌++◌, ◌∙◌, refl, sym, ap, subst, arith, ⊎_elim, map-append, le_prop, ∥∥₁_elim, cond, not, dite, some, some-ne-none, ℕ_discrete, dec_lt, get_elem?, Batch, Positions, AbsState, Reaches, AllRaised, Grows, head_of, Placed, WasPut, placed_lines, is_later, items_in, returned, times, given_in, given_joined, given_one, item_counts, items_joined, items_one, placed, at_joined, at_push, times_other, times_self, ArePut, run_of, View, did_both, nothing_did, of_queues, with_run, with_taking, KeepsTo, acquired, count_in, held, released, HoldsSame, HoldsMore, HoldsLess, IsHolding, Lends}
use Rattle.std.proofs.lemmas.Bool.{ne_eqb}
use Rattle.table_theory.specs.Batches.{line_of}
use Rattle.claim_queue.specs.declared.rule.QueueOps.{QueueOps}
use Rattle.tags.specs.Laws.{lends_begins, lends_joins, lends_takes}

placed_more : (l : List Batch) (e : Batch) → placed_lines (l ++ e ∷ []) ≡ placed_lines l ++ placed e ∷ []
placed_more l e = map-append placed l (e ∷ [])

-- how often x is in a list of one tag
one_tag : (x tag : ℕ) → times x (tag ∷ []) ≤ 1
one_tag x tag = dite (ℕ_discrete tag x)
    (λ same. let a = times_self x in let b = ap (λ (z : ℕ). times x (z ∷ [])) same in omega arith)
    (λ other. let a = times_other x tag other in omega arith)

-- a line past the first position is a later line
given_past : (first x : ℕ) (line : Placed) → first < line.0 → given_in first x line ≡ times x line.1
given_past first x line past = let is : is_later first line ≡ true = ap not (ne_eqb line.0 first (λ e. omega arith)) in ap (λ (b : Bool). cond b (times x line.1) 0) is

-- a tag that the end holds is held as often at least as it is in the list of it alone
one_held : (v : View) (tag x : ℕ) → 0 < held v tag → times x (tag ∷ []) ≤ held v x
one_held v tag x has = dite (ℕ_discrete tag x)
    (λ same. let a = one_tag x tag in let b = subst (λ (z : ℕ). 0 < held v z) same has in omega arith)
    (λ other. let a = times_other x tag other in omega arith)

-- what the queue's laws say of the steps between two moments
abbrev pub Rises : Type 0
Rises = (m n : AbsState Positions) → Reaches of_queues m n → Grows m.object n.object

-- LISTS

module _ (v w : View) (first : w.first ≡ v.first) where
  pub acquired_by : (takes : List Placed) (x : ℕ) → placed_lines w.own.takes ≡ takes → times x (acquired w) ≡ times x (items_in takes)
  acquired_by takes x is = ap (λ (z : List Placed). times x (items_in z)) is

  pub released_by : (puts : List Placed) (x : ℕ) → placed_lines w.own.runs ≡ puts → times x (released w) ≡ times x (returned (count_in v) puts)
  released_by puts x is = (λ i. times x (returned (first i).first (is i)))

  pub keeps_by : (puts takes : List Placed) → placed_lines w.own.runs ≡ puts → placed_lines w.own.takes ≡ takes → Lends (count_in v) puts takes → KeepsTo Lends w
  keeps_by puts takes ps ts h = subst (λ (z : List Placed). Lends w.first.first z (placed_lines w.own.takes)) (sym ps) (subst (λ (z : List Placed). Lends w.first.first puts z) (sym ts) (subst (λ (z : Positions). Lends z.first puts takes) (sym first) h))

  begun_on : Grows v.seen.object w.seen.object → count_in v < head_of v.seen.object → count_in w < head_of w.seen.object
  begun_on g h = let a = g.first in let b = g.longer in let c = ap (λ (z : Positions). z.first) first in omega arith

  -- the put of all tags, once seen, stays seen
  pub begun_since : ∥ Reaches of_queues v.seen w.seen ∥₁ → Rises → count_in v < head_of v.seen.object → count_in w < head_of w.seen.object
  begun_since since rises h = ∥∥₁_elim since le_prop (λ (r : Reaches of_queues v.seen w.seen). begun_on (rises v.seen w.seen r) h)

  -- nothing was put and nothing taken
  module _ (own : w.own ≡ v.own) where
    pub same_held : HoldsSame v w
    same_held x = let a = acquired_by (placed_lines v.own.takes) x (ap (λ (z : QueueOps). placed_lines z.takes) own) in let b = released_by (placed_lines v.own.runs) x (ap (λ (z : QueueOps). placed_lines z.runs) own) in omega arith

    pub same_holding : count_in w < head_of w.seen.object → IsHolding v → IsHolding w
    same_holding g h = record {
      keeps = keeps_by (placed_lines v.own.runs) (placed_lines v.own.takes) (ap (λ (z : QueueOps). placed_lines z.runs) own) (ap (λ (z : QueueOps). placed_lines z.takes) own) h.keeps;
      known = λ x past. let a = acquired_by (placed_lines v.own.takes) x (ap (λ (z : QueueOps). placed_lines z.takes) own) in let c = ap (λ (z : Positions). z.first) first in let b = h.known x (omega arith) in omega arith;
      begun = g;
      raised = subst (λ (z : QueueOps). AllRaised z.runs) (sym own) h.raised;
      never_shut = ap (λ (z : QueueOps). z.shuts) own ∙ h.never_shut;
    }

  -- a line of one tag was taken
  module _ (tag : ℕ) (e : Batch) (own : w.own ≡ with_taking v.own e) (is : line_of e ≡ tag ∷ []) where
    takes : placed_lines w.own.takes ≡ placed_lines v.own.takes ++ placed e ∷ []
    takes = ap (λ (z : QueueOps). placed_lines z.takes) own ∙ placed_more v.own.takes e

    runs : placed_lines w.own.runs ≡ placed_lines v.own.runs
    runs = ap (λ (z : QueueOps). placed_lines z.runs) own

    acquired_more : (x : ℕ) → times x (acquired w) ≡ times x (acquired v) + times x (tag ∷ [])
    acquired_more x = let a = acquired_by (placed_lines v.own.takes ++ placed e ∷ []) x takes in let b = items_joined x (placed_lines v.own.takes) (placed e ∷ []) in let c = items_one x (placed e) in let d = ap (times x) is in omega arith

    pub took_held : IsHolding v → HoldsMore tag v w
    took_held h x = let a = acquired_more x in let b = released_by (placed_lines v.own.runs) x runs in let f = h.keeps.fair x in omega arith

    pub took_holding : count_in w < head_of w.seen.object → tag < count_in v → IsHolding v → IsHolding w
    took_holding g low h = record {
      keeps = keeps_by (placed_lines v.own.runs) (placed_lines v.own.takes ++ placed e ∷ []) runs takes (lends_takes (count_in v) (placed_lines v.own.runs) (placed_lines v.own.takes) (placed e) h.keeps);
      known = λ x past. let a = acquired_more x in let c = ap (λ (z : Positions). z.first) first in let b = h.known x (omega arith) in let d = times_other x tag (λ z. omega arith) in omega arith;
      begun = g;
      raised = subst (λ (z : QueueOps). AllRaised z.runs) (sym own) h.raised;
      never_shut = ap (λ (z : QueueOps). z.shuts) own ∙ h.never_shut;
    }

-- A number that was taken is a tag
pub is_tag : (w : View) (tag : ℕ) → ArePut Lends w (tag ∷ []) → tag < count_in w
is_tag w tag put = let p : WasPut Lends w.first.first tag = put 0 tag refl in let some_there = item_counts tag p.number p.index p.puts p.line p.is_there p.is_item in
    dite (dec_lt tag (count_in w)) (λ low. low) (λ high. absurd (let none_there = p.allowed.known tag (omega arith) in omega arith))

-- PUTS

-- the end may give back a tag that it holds, past the first position
pub may_give : (v : View) (tag start : ℕ) → IsHolding v → 0 < held v tag → count_in v < start → Lends (count_in v) (placed_lines v.own.runs ++ (start, tag ∷ []) ∷ []) (placed_lines v.own.takes)
may_give v tag start h has past =
    let puts : List Placed = placed_lines v.own.runs in let line : Placed = (start, tag ∷ []) in let first : ℕ = count_in v in
    let low : tag < first = dite (dec_lt tag first) (λ l. l) (λ high. absurd (let k = h.known tag (omega arith) in omega arith)) in record {
      first = λ m l at is. ⊎_elim (λ old. h.keeps.first m l old is) (λ new. absurd (let s = ap (λ (z : Placed). z.0) new.1 in omega arith)) (at_push puts line l m at);
      known = λ x high. let a = items_joined x puts (line ∷ []) in let b = items_one x line in let c = h.keeps.known x high in let d = times_other x tag (λ z. omega arith) in omega arith;
      fair = λ x. let a = given_joined first x puts (line ∷ []) in let b = given_one first x line in let c = given_past first x line past in let d = one_held v tag x has in let e = h.keeps.fair x in omega arith;
    }

-- it gave the tag back
module _ (v w : View) (first : w.first ≡ v.first) (tag start : ℕ) (own : w.own ≡ with_run v.own (run_of start (tag ∷ []) 1)) (past : count_in v < start) (h : IsHolding v) (has : 0 < held v tag) where
  given_runs : placed_lines w.own.runs ≡ placed_lines v.own.runs ++ (start, tag ∷ []) ∷ []
  given_runs = ap (λ (z : QueueOps). placed_lines z.runs) own ∙ placed_more v.own.runs (run_of start (tag ∷ []) 1)

  given_takes : placed_lines w.own.takes ≡ placed_lines v.own.takes
  given_takes = ap (λ (z : QueueOps). placed_lines z.takes) own

  pub gave_held : HoldsLess tag v w
  gave_held x =
      let line : Placed = (start, tag ∷ []) in
      let a = acquired_by v w first (placed_lines v.own.takes) x given_takes in
      let b = released_by v w first (placed_lines v.own.runs ++ line ∷ []) x given_runs in
      let c = given_joined (count_in v) x (placed_lines v.own.runs) (line ∷ []) in let d = given_one (count_in v) x line in let e = given_past (count_in v) x line past in
      let f = one_held v tag x has in let g = h.keeps.fair x in omega arith

  pub gave_holding : count_in w < head_of w.seen.object → AllRaised w.own.runs → IsHolding w
  gave_holding g raised = record {
    keeps = keeps_by v w first (placed_lines v.own.runs ++ (start, tag ∷ []) ∷ []) (placed_lines v.own.takes) given_runs given_takes (may_give v tag start h has past);
    known = λ x high. let a = acquired_by v w first (placed_lines v.own.takes) x given_takes in let c = ap (λ (z : Positions). z.first) first in let b = h.known x (omega arith) in omega arith;
    begun = g;
    raised = raised;
    never_shut = ap (λ (z : QueueOps). z.shuts) own ∙ h.never_shut;
  }

-- ENDS

-- an end that did nothing
module _ (v : View) (idle : v.own ≡ nothing_did) where
  pub idle_held : (x : ℕ) → held v x ≡ 0
  idle_held x = let a : times x (acquired v) ≡ 0 = ap (λ (z : QueueOps). times x (items_in (placed_lines z.takes))) idle in omega arith

  pub idle_holding : count_in v < head_of v.seen.object → IsHolding v
  idle_holding begun = record {
    keeps = subst (λ (z : QueueOps). Lends v.first.first (placed_lines z.runs) (placed_lines z.takes)) (sym idle) (lends_begins v.first.first);
    known = λ x past. ap (λ (z : QueueOps). times x (items_in (placed_lines z.takes))) idle;
    begun = begun;
    raised = λ m e at. absurd (some-ne-none e (sym (subst (λ (z : QueueOps). get_elem? z.runs m ≡ some e) idle at)));
    never_shut = ap (λ (z : QueueOps). z.shuts) idle;
  }

-- an end took in another
module _ (v u w : View) (first : w.first ≡ v.first) (own : w.own ≡ did_both v.own u.own) (one : count_in u ≡ count_in v) where
  both_runs : placed_lines w.own.runs ≡ placed_lines v.own.runs ++ placed_lines u.own.runs
  both_runs = ap (λ (z : QueueOps). placed_lines z.runs) own ∙ map-append placed v.own.runs u.own.runs

  both_takes : placed_lines w.own.takes ≡ placed_lines v.own.takes ++ placed_lines u.own.takes
  both_takes = ap (λ (z : QueueOps). placed_lines z.takes) own ∙ map-append placed v.own.takes u.own.takes

  both_acquired : (x : ℕ) → times x (acquired w) ≡ times x (acquired v) + times x (acquired u)
  both_acquired x = let a = acquired_by v w first (placed_lines v.own.takes ++ placed_lines u.own.takes) x both_takes in let b = items_joined x (placed_lines v.own.takes) (placed_lines u.own.takes) in omega arith

  both_released : (x : ℕ) → times x (released w) ≡ times x (released v) + times x (released u)
  both_released x =
      let a = released_by v w first (placed_lines v.own.runs ++ placed_lines u.own.runs) x both_runs in
      let b = given_joined (count_in v) x (placed_lines v.own.runs) (placed_lines u.own.runs) in
      let c = ap (λ (z : ℕ). times x (returned z (placed_lines u.own.runs))) one in omega arith

  pub both_held : IsHolding v → IsHolding u → (x : ℕ) → held w x ≡ held v x + held u x
  both_held h k x = let a = both_acquired x in let b = both_released x in let c = h.keeps.fair x in let d = k.keeps.fair x in omega arith

  pub both_holding : count_in w < head_of w.seen.object → IsHolding v → IsHolding u → IsHolding w
  both_holding g h k = record {
    keeps = keeps_by v w first (placed_lines v.own.runs ++ placed_lines u.own.runs) (placed_lines v.own.takes ++ placed_lines u.own.takes) both_runs both_takes
        (lends_joins (count_in v) (placed_lines v.own.runs) (placed_lines v.own.takes) (placed_lines u.own.runs) (placed_lines u.own.takes) h.keeps (subst (λ (z : ℕ). Lends z (placed_lines u.own.runs) (placed_lines u.own.takes)) one k.keeps));
    known = λ x past. let a = both_acquired x in let f = ap (λ (z : Positions). z.first) first in let b = h.known x (omega arith) in let c = k.known x (omega arith) in omega arith;
    begun = g;
    raised = subst (λ (z : QueueOps). AllRaised z.runs) (sym own) (λ m e at. ⊎_elim (λ old. h.raised m e old) (λ new. k.raised new.0 e new.2) (at_joined v.own.runs u.own.runs m e at));
    never_shut = let a = ap (λ (z : QueueOps). z.shuts) own in let b = h.never_shut in let c = k.never_shut in omega arith;
  }
