-- The first put of a new queue: it is not refused, and it is the line at the queue's first position.
use Rattle.tags.proofs.Common.{◌≡◌, ℕ, zero, suc, ◌+◌, ◌<◌, ◌≤◌, Bool, false, List, [], ◌∷◌, ◌++◌, ◌∙◌, map, length, inl, inr, refl, sym, ap, subst, arith, eq-eqb, le_prop, ∥∥₁_elim, length-append, cond, not, some, some-injective, some-ne-none, get_elem?, Batch, Positions, AbsState, Owned, ExtendsTrace, IsValidStep, IsValidView, Reaches, Step, AllRaised, ViewsShow, IsListed, all_places, head_of, item_of, tail_of, Placed, placed_lines, IsWhole, is_later, items_in, times, given_in, given_one, items_one, all_other, ClaimRefusal, Shape, Refused, places_of, run_of, MayPut, head_word, mark, tail_word, line_of, lines_put, lines_taken, View, of_queues, part_of, IsPut, newcomer, put_own, count_in, held, IsHolding, Lends, all_tags}
use Rattle.std.specs.List.{AllByRecursion}
use Rattle.std.proofs.Math.Nat.{ℕ_set}
use mathlib.Core.HLevel.{⊥_prop}
use Rattle.table_theory.specs.declared.queues.Cell.{Cell}
use Rattle.table_theory.specs.Courses.{Continues}
use Rattle.table_theory.proofs.Reaching.{alone_since}
use Rattle.claim_queue.specs.declared.claim.ClaimRefusal.TheVariants as not_claimed
use Rattle.tags.proofs.Calls.{Since}
use Rattle.tags.proofs.Holding.{Rises, keeps_by}

abbrev Steps : Type 0
Steps = List (Step Positions)

-- what the queue's laws say of the head, and of the tail, that a step found
abbrev pub HeadSays : Type 0
HeadSays = (e : Step Positions) → e.word ≡ head_word → IsValidStep of_queues e → e.found ≡ head_of e.then.object + mark e.then.object.shut

abbrev pub TailSays : Type 0
TailSays = (e : Step Positions) → e.word ≡ tail_word → IsValidStep of_queues e → e.found ≡ tail_of e.then.object

-- THE LINE

-- the protocol allows the line of all tags at the first position
lends_first : (count start : ℕ) (items : List ℕ) → start ≡ count → items ≡ all_tags count → Lends count ((start, items) ∷ []) []
lends_first count start items at_first all = record {
  first = λ m line at is. only m line at;
  known = λ x past. let a = items_one x (start, items) in let b = ap (times x) all in let c = all_other x count past in omega arith;
  fair = λ x. let a = given_one count x (start, items) in let b = no_gift x in omega arith;
}
  where
    only : (m : ℕ) (line : Placed) → get_elem? ((start, items) ∷ []) m ≡ some line → line.1 ≡ all_tags count
    only zero line at = ap (λ (z : Placed). z.1) (sym (some-injective (start, items) line at)) ∙ all
    only (suc m) line at = absurd (some-ne-none line (sym at))

    no_gift : (x : ℕ) → given_in count x (start, items) ≡ 0
    no_gift x = let is : is_later count (start, items) ≡ false = ap not (eq-eqb start count at_first) in ap (λ (b : Bool). cond b (times x items) 0) is

-- the line of a run, however many of its places are raised
line_all : (items : List ℕ) (r : ℕ) → map item_of (places_of items r) ≡ items
line_all [] r = refl
line_all (x ∷ items) zero = ap (λ (z : List ℕ). x ∷ z) (line_all items zero)
line_all (x ∷ items) (suc r) = ap (λ (z : List ℕ). x ∷ z) (line_all items r)

module _ (shape : Shape) (v : View) (new : v ≡ newcomer shape) where
  whole : IsWhole v.member.share
  whole = ap (λ (z : View). z.member.share) new

  pub may_fill : (items : List ℕ) → items ≡ all_tags shape.first → MayPut Lends v items
  may_fill items all start from alone =
      let at : start ≡ shape.first + 0 = alone whole ∙ ap (λ (z : View). head_of z.seen.object) new in
      subst (λ (z : View). Lends z.first.first (placed_lines z.own.runs ++ (start, items) ∷ []) (placed_lines z.own.takes)) (sym new) (lends_first shape.first start items (omega arith) all)

  pub new_raised : AllRaised v.own.runs
  new_raised m e at = absurd (some-ne-none e (sym (subst (λ (z : View). get_elem? z.own.runs m ≡ some e) new at)))

  module _ (w : View) (x : IsValidView of_queues v) (y : IsValidView of_queues w) (head_says : HeadSays) (tail_says : TailSays) where
    -- the only end's entries are all steps since
    alone_led : (entries : Steps) → ExtendsTrace v entries w → Continues v.seen entries w.seen × AllByRecursion (IsValidStep of_queues) entries
    alone_led entries a = alone_since of_queues v w entries whole x y a

    -- a head, or a tail, that was found in the empty queue is its first position
    head_here : (e : Step Positions) → e.word ≡ head_word → v.seen ≡ e.then → IsValidStep of_queues e → e.found ≡ shape.first
    head_here e word is real =
        let a = head_says e word real in
        let b : head_of e.then.object + mark e.then.object.shut ≡ shape.first + 0 + 0 = ap (λ (z : AbsState Positions). head_of z.object + mark z.object.shut) (sym is ∙ ap (λ (z : View). z.seen) new) in omega arith

    tail_here : (e : Step Positions) → e.word ≡ tail_word → v.seen ≡ e.then → IsValidStep of_queues e → e.found ≡ shape.first
    tail_here e word is real =
        let a = tail_says e word real in
        let b : tail_of e.then.object ≡ shape.first + 0 = ap (λ (z : AbsState Positions). tail_of z.object) (sym is ∙ ap (λ (z : View). z.seen) new) in omega arith

    not_refused : (n count : ℕ) → 0 < count → count ≤ n → shape.first + count < 4294967296 → (r : ClaimRefusal) → Refused n v count r w → ⊥
    not_refused n count some_item fits few not_claimed.NoItems h = let e = h.0 in omega arith
    not_refused n count some_item fits few not_claimed.TooLong h = let e = h.0 in omega arith
    not_refused n count some_item fits few not_claimed.Closed (f, inl (head, m, marked, made)) = let a = alone_led _ made.adds in let s = head_here _ refl a.0.0 a.1.0 in omega arith
    not_refused n count some_item fits few not_claimed.Closed (f, inr (head, tail, now, m, l, o, there, marked, made)) = let a = alone_led _ made.adds in let s = head_here _ refl (a.0.0 ∙ (a.0.1.0 ∙ a.0.1.1.0)) a.1.1.1.0 in omega arith
    not_refused n count some_item fits few not_claimed.Spent (f, head, m, is_open, spent, made) = let a = alone_led _ made.adds in let s = head_here _ refl a.0.0 a.1.0 in omega arith
    not_refused n count some_item fits few (not_claimed.Full head tail) (f, m, l, bounded, over, made) = let a = alone_led _ made.adds in let s = head_here _ refl a.0.0 a.1.0 in let t = tail_here _ refl (a.0.0 ∙ a.0.1.0) a.1.1.0 in omega arith
    not_refused n count some_item fits few (not_claimed.Lost now) (f, head, tail, m, l, o, there, is_open, past, made) =
        let a = alone_led _ made.adds in let s = head_here _ refl a.0.0 a.1.0 in let t = head_here _ refl (a.0.0 ∙ (a.0.1.0 ∙ a.0.1.1.0)) a.1.1.1.0 in omega arith

    -- the line begins at the first position
    starts_first : (n start : ℕ) (items : List ℕ) → IsPut n v start items w → start ≡ shape.first
    starts_first n start items (past, (raises, are, (tail, m, l, o, fits, there, made))) = let a = alone_led _ made.adds in head_here _ refl a.0.0 a.1.0

-- a queue with a run has a place
some_place : (places : List Cell) (first : ℕ) (log : List (Owned Batch)) (l : List Batch) (e : Batch) → IsListed first places log (l ∷ []) → get_elem? l 0 ≡ some e → 0 < length places
some_place places first [] l e k at = absurd (let t = k.filed.listed 0 l 0 e refl at in some-ne-none (0, 0, e) (sym t.1))
some_place places first (o ∷ log) l e k at = let a = k.solid 0 o refl in let b = length-append o.2.places (all_places log) in let c = ap length k.flat in omega arith

-- THE NEW HOLDER, by ends that are honest for all that is known
module _ (shape : Shape) (v w : View) (new : v ≡ newcomer shape) (x : ∥ IsValidView of_queues v ∥₁) (y : ∥ IsValidView of_queues w ∥₁) (head_says : HeadSays) (tail_says : TailSays) where
  pub never_refused : (n count : ℕ) → 0 < count → count ≤ n → shape.first + count < 4294967296 → (r : ClaimRefusal) → Refused n v count r w → ⊥
  never_refused n count some_item fits few r h = ∥∥₁_elim x ⊥_prop (λ (p : IsValidView of_queues v). ∥∥₁_elim y ⊥_prop (λ (q : IsValidView of_queues w). not_refused shape v new w p q head_says tail_says n count some_item fits few r h))

  put_at : (n start : ℕ) (items : List ℕ) → IsPut n v start items w → start ≡ shape.first
  put_at n start items h = ∥∥₁_elim x (ℕ_set _ _) (λ (p : IsValidView of_queues v). ∥∥₁_elim y (ℕ_set _ _) (λ (q : IsValidView of_queues w). starts_first shape v new w p q head_says tail_says n start items h))

  module _ (n start : ℕ) (items : List ℕ) (all : items ≡ all_tags shape.first) (put : IsPut n v start items w) where
    abbrev run_put : Batch
    run_put = run_of start items (length items)

    first : w.first ≡ v.first
    first = (put_own n v w start items put).adds.first

    runs : w.own.runs ≡ run_put ∷ []
    runs = (λ i. ((put_own n v w start items put).did i).runs) ∙ ap (λ (z : View). z.own.runs ++ run_put ∷ []) new

    takes : w.own.takes ≡ []
    takes = (λ i. ((put_own n v w start items put).did i).takes) ∙ ap (λ (z : View). z.own.takes) new

    pub put_whole : IsWhole w.member.share
    put_whole = (λ i. ((put_own n v w start items put).member i).share) ∙ ap (λ (z : View). z.member.share) new

    pub put_count : count_in w ≡ shape.first
    put_count = ap (λ (z : Positions). z.first) first ∙ ap (λ (z : View). z.first.first) new

    pub put_lines : (lines_put w ≡ all_tags shape.first ∷ []) × (lines_taken w ≡ [])
    put_lines = (ap (map line_of) runs ∙ ap (λ (z : List ℕ). z ∷ []) (line_all items (length items) ∙ all), ap (map line_of) takes)

    pub put_none : (x : ℕ) → held w x ≡ 0
    put_none x = let a : times x (items_in (placed_lines w.own.takes)) ≡ 0 = ap (λ (z : List Batch). times x (items_in (placed_lines z))) takes in omega arith

    pub put_holding : (∥ ViewsShow w.seen.object (part_of w ∷ []) ∥₁) → Since v w → Rises → AllRaised w.own.runs → IsHolding w
    put_holding listed since rises raised = record {
      keeps = keeps_by v w first ((start, items) ∷ []) [] (ap placed_lines runs ∙ ap (λ (z : List ℕ). (start, z) ∷ []) (line_all items (length items))) (ap placed_lines takes)
          (subst (λ (z : View). Lends z.first.first ((start, items) ∷ []) []) (sym new) (lends_first shape.first start items (put_at n start items put) all));
      known = λ x past. ap (λ (z : List Batch). times x (items_in (placed_lines z))) takes;
      begun = ∥∥₁_elim listed le_prop (λ (s : ViewsShow w.seen.object (part_of w ∷ [])). ∥∥₁_elim (since _ (put_own n v w start items put).adds) le_prop (λ (r : Reaches of_queues v.seen w.seen).
          (let g = rises v.seen w.seen r in let f = g.first in let e : v.seen.object.first ≡ shape.first = ap (λ (z : View). z.seen.object.first) new in let c = put_count in
          let p = some_place w.seen.object.places w.seen.object.first s.lists.runs w.own.runs run_put s.lists.runs_are (ap (λ (z : List Batch). get_elem? z 0) runs) in omega arith)));
      raised = raised;
      never_shut = (λ i. ((put_own n v w start items put).did i).shuts) ∙ ap (λ (z : View). z.own.shuts) new;
    }
