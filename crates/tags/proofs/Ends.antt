-- What splitting, joining and closing leave of holders.
use Rattle.tags.proofs.Common.{◌≡◌, ℕ, zero, suc, ◌+◌, ◌≤◌, List, [], ◌∷◌, ◌∙◌, ⊎_elim, map, length, take, drop, refl, sym, ap, subst, arith, take-map, drop-map, Option, Some, some, some-injective, some-ne-none, get_elem?, Run, flat, Batch, Positions, Owned, Reaches, WereOpen, head_of, item_of, left_of, placed_lines, run_in, given, kept, total, first_items, returned, times, batch_given, batch_items, Accounts, held_sum, in_batch, in_later, ends_word, View, of_queues, count_in, held, released, HoldsSame, IsHolding, Lends, all_tags, KeepsTo}
use Rattle.table_theory.proofs.QueueOf.{items_are}
use Rattle.table_theory.proofs.Looking.{Does, does}
use Rattle.claim_queue.specs.Closings.{ClosedNow}
use Rattle.claim_queue.specs.Endings.{IsNewEnd, JoinedBy, SplitBy}
use Rattle.tags.proofs.Calls.{Since}
use Rattle.tags.proofs.Holding.{Rises, begun_since, both_held, both_holding, idle_held, idle_holding, same_held, same_holding}
use Rattle.tags.proofs.Owners.{first_line, no_places}

-- SPLITS

module _ (v w born : View) (d : SplitBy v w) where
  pub split_held : HoldsSame v w
  split_held = same_held v w d.adds.first d.own

  pub split_holding : Since v w → Rises → IsHolding v → IsHolding w
  split_holding since rises h = same_holding v w d.adds.first d.own (begun_since v w d.adds.first (since _ d.adds) rises h.begun) h

  module _ (b : IsNewEnd v w born) where
    pub born_none : (x : ℕ) → held born x ≡ 0
    born_none = idle_held born (ap (λ (z : View). z.own) b)

    pub born_count : count_in born ≡ count_in w
    born_count = ap (λ (z : View). z.first.first) b

    pub born_holding : IsHolding w → IsHolding born
    born_holding h = idle_holding born (ap (λ (z : View). z.own) b) (let a = ap (λ (z : View). z.first.first) b in let s = ap (λ (z : View). head_of z.seen.object) b in let p = h.begun in omega arith)

    pub split_share : (w.member.share ≡ kept v.member.share) × (born.member.share ≡ given v.member.share)
    split_share = ((λ k. (d.member k).share), ap (λ (z : View). z.member.share) b)

-- JOINS

module _ (v u w : View) (t : JoinedBy v u w) (one : count_in u ≡ count_in v) where
  pub join_held : IsHolding v → IsHolding u → (x : ℕ) → held w x ≡ held v x + held u x
  join_held = both_held v u w t.adds.first t.own one

  pub join_holding : ∥ Reaches of_queues v.seen w.seen ∥₁ → Rises → IsHolding v → IsHolding u → IsHolding w
  join_holding since rises h k = both_holding v u w t.adds.first t.own one (begun_since v w t.adds.first since rises h.begun) h k

-- A refused close

pub open_did : (v w : View) (others : ℕ) → WereOpen ends_word v others w → Does v v.own w
open_did v w others o = does v w v.own _ o.tallied.made

-- CLOSES

module _ (v : View) (first put taken : ℕ) (left : List (Option ℕ)) (closed : ClosedNow v first put taken left) (h : IsHolding v) (is : count_in v ≡ first) where
  abbrev q : Positions
  q = v.seen.object

  abbrev log : List (Owned Batch)
  log = closed.listed.runs

  abbrev history : List Run
  history = map run_in log

  here : count_in v ≡ q.first
  here = is ∙ sym closed.starts

  items : flat history ≡ map item_of q.places
  items = items_are q log closed.listed.runs_are.flat

  accounts : Accounts (λ (u : View). u.own.runs) (λ (u : View). u.own.takes) (v ∷ []) q.first history q.taken
  accounts = record {
    runs = log;
    takings = closed.listed.takes;
    history_is = refl;
    once = closed.listed.runs_are.filed;
    near = closed.listed.runs_are.adjacent;
    solid = closed.listed.runs_are.solid;
    taken_once = closed.listed.takes_are.filed;
    taken_items = ap (map item_of) closed.listed.takes_are.flat ∙ (sym (take-map item_of q.taken q.places) ∙ ap (take q.taken) (sym items));
  }

  one : (P : View → Type 0) → P v → (j : ℕ) (u : View) → get_elem? (v ∷ []) j ≡ some u → P u
  one P p zero u at = subst P (some-injective v u at) p
  one P p (suc j) u at = absurd (some-ne-none u (sym at))

  all_first : first_items history ≡ all_tags first
  all_first = ⊎_elim
      (λ none. absurd (let d : length q.places ≡ 0 = ap length (sym closed.listed.runs_are.flat) ∙ no_places log none in let b = h.begun in let e = here in omega arith))
      (λ all. all ∙ ap all_tags closed.starts)
      (first_line q.first (v ∷ []) (one (KeepsTo Lends) h.keeps) (one (λ u. count_in u ≡ q.first) here) log closed.listed.runs_are.filed closed.listed.runs_are.adjacent)

  given_here : (x : ℕ) → times x (released v) ≡ total (in_later q.first x) v.own.runs
  given_here x = ap (λ (z : ℕ). times x (returned z (placed_lines v.own.runs))) here ∙ batch_given q.first x v.own.runs

  pub all_there : (tags : List ℕ) → ((there : List ℕ) → left ≡ map Some there → tags ≡ there) → (x : ℕ) → held v x + times x tags ≡ times x (all_tags first)
  all_there tags are x =
      let a = given_here x in let b = batch_items x v.own.takes in let f = h.keeps.fair x in
      let s = held_sum (λ (u : View). u.own.runs) (λ (u : View). u.own.takes) (v ∷ []) q.first history q.taken accounts x (one (λ u. total (in_later q.first x) u.own.runs ≤ total (in_batch x) u.own.takes) (omega arith)) in
      let rest : drop q.taken (flat history) ≡ tags = ap (drop q.taken) items ∙ (drop-map item_of q.taken q.places ∙ sym (are (left_of q) (closed.raised h.raised))) in
      let c = ap (times x) rest in let d = ap (times x) all_first in omega arith
