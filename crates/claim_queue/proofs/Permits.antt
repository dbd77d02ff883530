-- What a client's protocol allows a claim, and what it says of the items that were taken.
use Rattle.claim_queue.proofs.Common.{◌≡◌, ℕ, ◌<◌, ◌≤◌, List, [], ◌∷◌, ◌++◌, map, length, sym, refl, ap, ◌∙◌, subst, arith, some, get_elem?, at_last, at_map, ℕ_set, le_prop, Try, tried, ∥∥₁_elim, Batch, Positions, AbsState, QueueView, Performed, head_of, QueueOps, View, IsWhole, QueueEnd, view_of, head_word, tail_word, load, part_of, taking, TookItems, line_of, Found, Rule}
use Rattle.table_theory.specs.Protocols.{Condition, IsKept, WasPut, placed_lines}
use mathlib.Core.HLevel.{⊥_prop}
use Rattle.table_theory.proofs.Carried.{putter}
use Rattle.table_theory.proofs.Owned.{at_map_back}
use Rattle.table_theory.proofs.Reaching.{alone_led, alone_since}
use Rattle.claim_queue.specs.Own.{of_queues}
use Rattle.claim_queue.specs.Client.{ArePut, EachEndKeeps, MayPut}
use Rattle.claim_queue.specs.Puts.{IsLost}
use Rattle.claim_queue.specs.Rules.{KeepsTo}
use Rattle.claim_queue.proofs.Certain.{by_both, grows_since, valid_end}
use Rattle.claim_queue.proofs.Lawful.{head_open}
use Rattle.claim_queue.proofs.Stepping.{honest, step_real}

-- the line begins at a head that the protocol was asked about
pub may_claim : {n : ℕ} (old : QueueEnd n) (allows : Condition) (items : List ℕ) (head tail : ℕ) (l b : View) → MayPut allows (view_of old) items → Found (view_of old) head_word head l → Found l tail_word tail b → head < 4294967296
    → allows b.first.first (placed_lines b.own.runs ++ (head, items) ∷ []) (placed_lines b.own.takes)
may_claim old allows items head tail l b may f g low = let v : View = view_of old in let real = step_real v l (load head_word head l.seen) v.own f in let here : head ≡ head_of l.seen.object = (head_open head l.seen real low).1 in
    let from : head_of v.seen.object ≤ head = (let grown = f.grows in let first = grown.first in let longer = grown.longer in omega arith) in
    let alone : IsWhole v.member.share → head ≡ head_of v.seen.object = (λ whole. ∥∥₁_elim (valid_end old) (ℕ_set _ _) (λ x. here ∙ ap (λ (z : AbsState Positions). head_of z.object) (sym (alone_led of_queues v l (load head_word head l.seen ∷ []) whole x.leads (honest l f.ruled) f.made.adds).0.0))) in
    let own : b.own ≡ v.own = g.made.did ∙ f.made.did in let first : b.first ≡ v.first = g.made.adds.first ∙ f.made.adds.first in
    subst (λ (z : Positions). allows z.first (placed_lines b.own.runs ++ (head, items) ∷ []) (placed_lines b.own.takes)) (sym first)
    (subst (λ (z : QueueOps). allows v.first.first (placed_lines z.runs ++ (head, items) ∷ []) (placed_lines z.takes)) (sym own) (may head from alone))

-- an item that an end took was put
taken_put : (allows : Condition) (w : View) (m i item : ℕ) (e : Batch) → IsKept Rule (KeepsTo allows) w → get_elem? w.own.takes m ≡ some e → get_elem? (line_of e) i ≡ some item → WasPut allows w.first.first item
taken_put allows w m i item e k has is = let rule = k.holds.rule in let p = putter rule.now.object (map part_of k.state.views) k.number m i item (part_of w) e rule.listed.lists (at_map part_of k.state.views k.number w k.here) has is in
    let u = at_map_back part_of k.state.views p.call p.part p.here in let one : u.0.first ≡ w.first = rule.stands.true_ends.first_is p.call u.0 u.1 ∙ sym (rule.stands.true_ends.first_is k.number w k.here) in
    let its : get_elem? u.0.own.runs p.number ≡ some p.run = subst (λ (z : QueueView). get_elem? z.runs p.number ≡ some p.run) (sym u.2) p.has in record {
      puts = placed_lines u.0.own.runs;
      takes = placed_lines u.0.own.takes;
      allowed = subst (λ (z : Positions). allows z.first (placed_lines u.0.own.runs) (placed_lines u.0.own.takes)) one (k.holds.keeps p.call u.0 u.1);
      number = p.number;
      line = (p.run.start, line_of p.run);
      is_there = at_map (λ (b : Batch). (b.start, line_of b)) u.0.own.runs p.number p.run its;
      index = p.index;
      is_item = p.is_item;
    }

pub were_put : (allows : Condition) (n : ℕ) (v w : View) (items : List ℕ) → IsKept Rule (KeepsTo allows) w → TookItems n v items w → ArePut allows w items
were_put allows n v w items k (tail, m, o, scan, are, first, made) = λ i item is. (let e : Batch = taking o.object (length items) in
    taken_put allows w (length v.own.takes) i item e k (subst (λ (z : QueueOps). get_elem? z.takes (length v.own.takes) ≡ some e) (sym made.did) (at_last v.own.takes e (length v.own.takes) refl)) (subst (λ (z : List ℕ). get_elem? z i ≡ some item) (sym first) is))

-- a try that another end won leaves the end allowed to put the items
pub may_again : {n : ℕ} (old new : QueueEnd n) (allows : Condition) (items : List ℕ) (room : ℕ) (t : Try) → MayPut allows (view_of old) items → IsLost room (length items) t → Performed (view_of old) (tried (t ∷ [])) (view_of old).own (view_of new) → MayPut allows (view_of new) items
may_again old new allows items room t may lost made = λ start from alone. (let v : View = view_of old in let w : View = view_of new in
    let before : head_of v.seen.object ≤ start = by_both old new le_prop (λ x y. (let g = grows_since v w (tried (t ∷ [])) made.adds x y in let first = g.first in let longer = g.longer in omega arith)) in
    let never : IsWhole v.member.share → ⊥ = (λ whole. by_both old new ⊥_prop (λ x y. (let s = alone_since of_queues v w (tried (t ∷ [])) whole x y made.adds in let low = lost.1.0 in let is_open = lost.2 in let past = lost.3 in
    let h = (head_open t.head t.at_head s.1.0 (omega arith)).1 in let h' = (head_open t.found t.at_exchange s.1.1.1.0 is_open).1 in let same : head_of t.at_head.object ≡ head_of t.at_exchange.object = ap (λ (z : AbsState Positions). head_of z.object) (s.0.1.0 ∙ s.0.1.1.0) in absurd (omega arith)))) in
    subst (λ (z : Positions). allows z.first (placed_lines w.own.runs ++ (start, items) ∷ []) (placed_lines w.own.takes)) (sym made.adds.first)
    (subst (λ (z : QueueOps). allows v.first.first (placed_lines z.runs ++ (start, items) ∷ []) (placed_lines z.takes)) (sym made.did) (may start before (λ whole. absurd (never whole)))))

-- what the protocol says of each end at the end's last step
pub each_keeps : (allows : Condition) (w : View) → IsKept Rule (KeepsTo allows) w → EachEndKeeps allows w
each_keeps allows w k = let rule = k.holds.rule in record {
  queue = rule.now.object;
  later = rule.listed.seen k.number (part_of w) (at_map part_of k.state.views k.number w k.here);
  views = k.state.views;
  lists = rule.listed;
  number = k.number;
  here = k.here;
  keeps = k.holds.keeps;
}
