-- The compare-and-swap of the tail keeps the rule.
use Rattle.claim_queue.proofs.Common.{◌≡◌, ℕ, ◌+◌, ◌-◌, ◌<◌, ◌≤◌, eqb, List, [], ◌∷◌, ◌++◌, map, length, get_or, set, sym, refl, ◌∙◌, subst, arith, length-set, get_or-set_same, get_or-set_other, none, either, Me, step, Allows, at_map, Positions, stage_at, Lawful, with_take, tail_of, grows_refl, take_lawful, exchanges, Shape, was_taken, head_word, tail_word, data_in, flag_in, View, part_of, taking, with_taking, Rule, WordsShow, IsUsed, by_tail, unused_kept}
use Rattle.table_theory.proofs.Listing.{listed_take}
use Rattle.table_theory.proofs.Rests.{rests_take}
use Rattle.table_theory.proofs.Windows.{window_take}
use Rattle.claim_queue.specs.Steps.{takes}
use Rattle.claim_queue.proofs.Stepping.{window_kept, rests_kept, seen_grows, table, acts, found}

shows_take : (q : Positions) (words : List ℕ) (n new : ℕ) → WordsShow q words → Lawful q → q.taken + n ≤ length q.places → ((i : ℕ) → i < n → 2 ≤ stage_at q (q.taken + i)) → new ≡ tail_of q + n → WordsShow (with_take q n) (set words tail_word new)
shows_take q words n new h l below up is = let wide = h.wide in let ls = length-set words tail_word new in record {
  wide = omega arith;
  bounded = h.bounded;
  head = get_or-set_other words tail_word head_word new 0 (λ e. omega arith) ∙ h.head;
  tail = get_or-set_same words tail_word new 0 (omega arith) ∙ (omega arith);
  window = window_kept (with_take q n) words tail_word new (omega arith) (window_take q n (flag_in words) (data_in words) h.window l below);
  rests = rests_kept (with_take q n) words tail_word new (omega arith) h.window.some_room (rests_take q n (flag_in words) (data_in words) h.window h.rests l below up);
  unused = unused_kept (IsUsed q.room) words tail_word new (by_tail refl) h.unused;
}

-- the places from `at` on were raised when the end last looked
pub takes_tail : (key : Shape) (n id : ℕ) (me : Me Unit View) (old new at : ℕ) → old < new → old ≡ me.0.seen.object.first + at → ((i : ℕ) → i < new - old → 2 ≤ stage_at me.0.seen.object (at + i)) → 1 ≤ me.0.member.ends
    → Allows (Rule key) n id me tail_word (λ x. either (eqb x old) new x) (takes (step n tail_word old new none) me)
takes_tail key n id me old new at le start up live = exchanges (table key) n id me (takes (step n tail_word old new none) me) tail_word old new live
    (λ s k has hit. let q : Positions = k.now.object in let v : View = me.0 in let m : ℕ = new - old in let l = k.stands.lawful in let g = seen_grows key s k id v has in let tl = k.stands.shows.tail in let first = g.first in let here : q.taken ≡ at = omega arith in
    let still : (i : ℕ) → i < m → 2 ≤ stage_at q (q.taken + i) = λ i b. let a = up i b in let c = g.more (at + i) in let e : at + i ≡ q.taken + i = omega arith in subst (λ (z : ℕ). 2 ≤ stage_at q z) e (let f : 2 ≤ stage_at q (at + i) = omega arith in f) in
    let below = (take_lawful q m l still).taken_within in
    acts key n id me s k has tail_word old new (with_taking v.own (taking q m)) (with_take q m) (takes (step n tail_word old new none) me (get_or s.words tail_word 0)) live (λ e. absurd (omega arith)) (sym hit) (was_taken m (omega arith) below still refl)
    (shows_take q s.words m new k.stands.shows l below still (omega arith))
    (listed_take q (map part_of s.views) id m (part_of v) (record { queue = with_take q m; runs = v.own.runs; takes = v.own.takes ++ taking q m ∷ [] }) k.listed (at_map part_of s.views id v has) (omega arith) below refl refl (grows_refl (with_take q m)))
    refl (λ w stays step. (stays, (λ _. (k.now, step)), λ miss. absurd (miss hit))))
    (λ s k has miss r. let f = found key n id me s k has tail_word r in (f.0, (λ hit. absurd (miss hit)), λ _. f.1))
