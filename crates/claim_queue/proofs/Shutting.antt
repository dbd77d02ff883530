-- The step that shuts the queue keeps the rule.
use Rattle.claim_queue.proofs.Common.{◌≡◌, ℕ, ◌+◌, ◌≤◌, map, get_or, refl, ap, ◌∙◌, arith, length-set, get_or-set_same, get_or-set_other, none, Me, step, Allows, Positions, with_shut, head_of, at_map, grows_refl, QueueOps, Shape, was_shut, head_word, tail_word, mark, data_in, flag_in, View, part_of, times_shut, Rule, IsUsed, by_head, unused_kept}
use Rattle.std.specs.Prelude.{nat_lt}
use Rattle.std.specs.Int.Bits.{bit_or}
use Rattle.table_theory.proofs.Listing.{listed_shut}
use Rattle.table_theory.proofs.Marking as marking
use Rattle.table_theory.proofs.Rests.{rests_shut}
use Rattle.table_theory.proofs.Windows.{window_shut}
use Rattle.claim_queue.specs.Own.{with_shutting}
use Rattle.claim_queue.specs.Steps.{shuts}
use Rattle.claim_queue.proofs.Stepping.{window_kept, rests_kept, acts}

pub shuts_head : (key : Shape) (n id : ℕ) (me : Me Unit View) → 1 ≤ me.0.member.ends → Allows (Rule key) n id me head_word (λ x. bit_or x 4294967296) (shuts (step n head_word 4294967296 0 none) me)
shuts_head key n id me live s k _ at _ = let v : View = me.0 in let q : Positions = k.now.object in let h = k.stands.shows in let y : ℕ = get_or s.words head_word 0 in let new : ℕ = bit_or y 4294967296 in let own : QueueOps = with_shutting v.own (nat_lt y 4294967296) in
    let is : new ≡ head_of q + 4294967296 = ap (λ (z : ℕ). bit_or z 4294967296) h.head ∙ marking.marked 32 mark refl refl (head_of q) q.shut h.bounded in let wide = h.wide in
    acts key n id me s k at head_word y new own (with_shut q) (shuts (step n head_word 4294967296 0 none) me y) live (λ e. absurd (omega arith)) refl (was_shut refl)
    record {
      wide = length-set s.words head_word new ∙ h.wide;
      bounded = h.bounded;
      head = get_or-set_same s.words head_word new 0 (omega arith) ∙ is;
      tail = get_or-set_other s.words head_word tail_word new 0 (λ e. omega arith) ∙ h.tail;
      window = window_kept (with_shut q) s.words head_word new (omega arith) (window_shut q (flag_in s.words) (data_in s.words) h.window);
      rests = rests_kept (with_shut q) s.words head_word new (omega arith) h.window.some_room (rests_shut q (flag_in s.words) (data_in s.words) h.rests);
      unused = unused_kept (IsUsed q.room) s.words head_word new (by_head refl) h.unused;
    }
    (listed_shut q (map part_of s.views) id (part_of v) (record { queue = with_shut q; runs = v.own.runs; takes = v.own.takes }) k.listed (at_map part_of s.views id v at) refl refl (grows_refl (with_shut q)))
    (let m = marking.marked_once 32 mark refl refl q.shut (head_of q) y h.head h.bounded in let e : times_shut q + own.shuts ≡ 1 + v.own.shuts = omega arith in e) (λ w stays step. (stays, (k.now, step)))
