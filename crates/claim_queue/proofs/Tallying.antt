-- The steps that make, split, join and count ends keep the rule.
use Rattle.claim_queue.proofs.Common.{◌≡◌, ℕ, ◌+◌, ◌-◌, ◌%◌, ◌<◌, ◌≤◌, List, [], length, get_or, set, sym, refl, ap, ◌∙◌, arith, mod-lt, length-set, get_or-set_same, get_or-set_other, some, none, get_elem?, Me, step, Allows, set_else, set_here, Positions, both, emptied, spot, at_below, grows_refl, head_word, tail_word, ends_word, flag_word, Shape, empty, View, of_queues, nothing_did, did_both, part_of, shuts_of, Rule, newcomer, InvHeldOf, ◌*◌, data_in, flag_in, IsUsed, by_ends, by_head, by_tail, unused_kept}
use Rattle.table_theory.proofs.Rests.{rests_first}
use Rattle.table_theory.specs.Sharing.{IsPortion}
use Rattle.table_theory.proofs.Unused.{all_alike}
use Rattle.std.proofs.Common.{replicate}
use Rattle.std.proofs.lemmas.List.{length-replicate, get_or-replicate}
use Rattle.atomic_table.specs.Table.{Splits, Joins, opening}
use Rattle.table_theory.specs.Ledgers.{opened, rest_without, newborn_with}
use Rattle.table_theory.specs.Plays.{HasTallied, counts, counts_down, counts_up}
use Rattle.table_theory.proofs.Listing.{listed_first, split_in, join_in}
use Rattle.table_theory.proofs.Ruling as ruling
use Rattle.table_theory.proofs.Stepping as ends
use Rattle.table_theory.proofs.Tables as tables
use Rattle.table_theory.proofs.Totals.{total_split, total_join}
use Rattle.claim_queue.specs.Layout.{width}
use Rattle.claim_queue.specs.Rules.{now_of}
use Rattle.claim_queue.proofs.Growing.{reaches_grow}
use Rattle.claim_queue.proofs.Stepping.{table, seen_grows, ruled_now}

-- the number of ends is counted up and down, and found
module _ (key : Shape) (n id : ℕ) (me : Me Unit View) where
  pub ups : me.0.member.ends + 1 ≤ me.0.member.share → Allows (Rule key) n id me ends_word (λ x. (x + 1) % 18446744073709551616) (counts_up InvHeldOf (step n ends_word 1 0 none) me)
  ups parts = tables.ups (table key) n id me (counts_up InvHeldOf (step n ends_word 1 0 none) me) parts (λ s k at r. ((refl, ruled_now key _ s id me.0 _ at r), ends.counted_up k.stands id me.0 at))

  pub downs : 2 ≤ me.0.member.ends → Allows (Rule key) n id me ends_word (λ x. (x + (18446744073709551616 - 1)) % 18446744073709551616) (counts_down InvHeldOf (step n ends_word 1 0 none) me)
  downs two = tables.downs (table key) n id me (counts_down InvHeldOf (step n ends_word 1 0 none) me) two (λ s k at r. ((refl, ruled_now key _ s id me.0 _ at r), ends.counted_down k.stands id me.0 at))

  -- the count is found
  pub tallies : me.0.member.ends ≡ 1 → Allows (Rule key) n id me ends_word (λ x. x) (counts (HasTallied InvHeldOf ends_word) (step n ends_word 0 0 none) me)
  tallies one = tables.looks (table key) n id me (counts (HasTallied InvHeldOf ends_word) (step n ends_word 0 0 none) me) ends_word (omega arith) (λ s k at r. (refl, (ruled_now key _ s id me.0 _ at r, ends.tallied_now k.stands id me.0 at one)))

pub splits : (key : Shape) (id : ℕ) (v : View) (parts : ℕ) → (2 ≤ v.member.share → IsPortion parts v.member.share) → v.member.ends ≡ 2 → Splits (Rule key) id v (rest_without parts v) (newborn_with parts nothing_did v)
splits key id v parts fits two s k at = let q : Positions = k.now.object in let later = seen_grows key s k id v at in let left : View = rest_without parts v in let right : View = newborn_with parts nothing_did v in record {
  now = k.now;
  first = k.first;
  room = k.room;
  stands = ends.stands_split k.stands id v at parts fits two;
  listed = split_in part_of q s.views id v left right k.listed at refl refl later refl refl later;
  shut_once = total_split shuts_of s.views id v left right at refl refl ∙ k.shut_once;
}

-- both ends of a split are under the rule
module _ (v : View) (parts : ℕ) (fits : 2 ≤ v.member.share → IsPortion parts v.member.share) (two : v.member.ends ≡ 2) (r : InvHeldOf v) where
  pub rest_ruled : InvHeldOf (rest_without parts v)
  unfolding splits
  rest_ruled = ruling.rest_ruled Rule now_of v (rest_without parts v) (newborn_with parts nothing_did v) (λ key id. splits key id v parts fits two) (λ key id s k at. refl) r refl

  pub born_ruled : InvHeldOf (newborn_with parts nothing_did v)
  unfolding splits
  born_ruled = ruling.born_ruled Rule now_of v (rest_without parts v) (newborn_with parts nothing_did v) (λ key id. splits key id v parts fits two) (λ key id s k at. refl) r refl

pub joins : (key : Shape) (id other : ℕ) (v w : View) → 1 ≤ v.member.ends → Joins (Rule key) id v other w (both did_both v w) (emptied nothing_did v)
joins key id other v w live s k at ne has = let one : View = both did_both v w in let spent : View = emptied nothing_did v in let q : Positions = k.now.object in let at' : get_elem? s.views other ≡ some w = sym (set_else s.views id other one ne) ∙ has in
    let stands = ends.stands_join k.stands id v at did_both other w at' ne live in let here = set_else (set s.views id one) other id spent (λ e. ne (sym e)) ∙ set_here s.views id one (at_below s.views id v at) in record {
      now = k.now;
      first = k.first;
      room = k.room;
      stands = stands;
      listed = join_in part_of q s.views id other v w one spent k.listed at at' ne refl refl refl refl (reaches_grow one.seen k.now (ends.leads stands id one here)) (seen_grows key s k id v at);
      shut_once = total_join shuts_of s.views id other v w one spent at has refl refl ∙ k.shut_once;
    }

-- the table as it is made
pub opens : (key : Shape) (zs : List ℕ) → zs ≡ replicate (width key.room) 0 → 0 < key.room → key.first < 4294967296 → Rule key (opening (set (set (set zs head_word key.first) tail_word key.first) ends_word 1) [] (newcomer key))
opens key zs are room fits = let q : Positions = empty key in let f : ℕ = key.first in let a : List ℕ = set zs head_word f in let b : List ℕ = set a tail_word f in let long = ap length are ∙ length-replicate (width key.room) 0 in let la = length-set zs head_word f in let lb = length-set a tail_word f in let lc = length-set b ends_word 1 in
    let number : get_or (set b ends_word 1) ends_word 0 ≡ 1 = get_or-set_same b ends_word 1 0 (omega arith) in
    let zero_at : (j : ℕ) → 16 ≤ j → get_or (set b ends_word 1) j 0 ≡ 0 = λ j far. get_or-set_other b ends_word j 1 0 (λ e. omega arith) ∙ (get_or-set_other a tail_word j f 0 (λ e. omega arith) ∙ (get_or-set_other zs head_word j f 0 (λ e. omega arith) ∙ (ap (λ (z : List ℕ). get_or z j 0) are ∙ all_alike (width key.room) 0 j))) in record {
      now = opened q;
      first = refl;
      room = refl;
      stands = ends.stands_first of_queues nothing_did q (set b ends_word 1) (record { taken_within = omega arith; within = omega arith; ready = λ i h. absurd (omega arith) })
          record {
            wide = omega arith;
            bounded = omega arith;
            head = get_or-set_other b ends_word head_word 1 0 (λ e. omega arith) ∙ (get_or-set_other a tail_word head_word f 0 (λ e. omega arith) ∙ (get_or-set_same zs head_word f 0 (omega arith) ∙ omega arith));
            tail = get_or-set_other b ends_word tail_word 1 0 (λ e. omega arith) ∙ (get_or-set_same a tail_word f 0 (omega arith) ∙ omega arith);
            window = record {
              some_room = room;
              each = λ i from to. record {
                low = λ _. let j : ℕ = flag_word key.room (f + i) in let near : spot q i < key.room = mod-lt (f + i) room in
                    let z : get_or (set b ends_word 1) j 0 ≡ 0 = get_or-set_other b ends_word j 1 0 (λ e. omega arith) ∙ (get_or-set_other a tail_word j f 0 (λ e. omega arith) ∙ (get_or-set_other zs head_word j f 0 (λ e. omega arith)
                    ∙ (ap (λ (z : List ℕ). get_or z j 0) are ∙ get_or-replicate (width key.room) j 0 0 (omega arith)))) in omega arith;
                up = λ h. absurd (omega arith);
                holds = λ h. absurd (omega arith);
              };
            };
            rests = rests_first q (flag_in (set b ends_word 1)) (data_in (set b ends_word 1)) refl (λ k. zero_at (2 * k + 17) (omega arith)) (λ k. zero_at (2 * k + 16) (omega arith));
            unused = unused_kept (IsUsed key.room) b ends_word 1 (by_ends refl) (unused_kept (IsUsed key.room) a tail_word f (by_tail refl) (unused_kept (IsUsed key.room) zs head_word f (by_head refl) (λ j _. ap (λ (z : List ℕ). get_or z j 0) are ∙ all_alike (width key.room) 0 j)));
          }
          number;
      listed = listed_first q (part_of (newcomer key)) refl refl refl refl (grows_refl q);
      shut_once = omega arith;
    }

-- the first end is under the rule
pub new_ruled : (key : Shape) → 0 < key.room → key.first < 4294967296 → InvHeldOf (newcomer key)
unfolding opens
new_ruled key room fits = let zs : List ℕ = replicate (width key.room) 0 in record {
  key = key;
  state = opening (set (set (set zs head_word key.first) tail_word key.first) ends_word 1) [] (newcomer key);
  rule = opens key zs refl room fits;
  number = 0;
  here = refl;
  seen = refl;
}
