-- Each step under a client's protocol: what the table's rule allows, the protocol allows too.
use Rattle.claim_queue.proofs.Common.{◌≡◌, ℕ, ◌+◌, ◌-◌, ◌%◌, ◌<◌, ◌≤◌, eqb, List, [], ◌∷◌, ◌++◌, map, length, set, sym, refl, ap, ◌∙◌, subst, arith, zero, suc, map-append, map-set, dite, none, either, some, get_elem?, Me, step, Allows, set_again, at_map, Cell, Batch, Positions, tail_of, stage_at, fresh, emptied, both, QueueOps, Shape, View, nothing_did, did_both, run, taking, with_run, with_stage, blank, number_of, get_or, line_of, Rule, newcomer, InvHeldOf, head_word, tail_word, ends_word, data_word, flag_word}
use Rattle.std.proofs.Common.{replicate}
use Rattle.std.specs.Int.Bits.{bit_or}
use native.Mathlib.Decide.{ℕ_discrete}
use Rattle.atomic_table.specs.Table.{Splits, Joins, Final, Seen, opening}
use Rattle.table_theory.specs.Ledgers.{rest_without, newborn_with}
use Rattle.table_theory.specs.Sharing.{IsPortion}
use Rattle.table_theory.specs.Plays.{HasTallied, counts, counts_up, counts_down}
use Rattle.table_theory.specs.Protocols.{Condition, Placed, placed_lines}
use Rattle.table_theory.proofs.Leaving.{fresh_items}
use Rattle.table_theory.proofs.Protocols.{allows_with, splits_with, joins_with, opens_with}
use Rattle.claim_queue.specs.Layout.{width}
use Rattle.claim_queue.specs.Rules.{KeepsTo, RuleWith}
use Rattle.claim_queue.specs.Steps.{HasPlace, claims, finds, writes, takes, takes_under, shuts}
use Rattle.claim_queue.proofs.Claiming.{claims_head}
use Rattle.claim_queue.proofs.Shutting.{shuts_head}
use Rattle.claim_queue.proofs.Stepping.{looks}
use Rattle.claim_queue.proofs.Taking.{takes_tail}
use Rattle.claim_queue.proofs.Tallying.{ups, downs, tallies, splits, joins, opens}
use Rattle.claim_queue.proofs.Writing.{stores_data, stores_flag}

placed : Batch → Placed
placed e = (e.start, line_of e)

-- an item that is written to its end keeps its place and its line
placed_same : (l : List Batch) (m : ℕ) (e f : Batch) → get_elem? l m ≡ some e → f.start ≡ e.start → line_of f ≡ line_of e → placed_lines (set l m f) ≡ placed_lines l
placed_same l m e f has start line = map-set (λ (b : Batch). (b.start, line_of b)) l m f ∙ ((λ k. set (placed_lines l) m (start k, line k)) ∙ set_again (placed_lines l) m (e.start, line_of e) (at_map (λ (b : Batch). (b.start, line_of b)) l m e has))

placed_more : (l : List Batch) (e : Batch) → placed_lines (l ++ e ∷ []) ≡ placed_lines l ++ (e.start, line_of e) ∷ []
placed_more l e = map-append (λ (b : Batch). (b.start, line_of b)) l (e ∷ [])

-- an item written further is the same item
item_same : (l : List Cell) (i n : ℕ) → i < length l → map (λ (c : Cell). c.item) (set l i (record { item = (get_or l i blank).item; stage = n })) ≡ map (λ (c : Cell). c.item) l
item_same [] i n below = absurd (omega arith)
item_same (c ∷ cs) zero n below = refl
item_same (c ∷ cs) (suc i) n below = ap (λ (z : List ℕ). c.item ∷ z) (item_same cs i n (omega arith))

module _ (allows : Condition) where
  keeps_by : (v w : View) (puts taken : List Placed) → w.first ≡ v.first → placed_lines w.own.runs ≡ puts → placed_lines w.own.takes ≡ taken → allows v.first.first puts taken → KeepsTo allows w
  keeps_by v w puts taken first ps ts h = subst (λ (z : List Placed). allows w.first.first z (placed_lines w.own.takes)) (sym ps) (subst (λ (z : List Placed). allows w.first.first puts z) (sym ts) (subst (λ (z : Positions). allows z.first puts taken) (sym first) h))

  keeps_same : (v w : View) → w.first ≡ v.first → w.own ≡ v.own → KeepsTo allows v → KeepsTo allows w
  keeps_same v w first own h = keeps_by v w (placed_lines v.own.runs) (placed_lines v.own.takes) first (ap (λ (z : QueueOps). placed_lines z.runs) own) (ap (λ (z : QueueOps). placed_lines z.takes) own) h

  module _ (key : Shape) (n id : ℕ) (me : Me Unit View) where
    pub looks_as : (i : ℕ) → 1 ≤ me.0.member.ends → Allows (RuleWith allows key) n id me i (λ x. x) (finds (step n i 0 0 none) me)
    looks_as i live = let P : ℕ → Me Unit View → Type 0 = finds (step n i 0 0 none) me in
        allows_with (Rule key) (KeepsTo allows) n id me i (λ x. x) P P (looks key n id me i live) (λ r m h k. keeps_same me.0 m.0 h.0.1 h.1.made.did k) (λ r m h s x at. h)

    pub claims_as : (old new : ℕ) (xs : List ℕ) → new ≡ old + length xs → new < 4294967296 → old + length xs ≤ tail_of me.0.seen.object + me.0.first.room → 1 ≤ me.0.member.ends → 0 < length xs
        → allows me.0.first.first (placed_lines me.0.own.runs ++ (old, xs) ∷ []) (placed_lines me.0.own.takes) → Allows (RuleWith allows key) n id me head_word (λ x. either (eqb x old) new x) (claims xs (step n head_word old new none) me)
    claims_as old new xs is fits room live some_items may = let P : ℕ → Me Unit View → Type 0 = claims xs (step n head_word old new none) me in
        allows_with (Rule key) (KeepsTo allows) n id me head_word (λ x. either (eqb x old) new x) P P (claims_head key n id me old new xs is fits room live some_items)
        (λ r m h k. dite (ℕ_discrete r old)
        (λ hit. let c = h.1 hit in let own : m.0.own ≡ with_run me.0.own (run old xs) = c.2.made.did in
        keeps_by me.0 m.0 (placed_lines me.0.own.runs ++ (old, xs) ∷ []) (placed_lines me.0.own.takes) h.0.1
        (ap (λ (z : QueueOps). placed_lines z.runs) own ∙ (placed_more me.0.own.runs (run old xs) ∙ (λ i. placed_lines me.0.own.runs ++ (old, fresh_items xs i) ∷ []))) (ap (λ (z : QueueOps). placed_lines z.takes) own) may)
        (λ miss. keeps_same me.0 m.0 h.0.1 (h.2 miss).made.did k))
        (λ r m h s x at. h)

    pub takes_as : (old new at : ℕ) → ((first : ℕ) (puts taken : List Placed) (line : Placed) → allows first puts taken → allows first puts (taken ++ line ∷ [])) → old < new → old ≡ me.0.seen.object.first + at
        → ((i : ℕ) → i < new - old → 2 ≤ stage_at me.0.seen.object (at + i)) → 1 ≤ me.0.member.ends → Allows (RuleWith allows key) n id me tail_word (λ x. either (eqb x old) new x) (takes_under allows (step n tail_word old new none) me)
    takes_as old new at more le start up live = let P : ℕ → Me Unit View → Type 0 = takes (step n tail_word old new none) me in
        allows_with (Rule key) (KeepsTo allows) n id me tail_word (λ x. either (eqb x old) new x) P (takes_under allows (step n tail_word old new none) me) (takes_tail key n id me old new at le start up live)
        (λ r m h k. dite (ℕ_discrete r old)
        (λ hit. let t = h.1 hit in let e : Batch = taking t.0.object (new - old) in let own = t.1.made.did in
        keeps_by me.0 m.0 (placed_lines me.0.own.runs) (placed_lines me.0.own.takes ++ (e.start, line_of e) ∷ []) h.0.1
        (ap (λ (z : QueueOps). placed_lines z.runs) own) (ap (λ (z : QueueOps). placed_lines z.takes) own ∙ placed_more me.0.own.takes e) (more me.0.first.first (placed_lines me.0.own.runs) (placed_lines me.0.own.takes) (e.start, line_of e) k))
        (λ miss. keeps_same me.0 m.0 h.0.1 (h.2 miss).made.did k))
        (λ r m h s x here. (h, record { key = key; state = s; holds = x; number = id; here = here }))

    pub shuts_as : 1 ≤ me.0.member.ends → Allows (RuleWith allows key) n id me head_word (λ x. bit_or x 4294967296) (shuts (step n head_word 4294967296 0 none) me)
    shuts_as live = let P : ℕ → Me Unit View → Type 0 = shuts (step n head_word 4294967296 0 none) me in
        allows_with (Rule key) (KeepsTo allows) n id me head_word (λ x. bit_or x 4294967296) P P (shuts_head key n id me live)
        (λ r m h k. let own = h.1.1.made.did in keeps_by me.0 m.0 (placed_lines me.0.own.runs) (placed_lines me.0.own.takes) h.0.1 (ap (λ (z : QueueOps). placed_lines z.runs) own) (ap (λ (z : QueueOps). placed_lines z.takes) own) k)
        (λ r m h s x at. h)

    -- a store at the place i of the end's run at this start
    module _ (start i u x : ℕ) (place : Cell) (live : 1 ≤ me.0.member.ends) (mine : HasPlace me.0 start i place) where
      stored : (stage : ℕ) (m : Me Unit View) → writes start i stage (step n u x 0 none) me x m → KeepsTo allows me.0 → KeepsTo allows m.0
      stored stage m h k = let e : Batch = mine.0 in let w = h.1 e mine.1 mine.2 in let own = w.3.made.did in let at : get_elem? me.0.own.runs (number_of e.start me.0.own.runs) ≡ some e = subst (λ (z : ℕ). get_elem? me.0.own.runs (number_of z me.0.own.runs) ≡ some e) (sym mine.2) mine.1 in
          keeps_by me.0 m.0 (placed_lines me.0.own.runs) (placed_lines me.0.own.takes) h.0.1
          (ap (λ (z : QueueOps). placed_lines z.runs) own ∙ placed_same me.0.own.runs (number_of e.start me.0.own.runs) e (with_stage e i stage) at refl (item_same e.places i stage mine.3)) (ap (λ (z : QueueOps). placed_lines z.takes) own) k

      pub data_as : place ≡ fresh x → u ≡ data_word me.0.first.room (start + i) → Allows (RuleWith allows key) n id me u (λ _. x) (λ _. writes start i 1 (step n u x 0 none) me x)
      data_as is word = let P : ℕ → Me Unit View → Type 0 = λ _. writes start i 1 (step n u x 0 none) me x in
          allows_with (Rule key) (KeepsTo allows) n id me u (λ _. x) P P (stores_data key n id me start i u x place live mine (let low : place.stage ≡ 0 = ap (λ (z : Cell). z.stage) is in omega arith) is word) (λ r m h k. stored 1 m h k) (λ r m h s y at. h)

      pub flag_as : place.stage ≡ 1 → u ≡ flag_word me.0.first.room (start + i) → x ≡ start + i + 1 → Allows (RuleWith allows key) n id me u (λ _. x) (λ _. writes start i 2 (step n u x 0 none) me x)
      flag_as is word number = let P : ℕ → Me Unit View → Type 0 = λ _. writes start i 2 (step n u x 0 none) me x in
          allows_with (Rule key) (KeepsTo allows) n id me u (λ _. x) P P (stores_flag key n id me start i u x place live mine (omega arith) is word number) (λ r m h k. stored 2 m h k) (λ r m h s y at. h)

    -- the number of ends is counted up and down, and found
    pub ups_as : me.0.member.ends + 1 ≤ me.0.member.share → Allows (RuleWith allows key) n id me ends_word (λ x. (x + 1) % 18446744073709551616) (counts_up InvHeldOf (step n ends_word 1 0 none) me)
    ups_as parts = let P : ℕ → Me Unit View → Type 0 = counts_up InvHeldOf (step n ends_word 1 0 none) me in
        allows_with (Rule key) (KeepsTo allows) n id me ends_word (λ x. (x + 1) % 18446744073709551616) P P (ups key n id me parts) (λ r m h k. keeps_same me.0 m.0 h.1.adds.first h.1.own k) (λ r m h s x at. h)

    pub downs_as : 2 ≤ me.0.member.ends → Allows (RuleWith allows key) n id me ends_word (λ x. (x + (18446744073709551616 - 1)) % 18446744073709551616) (counts_down InvHeldOf (step n ends_word 1 0 none) me)
    downs_as two = let P : ℕ → Me Unit View → Type 0 = counts_down InvHeldOf (step n ends_word 1 0 none) me in
        allows_with (Rule key) (KeepsTo allows) n id me ends_word (λ x. (x + (18446744073709551616 - 1)) % 18446744073709551616) P P (downs key n id me two) (λ r m h k. keeps_same me.0 m.0 h.1.adds.first h.1.own k) (λ r m h s x at. h)

    pub tallies_as : me.0.member.ends ≡ 1 → Allows (RuleWith allows key) n id me ends_word (λ x. x) (counts (HasTallied InvHeldOf ends_word) (step n ends_word 0 0 none) me)
    tallies_as one = let P : ℕ → Me Unit View → Type 0 = counts (HasTallied InvHeldOf ends_word) (step n ends_word 0 0 none) me in
        allows_with (Rule key) (KeepsTo allows) n id me ends_word (λ x. x) P P (tallies key n id me one) (λ r m h k. keeps_same me.0 m.0 h.1.1.made.adds.first h.1.1.made.did k) (λ r m h s x at. h)

  pub splits_as : ((first : ℕ) → allows first [] []) → (key : Shape) (id : ℕ) (v : View) (parts : ℕ) → (2 ≤ v.member.share → IsPortion parts v.member.share) → v.member.ends ≡ 2 → Splits (RuleWith allows key) id v (rest_without parts v) (newborn_with parts nothing_did v)
  splits_as begins key id v parts fits two = splits_with (Rule key) (KeepsTo allows) id v (rest_without parts v) (newborn_with parts nothing_did v) (splits key id v parts fits two) (λ k. k) (λ k. begins v.first.first)

  pub joins_as : ((first : ℕ) → allows first [] [])
      → ((first : ℕ) (puts taken more_puts more_taken : List Placed) → allows first puts taken → allows first more_puts more_taken → allows first (puts ++ more_puts) (taken ++ more_taken))
      → (key : Shape) (id other : ℕ) (v w : View) → 1 ≤ v.member.ends → Joins (RuleWith allows key) id v other w (both did_both v w) (emptied nothing_did v)
  joins_as begins both_may key id other v w live = joins_with (Rule key) (KeepsTo allows) id other v w (both did_both v w) (emptied nothing_did v) (joins key id other v w live)
      (λ s h at there k l. let one : w.first ≡ v.first = h.stands.true_ends.first_is other w there ∙ sym (h.stands.true_ends.first_is id v at) in let f : ℕ = v.first.first in
      let l' : allows f (placed_lines w.own.runs) (placed_lines w.own.takes) = subst (λ (z : Positions). allows z.first (placed_lines w.own.runs) (placed_lines w.own.takes)) one l in
      keeps_by v (both did_both v w) (placed_lines v.own.runs ++ placed_lines w.own.runs) (placed_lines v.own.takes ++ placed_lines w.own.takes) refl (map-append (λ (b : Batch). (b.start, line_of b)) v.own.runs w.own.runs)
      (map-append (λ (b : Batch). (b.start, line_of b)) v.own.takes w.own.takes) (both_may f (placed_lines v.own.runs) (placed_lines v.own.takes) (placed_lines w.own.runs) (placed_lines w.own.takes) k l'))
      (λ k. begins v.first.first)

  -- the table as it is made
  pub opens_as : ((first : ℕ) → allows first [] []) → (key : Shape) (zs : List ℕ) → zs ≡ replicate (width key.room) 0 → 0 < key.room → key.first < 4294967296
      → RuleWith allows key (opening (set (set (set zs head_word key.first) tail_word key.first) ends_word 1) [] (newcomer key))
  opens_as begins key zs are room fits = opens_with (Rule key) (KeepsTo allows) (set (set (set zs head_word key.first) tail_word key.first) ends_word 1) [] (newcomer key) (opens key zs are room fits) (begins key.first)

  -- a closed table
  pub final_under : (key : Shape) (id : ℕ) (w : View) (words : List ℕ) (xs : List Unit) → Final (Seen (RuleWith allows key) id w) words xs → Final (Seen (Rule key) id w) words xs
  final_under key id w words xs f = (f.0, (f.1.0.rule, f.1.1), f.2, f.3, f.4)
