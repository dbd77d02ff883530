-- Each step under a client's protocol: what the table's rule allows, the protocol allows too.
use Rattle.table_theory.specs.Sharing.{IsPortion}
use Rattle.batch_queue.proofs.Common.{Allows, Batch, EndRecord, HasBack, HasRun, HasStop, InvHeldOf, IsWithin, Joins, List, Me, POSITIONS, Released, Rule, SHUT, Shape, Splits, View, [], ap, both, claims, did_both, dite, either, emptied, ends_word, eqb, finds, free_word, frees, get_elem?, get_or, head_word, items_of, length, line_of, map-append, map-set, mark_word, newborn_with, newcomer, none, nothing_did, opening, parts, positions_of, raised_run, refl, releases, replicate, rest_without, run, set, set_again, shuts, slots_of, some, step, subst, suc, sym, tail_word, takes_tail, taking, width, with_parting, with_published, with_run, with_shutting, with_stage, with_taking, zero, ℕ, ℕ_discrete, ⊎_elim, ◌%◌, ◌*◌, ◌++◌, ◌+◌, ◌-◌, ◌/◌, ◌<◌, ◌∙◌, ◌∷◌, ◌≡◌, ◌≤◌, ◌⊎◌, at_map}
use Rattle.std.specs.Int.Bits.{bit_or}
use Rattle.std.specs.Prelude.{nat_lt}
use Rattle.atomic_table.specs.Table.{Final, Seen}
use Rattle.table_theory.specs.Plays.{HasTallied, counts, counts_down, counts_up}
use Rattle.table_theory.specs.Protocols.{Condition, Placed, placed_lines}
use Rattle.table_theory.proofs.Leaving.{fresh_items, same_items}
use Rattle.table_theory.proofs.Protocols.{allows_with, joins_with, opens_with, splits_with}
use Rattle.batch_queue.specs.Rules.{KeepsTo, RuleWith}
use Rattle.batch_queue.specs.Steps.{releases_under}
use Rattle.batch_queue.proofs.Claiming.{claims_head}
use Rattle.batch_queue.proofs.Ending.{downs, joins, opens, splits, tallies, ups}
use Rattle.batch_queue.proofs.Freeing.{frees_on}
use Rattle.batch_queue.proofs.Parting.{parts_at}
use Rattle.batch_queue.proofs.Releasing.{releasing}
use Rattle.batch_queue.proofs.Shutting.{shuts_head}
use Rattle.batch_queue.proofs.Stepping.{St, looks}
use Rattle.batch_queue.proofs.Taking.{takes}

-- an item that is raised keeps its place and its line
raised_line : (e : Batch) (i n : ℕ) → ((raised_run e i n).start ≡ e.start) × (line_of (raised_run e i n) ≡ line_of e)
raised_line e i zero = (refl, refl)
raised_line e i (suc n) = let r = raised_line (with_stage e i 2) (suc i) n in (r.0, r.1 ∙ same_items e.places i 2)

placed_same : (l : List Batch) (m : ℕ) (e f : Batch) → get_elem? l m ≡ some e → f.start ≡ e.start → line_of f ≡ line_of e → placed_lines (set l m f) ≡ placed_lines l
placed_same l m e f has start line = map-set (λ (b : Batch). (b.start, line_of b)) l m f ∙ ((λ k. set (placed_lines l) m (start k, line k)) ∙ set_again (placed_lines l) m (e.start, line_of e) (at_map (λ (b : Batch). (b.start, line_of b)) l m e has))

placed_more : (l : List Batch) (e : Batch) → placed_lines (l ++ e ∷ []) ≡ placed_lines l ++ (e.start, line_of e) ∷ []
placed_more l e = map-append (λ (b : Batch). (b.start, line_of b)) l (e ∷ [])

published_same : (d : EndRecord) (h : HasRun d) → placed_lines (with_published d h).runs ≡ placed_lines d.runs
published_same d h = let r = raised_line h.run 0 (length h.run.places) in placed_same d.runs h.number h.run (raised_run h.run 0 (length h.run.places)) h.here r.0 r.1

-- a run that is published, or a taking that is given back, has its place and its line
released_same : (v : View) (word a b x : ℕ) (m : Me ℕ View) → (x ≡ 0) ⊎ (x ≡ 2) → Released v word a b x m → (placed_lines m.0.own.runs ≡ placed_lines v.own.runs) × (placed_lines m.0.own.takes ≡ placed_lines v.own.takes)
released_same v word a b x m kind r = let did = r.step.made.did in
    let both_same : (placed_lines r.own.runs ≡ placed_lines v.own.runs) × (placed_lines r.own.takes ≡ placed_lines v.own.takes) = ⊎_elim
    (λ e. let p = r.published e in (ap (λ (z : EndRecord). placed_lines z.runs) p.1 ∙ published_same v.own p.0, ap (λ (z : EndRecord). placed_lines z.takes) p.1))
    (λ e. let p = r.given e in (ap (λ (z : EndRecord). placed_lines z.runs) p, ap (λ (z : EndRecord). placed_lines z.takes) p)) kind in
    (ap (λ (z : EndRecord). placed_lines z.runs) did ∙ both_same.0, ap (λ (z : EndRecord). placed_lines z.takes) did ∙ both_same.1)

module _ (allows : Condition) where
  keeps_by : (w : View) (puts taken : List Placed) → placed_lines w.own.runs ≡ puts → placed_lines w.own.takes ≡ taken → allows 0 puts taken → KeepsTo allows w
  keeps_by w puts taken ps ts h = subst (λ (z : List Placed). allows 0 z (placed_lines w.own.takes)) (sym ps) (subst (λ (z : List Placed). allows 0 puts z) (sym ts) h)

  keeps_own : (v w : View) (d : EndRecord) → w.own ≡ d → d.runs ≡ v.own.runs → d.takes ≡ v.own.takes → KeepsTo allows v → KeepsTo allows w
  keeps_own v w d own runs taken h = keeps_by w (placed_lines v.own.runs) (placed_lines v.own.takes) (ap (λ (z : EndRecord). placed_lines z.runs) own ∙ ap placed_lines runs) (ap (λ (z : EndRecord). placed_lines z.takes) own ∙ ap placed_lines taken) h

  module _ (key : Shape) (n id : ℕ) (me : Me ℕ View) where
    pub looks_as : (i : ℕ) → 1 ≤ me.0.member.ends → Allows (RuleWith allows key) n id me i (λ x. x) (finds (step n i 0 0 none) me)
    looks_as i live = let P : ℕ → Me ℕ View → Type 0 = finds (step n i 0 0 none) me in
        allows_with (Rule key) (KeepsTo allows) n id me i (λ x. x) P P (looks key n id me i live) (λ r m h k. keeps_own me.0 m.0 me.0.own h.2.made.did refl refl k) (λ r m h s x at. h)

    pub claims_as : (xs : List ℕ) (old new : ℕ) → 0 < length xs → new ≡ old + length xs → new < POSITIONS → new ≤ me.0.seen.object.freed + me.0.first.room → 1 ≤ me.0.member.ends → me.0.own.held.count ≡ 0 → me.1 ≡ []
        → allows 0 (placed_lines me.0.own.runs ++ (old, xs) ∷ []) (placed_lines me.0.own.takes) → Allows (RuleWith allows key) n id me head_word (λ x. either (eqb x old) new x) (claims xs (step n head_word old new none) me)
    claims_as xs old new some_item is small room live held_is bare may = let P : ℕ → Me ℕ View → Type 0 = claims xs (step n head_word old new none) me in
        allows_with (Rule key) (KeepsTo allows) n id me head_word (λ x. either (eqb x old) new x) P P (claims_head key n id me xs old new some_item is small room live held_is bare)
        (λ r m h k. dite (ℕ_discrete r old)
        (λ hit. let own : m.0.own ≡ with_run me.0.own old xs = (h.1 hit).step.made.did in
        keeps_by m.0 (placed_lines me.0.own.runs ++ (old, xs) ∷ []) (placed_lines me.0.own.takes)
        (ap (λ (z : EndRecord). placed_lines z.runs) own ∙ (placed_more me.0.own.runs (run old xs) ∙ (λ i. placed_lines me.0.own.runs ++ (old, fresh_items xs i) ∷ []))) (ap (λ (z : EndRecord). placed_lines z.takes) own) may)
        (λ miss. keeps_own me.0 m.0 me.0.own (h.2 miss).1.made.did refl refl k))
        (λ r m h s x at. h)

    pub takes_as : (tail new : ℕ) → ((first : ℕ) (puts taken : List Placed) (line : Placed) → allows first puts taken → allows first puts (taken ++ line ∷ [])) → tail < new → HasStop me.0 tail new → 1 ≤ me.0.member.ends → me.0.own.held.count ≡ 0 → me.1 ≡ []
        → Allows (RuleWith allows key) n id me tail_word (λ x. either (eqb x tail) new x) (takes_tail (step n tail_word tail new none) me)
    takes_as tail new more some_item up live held_is bare = let P : ℕ → Me ℕ View → Type 0 = takes_tail (step n tail_word tail new none) me in
        allows_with (Rule key) (KeepsTo allows) n id me tail_word (λ x. either (eqb x tail) new x) P P (takes key n id me tail new some_item up live held_is bare)
        (λ r m h k. dite (ℕ_discrete r tail)
        (λ hit. let t = h.1 hit in let e : Batch = taking (positions_of t.at.object) (new - tail) in let own : m.0.own ≡ with_taking me.0.own t.at.object (new - tail) = t.step.made.did in
        keeps_by m.0 (placed_lines me.0.own.runs) (placed_lines me.0.own.takes ++ (e.start, line_of e) ∷ [])
        (ap (λ (z : EndRecord). placed_lines z.runs) own) (ap (λ (z : EndRecord). placed_lines z.takes) own ∙ placed_more me.0.own.takes e) (more 0 (placed_lines me.0.own.runs) (placed_lines me.0.own.takes) (e.start, line_of e) k))
        (λ miss. keeps_own me.0 m.0 me.0.own (h.2 miss).1.made.did refl refl k))
        (λ r m h s x at. h)

    pub frees_as : (old new : ℕ) → old < new → HasBack me.0 old new → 1 ≤ me.0.member.ends → Allows (RuleWith allows key) n id me free_word (λ x. either (eqb x old) new x) (frees (step n free_word old new none) me)
    frees_as old new more up live = let P : ℕ → Me ℕ View → Type 0 = frees (step n free_word old new none) me in
        allows_with (Rule key) (KeepsTo allows) n id me free_word (λ x. either (eqb x old) new x) P P (frees_on key n id me old new more up live)
        (λ r m h k. dite (ℕ_discrete r old) (λ hit. keeps_own me.0 m.0 me.0.own (h.1 hit).1.1.made.did refl refl k) (λ miss. keeps_own me.0 m.0 me.0.own (h.2 miss).1.made.did refl refl k))
        (λ r m h s x at. h)

    pub parts_as : (word p mark end : ℕ) → IsWithin me.0.seen.object p end → mark / 2 ≤ p → end ≤ p + me.0.first.room → word ≡ mark_word me.0.first.room p → 1 ≤ me.0.member.ends → (finish : ℕ) → finish ≡ end
        → Allows (RuleWith allows key) n id me word (λ x. either (eqb x mark) (2 * end) x) (parts p finish (step n word mark (2 * end) none) me)
    parts_as word p mark end within idle near is live finish ends = let P : ℕ → Me ℕ View → Type 0 = parts p finish (step n word mark (2 * end) none) me in
        allows_with (Rule key) (KeepsTo allows) n id me word (λ x. either (eqb x mark) (2 * end) x) P P (parts_at key n id me word p mark end within idle near is live finish ends)
        (λ r m h k. dite (ℕ_discrete r mark) (λ hit. keeps_own me.0 m.0 (with_parting me.0.own) (h.1 hit).1.1.made.did refl refl k) (λ miss. keeps_own me.0 m.0 me.0.own (h.2 miss).1.made.did refl refl k))
        (λ r m h s x at. h)

    pub shuts_as : 1 ≤ me.0.member.ends → Allows (RuleWith allows key) n id me head_word (λ x. bit_or x SHUT) (shuts (step n head_word SHUT 0 none) me)
    shuts_as live = let P : ℕ → Me ℕ View → Type 0 = shuts (step n head_word SHUT 0 none) me in
        allows_with (Rule key) (KeepsTo allows) n id me head_word (λ x. bit_or x SHUT) P P (shuts_head key n id me live)
        (λ r m h k. keeps_own me.0 m.0 (with_shutting me.0.own (nat_lt r SHUT)) h.2.1.made.did refl refl k) (λ r m h s x at. h)

    -- the number of ends is counted up and down, and found
    pub ups_as : me.0.member.ends + 1 ≤ me.0.member.share → Allows (RuleWith allows key) n id me ends_word (λ x. (x + 1) % 18446744073709551616) (counts_up InvHeldOf (step n ends_word 1 0 none) me)
    ups_as more = let P : ℕ → Me ℕ View → Type 0 = counts_up InvHeldOf (step n ends_word 1 0 none) me in
        allows_with (Rule key) (KeepsTo allows) n id me ends_word (λ x. (x + 1) % 18446744073709551616) P P (ups key n id me more) (λ r m h k. keeps_own me.0 m.0 me.0.own h.1.own refl refl k) (λ r m h s x at. h)

    pub downs_as : 2 ≤ me.0.member.ends → Allows (RuleWith allows key) n id me ends_word (λ x. (x + (18446744073709551616 - 1)) % 18446744073709551616) (counts_down InvHeldOf (step n ends_word 1 0 none) me)
    downs_as two = let P : ℕ → Me ℕ View → Type 0 = counts_down InvHeldOf (step n ends_word 1 0 none) me in
        allows_with (Rule key) (KeepsTo allows) n id me ends_word (λ x. (x + (18446744073709551616 - 1)) % 18446744073709551616) P P (downs key n id me two) (λ r m h k. keeps_own me.0 m.0 me.0.own h.1.own refl refl k) (λ r m h s x at. h)

    pub tallies_as : me.0.member.ends ≡ 1 → Allows (RuleWith allows key) n id me ends_word (λ x. x) (counts (HasTallied InvHeldOf ends_word) (step n ends_word 0 0 none) me)
    tallies_as one = let P : ℕ → Me ℕ View → Type 0 = counts (HasTallied InvHeldOf ends_word) (step n ends_word 0 0 none) me in
        allows_with (Rule key) (KeepsTo allows) n id me ends_word (λ x. x) P P (tallies key n id me one) (λ r m h k. keeps_own me.0 m.0 me.0.own h.1.1.made.did refl refl k) (λ r m h s x at. h)

  pub splits_as : ((first : ℕ) → allows first [] []) → (key : Shape) (id : ℕ) (v : View) (parts : ℕ) → (2 ≤ v.member.share → IsPortion parts v.member.share) → v.member.ends ≡ 2 → Splits (RuleWith allows key) id v (rest_without parts v) (newborn_with parts nothing_did v)
  splits_as begins key id v parts fits two = splits_with (Rule key) (KeepsTo allows) id v (rest_without parts v) (newborn_with parts nothing_did v) (splits key id v parts fits two) (λ k. k) (λ k. begins 0)

  pub joins_as : ((first : ℕ) → allows first [] [])
      → ((first : ℕ) (puts taken more_puts more_taken : List Placed) → allows first puts taken → allows first more_puts more_taken → allows first (puts ++ more_puts) (taken ++ more_taken))
      → (key : Shape) (id other : ℕ) (v w : View) → 1 ≤ v.member.ends → v.own.held.count ≡ 0 → w.own.held.count ≡ 0 → Joins (RuleWith allows key) id v other w (both did_both v w) (emptied nothing_did v)
  joins_as begins both_may key id other v w live bare bare' = joins_with (Rule key) (KeepsTo allows) id other v w (both did_both v w) (emptied nothing_did v) (joins key id other v w live bare bare')
      (λ s h at there k l. keeps_by (both did_both v w) (placed_lines v.own.runs ++ placed_lines w.own.runs) (placed_lines v.own.takes ++ placed_lines w.own.takes) (map-append (λ (b : Batch). (b.start, line_of b)) v.own.runs w.own.runs)
      (map-append (λ (b : Batch). (b.start, line_of b)) v.own.takes w.own.takes) (both_may 0 (placed_lines v.own.runs) (placed_lines v.own.takes) (placed_lines w.own.runs) (placed_lines w.own.takes) k l))
      (λ k. begins 0)

  -- the table as it is made
  pub opens_as : ((first : ℕ) → allows first [] []) → (room : ℕ) (zs slots : List ℕ) → zs ≡ replicate (width room) 0 → length slots ≡ room → 0 < room
      → RuleWith allows (record { room = room }) (opening (set zs ends_word 1) slots (newcomer (record { room = room })))
  opens_as begins room zs slots is many some_room = opens_with (Rule (record { room = room })) (KeepsTo allows) (set zs ends_word 1) slots (newcomer (record { room = room })) (opens room zs slots is many some_room) (begins 0)

  -- a closed table
  pub final_under : (key : Shape) (id : ℕ) (w : View) (words : List ℕ) (xs : List ℕ) → Final (Seen (RuleWith allows key) id w) words xs → Final (Seen (Rule key) id w) words xs
  final_under key id w words xs f = (f.0, (f.1.0.rule, f.1.1), f.2, f.3, f.4)

  -- a step that publishes the end's run, or gives its taking back; (v, c) is the end with these slots
  pub releases_as : (key : Shape) (n id : ℕ) (v : View) (x b : ℕ) (ys : List ℕ) (m : ℕ) → v.own.held.phase ≡ x → (x ≡ 0) ⊎ (x ≡ 2) → b ≡ v.own.held.start + v.own.held.count → 0 < v.own.held.count → length ys ≡ v.own.held.count
      → m / 2 ≡ b → (x ≡ 0 → m % 2 ≡ 0) × (x ≡ 2 → m % 2 ≡ 1) → n ≡ v.first.room → (word : ℕ) → word ≡ mark_word v.first.room v.own.held.start → 1 ≤ v.member.ends
      → ((s : St) (k : Rule key s) → get_elem? s.views id ≡ some v → x ≡ 0 → (i : ℕ) → i < length ys → get_or ys i 0 ≡ get_or (items_of k.now.object) (v.own.held.start + i) 0) → (c : List (ℕ × ℕ)) → c ≡ slots_of v.first.room v.own.held.start ys
      → Allows (RuleWith allows key) n id (v, c) word (λ _. m) (λ _. releases_under allows (step n word m 0 none) (v, c) m)
  releases_as key n id v x b ys m kind x_is end some_item many half odd slots word word_is live written c is = let P : ℕ → Me ℕ View → Type 0 = λ _. releases (step n word m 0 none) (v, c) m in
      allows_with (Rule key) (KeepsTo allows) n id (v, c) word (λ _. m) P (λ _. releases_under allows (step n word m 0 none) (v, c) m)
      (releasing key n id v x b ys m kind x_is end some_item many half odd slots word word_is live written c is)
      (λ r w h k. let same = released_same v word v.own.held.start (v.own.held.start + v.own.held.count) v.own.held.phase w (subst (λ (z : ℕ). (z ≡ 0) ⊎ (z ≡ 2)) (sym kind) x_is) h.1 in keeps_by w.0 (placed_lines v.own.runs) (placed_lines v.own.takes) same.0 same.1 k)
      (λ r w h s y at. (h, record { key = key; state = s; holds = y; number = id; here = at }))
