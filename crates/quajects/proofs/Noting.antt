-- A note that is chained after tries that were lost.
use Rattle.std.proofs.Common.{◌≡◌, ℕ, ◌+◌, ◌≤◌, false, List, [], ◌∷◌, ◌++◌, map, length, refl, sym, ap, subst, ◌∙◌, Ok, Err}
use Rattle.std.proofs.Math.Logic.{∥∥₁_elim}
use native.Mathlib.Nat.{ℕ_set}
use mathlib.Core.List.{is_set}
use Rattle.quajects.proofs.Common.{AllByRecursion, Part, Step, load, Performed, IsValidChainView, notes_of, LostTry, IsLost, tried, Link, linked, IsLink, Service, served, notes_in, with_service}
use Rattle.atomic_table.specs.Table.{Me}
use Rattle.table_theory.specs.declared.queues.Positions.{Positions}
use Rattle.table_theory.specs.declared.views.AbsState.{AbsState}
use Rattle.table_theory.specs.Batches.{IsPast}
use Rattle.table_theory.proofs.Parting.{made_none, made_on}
use Rattle.table_theory.proofs.Reaching.{all_on, passes_since}
use Rattle.proc_chain.specs.declared.rule.ChainOps.{ChainOps}
use Rattle.proc_chain.specs.declared.rule.GatedQueue.{GatedQueue}
use Rattle.proc_chain.specs.declared.running.Turn.{Turn}
use Rattle.proc_chain.specs.declared.chaining.Chained.{Chained}
use Rattle.proc_chain.specs.declared.chaining.Chained.TheVariants.{Run, Left}
use Rattle.proc_chain.specs.declared.chaining.ChainRefusal.{ChainRefusal}
use Rattle.proc_chain.specs.declared.chaining.ChainRefusal.TheVariants.{Spent, Full, Lost}
use Rattle.proc_chain.specs.Own.{View, queue_of}
use Rattle.proc_chain.specs.Happenings.{of_chains}
use Rattle.proc_chain.specs.Answers.{ChainedNow, NotChained, with_run, with_turn}
use Rattle.proc_chain.specs.Notes.{line_of, notes_put, alone, PutNote}
use Rattle.proc_chain.specs.Servings.{AllServed}
use Rattle.proc_chain.specs.Turns.{HasOrGave, MadeSince}
use Rattle.proc_chain.specs.Layout.{head_word, tail_word}
use Rattle.quajects.specs.Notings.{IsRun, IsLeft, Noted}

tried_on : (lost more : List LostTry) → tried (lost ++ more) ≡ tried lost ++ tried more
tried_on [] more = refl
tried_on (t ∷ lost) more = ap (λ (z : List (Step GatedQueue)). load head_word t.head t.at_head ∷ load tail_word t.tail t.at_tail ∷ load head_word t.found t.at_exchange ∷ z) (tried_on lost more)

-- these tries were lost, and the end did nothing else
pub record WereLost (v : View) (lost : List LostTry) (w : View) : Type 0 where
  pub fit : AllByRecursion IsLost lost
  pub made : Performed v (tried lost) v.own w

-- none yet
pub none_lost : (v : View) → WereLost v [] v
none_lost v = record { fit = tt; made = made_none v }

-- one lost try more
pub tries_more : (v u w : View) (lost : List LostTry) (head : ℕ) (e : ChainRefusal) → e ≡ Lost head → WereLost v lost u → NotChained u e w → (more : List LostTry) × WereLost v more w
tries_more v u w lost head e is l n = let r = subst (λ (z : ChainRefusal). NotChained u z w) is n in
    let t : LostTry = record { head = r.0; at_head = r.2; tail = r.1; at_tail = r.3; found = head; at_exchange = r.4 } in (
      lost ++ t ∷ [],
      record {
        fit = all_on IsLost lost (t ∷ []) l.fit (((r.5, r.6), r.7), tt);
        made = subst (λ (z : List (Step GatedQueue)). Performed v z v.own w) (sym (tried_on lost (t ∷ [])))
            (made_on v u w (tried lost) (tried (t ∷ [])) v.own v.own l.made (subst (λ (z : ChainOps). Performed u (tried (t ∷ [])) z w) l.made.did r.8));
      },
    )

-- some steps after lost tries
following : (F : ChainOps → ChainOps) (v b w : View) (lost : List LostTry) (entries : List (Step GatedQueue)) → WereLost v lost b → Performed b entries (F b.own) w → Performed v (tried lost ++ entries) (F v.own) w
following F v b w lost entries l m = made_on v b w (tried lost) entries v.own (F v.own) l.made (subst (λ (z : ChainOps). Performed b entries (F z) w) l.made.did m)

puts_after : (v b w : View) (lost : List LostTry) (note : ℕ) → WereLost v lost b → notes_put w ≡ notes_put b ++ alone note ∷ [] → notes_put w ≡ notes_put v ++ alone note ∷ []
puts_after v b w lost note l e = e ∙ ap (λ (z : ChainOps). map line_of z.runs ++ alone note ∷ []) l.made.did

share_of : {v w : View} {entries : List (Step GatedQueue)} {own : ChainOps} → Performed v entries own w → w.member.share ≡ v.member.share
share_of m = ap (λ (z : Part). z.share) m.member

-- the queue that the end sees is the one at its last step
at_gate : {A : Type 0} (F : Positions → A) → ((a b : A) → IsProp (a ≡ b)) → (v u : View) (note : ℕ) (l : Link) (own : ChainOps) → ∥ IsValidChainView v ∥₁ → ∥ IsValidChainView u ∥₁ → Performed v (linked note l) own u → F (queue_of u) ≡ F l.at_gate.object.queue
at_gate F prop v u note l own x y m = ∥∥₁_elim x (prop _ _) (λ (a : IsValidChainView v). ∥∥₁_elim y (prop _ _) (λ (b : IsValidChainView u).
    ap (λ (z : AbsState GatedQueue). F z.object.queue) (sym (passes_since of_chains v u (linked note l) a.honest b.honest m.adds).2.2.2.2.2)))

link_after : (v b : View) (lost : List LostTry) (note : ℕ) (l : Link) → WereLost v lost b → IsLink b.own.runs note l → IsLink v.own.runs note l
link_after v b lost note l t h = record { room = h.room; past = subst (λ (z : ChainOps). IsPast z.runs l.head) t.made.did h.past; place = h.place }

pub is_left : {Q : Type 0} (me b w : Me Q View) (lost : List LostTry) (note : ℕ) (r : Chained) → r ≡ Left → WereLost me.0 lost b.0 → b.1 ≡ me.1 → w.1 ≡ b.1 → ChainedNow b.0 note r w.0 → IsLeft me (tried lost) note w
is_left me b w lost note r is l same same' chained = let k = subst (λ (z : Chained). ChainedNow b.0 note z w.0) is chained in
    (k.0, link_after me.0 b.0 lost note k.0 l k.2.0, k.1, following (λ (d : ChainOps). with_run d k.0.head note) me.0 b.0 w.0 lost (linked note k.0) l k.2.1, same' ∙ same)

module _ {Q : Type 0} (made : Q → List ℕ → Type 0) (fits : Q → Type 0) where
  pub is_run : (me b u w : Me Q View) (lost : List LostTry) (note ran : ℕ) (turn : Turn) (r : Chained) → r ≡ Run turn → WereLost me.0 lost b.0 → ∥ IsValidChainView b.0 ∥₁ → ∥ IsValidChainView u.0 ∥₁
      → ChainedNow b.0 note r u.0 → PutNote note b.0 u.0 → MadeSince made fits u.0 w.0 → AllServed u.0 ran w.0 → HasOrGave made fits false w → IsRun made fits me (tried lost) note ran w
  is_run me b u w lost note ran turn r is l x y c p runs s gave =
      let k = subst (λ (z : Chained). ChainedNow b.0 note z u.0) is c in
      let service : Service = record { used_up = s.0; last = s.1; left = s.2 } in let h = s.5 in
      let here = at_gate notes_of (is_set ℕ_set) b.0 u.0 note k.0 _ x y k.2.1 in
      let there = at_gate (λ (z : Positions). z.taken) ℕ_set b.0 u.0 note k.0 _ x y k.2.1 in
      let turn_got : Performed me.0 (tried lost ++ linked note k.0) (with_turn k.0.at_gate.object.queue.taken (with_run me.0.own k.0.head note)) u.0 = following (λ (d : ChainOps). with_turn k.0.at_gate.object.queue.taken (with_run d k.0.head note)) me.0 b.0 u.0 lost (linked note k.0) l k.2.1 in record {
        link = k.0;
        linked_is = link_after me.0 b.0 lost note k.0 l k.2.0;
        idle = k.1;
        service = service;
        is = record { full = s.3; less = s.4; uses = h.fit };
        steps = made_on me.0 u.0 w.0 (tried lost ++ linked note k.0) (served service) (with_turn k.0.at_gate.object.queue.taken (with_run me.0.own k.0.head note)) (with_service (with_turn k.0.at_gate.object.queue.taken (with_run me.0.own k.0.head note)) service) turn_got
            (subst (λ (z : ChainOps). Performed u.0 (served service) (with_service z service) w.0) turn_got.did h.made);
        number = h.number;
        notes = h.served.notes ∙ ap (λ (z : List ℕ). z ++ notes_in service) here;
        taken = h.served.taken ∙ ap (λ (z : ℕ). z + length (notes_in service)) there;
        takes = h.served.takes ∙ ap (λ (z : List (List ℕ)). z ++ map alone (notes_in service)) (p.takes ∙ ap (λ (z : ChainOps). map line_of z.takes) l.made.did);
        since = λ n from to. runs n (subst (λ (z : ℕ). z ≤ n) (sym there) from) to;
        gave = gave;
      }

  pub noted_run : (me b u w : Me Q View) (lost : List LostTry) (note ran : ℕ) (turn : Turn) (r : Chained) → r ≡ Run turn → WereLost me.0 lost b.0 → ∥ IsValidChainView b.0 ∥₁ → ∥ IsValidChainView u.0 ∥₁
      → ChainedNow b.0 note r u.0 → PutNote note b.0 u.0 → MadeSince made fits u.0 w.0 → AllServed u.0 ran w.0 → HasOrGave made fits false w → Noted made fits me note w
  noted_run me b u w lost note ran turn r is l x y c p runs s gave = let i = is_run me b u w lost note ran turn r is l x y c p runs s gave in record {
    lost = lost;
    tries = l.fit;
    answer = Ok (Run turn);
    reported = (ran, i);
    puts = puts_after me.0 b.0 w.0 lost note l (ap (map line_of) s.5.served.runs ∙ p.puts);
    share = share_of i.steps;
  }

  pub noted_left : (me b w : Me Q View) (lost : List LostTry) (note : ℕ) (r : Chained) → r ≡ Left → WereLost me.0 lost b.0 → b.1 ≡ me.1 → w.1 ≡ b.1 → ChainedNow b.0 note r w.0 → PutNote note b.0 w.0 → Noted made fits me note w
  noted_left me b w lost note r is l same same' chained p = let i = is_left me b w lost note r is l same same' chained in record {
    lost = lost;
    tries = l.fit;
    answer = Ok Left;
    reported = i;
    puts = puts_after me.0 b.0 w.0 lost note l p.puts;
    share = share_of i.3;
  }

  pub noted_spent : (me b w : Me Q View) (lost : List LostTry) (note : ℕ) (e : ChainRefusal) → e ≡ Spent → WereLost me.0 lost b.0 → b.1 ≡ me.1 → w.1 ≡ b.1 → NotChained b.0 e w.0 → Noted made fits me note w
  noted_spent me b w lost note e is l same same' refused = let r = subst (λ (z : ChainRefusal). NotChained b.0 z w.0) is refused in
      let m = following (λ d. d) me.0 b.0 w.0 lost _ l r.3 in record {
        lost = lost;
        tries = l.fit;
        answer = Err Spent;
        reported = (r.0, r.1, r.2, m, same' ∙ same);
        puts = ap (λ (z : ChainOps). map line_of z.runs) m.did;
        share = share_of m;
      }

  pub noted_full : (me b w : Me Q View) (lost : List LostTry) (note head tail : ℕ) (e : ChainRefusal) → e ≡ Full head tail → WereLost me.0 lost b.0 → b.1 ≡ me.1 → w.1 ≡ b.1 → NotChained b.0 e w.0 → Noted made fits me note w
  noted_full me b w lost note head tail e is l same same' refused = let r = subst (λ (z : ChainRefusal). NotChained b.0 z w.0) is refused in
      let m = following (λ d. d) me.0 b.0 w.0 lost _ l r.4 in record {
        lost = lost;
        tries = l.fit;
        answer = Err (Full head tail);
        reported = (r.0, r.1, (r.2, r.3), m, same' ∙ same);
        puts = ap (λ (z : ChainOps). map line_of z.runs) m.did;
        share = share_of m;
      }
