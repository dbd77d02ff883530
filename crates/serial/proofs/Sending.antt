-- What chaining a note, and serving, does to the runs of an end.
use Rattle.std.proofs.Common.{◌≡◌, ◌<◌, ℕ, List, [], ◌∷◌, ◌++◌, ◌∙◌, map, length, refl, sym, ap, subst, arith, append_assoc}
use Rattle.std.proofs.lemmas.List.{map-append, append-nil}
use Rattle.table_theory.specs.declared.queues.Batch.{Batch}
use Rattle.table_theory.specs.Interleaving.{InOrder}
use Rattle.table_theory.specs.Batches.{IsPast}
use Rattle.table_theory.proofs.Ordering.{order_push}
use Rattle.proc_chain.specs.Own.{View}
use Rattle.proc_chain.specs.declared.running.Turn.{Turn}
use Rattle.proc_chain.specs.declared.chaining.Chained.{Chained}
use Rattle.proc_chain.specs.declared.chaining.Chained.TheVariants.{Run, Left}
use Rattle.proc_chain.specs.declared.chaining.ChainRefusal.{ChainRefusal}
use Rattle.proc_chain.specs.declared.chaining.ChainRefusal.TheVariants.{Spent, Full, Lost}
use Rattle.proc_chain.specs.Answers.{ChainedNow, NotChained}
use Rattle.proc_chain.specs.Notes.{line_of, notes_put, alone, PutNote}
use Rattle.proc_chain.specs.Servings.{AllServed}
use Rattle.serial.specs.Sent.{HasSent}

-- the runs of the end and its share stay
pub record Stays (v w : View) : Type 0 where
  pub runs : w.own.runs ≡ v.own.runs
  pub share : w.member.share ≡ v.member.share

pub stays_refl : (v : View) → Stays v v
stays_refl v = record { runs = refl; share = refl }

pub stays_on : (u v w : View) → Stays u v → Stays v w → Stays u w
stays_on u v w a b = record { runs = b.runs ∙ a.runs; share = b.share ∙ a.share }

pub refused_stays : (v w : View) (e : ChainRefusal) → NotChained v e w → Stays v w
refused_stays v w Spent r = record { runs = λ i. (r.3.did i).runs; share = λ i. (r.3.member i).share }
refused_stays v w (Full head tail) r = record { runs = λ i. (r.4.did i).runs; share = λ i. (r.4.member i).share }
refused_stays v w (Lost head) r = record { runs = λ i. (r.8.did i).runs; share = λ i. (r.8.member i).share }

-- a note that was claimed and raised is one run more, after the others
run_order : (v w : View) (b : Batch) → w.own.runs ≡ v.own.runs ++ b ∷ [] → IsPast v.own.runs b.start → 0 < length b.places → InOrder v.own.runs → InOrder w.own.runs
run_order v w b runs past some up = subst InOrder (sym runs) (order_push v.own.runs b up past some)

-- the end sent what it sends after a beginning in which nothing was sent
pub sent_after : (u v w : View) (notes : List ℕ) → Stays u v → HasSent notes v w → HasSent notes u w
sent_after u v w notes s h = record {
  puts = h.puts ∙ ap (λ (z : List Batch). map line_of z ++ map alone notes) s.runs;
  order = λ up. h.order (subst InOrder (sym s.runs) up);
  share = h.share ∙ s.share;
}

sent_before : (u v w : View) (notes : List ℕ) → HasSent notes u v → w.own.runs ≡ v.own.runs → w.member.share ≡ v.member.share → HasSent notes u w
sent_before u v w notes h runs share = record {
  puts = ap (map line_of) runs ∙ h.puts;
  order = λ up. subst InOrder (sym runs) (h.order up);
  share = share ∙ h.share;
}

pub sent_left : (v w : View) (note : ℕ) (r : Chained) → r ≡ Left → ChainedNow v note r w → PutNote note v w → HasSent (note ∷ []) v w
sent_left v w note r is chained p = let c = (subst (λ (z : Chained). ChainedNow v note z w) is chained).2 in record {
  puts = p.puts;
  order = run_order v w _ (λ i. (c.1.did i).runs) c.0.past (omega arith);
  share = λ i. (c.1.member i).share;
}

pub sent_run : (v u w : View) (note ran : ℕ) (turn : Turn) (r : Chained) → r ≡ Run turn → ChainedNow v note r u → PutNote note v u → AllServed u ran w → HasSent (note ∷ []) v w
sent_run v u w note ran turn r is chained p s = let c = (subst (λ (z : Chained). ChainedNow v note z u) is chained).2 in let served = s.5.served in
    sent_before v u w (note ∷ []) (record {
      puts = p.puts;
      order = run_order v u _ (λ i. (c.1.did i).runs) c.0.past (omega arith);
      share = λ i. (c.1.member i).share;
    }) served.runs served.share

-- nothing was sent
pub sent_none : (v : View) → HasSent [] v v
sent_none v = record { puts = sym (append-nil (notes_put v)); order = λ up. up; share = refl }

-- more was sent
pub sent_on : (u v w : View) (notes more : List ℕ) → HasSent notes u v → HasSent more v w → HasSent (notes ++ more) u w
sent_on u v w notes more a b = record {
  puts = b.puts ∙ (ap (λ (z : List (List ℕ)). z ++ map alone more) a.puts ∙ (append_assoc (notes_put u) (map alone notes) (map alone more) ∙ ap (λ (z : List (List ℕ)). notes_put u ++ z) (sym (map-append alone notes more))));
  order = λ up. b.order (a.order up);
  share = b.share ∙ a.share;
}
