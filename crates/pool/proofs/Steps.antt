-- What a call of the queue leaves of an end's runs and takings, and which steps it added.
use Rattle.pool.proofs.Common.{◌≡◌, ℕ, List, [], ◌∷◌, ◌++◌, ◌∙◌, ap, ◌<◌, map, length, refl, sym, subst, Batch, AbsState, ExtendsTrace, Performed, Step, load, adds_none, PutRefusal, TakeRefusal, BatchState, EndRecord, head_word, View, FoundOther, IsPut, LackedRoom, RefusedPut, published, RefusedSomeBy, RefusedTakeSome, TookSome, with_parts, ⊎_elim}
use Rattle.batch_queue.specs.declared.refusals.PutRefusal.TheVariants as not_put
use Rattle.batch_queue.specs.declared.refusals.TakeRefusal.TheVariants as not_taken
use Rattle.batch_queue.specs.Takings.{RefusedTake}

-- the end has these runs and takings then, and added these entries
pub record Did (v w : View) (runs takes : List Batch) : Type 0 where
  pub runs_are : w.own.runs ≡ runs
  pub takes_are : w.own.takes ≡ takes
  pub shuts_are : w.own.shuts ≡ v.own.shuts
  pub share : w.member.share ≡ v.member.share
  pub entries : List (Step BatchState)
  pub adds : ExtendsTrace v entries w

-- it has what it had
abbrev pub DidNothing : View → View → Type 0
DidNothing v w = Did v w v.own.runs v.own.takes

made : (v w : View) (entries : List (Step BatchState)) (own : EndRecord) → own.shuts ≡ v.own.shuts → Performed v entries own w → Did v w own.runs own.takes
made v w entries own still m = record {
  runs_are = λ i. (m.did i).runs;
  takes_are = λ i. (m.did i).takes;
  shuts_are = ap (λ (z : EndRecord). z.shuts) m.did ∙ still;
  share = λ i. (m.member i).share;
  entries = entries;
  adds = m.adds;
}

-- it looked, and did nothing
pub looked : (v w : View) (entries : List (Step BatchState)) → Performed v entries v.own w → DidNothing v w
looked v w entries m = made v w entries v.own refl m

nothing : (v w : View) → w ≡ v → DidNothing v w
nothing v w is = record {
  runs_are = λ i. (is i).own.runs;
  takes_are = λ i. (is i).own.takes;
  shuts_are = λ i. (is i).own.shuts;
  share = λ i. (is i).member.share;
  entries = [];
  adds = subst (ExtendsTrace v []) (sym is) (adds_none v);
}

refused_take : (room most : ℕ) (v w : View) (r : TakeRefusal) → RefusedTake room v most r w → DidNothing v w
refused_take room most v w (not_taken.Empty at) h = looked v w _ h.added
refused_take room most v w (not_taken.ShortBuffer at count) h = looked v w _ h.1.added
refused_take room most v w (not_taken.Lost tail) h = ⊎_elim (λ p. looked v w _ p.added) (λ t. ⊎_elim (λ p. looked v w _ p.added) (λ p. looked v w _ p.added) t) h
refused_take room most v w not_taken.Closed h = looked v w _ h.added

-- it looked, and parted a batch perhaps
parted : (v w : View) (parts : ℕ) (entries : List (Step BatchState)) → Performed v entries (with_parts v.own parts) w → DidNothing v w
parted v w parts entries m = made v w entries (with_parts v.own parts) refl m

refused_by : (room most : ℕ) (v w : View) (r : TakeRefusal) → RefusedSomeBy (λ parts entries. Performed v entries (with_parts v.own parts) w) room most r → DidNothing v w
refused_by room most v w (not_taken.Empty at) h = parted v w 0 _ h.added
refused_by room most v w (not_taken.ShortBuffer at count) h = absurd h
refused_by room most v w (not_taken.Lost tail) h = ⊎_elim (λ p. parted v w 0 _ p.added) (λ t. ⊎_elim (λ p. parted v w p.parts _ p.added) (λ n. parted v w 0 _ n.added) t) h
refused_by room most v w not_taken.Closed h = parted v w 0 _ h.added

pub refused_some : (room most : ℕ) (v w : View) (r : TakeRefusal) → RefusedTakeSome room v most r w → DidNothing v w
refused_some room most v w r h = ⊎_elim (λ whole. refused_take room most v w r whole.1) (λ some. refused_by room most v w r some) h

-- a taking leaves the runs
pub record Took (v w : View) : Type 0 where
  pub runs_are : w.own.runs ≡ v.own.runs
  pub shuts_are : w.own.shuts ≡ v.own.shuts
  pub entries : List (Step BatchState)
  pub adds : ExtendsTrace v entries w

pub took_some : (room most : ℕ) (items : List ℕ) (v w : View) → TookSome room v most items w → Took v w
took_some room most items v w (tail, mark, m, t) = let d = made v w _ _ refl t.added in record { runs_are = d.runs_are; shuts_are = d.shuts_are; entries = d.entries; adds = d.adds }

lacked : (room count least head free : ℕ) (moved : _) (v w : View) → LackedRoom (λ entries. Rattle.batch_queue.specs.Own.OnlyLoads v entries w) room count least head free moved → DidNothing v w
lacked room count least head free moved v w l = looked v w _ l.added

other : (room count least head now : ℕ) (v w : View) → FoundOther (λ entries. Rattle.batch_queue.specs.Own.OnlyLoads v entries w) room count least head now → DidNothing v w
other room count least head now v w f = looked v w _ f.added

pub refused_put : (room count : ℕ) (v w : View) (r : PutRefusal) → RefusedPut room v count r w → DidNothing v w
refused_put room count v w not_put.NoItems h = nothing v w h.1
refused_put room count v w not_put.TooLong h = nothing v w h.1
refused_put room count v w not_put.Closed h = ⊎_elim (λ f. looked v w _ f.added) (λ t. other room count count t.0 t.1 v w t.3) h.1
refused_put room count v w not_put.Spent h = looked v w _ h.1.added
refused_put room count v w (not_put.Full head free) h = lacked room count count head free _ v w h.1
refused_put room count v w (not_put.Lost head) h = ⊎_elim (λ t. lacked room count count head t.0 _ v w t.1) (λ t. other room count count t.0 head v w t.3) h.1

-- A put: one run more, from the position on that was found in the head word at first
pub record Put (v w : View) (start : ℕ) (items : List ℕ) : Type 0 where
  pub some_item : 0 < length items
  pub at : AbsState BatchState
  pub after : List (Step BatchState)
  pub did : Did v w (v.own.runs ++ record { start = start; places = map published items } ∷ []) v.own.takes
  pub adds : ExtendsTrace v (load head_word start at ∷ after) w

pub is_put : (room start : ℕ) (items : List ℕ) (v w : View) → IsPut room v start items w → Put v w start items
is_put room start items v w (mark, m, c) = record {
  some_item = c.fits.0;
  at = c.at_head;
  after = _;
  did = made v w _ _ refl c.added;
  adds = c.added.adds;
}
