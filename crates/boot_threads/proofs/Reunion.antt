-- The stations of the processors come together again.
use Rattle.boot_threads.proofs.Common.{◌≡◌, ℕ, ◌+◌, ◌<◌, ◌≤◌, true, List, [], ◌∷◌, ◌∙◌, map, length, get_or, sym, ap, subst, arith, Option, None, AllZip, or_left, or_right, Calls, IsFree, Shared, Parts, account, shares, get_or-copies, Work, GaveBack, NoneOn, ArePosted, HasWorked, ◌⊕◌, unheard, Shares, no_shares, both_shares, AllJoined, View, view_of, serves, nothing_on, back_of, parts_of, all_done, AllTurned, CameTogether, HasRun, RunsOf, RefusalsOf}
use mathlib.Core.Logic.{dite}
use native.Mathlib.Decide.{dec_lt}
use Rattle.processor.proofs.Summing.{accounts_add}
use Rattle.stations.proofs.Summing.{shares_add, shares_swap, shares_parted, joined_account, joined_shares}
use Rattle.thread_table.specs.Steps.{either_on}
use Rattle.boot_threads.specs.declared.work.Processed.{Processed}
use Rattle.boot_threads.specs.declared.work.Work.TheVariants as works

-- JOINS

-- the shares of these stations together
abbrev total : List Parts → Shares
total [] = no_shares
total (parts ∷ stations) = both_shares (shares parts) (total stations)

joined_all : (first : Parts) (stations : List Parts) (last : Parts) → AllJoined first stations last → (account last ≡ account first ⊕ all_done stations) × (shares last ≡ both_shares (shares first) (total stations))
joined_all first [] last j = (ap account j ∙ sym (accounts_add.none_last (account first)), ap shares j ∙ sym (shares_add.none_last (shares first)))
joined_all first (s ∷ stations) last j =
    let rest = joined_all j.0 stations last j.2 in (
      rest.0 ∙ ap (λ z. z ⊕ all_done stations) (joined_account first s j.0 j.1) ∙ accounts_add.regroups (account first) (unheard (account s)) (all_done stations),
      rest.1 ∙ ap (λ z. both_shares z (total stations)) (joined_shares first s j.0 j.1) ∙ shares_add.regroups (shares first) (shares s) (total stations),
    )

abbrev Serves : Parts → ℕ → Type 0
Serves parts k = serves (view_of parts.hand) k ≡ true

serves_on : (first : Parts) (stations : List Parts) (last : Parts) (k : ℕ) → AllJoined first stations last → Serves first k → Serves last k
serves_on first [] last k j h = subst (λ (z : Parts). Serves z k) (sym j) h
serves_on first (s ∷ stations) last k j h = serves_on j.0 stations last k j.2 (j.1.hand.serves k ∙ or_left _ _ h)

none_either : (xs ys : List (Option ℕ)) → xs ≡ nothing_on → ys ≡ nothing_on → either_on xs ys ≡ nothing_on
none_either xs ys a b = ap (λ (z : List (Option ℕ)). either_on z ys) a ∙ ap (either_on nothing_on) b

-- what is parted is there again: what was kept, and what was given, after what the others have
parted_more : (old mid born back new rest : Shares) → both_shares mid born ≡ old → back ≡ born → mid ≡ both_shares new rest → old ≡ both_shares new (both_shares back rest)
parted_more old mid born back new rest whole same parted =
    sym whole ∙ ap (both_shares mid) (sym same) ∙ ap (λ z. both_shares z back) parted ∙ shares_add.regroups new rest back ∙ ap (both_shares new) (shares_swap rest back)

module _ (G : Type 0) (ran : RunsOf G) (refused : RefusalsOf G) (T : Calls G) (shared : Shared) (turns : ℕ) where
  -- the results of the processors from this one on: their turns; no work of the first station; the shares that were
  -- given to them; and, for a station to which they are joined, the processors that they serve, without an element on
  -- them
  record Comes (p : ℕ) (gates : List G) (old new : Parts) (came : List (Processed G)) : Type 0 where
    turned : AllTurned ran T shared p turns gates came
    did : account new ≡ account old
    parted : shares old ≡ both_shares (shares new) (total (map parts_of came))
    served : (first last : Parts) (k : ℕ) → AllJoined first (map parts_of came) last → p ≤ k → k < p + length gates → Serves last k
    none : (first last : Parts) → AllJoined first (map parts_of came) last → NoneOn first → NoneOn last

  come : (p : ℕ) (gates : List G) (old new : Parts) (posts : List (Work G)) (came : List (Processed G)) → ArePosted shared p turns gates old new posts → AllZip (GaveBack ran refused (HasWorked T) shared) posts (map back_of came) → Comes p gates old new came
  come p [] old new [] [] a z = record {
    turned = tt;
    did = ap account a;
    parted = sym (ap shares a) ∙ sym (shares_add.none_last (shares new));
    served = λ first last k j low high. absurd (omega arith);
    none = λ first last j none. subst NoneOn (sym j) none;
  }
  come p [] old new [] (s ∷ came) a z = absurd z
  come p [] old new (w ∷ posts) came a z = absurd a
  come p (g ∷ gates) old new [] came a z = absurd a
  come p (g ∷ gates) old new (w ∷ posts) [] a z = absurd z
  come p (g ∷ gates) old new (w ∷ posts) (s ∷ came) a z =
      let post = a.1 in
      let was : GaveBack ran refused (HasWorked T) shared (works.Process post.station p turns g) (back_of s) = subst (λ (x : Work G). GaveBack ran refused (HasWorked T) shared x (back_of s)) post.is z.0 in
      let had : HasRun T shared p turns g s.gate post.station.parts s.station.parts = was.1 in
      let rest = come (p + 1) gates a.0 new posts came a.2 z.1 in record {
        turned = ((post.station, post.manned, post.fresh, was.0, had), rest.turned);
        did = rest.did ∙ post.did;
        parted = parted_more (shares old) (shares a.0) (shares post.station.parts) (shares s.station.parts) (shares new) (total (map parts_of came))
            ((λ i. both_shares (post.kept_are i) (post.given_are i)) ∙ shares_parted (shares old)) had.0.shares_are rest.parted;
        served = λ first last k j low high. dite (dec_lt p k)
            (λ past. rest.served j.0 last k j.2 (omega arith) (omega arith))
            (λ no. let here : p ≡ k = omega arith in
            serves_on j.0 (map parts_of came) last k j.2 (j.1.hand.serves k ∙ or_right _ _ (subst (λ (z : ℕ). Serves s.station.parts z) here had.0.manned.free.0)));
        none = λ first last j none. rest.none j.0 last j.2
            (ap (λ (v : View). v.own.on) j.1.hand.acts.has ∙ none_either _ _ none (had.0.on ∙ ap (λ (v : View). v.own.on) post.split.born_hand.same));
      }

  pub came_together : (gates : List G) (old new last : Parts) (posts : List (Work G)) (came : List (Processed G))
      → ArePosted shared 0 turns gates old new posts → AllZip (GaveBack ran refused (HasWorked T) shared) posts (map back_of came) → AllJoined new (map parts_of came) last
      → NoneOn new → ((k : ℕ) → length gates ≤ k → k < 8 → IsFree k (view_of new.hand)) → CameTogether ran T shared turns gates old last came
  came_together gates old new last posts came a z j none free =
      let c = come 0 gates old new posts came a z in
      let sum = joined_all new (map parts_of came) last j in
      let empty : NoneOn last = c.none new last j none in record {
        turned = c.turned;
        shares_are = sum.1 ∙ sym c.parted;
        did = sum.0 ∙ ap (λ z. z ⊕ all_done (map parts_of came)) c.did;
        free = λ p low. (
          dite (dec_lt p (length gates))
              (λ posted. c.served new last p j (omega arith) (omega arith))
              (λ rest. serves_on new (map parts_of came) last p j (free p (omega arith) low).0),
          ap (λ (xs : List (Option ℕ)). get_or xs p None) empty ∙ get_or-copies 8 None p,
        );
      }
