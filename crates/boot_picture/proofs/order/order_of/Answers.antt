use Rattle.boot_picture.proofs.Common.{◌≡◌, ◌<◌, ◌≤◌, ◌+◌, ◌++◌, ◌∷◌, [], ◌∙◌, ℕ, List, arith, inl, inr, sym, subst, length, length-append, length-set, set, get_or, All, All-push, Ordered, AreUsed, IsLeast, IsNextIn, time_of, IsNonDecreasingBy}
use Rattle.std.proofs.lemmas.List.Sorted.{IsNonDecreasingBy-push}
use Rattle.boot_picture.proofs.Clocks.{IsLastBelow, last_more, least_first, none_before}
use Rattle.boot_picture.proofs.Orders.{HasTaken, next_within, next_fits, read_at, taken_more, first_taken, all_taken}
use Rattle.boot_picture.proofs.order.order_of.Goals as goal

pub returns : goal.returns
returns c =
    let inv = c.loop-nexts.invariant in
    let many = c.len.ensures in
    let ok = c.loop-nexts.order.ok in
    record {
      of_tracks = inv.of_tracks;
      first = first_taken c.args.tracks.now c.loop-nexts.nexts.items c.loop-nexts.order.items inv.taken;
      few = inv.few;
      all_or_most = inl (omega (arith, c.loop-nexts-test.false, many, ok.0, inv.few));
      by_clock = λ all. (inv.timed all).0;
      earliest = λ all. none_before c.args.tracks.now c.loop-nexts.nexts.items c.loop-nexts.order.items inv.taken all (inv.timed all).0 (inv.timed all).1;
    }

pub returns-in_default : goal.returns-in_default
returns-in_default c =
    let tracks = c.args.tracks.now in
    let nexts = c.loop-nexts.nexts.items in
    let inv = c.loop-nexts.invariant in
    let used : AreUsed tracks nexts (length tracks) = subst (λ (ns : List ℕ). AreUsed tracks ns (length tracks)) c.deref.ensures.value (c.earliest.ensures.none c.in_default.is) in
    record {
      of_tracks = inv.of_tracks;
      first = first_taken tracks nexts c.loop-nexts.order.items inv.taken;
      few = inv.few;
      all_or_most = inr (all_taken tracks nexts c.loop-nexts.order.items inv.taken used);
      by_clock = λ all. (inv.timed all).0;
      earliest = λ all. none_before tracks nexts c.loop-nexts.order.items inv.taken all (inv.timed all).0 (inv.timed all).1;
    }

pub index_mut-requires : goal.index_mut-requires
index_mut-requires c =
    let tracks = c.args.tracks.now in
    let nexts = c.loop-nexts.nexts.items in
    let next : IsNextIn tracks nexts c.in-Some.ordered = subst (λ (ns : List ℕ). IsNextIn tracks ns c.in-Some.ordered) c.deref.ensures.value c.in-Some.ensures.found in
    let within = next_within tracks nexts c.in-Some.ordered c.loop-nexts.invariant.as_many next in
    let ok = c.loop-nexts.nexts.ok in
    omega (arith, ok.0, within)

pub overflow_add-index_mut : goal.overflow_add-index_mut
overflow_add-index_mut c =
    let tracks = c.args.tracks.now in
    let nexts = c.loop-nexts.nexts.items in
    let o = c.in-Some.ordered in
    let next : IsNextIn tracks nexts o = subst (λ (ns : List ℕ). IsNextIn tracks ns o) c.deref.ensures.value c.in-Some.ensures.found in
    let within = next_within tracks nexts o c.loop-nexts.invariant.as_many next in
    let value = read_at nexts o.processor c.index_mut.result.now within c.index_mut.ensures.value in
    let fits = next_fits tracks nexts o next in
    omega (arith, value, fits)

pub loop-nexts-preserved : goal.loop-nexts-preserved
loop-nexts-preserved c =
    let tracks = c.args.tracks.now in
    let nexts = c.loop-nexts.nexts.items in
    let order = c.loop-nexts.order.items in
    let o = c.in-Some.ordered in
    let v = c.index_mut.result.now in
    let inv = c.loop-nexts.invariant in
    let next : IsNextIn tracks nexts o = subst (λ (ns : List ℕ). IsNextIn tracks ns o) c.deref.ensures.value c.in-Some.ensures.found in
    let within = next_within tracks nexts o inv.as_many next in
    let value : get_or nexts o.processor 0 ≡ v = read_at nexts o.processor v within c.index_mut.ensures.value in
    let pushed = c.in_ok-push.ensures.items in
    let more : HasTaken tracks (set nexts o.processor (v + 1)) (order ++ o ∷ []) = subst (λ k. HasTaken tracks (set nexts o.processor (k + 1)) (order ++ o ∷ [])) value (taken_more tracks nexts order o inv.as_many next inv.taken) in
    record {
      as_many = length-set {A = ℕ} nexts o.processor (v + 1) ∙ inv.as_many;
      few = rw pushed (simp length-append (let many = c.len.ensures in let ok = c.loop-nexts.order.ok in let test = c.loop-nexts-test.true in omega (arith, ok.0, many, test)));
      of_tracks = subst (λ (os : List Ordered). All (λ (x : Ordered). x.processor < length tracks) os) (sym pushed) (All-push (λ (x : Ordered). x.processor < length tracks) order o inv.of_tracks (subst (λ k. o.processor < k) inv.as_many within));
      taken = subst (λ (os : List Ordered). HasTaken tracks (set nexts o.processor (v + 1)) os) (sym pushed) more;
      timed = λ all.
          let old = inv.timed all in
          let least : IsLeast tracks nexts (length tracks) o = subst (λ (ns : List ℕ). IsLeast tracks ns (length tracks) o) c.deref.ensures.value c.in-Some.ensures.least in
          let later : (a : Ordered) → IsNextIn tracks (set nexts o.processor (v + 1)) a → time_of tracks o ≤ time_of tracks a = λ a is. least_first tracks nexts o inv.as_many next least all a (subst (λ k. IsNextIn tracks (set nexts o.processor (k + 1)) a) (sym value) is) in
          subst (λ (os : List Ordered). IsNonDecreasingBy (time_of tracks) os × IsLastBelow tracks (set nexts o.processor (v + 1)) os) (sym pushed) (IsNonDecreasingBy-push (time_of tracks) order o old.0 (λ d some. old.1 d some o next), last_more tracks (set nexts o.processor (v + 1)) order o later);
    }
