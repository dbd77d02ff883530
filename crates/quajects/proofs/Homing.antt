-- A quaject that came home.
use Rattle.quajects.proofs.Common.{◌≡◌, ℕ, suc, ◌≤◌, ◌%◌, ◌^◌, List, [], ◌∷◌, map, length, take, refl, sym, ap, subst, ◌∙◌, arith, Option, Some, None, AllByRecursion, length-map, length-take-le, item_of, ClaimQueue, suits, makes, notes_of, Way, AnyQuaject, IsHome, CameHome, Batch, AllRaised, view_of, line_of, Post, AllFit, AllUp, post_of, post_at, WaysFit, port_of, way_post, TookNothing}
use Rattle.proc_chain.specs.Own.{View, queue_of}
use Rattle.proc_chain.specs.declared.rule.Pact.{Pact}
use Rattle.proc_chain.specs.Closings.{ClosedNow}
use Rattle.quajects.specs.declared.world.Queues.{Queues}
use Rattle.quajects.specs.declared.home.Home.{Home}
use Rattle.quajects.specs.declared.ports.Port.{Port}
use Rattle.quajects.specs.declared.any.AnyQuaject.TheVariants as any
use Rattle.quajects.specs.Anys as anys
use Rattle.quajects.specs.Switches as switches

-- the law of its type
law_of : (x : AnyQuaject) → anys.IsKept x
law_of (any.Cooked tty) = record { screens = tty.screens; lines = tty.lines; full = tty.full }
law_of (any.Pump pump) = pump.law
law_of (any.Switch switch) = record { each = switch.each; rest = switch.rest }

ways_sides : (ways : List (Option Way)) → AllByRecursion TookNothing ways
ways_sides [] = tt
ways_sides (None ∷ ways) = (tt, ways_sides ways)
ways_sides (Some way ∷ ways) = (way.outlet.only, ways_sides ways)

-- the types of its ends say that it keeps its sides
pub sides_of : (x : AnyQuaject) → anys.KeepsSides x
sides_of (any.Cooked tty) = (tty.raw.only, tty.line.only, tty.screen.only)
sides_of (any.Pump pump) = (pump.source.only, pump.target.only)
sides_of (any.Switch switch) = (switch.source.only, switch.other.only, ways_sides switch.ways)

pub run_count : (x : AnyQuaject) (notes : List ℕ) → anys.HasRun x notes → anys.notes_of x ≡ length notes % 2 ^ 64
run_count (any.Cooked tty) notes h = h
run_count (any.Pump pump) notes h = h
run_count (any.Switch switch) notes h = h

ways_fit : (queues : List (ClaimQueue 64)) (ways : List (Option Way)) → WaysFit queues ways → AllFit queues (map port_of ways)
ways_fit queues [] h = tt
ways_fit queues (None ∷ ways) h = ways_fit queues ways (λ i way e. h (suc i) way e)
ways_fit queues (Some way ∷ ways) h = (h 0 way refl, ways_fit queues ways (λ i way e. h (suc i) way e))

small_fit : (world : Queues) (x : AnyQuaject) (ports : List (Option (Port 64)) × List (Option (Port 256))) → anys.PortsOf x ports → anys.Fits world x → AllFit world.small.items ports.0
small_fit world (any.Cooked tty) ports p f = subst (AllFit world.small.items) (sym p.0) (f.0, tt)
small_fit world (any.Pump pump) ports p f = subst (AllFit world.small.items) (sym p.0) (f.0, (f.1, tt))
small_fit world (any.Switch switch) ports p f = subst (AllFit world.small.items) (sym p.0) (f.0, (f.1, ways_fit world.small.items switch.ways f.2))

large_fit : (world : Queues) (x : AnyQuaject) (ports : List (Option (Port 64)) × List (Option (Port 256))) → anys.PortsOf x ports → anys.Fits world x → AllFit world.large.items ports.1
large_fit world (any.Cooked tty) ports p f = subst (AllFit world.large.items) (sym p.1) (f.1, (f.2, tt))
large_fit world (any.Pump pump) ports p f = subst (AllFit world.large.items) (sym p.1) tt
large_fit world (any.Switch switch) ports p f = subst (AllFit world.large.items) (sym p.1) tt

way_posts : (ways : List (Option Way)) → map post_at (map port_of ways) ≡ map way_post ways
way_posts [] = refl
way_posts (None ∷ ways) = ap (λ (z : List (Option Post)). None ∷ z) (way_posts ways)
way_posts (Some way ∷ ways) = ap (λ (z : List (Option Post)). Some (post_of way.outlet.index way.outlet.end) ∷ z) (way_posts ways)

-- the posts of a quaject with the same ends as the first one are the first one's posts
posts_home : (first x : AnyQuaject) (small : List (Option (Port 64))) (large : List (Option (Port 256))) → anys.SameEnds first x → anys.PortsOf x (small, large) → anys.PostsOf first (map post_at small, map post_at large)
posts_home (any.Cooked f) (any.Cooked x) small large s p = (ap (map post_at) p.0 ∙ ap (λ (z : Post). Some z ∷ None ∷ None ∷ None ∷ None ∷ None ∷ []) s.raw, ap (map post_at) p.1 ∙ ap (λ (z : Post). Some z ∷ Some (post_of x.screen.index x.screen.end) ∷ []) s.line ∙ ap (λ (z : Post). Some (post_of f.line.index f.line.end) ∷ Some z ∷ []) s.screen)
posts_home (any.Pump f) (any.Pump x) small large s p = (ap (map post_at) p.0 ∙ ap (λ (z : Post). Some z ∷ Some (post_of x.target.index x.target.end) ∷ None ∷ None ∷ None ∷ None ∷ []) s.source ∙ ap (λ (z : Post). Some (post_of f.source.index f.source.end) ∷ Some z ∷ None ∷ None ∷ None ∷ None ∷ []) s.target, ap (map post_at) p.1)
posts_home (any.Switch f) (any.Switch x) small large s p = (
  ap (map post_at) p.0 ∙ ap (λ (z : List (Option Post)). Some (post_of x.source.index x.source.end) ∷ Some (post_of x.other.index x.other.end) ∷ z) (way_posts x.ways ∙ s.ways)
      ∙ ap (λ (z : Post). Some z ∷ Some (post_of x.other.index x.other.end) ∷ switches.way_posts f) s.source ∙ ap (λ (z : Post). Some (post_of f.source.index f.source.end) ∷ Some z ∷ switches.way_posts f) s.other,
  ap (map post_at) p.1,
)
posts_home (any.Cooked f) (any.Pump x) small large s p = absurd s
posts_home (any.Cooked f) (any.Switch x) small large s p = absurd s
posts_home (any.Pump f) (any.Cooked x) small large s p = absurd s
posts_home (any.Pump f) (any.Switch x) small large s p = absurd s
posts_home (any.Switch f) (any.Cooked x) small large s p = absurd s
posts_home (any.Switch f) (any.Pump x) small large s p = absurd s

-- an end that put nothing has nothing to raise
none_put : (runs : List Batch) → map line_of runs ≡ [] → AllRaised runs
none_put [] h = λ m e at. cc
none_put (run ∷ runs) h = cc

ways_up : (ways : List (Option Way)) → AllUp (map port_of ways)
ways_up [] = tt
ways_up (None ∷ ways) = ways_up ways
ways_up (Some way ∷ ways) = (way.outlet.raised, ways_up ways)

ports_up : (x : AnyQuaject) (small : List (Option (Port 64))) (large : List (Option (Port 256))) → anys.PortsOf x (small, large) → AllUp small × AllUp large
ports_up (any.Cooked tty) small large p = (subst AllUp (sym p.0) (none_put (view_of tty.raw.end).own.runs tty.raw.only, tt), subst AllUp (sym p.1) (tty.line.raised, (tty.screen.raised, tt)))
ports_up (any.Pump pump) small large p = (subst AllUp (sym p.0) (none_put (view_of pump.source.end).own.runs pump.source.only, (pump.target.raised, tt)), subst AllUp (sym p.1) tt)
ports_up (any.Switch switch) small large p = (subst AllUp (sym p.0) (none_put (view_of switch.source.end).own.runs switch.source.only, (switch.other.raised, ways_up switch.ways)), subst AllUp (sym p.1) tt)

module _ {made : AnyQuaject → List ℕ → Type 0} {fits : AnyQuaject → Type 0} {v : View} {x : AnyQuaject} where
  -- the closing of a chain whose notes have this number, with all taken and none left
  closed_as : (first put taken : ℕ) (left : List (Option ℕ)) (n : ℕ) → ClosedNow made fits v first put taken left x → put ≡ n → ClosedNow made fits v first n n [] x
  closed_as first put taken left n c e = subst (λ (z : ℕ). ClosedNow made fits v first z z [] x) e
      (subst (λ (z : ℕ). ClosedNow made fits v first put z [] x) c.all_taken (subst (λ (z : List (Option ℕ)). ClosedNow made fits v first put taken z x) c.none_left c))

  -- as many notes made it as were put
  pub notes_long : {first put taken : ℕ} {left : List (Option ℕ)} (c : ClosedNow made fits v first put taken left x) → length (notes_of (queue_of v)) ≡ put
  notes_long {put = put} c = let q = queue_of v in
      let whole : q.taken ≡ length q.places = sym c.taken_is ∙ c.all_taken ∙ c.puts in
      length-map (take q.taken q.places) item_of ∙ length-take-le q.taken q.places (subst (λ (z : ℕ). z ≤ length q.places) (sym whole) (omega arith)) ∙ whole ∙ sym c.puts

pub came_home : (pact : Pact Queues AnyQuaject) (v : View) (first put taken : ℕ) (left : List (Option ℕ)) (x : AnyQuaject) (home : Home) → ClosedNow (makes anys.MadeOf pact) (suits anys.Fits pact) v first put taken left x → IsHome x put (length left) home → CameHome pact first v home
came_home pact v first put taken left x home c h = let q = queue_of v in
    let all : length (notes_of q) ≡ put = notes_long c in
    record {
      quaject = x;
      closed = closed_as first put taken left home.chained c (sym h.chained_is);
      its = record { ports = h.ports; chained_is = refl; left_is = refl; notes = h.notes; taken = h.taken; put = h.put; held = h.held };
      kept = law_of x;
      sides = sides_of x;
      posts = posts_home pact.opening.value x home.small home.large c.home.0.same_ends h.ports;
      small = small_fit pact.world.value x (home.small, home.large) h.ports c.home.1;
      large = large_fit pact.world.value x (home.small, home.large) h.ports c.home.1;
      raised = ports_up x home.small home.large h.ports;
      each = h.notes ∙ run_count x (notes_of q) c.home.0.count ∙ ap (λ (z : ℕ). z % 2 ^ 64) (all ∙ sym h.chained_is);
      none_left = h.left_is ∙ ap length c.none_left;
    }
