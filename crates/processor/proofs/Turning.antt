-- What turns come to, by what each of them did.
use Rattle.processor.proofs.Common.{◌≡◌, ◌<◌, ℕ, suc, true, List, [], ◌∷◌, Option, Some, None, Ok, Err, refl, sym, ap, subst, ◌∙◌, Begun, tick_to, nothing_did, Shared, Parts, view_of, call_of, done_at, Keeps, nothing, shown_in, beginning, LogEntry, HasDone, Ran, Went, KeepsStation, Calls, has, IsFree, retired, signals_for, began_is, idle_is, more_has, raised_goes, retired_goes, found_steps, TurnOutcome, OutcomeFollows, Tended, TurnResultFollows, having, outcome_account, outcome_saw_shut, tending, RanTurns, IsRunnable, CameInOrder, RanTurnsInOrder, TurnInOrder, TurnsInOrder, Views, HadTurn, TendedBy}
use Rattle.meters.specs.Handles as seats
use Rattle.turn_dispatch.proofs.Calm as calm
use Rattle.processor.specs.declared.outcome.TurnResult.{TurnResult}
use Rattle.processor.specs.declared.outcome.TurnResult.TheVariants as hads
use Rattle.processor.specs.declared.outcome.TurnOutcome.TheVariants as outcomes
use Rattle.processor.proofs.Keeping.{free_still}
use Rattle.processor.proofs.Logging.{begun_done, done_on, hand_done, leaves, none_done, none_ran, ran_on, retired_done, turn_ran}
use Rattle.processor.proofs.Ordering.{hooked_of}
use Rattle.processor.proofs.Rising.{fallen}
use Rattle.processor.proofs.Summing.{none_shows}
use Rattle.processor.proofs.Ticking.{tended_ticks}
use Rattle.processor.proofs.Trying.{ran_went}

-- the hand keeps its processors, the elements on them, and its share
abbrev KeepsHand : Parts → Parts → Type 0
KeepsHand old new = Keeps (view_of old.hand) (view_of new.hand)

tended_done : (p : ℕ) (tended : Option Tended) (old new : Parts) → TendedBy p tended old new → HasDone (tending tended) old new × KeepsHand old new
tended_done p None old new t = (subst (HasDone nothing old) (sym t.1) (none_done old), subst (KeepsHand old) (sym t.1) (record { first = refl; serves = refl; on = refl; share = refl }))
tended_done p (Some tended) old new t =
    let g = (raised_goes (call_of old.hand) tended.fired (view_of old.hand) (view_of new.hand) old.hand.fresh t.3).0 in (
      hand_done (signals_for tended.fired) (record nothing_did { advances = tick_to tended.advanced; fired = tended.fired }) nothing.shown old new t.4 g.adds
          (tended_ticks tended.advanced tended.fired (seats.view_of old.meters) (seats.view_of new.meters) t.2) (ap shown_in t.5 ∙ none_shows (shown_in old.signals))
          (fallen old.hand new.hand g.later),
      g.keeps,
    )

-- the turn of an element at hand
had_went : (shared : Shared) (p : ℕ) (begun : Begun) (had : TurnResult) (line : List ℕ) (old new : Parts) → begun.element < 64 → begun.number ≡ done_at (view_of old.hand).seen.object begun.element → has (view_of old.hand) begun.element ≡ true
    → IsFree p (view_of old.hand) → HadTurn shared p begun.element begun.number had line old new
    → Went (TurnResultFollows shared.plan begun.element begun.number had line) (having begun.element begun.number had line) (outcome_saw_shut (outcomes.OfElement begun had)) old new × KeepsHand old new
had_went shared p begun (hads.Retired moved) line old new low now held free h =
    let e = begun.element in
    let g = retired_goes (call_of old.hand) e moved (view_of old.hand) (view_of new.hand) low old.hand.fresh held old.hand.valid new.hand.valid h.1 in
    let done = retired_done e _ moved old new h.2 g.adds h.3 h.4 (fallen old.hand new.hand g.later) in (
      record {
        planned = (h.0, h.5);
        done = subst (λ (n : ℕ). HasDone (record nothing { hand = retired moved e n }) old new) (sym now) done;
        reported = λ q shut. cc;
      },
      g.keeps,
    )
had_went shared p begun (hads.Ran sent) line old new low now held free h = ran_went shared p begun.element begun.number sent line old new low now held free h

came_went : {G : Type 0} (V : Views G) (shared : Shared) (p : ℕ) (outcome : TurnOutcome) (line : List ℕ) (g g' : G) (old new : Parts) → IsFree p (view_of old.hand) → CameInOrder V shared p outcome line g g' old new
    → Went (OutcomeFollows shared.plan outcome line) (outcome_account outcome line) (outcome_saw_shut outcome) old new × KeepsHand old new
came_went V shared p (outcomes.Idle idle) line g g' old new free c =
    let did = c.0.0 in
    let gone = (idle_is (call_of old.hand) idle (view_of old.hand) (view_of new.hand) did.0).0 in
    (record { planned = c.0.1; done = begun_done (Err idle) old new gone.adds (fallen old.hand new.hand gone.later) did.1 did.2 did.3; reported = λ q shut. cc }, gone.keeps)
came_went V shared p (outcomes.OfElement begun had) line g g' old new free c =
    let mid : Parts = c.0 in
    let b = c.1 in
    let v = view_of old.hand in
    let w = view_of mid.hand in
    let k = began_is (call_of old.hand) begun v w b.began in
    let now = found_steps begun.element begun.number b.began.ready w mid.hand.valid b.began.counted in
    let still = free_still p v w k.0.keeps.serves k.0.keeps.on free in
    let rest = had_went shared p begun had line mid new b.is_one now (more_has begun.element v w k.1) still c.2 in (
      record {
        planned = rest.0.planned;
        done = done_on (beginning begun) (having begun.element begun.number had line) old mid new (begun_done (Ok begun) old mid k.0.adds (fallen old.hand mid.hand k.0.later) b.rest b.meters b.shows) rest.0.done;
        reported = rest.0.reported;
      },
      calm.keeps_on v w (view_of new.hand) k.0.keeps rest.1,
    )

turn_went : {G : Type 0} (V : Views G) (shared : Shared) (p : ℕ) (entry : LogEntry) (g g' : G) (old new : Parts) → IsFree p (view_of old.hand) → TurnInOrder V shared p entry g g' old new → Ran shared.plan (entry ∷ []) old new × (IsFree p (view_of new.hand))
turn_went V shared p entry g g' old new free t =
    let mid : Parts = t.0 in
    let first = tended_done p entry.tended old mid t.1 in
    let still = free_still p (view_of old.hand) (view_of mid.hand) first.1.serves first.1.on free in
    let rest = came_went V shared p entry.outcome entry.line g g' mid new still t.2 in
    (turn_ran shared.plan entry old mid new first.0 rest.0, free_still p (view_of mid.hand) (view_of new.hand) rest.1.serves rest.1.on still)

turns_went : {G : Type 0} (V : Views G) (T : Calls G) (shared : Shared) (p number : ℕ) (log : List LogEntry) (old new : Parts) (g g' : G) → IsFree p (view_of old.hand) → TurnsInOrder V T shared p number log old new g g'
    → Ran shared.plan log old new
turns_went V T shared p number [] old new g g' free t = subst (Ran shared.plan [] old) (sym t.0) (none_ran shared.plan old)
turns_went V T shared p number (entry ∷ log) old new g g' free t =
    let one = turn_went V shared p entry t.1 t.4.0 old t.0 free t.4.1 in
    ran_on shared.plan (entry ∷ []) log old t.0 new one.0 (turns_went V T shared p (suc number) log t.0 new t.2 g' one.1 t.5)

-- the turns that `run` had
pub run_adds_up : {G : Type 0} (V : Views G) (T : Calls G) (shared : Shared) (p turns : ℕ) (g g' : G) (old new : Parts) → IsRunnable shared p old → KeepsStation shared p old new → (turned : RanTurnsInOrder V T shared p turns g g' old new)
    → (ran : RanTurns T shared p turns g g' old new) × (ran.log ≡ turned.log)
run_adds_up V T shared p turns g g' old new able keeps turned =
    let ran = turns_went V T shared p 0 turned.log old new g g' able.free turned.order in (
      record {
        log = turned.log;
        many = turned.many;
        reported = hooked_of V T shared p 0 turned.log old new g g' turned.order;
        ran = ran;
        leaves = λ fresh. leaves shared.plan turned.log old new fresh keeps.seat ran;
      },
      refl,
    )
