-- What a boot knows when all that it gave its threads came back, and all was joined and closed.
use Rattle.synth_kernel.proofs.Common.{◌≡◌, ◌≤◌, ℕ, zero, suc, ◌+◌, true, List, [], ◌∷◌, map, drop, length, Option, Some, Ok, flat_map, refl, sym, ap, subst, ◌∙◌, arith, length-map, All, AllZip, AllByRecursion, BootPlan, Report, TornDown, AllClosed, AreRawsOf, TookRaws, HasWholes, Calls, AllThree, Shared, Parts, LogEntry, Leaves, hear_count, ArePartsOf, heard_lines, AllJoined, Typed, IsReported, LineIn, IsLine, Work, Processed, Worked, parts_of, gate_of, back_of, GaveBack, input_of, ArePosted, AreTyped, Back, HasWorked, as_many_posts, Served, Ready, IsBootOf, HooksSaw, BootWithHooks, processed_in, served_in, all_there, tty_of, TotalsAre, IsReady, Key, Account, account, AllTurned, CameTogether, all_back, freed_spare, posts_first, DidAll, RunsOf, RefusalsOf}
use Rattle.boot_objects.proofs.Backs.{come_home}
use Rattle.boot_report.proofs.Shutting.{ends, heard_is_few, shown as all_shown}
use Rattle.boot_laws.proofs.Boots.ShutDown.{Shutdown, IsShutDown, boot_shut, closed_shut, came_home, worked}
use Rattle.boot_laws.specs.Endings.{FreedSpare}
use Rattle.boot_laws.proofs.Boots.Booting.{report_agrees}
use Rattle.quajects.specs.Homes.{homes_in}
use Rattle.boot_threads.specs.declared.work.Work.TheVariants as works
use Rattle.boot_threads.specs.declared.work.Worked.TheVariants as worked
use Rattle.boot_threads.proofs.Reunion.{came_together}
use Rattle.synth_kernel.proofs.Backs.{Sorted, few_back, sort_back, first_back}
use Rattle.synth_kernel.proofs.Closing.{did_all}
use Rattle.synth_kernel.proofs.Facts.{did_of, lines_pair, raws_are, had_back, devices_ended, devices_shown}

module _ {G : Type 0} (ran : RunsOf G) (refused : RefusalsOf G) (T : Calls G) (shared : Shared) where
  -- each station that came back is of the shared objects
  parts_all : (p turns : ℕ) (gates : List G) (old new : Parts) (posts : List (Work G)) (came : List (Processed G)) → ArePosted shared p turns gates old new posts
      → AllZip (GaveBack ran refused (HasWorked T) shared) posts (map back_of came) → All (ArePartsOf shared) (map parts_of came)
  parts_all p turns gates old new posts [] a z k d l = absurd (omega arith)
  parts_all p turns [] old new [] (s ∷ came) a z k d l = absurd z
  parts_all p turns (g ∷ gates) old new [] (s ∷ came) a z k d l = absurd a
  parts_all p turns [] old new (w ∷ posts) (s ∷ came) a z k d l = absurd a
  parts_all p turns (g ∷ gates) old new (w ∷ posts) (s ∷ came) a z zero d l =
      let was : GaveBack ran refused (HasWorked T) shared (works.Process a.1.station p turns g) (Ok (worked.Processed s)) = subst (λ (x : Work G). GaveBack ran refused (HasWorked T) shared x (Ok (worked.Processed s))) a.1.is z.0 in was.1.0.manned.parts_are
  parts_all p turns (g ∷ gates) old new (w ∷ posts) (s ∷ came) a z (suc k) d l = parts_all (p + 1) turns gates a.0 new posts came a.2 z.1 k d (omega arith)

  -- giving parts away changes nothing of the first station's work
  posted_did : (p turns : ℕ) (gates : List G) (old new : Parts) (posts : List (Work G)) → ArePosted shared p turns gates old new posts → account new ≡ account old
  posted_did p turns [] old new [] a = ap account a
  posted_did p turns [] old new (w ∷ posts) a = absurd a
  posted_did p turns (g ∷ gates) old new [] a = absurd a
  posted_did p turns (g ∷ gates) old new (w ∷ posts) a = posted_did (p + 1) turns gates a.0 new posts a.2 ∙ a.1.did

  -- each processor's log, by the turns that its gate observed
  logs_reported : (p turns : ℕ) (gates : List G) (came : List (Processed G)) → AllTurned ran T shared p turns gates came → (logs : List (List LogEntry)) × AllZip (Leaves shared.plan) logs (map parts_of came) × HooksSaw ran T shared p turns gates (map gate_of came) logs
  logs_reported p turns [] [] t = ([], tt, tt)
  logs_reported p turns [] (s ∷ came) t = absurd t
  logs_reported p turns (g ∷ gates) [] t = absurd t
  logs_reported p turns (g ∷ gates) (s ∷ came) t = let had = t.0 in let rest = logs_reported (p + 1) turns gates came t.1 in (
    had.4.1.log ∷ rest.0,
    (had.4.1.leaves had.2, rest.1),
    (record { old = had.0; manned = had.1; fresh = had.2; new = s.station; joined = had.3; stays = had.4.0; turned = had.4.1; log_is = refl }, rest.2),
  )

module _ {G : Type 0} (ran : RunsOf G) (refused : RefusalsOf G) (shown : TornDown → Type 0) (T : Calls G) (plan : BootPlan) (turns : ℕ) (gates : List G) (ready : Ready G) (r : IsReady plan turns gates ready) (backs : List (Back G)) (inputs : List LineIn)
    (gave : AllZip (GaveBack ran refused (HasWorked T) ready.shared) ready.works.items backs) (typed : AreTyped ready.shared.plan.ttys (drop (length gates) backs) ready.inputs.items inputs) where
  posts_long : length r.posts ≡ length gates
  posts_long = as_many_posts ready.shared 0 turns gates r.first ready.station.parts r.posts r.posted

  pub few_came : (length (processed_in backs) ≤ length gates) × (length (served_in backs) ≤ length ready.shared.plan.ttys)
  few_came = let f = few_back ran refused T ready.shared 0 turns gates r.first ready.station.parts ready.shared.plan.ttys r.devices r.posts ready.works.items backs r.posted r.works gave in
      (subst (λ (z : ℕ). length (processed_in backs) ≤ z) posts_long f.0, f.1)

  typed_in : AreTyped ready.shared.plan.ttys (drop (length r.posts) backs) (map input_of r.devices) inputs
  typed_in = subst (λ (z : ℕ). AreTyped ready.shared.plan.ttys (drop z backs) (map input_of r.devices) inputs) (sym posts_long)
      (subst (λ (z : List LineIn). AreTyped ready.shared.plan.ttys (drop (length gates) backs) z inputs) r.inputs typed)

  spare : FreedSpare ready.shared.plan (account ready.station.parts)
  spare = subst (λ (z : Account). AllByRecursion (λ (freed : Key). length ready.shared.plan.threads ≤ freed.0) z.hand.retired)
      (sym (posted_did ran refused T ready.shared 0 turns gates r.first ready.station.parts r.posts r.posted)) (freed_spare ready.shared.plan ready.shared.threads r.made r.first r.hand r.first_is)

  module _ (all : all_there backs ≡ true) where
    its : Sorted (length r.posts) (length ready.shared.plan.ttys) backs
    its = sort_back ran refused T ready.shared 0 turns gates r.first ready.station.parts ready.shared.plan.ttys r.devices r.posts ready.works.items backs r.posted r.works gave all

    had_run : AllZip (GaveBack ran refused (HasWorked T) ready.shared) r.posts (map back_of (processed_in backs))
    had_run = subst (AllZip (GaveBack ran refused (HasWorked T) ready.shared) r.posts) (first_back (length r.posts) (length ready.shared.plan.ttys) backs its)
        (posts_first (GaveBack ran refused (HasWorked T) ready.shared) ready.shared.plan.ttys r.devices r.posts ready.works.items backs r.works gave)

    pub lines_came : AllZip (λ (one : Served) (input : LineIn). IsLine input one.line) (served_in backs) inputs
    lines_came = lines_pair ran refused T ready.shared r.devices r.posts ready.works.items backs inputs r.devices_are r.works gave typed_in its

    pub parts_came : All (ArePartsOf ready.shared) (map parts_of (processed_in backs))
    parts_came = parts_all ran refused T ready.shared 0 turns gates r.first ready.station.parts r.posts (processed_in backs) r.posted had_run

    pub raws_came : AreRawsOf ready.shared (map tty_of (served_in backs))
    raws_came = raws_are ran refused T ready.shared r.devices r.posts ready.works.items backs inputs r.devices_are r.works gave typed_in its

    module _ (last : Parts) (joined : AllJoined ready.station.parts (map parts_of (processed_in backs)) last) where
      together : CameTogether ran T ready.shared turns gates r.first last (processed_in backs)
      together = came_together G ran refused T ready.shared turns gates r.first ready.station.parts last r.posts (processed_in backs) r.posted had_run joined r.none_on r.free

      logged : (logs : List (List LogEntry)) × AllZip (Leaves ready.shared.plan) logs (map parts_of (processed_in backs)) × HooksSaw ran T ready.shared 0 turns gates (map gate_of (processed_in backs)) logs
      logged = logs_reported ran refused T ready.shared 0 turns gates (processed_in backs) together.turned

      pub wholes : (parts : Parts) → TookRaws (length ready.shared.plan.queues) (length ready.shared.plan.movers) (map tty_of (served_in backs)) last parts → HasWholes ready.shared parts
      wholes parts took =
          let back = all_back ready.shared.plan ready.shared.threads ready.shared.meters r.made r.first last r.hand r.seat r.first_is together.shares_are in
          come_home ready.shared r.made last parts r.devices (map tty_of (served_in backs)) r.whole r.devices_are back.2
          (had_back ran refused T ready.shared r.devices r.posts ready.works.items backs inputs r.devices_are r.works gave typed_in its) took

      module _ (its_parts : ArePartsOf ready.shared last) (noted : List Typed) (reports : AllThree TotalsAre (served_in backs) inputs noted) (parts : Parts)
          (took : TookRaws (length ready.shared.plan.queues) (length ready.shared.plan.movers) (map tty_of (served_in backs)) last parts) (ended : TornDown) (closes : AllClosed ready.shared parts ended) where
        abbrev shut : Shutdown
        shut = record {
          shared = ready.shared;
          logs = logged.0;
          first = ready.station.parts;
          stations = map parts_of (processed_in backs);
          last = last;
          ttys = map tty_of (served_in backs);
          devices = map did_of (served_in backs);
          parts = parts;
          ended = ended;
        }

        is_shut : IsShutDown shut
        is_shut = record {
          worked = record { left = logged.1; prepared = r.prepared; joined = joined };
          spare = spare;
          free = together.free;
          its = its_parts;
          all_ttys = length-map (served_in backs) tty_of ∙ its.ttys_are;
          all_devices = length-map (served_in backs) did_of ∙ its.ttys_are;
          ttys_ended = devices_ended ran refused T ready.shared r.devices r.posts ready.works.items backs inputs r.devices_are r.works gave typed_in its noted reports;
          took = took;
          closed = closes;
          quajects = r.quajects;
        }

        pub few_lines : length (flat_map heard_lines (map parts_of (processed_in backs))) ≤ hear_count ended.plan
        few_lines = subst (λ (z : BootPlan). length (flat_map heard_lines (map parts_of (processed_in backs))) ≤ hear_count z) (sym closes.rest.2) (heard_is_few shut is_shut)

        pub booted : shown ended → (report : Report) → IsReported ended (flat_map heard_lines (map parts_of (processed_in backs))) noted report → IsBootOf (BootWithHooks ran shown T turns gates (map gate_of (processed_in backs)) ended) plan report
        booted seen report reported =
            let shows = devices_shown ran refused T ready.shared r.devices r.posts ready.works.items backs inputs r.devices_are r.works gave typed_in its noted reports in
            let e = ends shut is_shut noted report shows reported in
            subst (λ (z : BootPlan). IsBootOf (BootWithHooks ran shown T turns gates (map gate_of (processed_in backs)) ended) z report) r.plan_is (record {
              closed = closed_shut shut is_shut;
              logs = logged.0;
              heard = reported.heard;
              did = record {
                shared = ready.shared;
                plan_is = refl;
                reported = logged.2;
                boot = boot_shut shut;
                worked = worked shut is_shut;
                was_shown = seen;
                ends_are = subst (ArePartsOf ready.shared) (sym closes.last) closes.its;
                ends_did = subst (DidAll ready.shared.plan (boot_shut shut).done.in_all) (sym closes.last) (did_all ready.shared.plan (map tty_of (served_in backs)) last parts took (flat_map heard_lines (map parts_of (processed_in backs))));
                homes_are = refl;
                quajects = came_home ready.shared.chains.items parts.chains.items (homes_in ended.counts.items) is_shut.closed.homes;
                devices = map did_of (served_in backs);
                made = refl;
                typed = noted;
                shows = all_shown shut is_shut noted shows;
              };
              agrees = report_agrees _ _ _ _ _ _ e;
            })
