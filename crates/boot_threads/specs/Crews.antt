-- Threads that are started together: the input of each, and the result of each.
use Rattle.std.specs.Prelude.{◌≡◌, Result, Ok, Err}
use Rattle.std.specs.declared.thread.PromisedHandle.{PromisedHandle}
use Rattle.boot_threads.specs.declared.starting.JobPromise.{JobPromise}
use Rattle.boot_threads.specs.declared.starting.NotStarted.{NotStarted}

module _ {S J : Type 0} where
  -- the promise holds this job and the data that all share
  abbrev pub Carries : S → J → JobPromise S J → Type 0
  Carries shared job reported = (reported.shared.value ≡ shared) × (reported.job.value ≡ job)

-- A relation: a thread with this promise was joined and gave this back. The types are fixed: a relation that ranges
-- over types can't distinguish two values of a type
abbrev pub Runs : Type 0 → Type 0 → Type 0 → Type 1
Runs S J B = JobPromise S J → B → Type 0

-- a relation: a thread with this promise was refused
abbrev pub Refusals : Type 0 → Type 0 → Type 1
Refusals S J = JobPromise S J → Type 0

module _ {S J B : Type 0} where
  -- a thread with this job and the shared data was joined and gave this back, as `ran` says
  abbrev pub WasRun : Runs S J B → S → J → B → Type 0
  WasRun ran shared job back = (reported : JobPromise S J) × Carries shared job reported × ran reported back

  -- The thread was started with this job and the shared data. If it could not be started, the substitute holds both,
  -- and the thread was refused
  abbrev pub StartReports : Refusals S J → S → J → Result (PromisedHandle B (JobPromise S J)) (NotStarted S J)
      → Type 0
  StartReports refused shared job (Ok handle) = Carries shared job handle.promise
  StartReports refused shared job (Err lost) = Carries shared job lost.reported × refused lost.reported

  -- A started thread gave back a result that `ran` and its job allow. The substitute for a thread that was not started
  -- is unchanged
  abbrev pub WasJoined : Runs S J B → (S → J → B → Type 0)
      → Result (PromisedHandle B (JobPromise S J)) (NotStarted S J) → Result B (NotStarted S J) → Type 0
  WasJoined ran gives (Ok handle) (Ok back) = ran handle.promise back
      × gives handle.promise.shared.value handle.promise.job.value back
  WasJoined ran gives (Err lost) (Err same) = same ≡ lost
  WasJoined ran gives handle back = ⊥

  -- The result came from a thread of this job, and keeps the promise of the job. If the thread was not started, the
  -- substitute holds this job and the shared data, and the thread was refused
  abbrev pub GaveBack : Runs S J B → Refusals S J → (S → J → B → Type 0)
      → S → J → Result B (NotStarted S J) → Type 0
  GaveBack ran refused gives shared job (Ok back) = WasRun ran shared job back × gives shared job back
  GaveBack ran refused gives shared job (Err lost) = Carries shared job lost.reported × refused lost.reported
