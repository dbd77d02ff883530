use Rattle.boot_view.proofs.Common.{◌≤◌, ℕ, List, length, sym, subst, Recorder, IsPageOf, logs_in}
use Rattle.boot_view.proofs.Answering.{back_many, one_plan}
use Rattle.boot_view.proofs.viewing.view_plan.Goals as goal

pub page_of-page-requires : goal.page_of-page-requires
page_of-page-requires g c =
    subst (λ (gates : List (Recorder g.row.C.Denot)). length gates ≤ 8) (sym c.gates.ensures)
    (subst (λ (n : ℕ). n ≤ 8) (sym (back_many _ _ _ _ _ _ _ _ _ _ c.in_ok-booted.ensures)) c.requires.number.1)

pub returns : goal.returns
returns g c = record {
  ok = record {
    from = c.boot_time-from.result;
    from_said = c.boot_time-from.ensures.said;
    booted = c.in_ok-booted.booted;
    report = c.boot_recorded.new.report.items;
    came = c.in_ok-booted.ensures;
    let_go = c.let_go.ensures;
    ended_is = c.ended-ended.ensures;
    plan = c.args.plan.now;
    plan_is = one_plan c.args.script.now c.args.plan.now c.in_ok-booted.ensures.boot.plan c.requires.plan c.in_ok-booted.ensures.boot.says;
    page_of = subst (λ (gates : List (Recorder g.row.C.Denot)). IsPageOf c.args.command.view c.args.plan.now c.boot_time-from.result (logs_in gates) c.in_ok-page.page.items) c.gates.ensures c.in_ok-page.ensures;
  };
}
