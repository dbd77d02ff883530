use Rattle.boot_picture.proofs.Common.{◌-◌, arith, on_ok_weaker}
use Rattle.boot_picture.proofs.picture.add_rest.Goals as goal

pub returns : goal.returns
returns c =
    let top = c.args.frame.now.processors in
    let bottom = c.args.frame.now.threads - 20 in
    let last = c.args.frame.now.last in
    on_ok_weaker c.add_legend.result (λ legend all. legend top bottom (omega arith)
    (c.in_ok-add_report.ensures top bottom (c.in_ok-add_arrows.ensures top bottom (omega arith) (c.in_ok-add_spans.ensures top bottom (omega arith)
    (c.in_ok-add_thread_names.ensures top bottom (c.in_ok-add_alarms.ensures bottom (c.in_ok-add_labels.ensures top bottom all)))))))
    c.add_legend.ensures
