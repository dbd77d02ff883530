use Rattle.std.proofs.Common.{◌≡◌, Some, slice_get, refl}
use Rattle.boot_data.specs.Hearing.{NamedLine}
use Rattle.boot_data.proofs.Placed.{place_at, shown_at}
use Rattle.boot_data.proofs.heard.HeardReport.step.Goals as goal

pub returns : goal.returns
returns c =
    let here : slice_get c.self.inside.places.items c.args.number ≡ Some c.index.result.now = place_at _ _ _ _ _ _ c.self.view_is c.requires c.index.ensures in
    shown_at _ _ _ _ _ _ (λ (line : NamedLine). c.index.result.now.step ≡ line.step) c.self.view_is here refl
