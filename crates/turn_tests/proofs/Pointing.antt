-- The calls of a gate during turns.
use Rattle.processor.proofs.Common.{◌≡◌, ℕ, suc, List, [], ◌∷◌, ap, ◌∙◌, Turn, LogEntry, Calls}
use Rattle.turn_io.specs.declared.gate.Point.{Point}
use Rattle.processor.specs.declared.shared.Shared.{Shared}
use Rattle.processor.specs.declared.station.Parts.{Parts}
use Rattle.processor.specs.Orders.{TurnsInOrder}
use Rattle.processor.specs.Points.{GateSaw, points_out}
use Rattle.processor.specs.Sights.{Views}

module _ {G A : Type 0} (T : Calls G) (f : G → A) (keeps : (old : G) (p : ℕ) (point : Point) (new : G) → T.observes old p point new → f new ≡ f old)
    (learns_keeps : (old : G) (p : ℕ) (entry : LogEntry) (new : G) → T.learns old p entry new → f new ≡ f old) where
  reported_keeps : (p : ℕ) (points : List Point) (old new : G) → GateSaw T.observes p points old new → f new ≡ f old
  reported_keeps p [] old new t = ap f t
  reported_keeps p (point ∷ points) old new t = reported_keeps p points t.0 new t.2 ∙ keeps old p point t.0 t.1

  pub turns_keep : (V : Views G) (shared : Shared) (p number : ℕ) (log : List LogEntry) (old new : Parts) (g g' : G) → TurnsInOrder V T shared p number log old new g g' → f g' ≡ f g
  turns_keep V shared p number [] old new g g' t = ap f t.1
  turns_keep V shared p number (entry ∷ log) old new g g' t =
      turns_keep V shared p (suc number) log t.0 new t.2 g' t.5
      ∙ (learns_keeps t.4.0 p entry t.2 t.4.3
      ∙ (reported_keeps p (points_out entry.outcome) t.1 t.4.0 t.4.2 ∙ keeps g p (Turn number) t.1 t.3))
