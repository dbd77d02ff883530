use Rattle.proc_chain.proofs.Common.{map, props, ∥∥₁_elim, ∥∥₁_map, at_map, run_stands, part_of, queue_of, view_of}
use Rattle.proc_chain.proofs.laws.ends_are_shown.Goals as goal

pub returns-clause-lawful : goal.returns-clause-lawful
returns-clause-lawful g c = λ end. ∥∥₁_map end.valid (λ t. t.lawful)

pub returns-clause-shown : goal.returns-clause-shown
returns-clause-shown g c = λ end. ∥∥₁_map end.valid (λ t. (t.views, t.seat, t.shown, t.here))

pub returns-clause-runs : goal.returns-clause-runs
returns-clause-runs g c = λ end number e has. ∥∥₁_map end.valid (λ t. run_stands (queue_of (view_of end)) (map part_of t.views) t.seat number (part_of (view_of end)) e t.shown.listed.lists (at_map part_of t.views t.seat (view_of end) t.here) has)

pub returns-clause-room : goal.returns-clause-room
returns-clause-room g c = λ end. ∥∥₁_elim end.valid (search props) (λ t. t.room)

pub returns-clause-bounded : goal.returns-clause-bounded
returns-clause-bounded g c = λ end. ∥∥₁_elim end.valid (search props) (λ t. t.bounded)
