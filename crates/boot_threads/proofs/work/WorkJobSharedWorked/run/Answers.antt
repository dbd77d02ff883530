use Rattle.boot_threads.proofs.Common.{◌≡◌, ◌∙◌, arith, sym, get_or, rules, calls, subst, IsServable}
use Rattle.std.proofs.lemmas.Option.{get_or_from_slice_get, slice_get_within}
use Rattle.proc_chain.specs.Handles as chain
use Rattle.boot_threads.specs.Works.{MayWork}
use Rattle.boot_threads.proofs.Allowing.{processed_so, served_so}
use Rattle.boot_threads.proofs.work.WorkJobSharedWorked.run.Given
use Rattle.boot_threads.proofs.work.WorkJobSharedWorked.run.Goals as goal

pub run-station-requires : goal.run-station-requires
run-station-requires g c = record { station = subst (MayWork c.args.shared.now) c.in-Process.is c.requires }

-- the device's chain is there
servable : (g : Given.Over) → (c : goal.In-Serve g) → IsServable c.args.shared.now c.in-Serve.chain c.in-Serve.tty
servable g c = subst (MayWork c.args.shared.now) c.in-Serve.is c.requires

pub index-requires : goal.index-requires
index-requires g c = let m = servable g c in omega (arith, slice_get_within c.args.shared.now.chains.items c.in-Serve.chain m.its m.is, c.args.shared.now.chains.ok.0)

pub serve_device-line-requires-clause-fits : goal.serve_device-line-requires-clause-fits
serve_device-line-requires-clause-fits g c = (servable g c.before).raw

pub serve_device-line-requires-clause-chain : goal.serve_device-line-requires-clause-chain
serve_device-line-requires-clause-chain g c = let m = servable g c.before in let chains = c.args.shared.now.chains.items in
    let at : c.index.result.now ≡ get_or chains c.in-Serve.chain c.index.result.now = search rules in
    subst (λ z. chain.IsEndOf z c.in-Serve.tty.chain) (sym (at ∙ get_or_from_slice_get chains c.in-Serve.chain m.its c.index.result.now m.is)) m.chain_end

pub returns-in-Process : goal.returns-in-Process
returns-in-Process g c = processed_so _ (calls g.G.Gate.observes g.G.TurnGate.learns) c.args.shared.now c.args.self c.in-Process.station c.run-station.result c.in-Process.p c.in-Process.turns c.in-Process.gate c.run-station.new.gate
    c.in-Process.is c.requires c.run-station.ensures.station c.run-station.ensures.turned

pub returns-in-Serve : goal.returns-in-Serve
returns-in-Serve g c =
    let at : c.index.result.now ≡ get_or c.args.shared.now.chains.items c.in-Serve.chain c.index.result.now = search rules in
    let e = c.serve_device-line.ensures in
    served_so (calls g.G.Gate.observes g.G.TurnGate.learns) c.args.shared.now c.args.self c.in-Serve.chain c.in-Serve.count c.in-Serve.line c.serve_device-line.result.0 c.in-Serve.tty c.serve_device-line.result.1 c.index.result.now
    c.in-Serve.is c.requires at e.line e.fits.0 e.fits.1 e.chain e.idle e.served
