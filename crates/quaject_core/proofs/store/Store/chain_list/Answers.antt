use Rattle.quaject_core.proofs.Common.{◌≡◌, ◌<◌, ◌∙◌, ◌++◌, ◌∷◌, [], ◌+◌, ap, sym, map, take, get_or, length, arith, map_more, take_all, chain_status, chain, StoredChain}
use Rattle.quaject_core.proofs.Stored.Parts.{map-map}
use Rattle.event_theory.specs.declared.status.ChainStatus.{ChainStatus}
use Rattle.quaject_core.proofs.store.Store.chain_list.Goals as goal

abbrev numbers : StoredChain → ChainStatus
numbers stored = chain_status (chain stored)

pub loop-chain-preserved : goal.loop-chain-preserved
loop-chain-preserved c =
    let stored = c.chain-item.result in
    let all = c.args.self.now.chains.items in
    let same : c.deref-chain-items.result.now ≡ all = c.deref-chain-items.ensures.value in
    let within : c.loop-chain.chain-index < length all = omega (arith, c.loop-chain-test.true, ap length same) in
    let is : stored ≡ get_or all c.loop-chain.chain-index stored = c.chain-item.is ∙ ap (λ xs. get_or xs c.loop-chain.chain-index stored) same in
    let more : map numbers (take (c.loop-chain.chain-index + 1) all) ≡ map numbers (take c.loop-chain.chain-index all) ++ numbers (get_or all c.loop-chain.chain-index stored) ∷ [] =
    map_more numbers all c.loop-chain.chain-index stored within in
    c.in_ok-push.ensures.items ∙ (ap (λ xs. xs ++ c.status.result ∷ []) c.loop-chain.invariant
    ∙ (ap (λ x. map numbers (take c.loop-chain.chain-index all) ++ x ∷ []) (c.status.ensures ∙ ap numbers is) ∙ sym more))

pub returns : goal.returns
returns c =
    let stored = c.args.self.now.chains.items in
    let all : take c.loop-chain.chain-index stored ≡ stored = take_all c.loop-chain.chain-index stored (omega (arith, c.loop-chain-test.false, ap length c.deref-chain-items.ensures.value)) in
    let numbered : c.new.result ≡ map chain_status (map chain stored) =
    c.new.ensures ∙ (c.loop-chain.invariant ∙ (ap (map numbers) all ∙ sym (map-map chain_status chain stored))) in
    cc
