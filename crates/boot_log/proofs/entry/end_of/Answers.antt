use Rattle.boot_log.proofs.Common.{◌≡◌, ◌<◌, ◌-◌, ℕ, suc, List, [], ◌∷◌, length, get_or, sym, ap, subst, arith, Entry, end_of}
use Rattle.boot_log.proofs.entry.end_of.Goals as goal

-- the end of the last turn
end_last : (from : ℕ) (entries : List Entry) (last : Entry) → 0 < length entries → last ≡ get_or entries (length entries - 1) last → end_of from entries ≡ last.at
end_last from [] last h is = absurd (omega arith)
end_last from (entry ∷ []) last h is = ap (λ e. e.at) (sym is)
end_last from (entry ∷ next ∷ entries) last h is =
    let e : length (entry ∷ next ∷ entries) - 1 ≡ suc (length (next ∷ entries) - 1) = omega arith in
    end_last entry.at (next ∷ entries) last (omega arith) (subst (λ n. last ≡ get_or (entry ∷ next ∷ entries) n last) e is)

pub returns-in-len1-up : goal.returns-in-len1-up
returns-in-len1-up c = sym (end_last c.args.from c.args.entries.now c.last-item.result (omega arith) c.last-item.is)
