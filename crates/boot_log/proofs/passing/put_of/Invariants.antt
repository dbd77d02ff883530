use Rattle.boot_log.proofs.Common.{◌≡◌, ◌&&◌, ◌==◌, nat_le, drop, find, kept_in, are_same, count_before}
use Rattle.boot_log.proofs.passing.put_of.Given as goal

-- the putting is among those that are left
abbrev pub invariant-loop-number : goal.invariant-loop-number
invariant-loop-number l =
    find (λ put. are_same (kept_in l.logs) put l.taken && (count_before (kept_in l.logs) l.puts put == l.before) && nat_le put.began l.taken.ended) l.puts
    ≡ find (λ put. are_same (kept_in l.logs) put l.taken && (count_before (kept_in l.logs) l.puts put == l.before) && nat_le put.began l.taken.ended)
    (drop l.number l.puts)
