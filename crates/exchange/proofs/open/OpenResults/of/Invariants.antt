use Rattle.exchange.proofs.Opens.{Collected}
use Rattle.exchange.proofs.open.OpenResults.of.Given as goal

-- the first places are collected
abbrev pub invariant-loop-place : goal.invariant-loop-place
invariant-loop-place l = Collected l.processes l.count l.place l.table.records.places
