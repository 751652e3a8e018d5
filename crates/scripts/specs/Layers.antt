-- What the hosts over another host mean.
-- From docs/HOST.md, Hosts that are built.
use Rattle.std.specs.Prelude.{false}
use Rattle.host.specs.Worlds.{World}

-- the world where no command can be started, and all else is as it was
abbrev pub unstartable : World → World
unstartable w = record { procs = w.procs; startable = λ _. false }
