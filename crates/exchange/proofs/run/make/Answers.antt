use Rattle.std.proofs.Common.{refl}
use Rattle.exchange.specs.Runs.{space}
use Rattle.exchange.proofs.Running.{made, listing_made}
use Rattle.exchange.proofs.run.make.Goals as goal

pub returns-in-Apply-clause-made : goal.returns-in-Apply-clause-made
returns-in-Apply-clause-made g c = rw c.in-Apply.is (made _ (λ named s. refl) c.apply_delayed.ensures (c.applied.ensures _) (space c.args.rows.now c.args.text.now))

pub returns-in-Fetch-clause-made : goal.returns-in-Fetch-clause-made
returns-in-Fetch-clause-made g c = rw c.in-Fetch.is (made _ (λ named s. refl) c.fetch_delayed.ensures (c.fetched.ensures _) (space c.args.rows.now c.args.text.now))

pub returns-in-List-clause-made : goal.returns-in-List-clause-made
returns-in-List-clause-made g c = rw c.in-List.is (listing_made _ c.list_delayed_paths.ensures (c.listed.ensures _))

pub returns-in-Read-clause-made : goal.returns-in-Read-clause-made
returns-in-Read-clause-made g c = rw c.in-Read.is (made _ (λ named s. refl) c.read.ensures.step (c.was_read.ensures.value _) (space c.args.rows.now c.args.text.now))

pub returns-in-GiveUp-clause-made : goal.returns-in-GiveUp-clause-made
returns-in-GiveUp-clause-made g c = rw c.in-GiveUp.is (made _ (λ named s. refl) (c.give_up.ensures _ _) (c.done_or.ensures _) (space c.args.rows.now c.args.text.now))

pub returns-in-CloseAll-clause-made : goal.returns-in-CloseAll-clause-made
returns-in-CloseAll-clause-made g c = rw c.in-CloseAll.is (made _ (λ named s. refl) (c.close_all.ensures _ _) (c.done_or-in-CloseAll.ensures _) (space c.args.rows.now c.args.text.now))
