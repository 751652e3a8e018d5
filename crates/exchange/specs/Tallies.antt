-- What the flushes of a process are counted by, as code keeps it: counts that stay at 2^64 - 1.
-- From docs/RULES.md, The rules.
use Rattle.std.specs.Prelude.{◌≡◌, ◌+◌, ◌*◌, List, ◌∷◌, is_some}
use Rattle.client.specs.Paths.{most}
use Rattle.host.specs.Talk.{Event}
use Rattle.rules.specs.Calls.{Call}
use Rattle.rules.specs.Answers.{Answer}
use Rattle.rules.specs.Stories.{Story, episode, lists, exchanges, results, open_result, open_count, faulted}
use Rattle.exchange.specs.declared.tally.Tally.{Tally}
use Rattle.exchange.specs.declared.tally.Flushes.{Flushes}

-- A tally counts the story of a process: L, S and R, whether a result is open, and whether a call ended in a line fault.
pub record Tallies (t : Tally) (h : Story) : Type 0 where
  pub lists_are : t.lists ≡ most (lists h)
  pub exchanges_are : t.exchanges ≡ most (exchanges h)
  pub results_are : t.results ≡ most (results h)
  pub open_is : t.is_open ≡ is_some (open_result h)
  pub faulted_is : t.is_faulted ≡ faulted h

-- whatever story a tally counts, it counts that story with one call more afterwards, whatever passed in it
abbrev pub TalliesOneMore : Call → Answer → Tally → Tally → Type 0
TalliesOneMore c a t t' = (h : Story) (es : List Event) → Tallies t h → Tallies t' (episode c es a ∷ h)

-- The flushes of a process by its tally. Of any story that the tally counts they are the flushes that a process has given and was sent where no call on it
-- ended in a line fault.
pub record FlushesBy (t : Tally) (f : Flushes) : Type 0 where
  pub given : (h : Story) → Tallies t h → f.given ≡ most (2 + 2 * lists h + exchanges h + 3 * results h + open_count h)
  pub sent : (h : Story) → Tallies t h → f.sent ≡ most (2 + lists h + 2 * (exchanges h + results h + open_count h))
