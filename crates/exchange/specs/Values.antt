-- A table's calls and answers, as they stand in code.
use Rattle.std.specs.Prelude.{ℕ, Bool, true, false, List, [], length, replicate, take, Option}
use Rattle.std.specs.Option.{option_map}
use Rattle.handshake.specs.Handshakes.{protocol_number}
use Rattle.driver.specs.declared.list.Paths.{Paths}
use Rattle.client.specs.Listings.{Counts}
use Rattle.driver.specs.Answers.{misused}
use Rattle.driver.specs.Asking.{asked_of}
use Rattle.rules.specs.Calls.{Call, apply, fetch, list, read, give_up, close_all}
use Rattle.rules.specs.Answers.{Answer, passed, delayed, result, payload, finished, paths, full, done, failed, unfinished, unasked, fault, refused}
use Rattle.exchange.specs.declared.call.Call.{Call as InCode}
use Rattle.exchange.specs.declared.call.Call.TheVariants.{Apply, Fetch, List as ListPaths, Read, GiveUp, CloseAll}
use Rattle.exchange.specs.declared.call.Entry.{Entry}
use Rattle.exchange.specs.declared.answer.Answer.{Answer as Told}
use Rattle.exchange.specs.declared.answer.Answer.TheVariants.{Passed, Delayed, Result, Payload, Finished, Paths as PathsListed, Full, Done, Failed, Unfinished, Unasked, Fault, Misused, NotStarted, Greeted}

-- a listing is lent so many rows and so much room
abbrev pub call_of : ℕ → ℕ → InCode → Call
call_of rows room (Apply k op a) = apply k op (asked_of a.context a.delay a.content.now)
call_of rows room (Fetch k op path) = fetch k op path.now
call_of rows room (ListPaths k) = list k rows room
call_of rows room (Read p) = read p
call_of rows room (GiveUp p) = give_up p
call_of rows room CloseAll = close_all

abbrev pub counts_in : Bool → Paths → Counts
counts_in all p = record { named = p.named; stored = p.stored; full = all }

-- a payload lies at the front of an area
abbrev pub answer_in : List ℕ → Told → Answer
answer_in area Passed = passed
answer_in area Delayed = delayed
answer_in area (Result p) = result p
answer_in area (Payload n) = payload (take n area)
answer_in area Finished = finished
answer_in area (PathsListed p) = paths (counts_in false p)
answer_in area (Full p) = full (counts_in true p)
answer_in area Done = done
answer_in area (Failed s) = failed s
answer_in area (Unfinished s) = unfinished s
answer_in area Unasked = unasked
answer_in area (Fault f) = fault f
answer_in area (Misused m) = misused m
answer_in area NotStarted = refused 10
answer_in area (Greeted p) = refused (protocol_number p)

-- what is left of a payload when its area was used again: its length, told by so many zeros
abbrev pub zeros : ℕ → List ℕ
zeros n = replicate n 0

abbrev pub answer_of : Told → Answer
answer_of (Payload n) = payload (zeros n)
answer_of a = answer_in [] a

abbrev pub blanked : Answer → Answer
blanked (payload part) = payload (zeros (length part))
blanked a = a

-- what an entry of an exchange answered
abbrev pub answered : Entry → Option Answer
answered e = option_map answer_of e.answer
