-- What the code's answers are to a table, and the number of each refusal.
-- The numbers are those of docs/ANSWERS.md.
use Rattle.std.specs.Prelude.{◌≡◌, ℕ, true, false, List, take, Some, None, Ok, Err, Option, Result, unwrap_or}
use Rattle.process.specs.declared.status.Status.{Status}
use Rattle.handshake.specs.declared.protocol.Protocol.{Protocol}
use Rattle.handshake.specs.declared.protocol.Refusal.{Refusal}
use Rattle.handshake.specs.declared.protocol.Refusal.TheVariants.{Line, Protocol as Wrong}
use Rattle.handshake.specs.Handshakes.{protocol_number}
use Rattle.records.specs.declared.record.Record.{Record}
use Rattle.rules.specs.Answers.{Answer, passed, delayed, result, payload, finished, paths, full, done, failed, unfinished, unasked, fault, refused, answer_number}
use Rattle.driver.specs.declared.misuse.Misuse.{Misuse}
use Rattle.driver.specs.declared.misuse.Misuse.TheVariants.{AreaTooShort, OutsideLimits, UnknownKey, Reading, NotReading, NoFreePlace}
use Rattle.driver.specs.declared.init.Error.{Error as InitError}
use Rattle.driver.specs.declared.init.Error.TheVariants.{SpawnCommand, ProcessHandshake}
use Rattle.driver.specs.declared.result.FilterResult.{FilterResult}
use Rattle.driver.specs.declared.apply.Applied.{Applied}
use Rattle.driver.specs.declared.apply.Applied.TheVariants.{Passed, Delayed, Immediate}
use Rattle.driver.specs.declared.apply.Error.{Error as ApplyError}
use Rattle.driver.specs.declared.apply.Error.TheVariants.{Misuse as apply_misuse, Init, ProcessInvoke as apply_fault, DelayNotAllowed, ProcessStatus as apply_status}
use Rattle.driver.specs.declared.fetch.Error.{Error as FetchError}
use Rattle.driver.specs.declared.fetch.Error.TheVariants.{Misuse as fetch_misuse, ProcessInvoke as fetch_fault, ProcessStatus as fetch_status}
use Rattle.driver.specs.declared.list.Paths.{Paths}
use Rattle.driver.specs.declared.list.Error.{Error as ListError}
use Rattle.driver.specs.declared.list.Error.TheVariants.{Misuse as list_misuse, ProcessInvoke as list_fault, ProcessStatus as list_status, Full}
use Rattle.driver.specs.declared.read.Read.{Read}
use Rattle.driver.specs.declared.read.Read.TheVariants.{Payload, End}
use Rattle.driver.specs.declared.read.Error.{Error as ReadError}
use Rattle.driver.specs.declared.read.Error.TheVariants.{Refused as Refuses, Lost, ProcessStatus as read_status}
use Rattle.driver.specs.declared.read.Refused.{Refused}
use Rattle.driver.specs.declared.read.Unread.{Unread}
use Rattle.driver.specs.declared.read.Unread.TheVariants.{Misuse as unread_misuse, Lost as unread_lost, ProcessStatus as unread_status}

-- the number of each misuse
abbrev pub misuse_number : Misuse → ℕ
misuse_number AreaTooShort = 1
misuse_number OutsideLimits = 2
misuse_number UnknownKey = 3
misuse_number Reading = 4
misuse_number NotReading = 5
misuse_number NoFreePlace = 6

abbrev pub misused : Misuse → Answer
misused m = refused (misuse_number m)

-- an answer's number; each refusal has one
abbrev pub number_in : Answer → ℕ
number_in a = unwrap_or (answer_number a) 0

abbrev pub handshake_answer : Refusal Protocol → Answer
handshake_answer (Line f) = fault f
handshake_answer (Wrong p) = refused (protocol_number p)

abbrev pub init_answer : InitError → Answer
init_answer (SpawnCommand e) = refused 10
init_answer (ProcessHandshake r) = handshake_answer r

abbrev pub apply_answer : ApplyError → Answer
apply_answer (apply_misuse m) = misused m
apply_answer (Init e) = init_answer e
apply_answer (apply_fault f) = fault f
apply_answer DelayNotAllowed = unasked
apply_answer (apply_status s) = failed s

abbrev pub applied : Result Applied ApplyError → Answer
applied (Ok Passed) = passed
applied (Ok Delayed) = delayed
applied (Ok (Immediate t)) = result t.process
applied (Err e) = apply_answer e

-- what an exchange came to: a result, or a status that is none of success
abbrev pub result_or_status : Result FilterResult Status → Answer
result_or_status (Ok t) = result t.process
result_or_status (Err s) = failed s

-- a record that is to come, or why there is none
abbrev pub launched : Result Record ApplyError → Result Record Answer
launched (Ok r) = Ok r
launched (Err e) = Err (apply_answer e)

abbrev pub fetch_answer : FetchError → Answer
fetch_answer (fetch_misuse m) = misused m
fetch_answer (fetch_fault f) = fault f
fetch_answer (fetch_status s) = failed s

abbrev pub fetched : Result FilterResult FetchError → Answer
fetched (Ok t) = result t.process
fetched (Err e) = fetch_answer e

abbrev pub list_answer : ListError → Answer
list_answer (list_misuse m) = misused m
list_answer (list_fault f) = fault f
list_answer (list_status s) = failed s
list_answer (Full p) = full (record { named = p.named; stored = p.stored; full = true })

abbrev pub paths_listed : Result Paths ListError → Answer
paths_listed (Ok p) = paths (record { named = p.named; stored = p.stored; full = false })
paths_listed (Err e) = list_answer e

abbrev pub unread_answer : Unread → Answer
unread_answer (unread_misuse m) = misused m
unread_answer (unread_lost f) = fault f
unread_answer (unread_status s) = unfinished s

-- a payload lies at the front of an area; none is the end
abbrev pub piece_read : List ℕ → Result (Option ℕ) Unread → Answer
piece_read area (Ok (Some n)) = payload (take n area)
piece_read area (Ok None) = finished
piece_read area (Err e) = unread_answer e

-- the length of a payload
abbrev pub payload_length : Result (Option ℕ) Unread → ℕ
payload_length (Ok (Some n)) = n
payload_length (Ok None) = 0
payload_length (Err e) = 0

abbrev pub read_answer : ReadError → Answer
read_answer (Refuses r) = misused r.why
read_answer (Lost f) = fault f
read_answer (read_status s) = unfinished s

abbrev pub was_read : List ℕ → Result Read ReadError → Answer
was_read area (Ok (Payload n t)) = payload (take n area)
was_read area (Ok End) = finished
was_read area (Err e) = read_answer e

abbrev pub read_length : Result Read ReadError → ℕ
read_length (Ok (Payload n t)) = n
read_length (Ok End) = 0
read_length (Err e) = 0

-- a payload and a refused read hand back the result of this process
abbrev pub HandsBack : ℕ → Result Read ReadError → Type 0
HandsBack p (Ok (Payload n t)) = t.process ≡ p
HandsBack p (Ok End) = Unit {0}
HandsBack p (Err (Refuses r)) = r.back.process ≡ p
HandsBack p (Err (Lost f)) = Unit {0}
HandsBack p (Err (read_status s)) = Unit {0}

abbrev pub given_up : Result (Unit {0}) Refused → Answer
given_up (Ok u) = done
given_up (Err r) = misused r.why

abbrev pub done_or : Result (Unit {0}) Misuse → Answer
done_or (Ok u) = done
done_or (Err m) = misused m
