-- What has passed with one process since it was started: its calls, the latest first, each with the events of its talk and with its answer. What the
-- rules speak of is read off these alone: nothing here looks into a table.
-- From docs/RULES.md, What is looked at and The words.
use Rattle.std.specs.Prelude.{ℕ, zero, suc, ◌+◌, Bool, true, false, cond, not, ◌&&◌, ◌||◌, List, [], ◌∷◌, ◌++◌, Some, None, Ok, Err, codes, Option, Result, is_some}
use Rattle.std.specs.Str.{bytes_eq}
use Rattle.packetline.specs.Packets.{Pkt, flush, delimiter, response_end, line, packet, decode}
use Rattle.packetline.specs.Lines.{kind_of}
use Rattle.packetline.specs.Text.{trim_end, text_of}
use Rattle.host.specs.Talk.{Event, took, refused as not_taken, gave, noted, bytes_sent, bytes_given}
use Rattle.process.specs.declared.status.Word.TheVariants.{Abort}
use Rattle.process.specs.declared.status.Status.{Status}
use Rattle.process.specs.declared.status.Status.TheVariants.{Previous, Named}
use Rattle.process.specs.Statuses.{status_in, told_by}
use Rattle.client.specs.Requests.{command_line}
use Rattle.records.specs.declared.operation.Operation.{Operation}
use Rattle.records.specs.declared.operation.Operation.TheVariants.{Clean, Smudge}
use Rattle.records.specs.Operations.{operation_name}
use Rattle.rules.specs.Calls.{Call, apply, fetch, list, read}
use Rattle.rules.specs.Answers.{Answer, delayed, result, finished, paths, full, failed, unfinished, unasked, fault}

-- one call's talk with a process
pub record Episode : Type 0 where
  pub call : Call
  pub events : List Event
  pub answer : Answer

abbrev pub episode : Call → List Event → Answer → Episode
episode c es a = record { call = c; events = es; answer = a }

abbrev pub Story : Type 0
Story = List Episode

-- all that a process gave, and all that it took, in order
abbrev pub all_given : Story → List ℕ
all_given [] = []
all_given (e ∷ past) = all_given past ++ bytes_given e.events

abbrev pub all_sent : Story → List ℕ
all_sent [] = []
all_sent (e ∷ past) = all_sent past ++ bytes_sent e.events

abbrev pub one_if : Bool → ℕ
one_if b = cond b 1 0

-- The counts

-- L: the lists that answered paths, 7 or 35
abbrev pub is_listed : Answer → Bool
is_listed (paths c) = true
is_listed (full c) = true
is_listed (failed s) = true
is_listed _ = false

abbrev pub list_counts : Call → Answer → ℕ
list_counts (list k rows room) a = one_if (is_listed a)
list_counts _ a = 0

-- S: the applies and fetches that answered Delayed, 35 or 36
abbrev pub is_settled : Answer → Bool
is_settled delayed = true
is_settled (failed s) = true
is_settled unasked = true
is_settled _ = false

abbrev pub exchange_counts : Call → Answer → ℕ
exchange_counts (apply k op asked) a = one_if (is_settled a)
exchange_counts (fetch k op path) a = one_if (is_settled a)
exchange_counts _ a = 0

-- R: the results that reached End or 37
abbrev pub is_read_out : Answer → Bool
is_read_out finished = true
is_read_out (unfinished s) = true
is_read_out _ = false

abbrev pub result_counts : Call → Answer → ℕ
result_counts (read p) a = one_if (is_read_out a)
result_counts _ a = 0

abbrev pub lists : Story → ℕ
lists [] = 0
lists (e ∷ past) = list_counts e.call e.answer + lists past

abbrev pub exchanges : Story → ℕ
exchanges [] = 0
exchanges (e ∷ past) = exchange_counts e.call e.answer + exchanges past

abbrev pub results : Story → ℕ
results [] = 0
results (e ∷ past) = result_counts e.call e.answer + results past

-- O: the open result, by its operation. An apply or a fetch that answers a result opens it; a read that answers End, 37 or a line fault spends it.

abbrev pub opened : Operation → Option Operation → Answer → Option Operation
opened op before (result p) = Some op
opened op before _ = before

abbrev pub spent : Option Operation → Answer → Option Operation
spent before finished = None
spent before (unfinished s) = None
spent before (fault f) = None
spent before _ = before

abbrev pub open_after : Call → Option Operation → Answer → Option Operation
open_after (apply k op asked) before a = opened op before a
open_after (fetch k op path) before a = opened op before a
open_after (read p) before a = spent before a
open_after _ before a = before

abbrev pub open_result : Story → Option Operation
open_result [] = None
open_result (e ∷ past) = open_after e.call (open_result past) e.answer

abbrev pub open_count : Story → ℕ
open_count h = one_if (is_some (open_result h))

-- Line faults: a call ended in one

abbrev pub is_fault : Answer → Bool
is_fault (fault f) = true
is_fault _ = false

abbrev pub faulted : Story → Bool
faulted [] = false
faulted (e ∷ past) = is_fault e.answer || faulted past

-- Names: a process has named an operation whose `capability=` line it gave before its second flush

abbrev pub names_it : Operation → List ℕ → Bool
names_it op payload = bytes_eq (trim_end payload) (codes "capability=" ++ operation_name op)

-- the same in packets, before so many flushes
abbrev pub names_before : Operation → ℕ → List Pkt → Bool
names_before op zero ps = false
names_before op (suc k) [] = false
names_before op (suc k) (flush ∷ ps) = names_before op k ps
names_before op (suc k) (delimiter ∷ ps) = names_before op (suc k) ps
names_before op (suc k) (response_end ∷ ps) = names_before op (suc k) ps
names_before op (suc k) (line payload ∷ ps) = names_it op payload || names_before op (suc k) ps

abbrev pub has_named : Operation → List ℕ → Bool
has_named op given = names_before op 2 (decode given).packets

-- Aborts: the status that is read to its flush from what was given in a call, behind a handshake's flushes or a content's, is `abort`

-- what stands behind so many flushes
abbrev pub behind_flushes : ℕ → List Pkt → List Pkt
behind_flushes zero ps = ps
behind_flushes (suc k) [] = []
behind_flushes (suc k) (flush ∷ ps) = behind_flushes k ps
behind_flushes (suc k) (delimiter ∷ ps) = behind_flushes (suc k) ps
behind_flushes (suc k) (response_end ∷ ps) = behind_flushes (suc k) ps
behind_flushes (suc k) (line payload ∷ ps) = behind_flushes (suc k) ps

-- what packets tell up to a flush: a status; none, since a marker came where a line is wanted; or none, since they are cut off before, by a line that is no
-- text too
pub data Telling : Type 0 where
  told : Status → Telling
  marked cut : Telling

abbrev pub on_text : (List ℕ → Telling) → Result (List ℕ) ℕ → Telling
on_text f (Ok text) = f text
on_text f (Err n) = cut

-- the same after lines that told a status
abbrev pub telling : Status → List Pkt → Telling
telling s [] = cut
telling s (flush ∷ ps) = told s
telling s (delimiter ∷ ps) = marked
telling s (response_end ∷ ps) = marked
telling s (line payload ∷ ps) = on_text (λ text. telling (told_by s (status_in (kind_of text))) ps) (text_of payload)

abbrev pub status_told : Telling → Option Status
status_told (told s) = Some s
status_told marked = None
status_told cut = None

-- the status that packets tell up to a flush, after lines that told another; none where no flush comes
abbrev pub status_from : Status → List Pkt → Option Status
status_from s ps = status_told (telling s ps)

-- a first call's handshake has two flushes; a listing's paths and a result's content have one
abbrev pub flushes_before : Call → Story → ℕ
flushes_before (apply k op asked) [] = 2
flushes_before (apply k op asked) (e ∷ past) = 0
flushes_before (list k rows room) past = 1
flushes_before (read p) past = 1
flushes_before _ past = 0

abbrev pub status_of_call : Call → List Event → Story → Option Status
status_of_call c es past = status_from Previous (behind_flushes (flushes_before c past) (decode (bytes_given es)).packets)

abbrev pub is_abort : Option Status → Bool
is_abort (Some (Named Abort n)) = true
is_abort _ = false

-- the operation that a call is for; a read's is that of the result
abbrev pub operation_of : Call → Story → Option Operation
operation_of (apply k op asked) past = Some op
operation_of (fetch k op path) past = Some op
operation_of (read p) past = open_result past
operation_of _ past = None

abbrev pub same_operation : Operation → Operation → Bool
same_operation Clean Clean = true
same_operation Clean Smudge = false
same_operation Smudge Clean = false
same_operation Smudge Smudge = true

abbrev pub is_for : Operation → Option Operation → Bool
is_for op None = false
is_for op (Some other) = same_operation op other

-- a call for the operation was answered with abort
abbrev pub aborts : Operation → Call → List Event → Story → Bool
aborts op c es past = is_for op (operation_of c past) && is_abort (status_of_call c es past)

abbrev pub aborted : Operation → Story → Bool
aborted op [] = false
aborted op (e ∷ past) = aborts op e.call e.events past || aborted op past

-- Applies that went astray: sent for an operation that by then the process had never named, or had answered with abort. An apply is sent when its
-- process takes the `command=` line; by then it has given what it gave in the calls before, and in this one before.

abbrev pub asks_for : Operation → List ℕ → Bool
asks_for op bytes = bytes_eq bytes (packet (command_line (operation_name op)))

abbrev pub stray_sends : Operation → List Event → Story → ℕ
stray_sends op [] past = 0
stray_sends op (took b ∷ es) past = one_if (asks_for op b && not (has_named op (all_given past ++ bytes_given es) && not (aborted op past))) + stray_sends op es past
stray_sends op (not_taken b ∷ es) past = stray_sends op es past
stray_sends op (gave b ∷ es) past = stray_sends op es past
stray_sends op (noted s ∷ es) past = stray_sends op es past

abbrev pub stray_applies_in : Call → List Event → Story → ℕ
stray_applies_in (apply k op asked) es past = stray_sends op es past
stray_applies_in _ es past = 0

abbrev pub stray_applies : Story → ℕ
stray_applies [] = 0
stray_applies (e ∷ past) = stray_applies_in e.call e.events past + stray_applies past
