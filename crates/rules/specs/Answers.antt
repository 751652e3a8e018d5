-- What the calls of a table answer.
-- From docs/TABLE.md, What it comes to; the numbers are those of docs/ANSWERS.md.
use Rattle.std.specs.Prelude.{ℕ, List, Some, None, Option}
use Rattle.host.specs.declared.fault.LineFault.{LineFault}
use Rattle.host.specs.Faults.{line_number}
use Rattle.process.specs.declared.status.Status.{Status}
use Rattle.client.specs.Listings.{Counts}

pub data Answer : Type 0 where
  -- nothing was sent, since the process cannot do it; the process answers later
  passed delayed : Answer
  -- a result waits to be read, from the process with this number
  result : ℕ → Answer
  -- a part of a result; its end
  payload : List ℕ → Answer
  finished : Answer
  -- paths are listed; some found no space
  paths full : Counts → Answer
  -- a result was given up, or all processes are closed
  done : Answer
  -- a status that is none of success: of an exchange or a listing, of a result
  failed unfinished : Status → Answer
  -- delayed, though it was not allowed
  unasked : Answer
  -- a line fault
  fault : LineFault → Answer
  -- what is the caller's, the host's start's or a handshake's, by its number
  refused : ℕ → Answer

-- the number of each refusal
abbrev pub answer_number : Answer → Option ℕ
answer_number passed = None
answer_number delayed = None
answer_number (result p) = None
answer_number (payload part) = None
answer_number finished = None
answer_number (paths c) = None
answer_number (full c) = Some 7
answer_number done = None
answer_number (failed s) = Some 35
answer_number (unfinished s) = Some 37
answer_number unasked = Some 36
answer_number (fault f) = Some (line_number f)
answer_number (refused n) = Some n
