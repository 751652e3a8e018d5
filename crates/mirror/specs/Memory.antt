-- What the memory of a server holds.
use Rattle.std.specs.Prelude.{ℕ, ◌-◌, List, take, drop, Option}
use Rattle.std.specs.Option.{option_map}
use Rattle.slices.specs.Names.{name_bytes}
use Rattle.requests.specs.Stored.{Request, request_at}
use Rattle.mirror.specs.declared.house.House.{House}
use Rattle.mirror.specs.declared.offered.Offered.{Offered}
use Rattle.mirror.specs.declared.draft.Draft.{Draft}
use Rattle.mirror.specs.declared.content.Content.{Content}
use Rattle.mirror.specs.declared.answer.Answer.{Answer}

abbrev pub prefix_of : House → List ℕ
prefix_of h = name_bytes h.prefix

-- the versions that were offered
abbrev pub versions_of : Offered → List ℕ
versions_of o = take o.count o.versions

-- the request so far
abbrev pub request_of : Draft → Request
request_of d = request_at d.rows d.text (record { command = d.command; pairs = d.pairs })

-- the content so far, if it is to be given back
abbrev pub content_of : Content → Option (List ℕ)
content_of c = option_map (λ n. take n c.bytes) c.len

-- what was said and not received yet
abbrev pub waiting_in : Answer → List ℕ
waiting_in a = take (a.to - a.from) (drop a.from a.bytes)
