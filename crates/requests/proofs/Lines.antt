-- Lines of a request that are stored or refused.
use Rattle.std.proofs.Common.{◌≡◌, ℕ, ◌≤◌, cond, leb, List, [], length, Some, None, Ok, Err, codes, sym, refl, ap, ◌∙◌}
use Rattle.std.proofs.lemmas.Bool.{cond-true, cond-false, le-leb}
use Rattle.packetline.specs.Lines.{after_prefix}
use Rattle.packetline.specs.Metadata.{trim_both, pair_of}
use Rattle.packetline.specs.Packets.{line}
use Rattle.process.specs.Gather.{goes, stops}
use Rattle.requests.specs.declared.asked.MetaRow.{MetaRow}
use Rattle.requests.specs.declared.fault.RequestFault.TheVariants.{Metadata, Full}
use Rattle.requests.specs.Stored.{Pair, Request, and_pair, has_space, LaysBehind, StoresPair}
use Rattle.requests.specs.Requests.{with_command, with_meta, meta_step, StoresCommand, StoresLine}

-- The first line

module _ (text l c : List ℕ) (is : after_prefix (codes "command=") l ≡ Some c) where
  pub command_stored : (text' : List ℕ) → length c ≤ length text → LaysBehind 0 text c text' → StoresCommand text l (Ok (length c)) text'
  command_stored text' room lays = (
    c,
    ap (with_command (length text)) is ∙ cond-true (leb (length c) (length text)) (Ok (Some c)) (Err 7) (le-leb (length c) (length text) room),
    refl,
    room,
    lays [] text refl refl,
  )

-- A line of metadata

module _ (at : ℕ) (rows : List MetaRow) (count : ℕ) (text l : List ℕ) where
  pub line_wrong : None ≡ pair_of (trim_both l) → StoresLine at rows count text l (Err Metadata) rows count text
  line_wrong is q space area was = (40, ap (with_meta (length space) (length area) q) (sym is), refl, was)

  module _ (p : Pair) (is : Some p ≡ pair_of (trim_both l)) (rows' : List MetaRow) (count' : ℕ) (text' : List ℕ) where
    step_is : (q : Request) (space : List MetaRow) (area : List ℕ) → meta_step (length space) (length area) q (line l) ≡ cond (has_space (length space) (length area) q p) (goes (and_pair q p) []) (stops (Err 7))
    step_is q space area = ap (with_meta (length space) (length area) q) (sym is)

    pub line_kept : (behind : ℕ) → StoresPair at rows count text p (Some behind) rows' count' text' → StoresLine at rows count text l (Ok behind) rows' count' text'
    line_kept behind kept q space area was =
        let k = kept q space area was in
        (p, step_is q space area ∙ cond-true (has_space (length space) (length area) q p) (goes (and_pair q p) []) (stops (Err 7)) k.0, k.1)

    pub line_full : StoresPair at rows count text p None rows' count' text' → StoresLine at rows count text l (Err Full) rows' count' text'
    line_full left q space area was =
        let k = left q space area was in
        (7, step_is q space area ∙ cond-false (has_space (length space) (length area) q p) (goes (and_pair q p) []) (stops (Err 7)) k.0, refl, k.1)
