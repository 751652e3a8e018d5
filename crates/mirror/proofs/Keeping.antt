-- Versions that are kept in rows.
use Rattle.std.proofs.Common.{◌≡◌, ℕ, ◌≤◌, min, List, ◌++◌, length, take, drop, Option, Result, sym, ap, ◌∙◌, arith}
use Rattle.std.proofs.lemmas.List.{length-append, length-drop, length-take-le, take-append-drop, take_at}
use Rattle.slices.specs.Answers.{told}
use Rattle.handshake.specs.declared.protocol.Objection.{Objection}
use Rattle.handshake.specs.Servers.{objection_number, with_version, kept_by, Holding, KeepsVersion}

module _ (versions : List ℕ) (count : ℕ) (long : length versions ≡ 16) (few : count ≤ 16) (version : Option ℕ) (rows : List ℕ) (held : ℕ) (same : rows ≡ versions) (resumed : held ≡ min count (length versions))
    (r : Result (Unit {0}) Objection) (rows' : List ℕ) (count' : ℕ) (keeps : KeepsVersion version rows held r rows' count') where
  abbrev before : List ℕ
  before = take count versions

  holding : Holding versions before rows held
  holding =
      let l : length before ≡ count = length-take-le count versions (omega arith) in (
        same ∙ sym (take-append-drop count versions) ∙ ap (λ n. before ++ drop n versions) (sym l),
        omega (arith, l),
        omega (arith, l),
      )

  abbrev after : List ℕ
  after = kept_by before (with_version (length versions) before version)

  kept : Holding versions after rows' count'
  kept = (keeps versions before holding).0

  after_is : take count' rows' ≡ after
  after_is = ap (take count') kept.0 ∙ take_at after (drop (length after) versions) count' (sym kept.1)

  pub kept_long : length rows' ≡ 16
  kept_long = ap length kept.0 ∙ length-append after (drop (length after) versions) ∙ (let d = length-drop (length after) versions in let k = kept.2 in omega arith)

  pub kept_few : count' ≤ 16
  kept_few = let k = kept.2 in let c = kept.1 in omega arith

  pub kept_told : told (λ _. take count' rows') objection_number r ≡ with_version 16 before version
  kept_told =
      ap (λ (x : List ℕ). told (λ _. x) objection_number r) after_is ∙ (keeps versions before holding).1 ∙ ap (λ n. with_version n before version) long
