-- Areas that are long enough, and the front of a name over the front of one.
use Rattle.std.proofs.Common.{◌≡◌, ℕ, ◌-◌, ◌<◌, ◌≤◌, min, List, ◌++◌, length, take, drop, None, sym, ap, ◌∙◌, ⊎_elim, arith}
use Rattle.std.proofs.lemmas.List.{take_all, length-take}
use Rattle.std.proofs.lemmas.Bool.{cases_lt}
use Rattle.std.proofs.lemmas.Bool.Decides.{nat_tests}
use Rattle.host.specs.Talk.{name_over}
use Rattle.process.specs.Given.{rooms}

pub rooms_there : (work status : List ℕ) → 65520 ≤ length work → 128 ≤ length status → rooms work status ≡ None
rooms_there work status h k = grind (arith, nat_tests)

pub name_laid : (name status part : List ℕ) (n : ℕ) → n ≡ min (length name) 128 → part ≡ take (n - 0) name → part ++ drop (n - 0) status ≡ name_over name status
name_laid name status part n e f =
    let z : n - 0 ≡ n = omega arith in
    let front : take (n - 0) name ≡ take 128 name =
    ⊎_elim
    (λ (h : length name < 128). take_all (n - 0) name (omega arith) ∙ sym (take_all 128 name (omega arith)))
    (λ (h : 128 ≤ length name). let k : n - 0 ≡ 128 = omega arith in ap (λ m. take m name) k)
    (cases_lt (length name) 128) in
    let len : n - 0 ≡ length (take 128 name) = simp length-take (omega arith) in
    ap (λ l. l ++ drop (n - 0) status) (f ∙ front) ∙ ap (λ m. take 128 name ++ drop m status) len
