-- Lines by their prefix, and what follows of it.
use Rattle.std.proofs.Common.{◌≡◌, ℕ, Bool, true, false, cond, eqb, List, ◌++◌, is_some, Some, None, Ok, Err, codes, Option, Result, sym, refl, ap, ◌∙◌, arith}
use Rattle.std.proofs.lemmas.Slice.Eq.{bytes_eq-Decides}
use Rattle.std.proofs.lemmas.Bool.{cond-true}
use Rattle.slices.specs.First.{first_equal}
use Rattle.packetline.specs.Lines.{Kind, status, capability, version, pathname, other, kind_of, after_prefix, spelt}
use Rattle.packetline.specs.Text.{number_of}
use Rattle.handshake.specs.Judged.{is_role, greets, version_of, version_in, capability_in}
use Rattle.handshake.specs.Handshakes.{welcomed, offered, chosen}
use Rattle.process.proofs.LineKinds.{after_some, after_append, kind_law}

-- Kinds

pub kind_capability : (s : List ℕ) → kind_of (codes "capability=" ++ s) ≡ capability s
unfolding after_prefix
kind_capability s = refl

pub kind_version : (s : List ℕ) → kind_of (codes "version=" ++ s) ≡ version s
unfolding after_prefix
kind_version s = refl

-- a line's kind writes it
pub spelt_kind : (bs : List ℕ) → spelt (kind_of bs) ≡ bs
spelt_kind bs = (kind_law bs).writes

capability_spelt : (k : Kind) (s : List ℕ) → capability_in k ≡ Some s → spelt k ≡ codes "capability=" ++ s
capability_spelt (status x) s h = let z : ◌≡◌ {A = ℕ} 0 1 = cc in absurd (omega arith)
capability_spelt (capability x) s h = let e : x ≡ s = cc in ap (λ l. codes "capability=" ++ l) e
capability_spelt (version x) s h = let z : ◌≡◌ {A = ℕ} 0 1 = cc in absurd (omega arith)
capability_spelt (pathname x) s h = let z : ◌≡◌ {A = ℕ} 0 1 = cc in absurd (omega arith)
capability_spelt (other x) s h = let z : ◌≡◌ {A = ℕ} 0 1 = cc in absurd (omega arith)

-- a line names a capability exactly if it is `capability=` and a name
pub named_spelt : (t s : List ℕ) → capability_in (kind_of t) ≡ Some s → t ≡ codes "capability=" ++ s
named_spelt t s h = sym (spelt_kind t) ∙ capability_spelt (kind_of t) s h

pub spelt_named : (t s : List ℕ) → t ≡ codes "capability=" ++ s → capability_in (kind_of t) ≡ Some s
spelt_named t s e = ap (λ l. capability_in (kind_of l)) e ∙ ap capability_in (kind_capability s)

-- The welcome

right : (b : Bool) → ◌≡◌ {A = Result (Unit {0}) ℕ} (cond b (Ok tt) (Err 30)) (Ok tt) → b ≡ true
right true h = refl
right false h = let z : ◌≡◌ {A = ℕ} 0 1 = cc in absurd (omega arith)

role_is : (prefix role t : List ℕ) (o : Option (List ℕ)) → after_prefix prefix t ≡ o → is_role role o ≡ true → t ≡ prefix ++ role
role_is prefix role t None e h = let z : ◌≡◌ {A = ℕ} 0 1 = cc in absurd (omega arith)
role_is prefix role t (Some rest) e h = after_some prefix t rest e ∙ ap (λ l. prefix ++ l) ((bytes_eq-Decides rest role).0 h)

pub greets_role : (prefix role t : List ℕ) → greets prefix role (Some t) ≡ true → t ≡ prefix ++ role
greets_role prefix role t h = role_is prefix role t (after_prefix prefix t) refl h

pub role_greets : (prefix role t : List ℕ) → t ≡ prefix ++ role → greets prefix role (Some t) ≡ true
role_greets prefix role t e = ap (λ l. is_role role (after_prefix prefix l)) e ∙ ap (is_role role) (after_append prefix role) ∙ (bytes_eq-Decides role role).1 refl

pub welcomed_greets : (prefix t : List ℕ) → welcomed prefix (Some t) ≡ Ok tt → t ≡ prefix ++ codes "-server"
welcomed_greets prefix t h = greets_role prefix (codes "-server") t (right (greets prefix (codes "-server") (Some t)) h)

pub greets_welcomed : (prefix t : List ℕ) → t ≡ prefix ++ codes "-server" → welcomed prefix (Some t) ≡ Ok tt
greets_welcomed prefix t e = ap (λ b. cond b (Ok tt) (Err 30)) (role_greets prefix (codes "-server") t e)

-- The version

version_spelt : (k : Kind) (v : ℕ) → version_of k ≡ Some v → (ds : List ℕ) × (spelt k ≡ codes "version=" ++ ds) × (number_of ds ≡ Some v)
version_spelt (status x) v h = let z : ◌≡◌ {A = ℕ} 0 1 = cc in absurd (omega arith)
version_spelt (capability x) v h = let z : ◌≡◌ {A = ℕ} 0 1 = cc in absurd (omega arith)
version_spelt (version x) v h = (x, refl, h)
version_spelt (pathname x) v h = let z : ◌≡◌ {A = ℕ} 0 1 = cc in absurd (omega arith)
version_spelt (other x) v h = let z : ◌≡◌ {A = ℕ} 0 1 = cc in absurd (omega arith)

-- a line tells a version exactly if it is `version=` and digits that write it
pub version_digits : (t : List ℕ) (v : ℕ) → version_in (Some t) ≡ Some v → (ds : List ℕ) × (t ≡ codes "version=" ++ ds) × (number_of ds ≡ Some v)
version_digits t v h = let r = version_spelt (kind_of t) v h in (r.0, sym (spelt_kind t) ∙ r.1, r.2)

pub digits_version : (t ds : List ℕ) (v : ℕ) → t ≡ codes "version=" ++ ds → number_of ds ≡ Some v → version_in (Some t) ≡ Some v
digits_version t ds v e n = ap (λ l. version_of (kind_of l)) e ∙ ap version_of (kind_version ds) ∙ n

offers : (n v : ℕ) (b : Bool) → ◌≡◌ {A = Result ℕ ℕ} (cond b (Ok n) (Err 32)) (Ok v) → (n ≡ v) × (b ≡ true)
offers n v true h = (cc, refl)
offers n v false h = let z : ◌≡◌ {A = ℕ} 0 1 = cc in absurd (omega arith)

module _ (versions : List ℕ) (v : ℕ) where
  offered_one : (o : Option ℕ) → offered versions o ≡ Ok v → (o ≡ Some v) × (is_some (first_equal eqb v versions) ≡ true)
  offered_one None h = let z : ◌≡◌ {A = ℕ} 0 1 = cc in absurd (omega arith)
  offered_one (Some n) h =
      let r = offers n v (is_some (first_equal eqb n versions)) h in
      (ap Some r.0, ap (λ m. is_some (first_equal eqb m versions)) (sym r.0) ∙ r.1)

pub chosen_number : (versions t : List ℕ) (v : ℕ) → chosen versions (Some t) ≡ Ok v
    → (ds : List ℕ) × (t ≡ codes "version=" ++ ds) × (number_of ds ≡ Some v) × (is_some (first_equal eqb v versions) ≡ true)
chosen_number versions t v h =
    let o = offered_one versions v (version_in (Some t)) h in
    let r = version_digits t v o.0 in
    (r.0, r.1, r.2, o.1)

pub number_chosen : (versions t ds : List ℕ) (v : ℕ) → t ≡ codes "version=" ++ ds → number_of ds ≡ Some v → is_some (first_equal eqb v versions) ≡ true → chosen versions (Some t) ≡ Ok v
number_chosen versions t ds v e n o = ap (offered versions) (digits_version t ds v e n) ∙ cond-true (is_some (first_equal eqb v versions)) (Ok v) (Err 32) o
