-- What a mirror's server does with the lines of its client.
use Rattle.std.proofs.Common.{◌≡◌, ℕ, ◌+◌, true, false, cond, List, [], ◌∷◌, ◌++◌, map, get_or, Some, Ok, codes, refl, ap, ◌∙◌, arith}
use lib.Utf8.{encode}
use Rattle.std.proofs.lemmas.Fmt.{decimal_digit}
use Rattle.std.specs.Str.{bytes_eq, chars}
use Rattle.slices.specs.declared.name.Name.{Name}
use Rattle.slices.specs.First.{first_from}
use Rattle.slices.specs.Names.{name_bytes}
use Rattle.packetline.specs.Packets.{Pkt, flush, line, line_pkt}
use Rattle.packetline.specs.Lines.{after_prefix}
use Rattle.packetline.specs.Text.{utf8, trim_end, is_number, text_of}
use Rattle.process.specs.Masks.{place_of, with_bit}
use Rattle.handshake.specs.Judged.{version_line, capability_line}
use Rattle.process.specs.Gather.{goes}
use Rattle.handshake.specs.Handshakes.{hello, welcomed, chosen, desired, names_turn, names_step, at_place}
use Rattle.handshake.specs.Places.{with_place}
use Rattle.mirror.specs.Stages.{hailing, offering, naming, idle, moves, stands, hears}
use Rattle.mirror.specs.Worlds.{Skills}
use Rattle.mirrored.proofs.Coming.{prefix}

-- names by their bytes
place_from : (t : List ℕ) (i : ℕ) (names : List Name) → first_from (λ n. bytes_eq (name_bytes n) t) i names ≡ first_from (λ b. bytes_eq b t) i (map name_bytes names)
place_from t i [] = refl
place_from t i (n ∷ names) =
    elim (bytes_eq (name_bytes n) t) as (λ b. cond b (Some i) (first_from (λ m. bytes_eq (name_bytes m) t) (i + 1) names) ≡ cond b (Some i) (first_from (λ c. bytes_eq c t) (i + 1) (map name_bytes names)))
    [ true ↦ refl | false ↦ place_from t (i + 1) names ]

pub place_by : (names : List Name) (bytes : List (List ℕ)) (t : List ℕ) → map name_bytes names ≡ bytes → place_of names t ≡ first_from (λ b. bytes_eq b t) 0 bytes
place_by names bytes t e = place_from t 0 names ∙ ap (first_from (λ b. bytes_eq b t) 0) e

-- the line of version 2
version_is : version_line 2 ≡ line (codes "version=2")
version_is = ap (λ (d : List ℕ). line_pkt (codes "version=" ++ d)) (decimal_digit 2 (omega arith))

pub hello_is : hello prefix (2 ∷ []) ≡ line (codes "git-filter-client") ∷ line (codes "version=2") ∷ flush ∷ []
hello_is = ap (λ (x : Pkt). line (codes "git-filter-client") ∷ x ∷ flush ∷ []) version_is

module _ (names : List Name) where
  pub hears_welcome : hears prefix names hailing (line (codes "git-filter-client")) ≡ stands (offering [])
  unfolding after_prefix utf8 trim_end chars encode
  hears_welcome = refl

  pub hears_version : hears prefix names (offering []) (line (codes "version=2")) ≡ stands (offering (2 ∷ []))
  unfolding after_prefix utf8 trim_end chars encode is_number
  hears_version = refl

  pub hears_offered : hears prefix names (offering (2 ∷ [])) flush ≡ moves (line (codes "git-filter-server") ∷ line (codes "version=2") ∷ flush ∷ []) (naming 2 [])
  hears_offered = ap (λ (x : Pkt). moves (line (codes "git-filter-server") ∷ x ∷ flush ∷ []) (naming 2 [])) version_is

  module _ (skills : Skills names) where
    pub hears_clean : hears prefix names (naming 2 []) (line (codes "capability=clean")) ≡ stands (naming 2 (0 ∷ []))
    unfolding after_prefix utf8 trim_end chars encode
    hears_clean = ap (λ o. stands (naming 2 (with_place [] o))) (place_by names _ (codes "clean") skills)

    pub hears_smudge : hears prefix names (naming 2 (0 ∷ [])) (line (codes "capability=smudge")) ≡ stands (naming 2 (0 ∷ 1 ∷ []))
    unfolding after_prefix utf8 trim_end chars encode
    hears_smudge = ap (λ o. stands (naming 2 (with_place (0 ∷ []) o))) (place_by names _ (codes "smudge") skills)

    pub hears_delay : hears prefix names (naming 2 (0 ∷ 1 ∷ [])) (line (codes "capability=delay")) ≡ stands (naming 2 (0 ∷ 1 ∷ []))
    unfolding after_prefix utf8 trim_end chars encode
    hears_delay = ap (λ o. stands (naming 2 (with_place (0 ∷ 1 ∷ []) o))) (place_by names _ (codes "delay") skills)

    pub hears_names : hears prefix names (naming 2 (0 ∷ 1 ∷ [])) flush ≡ moves (line (codes "capability=clean") ∷ line (codes "capability=smudge") ∷ flush ∷ []) idle
    hears_names =
        ap (λ bs. moves (line_pkt (codes "capability=" ++ get_or bs 0 []) ∷ line_pkt (codes "capability=" ++ get_or bs 1 []) ∷ flush ∷ []) idle) skills

-- What a client judges

pub welcome_text : text_of (codes "git-filter-server") ≡ Ok (codes "git-filter-server")
unfolding utf8 trim_end chars encode
welcome_text = refl

pub welcome_right : welcomed prefix (Some (codes "git-filter-server")) ≡ Ok tt
unfolding after_prefix
welcome_right = refl

pub version_text : text_of (codes "version=2") ≡ Ok (codes "version=2")
unfolding utf8 trim_end chars encode
version_text = refl

pub version_right : chosen (2 ∷ []) (Some (codes "version=2")) ≡ Ok 2
unfolding after_prefix is_number
version_right = refl

pub clean_text : text_of (codes "capability=clean") ≡ Ok (codes "capability=clean")
unfolding utf8 trim_end chars encode
clean_text = refl

pub smudge_text : text_of (codes "capability=smudge") ≡ Ok (codes "capability=smudge")
unfolding utf8 trim_end chars encode
smudge_text = refl

-- the lines of names, by their bytes
desired_from : (ns : List Name) → desired ns ≡ map (λ b. line_pkt (codes "capability=" ++ b)) (map name_bytes ns) ++ flush ∷ []
desired_from [] = refl
desired_from (n ∷ ns) = ap (λ ps. capability_line n ∷ ps) (desired_from ns)

module _ (wanted : List Name) (desires : map name_bytes wanted ≡ codes "clean" ∷ codes "smudge" ∷ codes "delay" ∷ []) where
  pub desired_is : desired wanted ≡ line (codes "capability=clean") ∷ line (codes "capability=smudge") ∷ line (codes "capability=delay") ∷ flush ∷ []
  desired_is = desired_from wanted ∙ ap (λ bs. map (λ b. line_pkt (codes "capability=" ++ b)) bs ++ flush ∷ []) desires

  pub names_clean : names_step wanted 0 (Some (codes "capability=clean")) ≡ goes (with_bit 0 0) []
  unfolding after_prefix
  names_clean = ap (λ o. names_turn (at_place 0 o)) (place_by wanted _ (codes "clean") desires)

  pub names_smudge : (m : ℕ) → names_step wanted m (Some (codes "capability=smudge")) ≡ goes (with_bit m 1) []
  unfolding after_prefix
  names_smudge m = ap (λ o. names_turn (at_place m o)) (place_by wanted _ (codes "smudge") desires)
