-- The computed rule for names says what the rule in words says.
use Rattle.std.proofs.Common.{◌≡◌, ℕ, ◌≤◌, Bool, ◌&&◌, leb, List, length, Decides}
use Rattle.std.proofs.iter.runs.Made.{zero_default}
use Rattle.std.proofs.lemmas.List.Sums.{AllPass-from_list_all, list_all-from_AllPass}
use Rattle.std.proofs.lemmas.Bool.{leb-true, le-leb}
use Rattle.std.proofs.lemmas.Bool.Decides.{Decides-and, Decides-like, same_from_decides}
use Rattle.slices.specs.Limits.{visible, all_visible, is_name, Visible, AllVisible, IsName}

decides_leb : (a b : ℕ) → Decides (leb a b) (a ≤ b)
decides_leb a b = (leb-true a b, le-leb a b)

visible_decides : (b : ℕ) → Decides (visible b) (Visible b)
visible_decides b = Decides-and (leb 33 b) (leb b 126) (decides_leb 33 b) (decides_leb b 126)

all_visible_decides : (text : List ℕ) → Decides (all_visible text) (AllVisible text)
all_visible_decides text = (
  λ e k l. (visible_decides _).0 (AllPass-from_list_all visible text e k 0 l),
  λ h. list_all-from_AllPass visible text (λ k d l. rw (zero_default text k d l) ((visible_decides _).1 (h k l))),
)

pub name_decides : (text : List ℕ) → Decides (is_name text) (IsName text)
name_decides text =
    Decides-like (is_name text) (λ h. (h.0, h.1.0, h.1.1)) (λ h. (h.0, (h.1, h.2)))
    (Decides-and (leb 1 (length text)) (leb (length text) 64 && all_visible text) (decides_leb 1 (length text))
    (Decides-and (leb (length text) 64) (all_visible text) (decides_leb (length text) 64) (all_visible_decides text)))

-- a test that goes by the rule in words computes the rule
pub name_from_words : (r : Bool) (text : List ℕ) → Decides r (IsName text) → r ≡ is_name text
name_from_words r text h = same_from_decides r (is_name text) h (name_decides text)
