-- Lines that are added one by one tell what is known of a content.
use Rattle.std.proofs.Common.{◌≡◌, ℕ, Bool, true, false, cond, List, [], ◌∷◌, ◌++◌, Some, codes, Option, Bor, ap, ◌∙◌}
use Rattle.std.specs.Option.{option_map}
use Rattle.std.proofs.lemmas.List.{append_assoc}
use Rattle.std.specs.Bool.{then_some}
use Rattle.packetline.specs.Packets.{Pkt}
use Rattle.rules.specs.Steps.{pair_line, line_if}
use Rattle.driver.specs.declared.talk.Known.{Known}
use Rattle.driver.specs.Knowing.{known_lines}

-- the line that allows a late answer
delay_line : (b : Bool) (one : Bor (List ℕ)) (o : Option (Bor (List ℕ))) → one.now ≡ codes "1" → o ≡ then_some b one
    → line_if (codes "can-delay") (option_map (λ x. x.now) o) ≡ cond b (pair_line (codes "can-delay") (codes "1") ∷ []) []
delay_line true one o e is = ap (λ x. line_if (codes "can-delay") (option_map (λ y. y.now) x)) is ∙ ap (λ x. pair_line (codes "can-delay") x ∷ []) e
delay_line false one o e is = ap (λ x. line_if (codes "can-delay") (option_map (λ y. y.now) x)) is

-- lines behind one another
behind : (first : Pkt) (a b c d : List Pkt) → (((first ∷ a) ++ b) ++ c) ++ d ≡ first ∷ (a ++ (b ++ (c ++ d)))
behind first a b c d = append_assoc ((first ∷ a) ++ b) c d ∙ append_assoc (first ∷ a) b (c ++ d)

-- a path's line, and then each line that is known
pub known_by : (k : Known) (one : Bor (List ℕ)) (o : Option (Bor (List ℕ))) {l₀ l₁ l₂ l₃ l₄ l₅ : List Pkt} → one.now ≡ codes "1" → o ≡ then_some k.delays one → l₀ ≡ []
    → l₁ ≡ l₀ ++ line_if (codes "pathname") (Some k.context.now.rela_path.now) → l₂ ≡ l₁ ++ line_if (codes "ref") (option_map (λ x. x.now) k.context.now.ref_name)
    → l₃ ≡ l₂ ++ line_if (codes "treeish") k.treeish → l₄ ≡ l₃ ++ line_if (codes "blob") k.blob
    → l₅ ≡ l₄ ++ line_if (codes "can-delay") (option_map (λ x. x.now) o) → l₅ ≡ pair_line (codes "pathname") k.context.now.rela_path.now ∷ known_lines k
known_by k one o is_one is e₀ e₁ e₂ e₃ e₄ e₅ =
    let path : List Pkt = line_if (codes "pathname") (Some k.context.now.rela_path.now) in
    let ref : List Pkt = line_if (codes "ref") (option_map (λ x. x.now) k.context.now.ref_name) in
    let treeish : List Pkt = line_if (codes "treeish") k.treeish in
    let blob : List Pkt = line_if (codes "blob") k.blob in
    let delay : List Pkt = line_if (codes "can-delay") (option_map (λ x. x.now) o) in
    e₅ ∙ ap (λ l. l ++ delay) (e₄ ∙ ap (λ l. l ++ blob) (e₃ ∙ ap (λ l. l ++ treeish) (e₂ ∙ ap (λ l. l ++ ref) (e₁ ∙ ap (λ l. l ++ path) e₀))))
    ∙ behind (pair_line (codes "pathname") k.context.now.rela_path.now) ref treeish blob delay
    ∙ ap (λ d. pair_line (codes "pathname") k.context.now.rela_path.now ∷ (ref ++ (treeish ++ (blob ++ d)))) (delay_line k.delays one o is_one is)
