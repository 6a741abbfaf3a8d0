-- The words of a told range, piece by piece.
use Rattle.std.proofs.Common.{◌≡◌, ℕ, List, [], ◌∷◌, ◌++◌, ap, refl, sym, ◌∙◌}
use Rattle.std.proofs.lemmas.List.{append_assoc}
use Rattle.pci_spec.specs.Listing.{words}
use Rattle.judge_spec.specs.ToldRegion.{name_words}
use Rattle.pci_why.specs.Lines.{spaced, ended}
use Rattle.pci_why.proofs.LegacyWords.{words_spaced}

-- a word behind a space, and what follows it
word_pushed : (start mid worded last word rest : List ℕ) → mid ≡ start ++ 32 ∷ [] → worded ≡ mid ++ word → last ≡ worded ++ rest → last ≡ start ++ ((32 ∷ word) ++ rest)
word_pushed start mid worded last word rest blank pushed more =
    more ∙ ap (λ t. t ++ rest) (pushed ∙ ap (λ t. t ++ word) blank ∙ append_assoc start (32 ∷ []) word) ∙ append_assoc start (32 ∷ word) rest

-- words, and others that end their line
words_behind : (xs ys : List (List ℕ)) → ended xs [] ++ words ys ≡ words (xs ++ ys)
words_behind [] ys = refl
words_behind (x ∷ xs) ys = append_assoc (32 ∷ x) (ended xs []) (words ys) ∙ ap (λ t. (32 ∷ x) ++ t) (words_behind xs ys)

pub told_pushed : (start a b c d e f g h i j last slot register said mark spaced_as space : List ℕ) (extent : List (List ℕ)) (named name : List ℕ)
    → a ≡ start ++ 32 ∷ [] → b ≡ a ++ slot → c ≡ b ++ 32 ∷ [] → d ≡ c ++ register → e ≡ d ++ 32 ∷ [] → f ≡ e ++ said → g ≡ f ++ 32 ∷ [] → h ≡ g ++ spaced_as → i ≡ h ++ ended extent [] → j ≡ i ++ spaced (name_words named)
    → last ≡ j ++ 10 ∷ [] → said ≡ mark → spaced_as ≡ space → named ≡ name → last ≡ start ++ words (slot ∷ register ∷ mark ∷ space ∷ extent ++ name_words name)
told_pushed start a b c d e f g h i j last slot register said mark spaced_as space extent named name at bt ct dt et ft gt ht it jt end said_is space_is name_is =
    let names : last ≡ i ++ words (name_words name) =
    end ∙ ap (λ t. t ++ 10 ∷ []) jt ∙ append_assoc i (spaced (name_words named)) (10 ∷ []) ∙ ap (λ t. i ++ t) (sym (words_spaced (name_words named))) ∙ ap (λ n. i ++ words (name_words n)) name_is in
    let behind : last ≡ h ++ words (extent ++ name_words name) =
    names ∙ ap (λ t. t ++ words (name_words name)) it ∙ append_assoc h (ended extent []) (words (name_words name)) ∙ ap (λ t. h ++ t) (words_behind extent (name_words name)) in
    let rest = words (extent ++ name_words name) in
    word_pushed start a b last slot _ at bt
    (word_pushed b c d last register _ ct dt
    (word_pushed d e f last mark _ et (ft ∙ ap (λ t. e ++ t) said_is)
    (word_pushed f g h last space rest gt (ht ∙ ap (λ t. g ++ t) space_is) behind)))
