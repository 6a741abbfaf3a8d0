-- Texts that grow at their end.
use Rattle.std.proofs.Common.{◌≡◌, ℕ, List, [], ◌∷◌, ◌++◌, ap, ◌∙◌}
use Rattle.std.proofs.lemmas.List.{append_assoc}

-- three words, piece by piece
pub three_last : (start a b c d e last one two three : List ℕ) → a ≡ start ++ 32 ∷ [] → b ≡ a ++ one → c ≡ b ++ 32 ∷ [] → d ≡ c ++ two → e ≡ d ++ 32 ∷ [] → last ≡ e ++ three
    → last ≡ start ++ ((32 ∷ one) ++ ((32 ∷ two) ++ (32 ∷ three)))
three_last start a b c d e last one two three at bt ct dt et gt = gt ∙ rw (et, dt, ct, bt, at) (simp append_assoc)

pub behind_word : (start first last word rest : List ℕ) → first ≡ start ++ word → last ≡ first ++ rest → last ≡ start ++ (word ++ rest)
behind_word start first last word rest at more = more ∙ ap (λ t. t ++ rest) at ∙ append_assoc start word rest

-- three pieces that are appended one after the other
pub three_appended : (old one two new a b c : List ℕ) → one ≡ old ++ a → two ≡ one ++ b → new ≡ two ++ c → new ≡ old ++ (a ++ (b ++ c))
three_appended old one two new a b c one_is two_is new_is =
    new_is ∙ ap (λ t. t ++ c) (two_is ∙ ap (λ t. t ++ b) one_is) ∙ append_assoc (old ++ a) b c ∙ append_assoc old a (b ++ c)
