-- Texts that grow at their end.
use Rattle.std.proofs.Common.{◌≡◌, ℕ, List, [], ◌∷◌, ◌++◌, ◌∙◌}
use Rattle.std.proofs.lemmas.List.{append_assoc}

-- three words and what follows, piece by piece
pub three_words : (start a b c d e f last one two three rest : List ℕ) → a ≡ start ++ 32 ∷ [] → b ≡ a ++ one → c ≡ b ++ 32 ∷ [] → d ≡ c ++ two → e ≡ d ++ 32 ∷ [] → f ≡ e ++ three
    → last ≡ f ++ rest → last ≡ start ++ ((32 ∷ one) ++ ((32 ∷ two) ++ ((32 ∷ three) ++ rest)))
three_words start a b c d e f last one two three rest at bt ct dt et ft gt = gt ∙ rw (ft, et, dt, ct, bt, at) (simp append_assoc)
