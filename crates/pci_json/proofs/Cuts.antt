-- Where a text is cut, its parts begin.
use Rattle.std.proofs.Common.{arith, ◌≡◌, ℕ, zero, suc, ◌+◌, ◌-◌, ◌<◌, ◌==◌, List, [], ◌∷◌, length, take, drop, Bool, true, false, not, cond, refl, sym, ap, ap₂, ◌∙◌, if◌then◌else◌}
use Rattle.std.proofs.Math.Seq.{take-length}
use Rattle.std.proofs.lemmas.List.{drop_all}
use Rattle.std.specs.List.{before_first, after_first, position_or_len}
use Rattle.pci_json.specs.Lines.{parts_of_text, put_front, behind_words, word, is_blank}

moved : (end b n : ℕ) (s : List ℕ) → (b ∷ take n s) ∷ parts_of_text end (drop (n + 1) s) ≡ take (1 + n) (b ∷ s) ∷ parts_of_text end (drop (1 + n + 1) (b ∷ s))
moved end b n s =
    let one : suc n ≡ 1 + n = omega arith in
    let two : suc (n + 1) ≡ 1 + n + 1 = omega arith in
    ap (λ k. take k (b ∷ s) ∷ parts_of_text end (drop (n + 1) s)) one ∙ ap (λ k. take (1 + n) (b ∷ s) ∷ parts_of_text end (drop k (b ∷ s))) two

one_more : (here : Bool) (end b n : ℕ) (s : List ℕ) → parts_of_text end s ≡ take n s ∷ parts_of_text end (drop (n + 1) s)
    → (if here then [] ∷ parts_of_text end s else put_front b (parts_of_text end s)) ≡ take (cond (not here) (1 + n) 0) (b ∷ s) ∷ parts_of_text end (drop (cond (not here) (1 + n) 0 + 1) (b ∷ s))
one_more true end b n s more = refl
one_more false end b n s more = ap (put_front b) more ∙ moved end b n s

last_one : (here : Bool) (end b : ℕ)
    → (if here then [] ∷ [] else (b ∷ []) ∷ []) ≡ take (cond (not here) (1 + 0) 0) (b ∷ []) ∷ parts_of_text end (drop (cond (not here) (1 + 0) 0 + 1) (b ∷ []))
unfolding parts_of_text
last_one true end b = refl
last_one false end b = refl

pub parts_cut : (end : ℕ) (s : List ℕ) → 0 < length s → parts_of_text end s ≡ before_first (λ b. b == end) s ∷ parts_of_text end (after_first (λ b. b == end) s)
unfolding parts_of_text
parts_cut end [] some = absurd (omega arith)
parts_cut end (b ∷ []) some = last_one (b == end) end b
parts_cut end (b ∷ (c ∷ s)) some = one_more (b == end) end b (position_or_len (λ b. b == end) (c ∷ s)) (c ∷ s) (parts_cut end (c ∷ s) (omega arith))

pub parts_whole : (end : ℕ) (s : List ℕ) → 0 < length s → position_or_len (λ b. b == end) s ≡ length s → parts_of_text end s ≡ s ∷ parts_of_text end []
parts_whole end s some none =
    parts_cut end s some ∙ ap (λ n. take n s ∷ parts_of_text end (drop (n + 1) s)) none
    ∙ ap₂ (λ (x y : List ℕ). x ∷ parts_of_text end y) (take-length s) (drop_all (length s + 1) s (omega arith))

pub behind_next : (words done : ℕ) (rest : List ℕ) → done < words → behind_words (words - done) rest ≡ behind_words (words - (done + 1)) (after_first is_blank rest)
unfolding behind_words
behind_next words done rest less =
    let one : words - done ≡ suc (words - (done + 1)) = omega arith in
    ap (λ n. behind_words n rest) one

pub behind_here : (content : List ℕ) → behind_words 0 content ≡ content
unfolding behind_words
behind_here content = refl

pub behind_one : (content : List ℕ) → behind_words 1 content ≡ after_first is_blank content
unfolding behind_words
behind_one content = refl

-- what stands behind words that stand behind words
pub behind_there : (n k : ℕ) (content : List ℕ) → behind_words k (behind_words n content) ≡ behind_words (n + k) content
unfolding behind_words
behind_there zero k content =
    let none : k ≡ 0 + k = omega arith in
    ap (behind_words k) (behind_here content) ∙ ap (λ m. behind_words m content) none
behind_there (suc n) k content =
    let one : suc n + k ≡ suc (n + k) = omega arith in
    behind_there n k (after_first is_blank content) ∙ sym (ap (λ m. behind_words m content) one)

-- the second word of what stands behind words, and what stands behind it
pub second_there : (n : ℕ) (line rest first more : List ℕ) → rest ≡ behind_words n line → first ≡ word 1 rest → more ≡ behind_words 2 rest
    → (first ≡ word (n + 1) line) × (more ≡ behind_words (n + 2) line)
second_there n line rest first more is there after =
    (there ∙ ap (word 1) is ∙ ap (before_first is_blank) (behind_there n 1 line), after ∙ ap (behind_words 2) is ∙ behind_there n 2 line)

pub behind_none : (n : ℕ) (rest : List ℕ) → behind_words (n - n) rest ≡ rest
unfolding behind_words
behind_none n rest = let none : n - n ≡ 0 = omega arith in ap (λ k. behind_words k rest) none
