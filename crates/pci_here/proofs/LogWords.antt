-- The first word of a line that names a function.
use Rattle.std.proofs.Common.{◌≡◌, ℕ, ◌==◌, List, [], ◌∷◌, ◌++◌, length, get_or, drop, Option, None, Some, IfSome, Bor, refl, sym, ◌∙◌, ap, subst, arith}
use Rattle.std.specs.List.{All, Contains, join_with_byte}
use Rattle.std.specs.Str.Pattern.{FindsCharSuffix, StripsSuffix}
use Rattle.std.proofs.lemmas.List.{append_assoc, append-nil, length-append}
use Rattle.std.proofs.lemmas.List.Elements.{All-contains, All-head, All-nil, All-push, All-tail, Contains-append_right}
use Rattle.std.proofs.lemmas.List.Splits.{join_with_byte-slice_split, length-slice_split}
use Rattle.std.proofs.lemmas.Str.Pattern.{strip_suffix_char}
use Rattle.pci_spec.proofs.SizesTexts.{same_front}
use Rattle.pci_here.specs.LogLine.{IsFunctionNameWord, IsNoNameWord, IsSaidOf, log_line_words}
use Rattle.pci_here.specs.Place.{FunctionPlace, IsPlaceName}

-- ---- a word

pub no_name : (word : List ℕ) → FindsCharSuffix 58 word None → (p : FunctionPlace) → IsFunctionNameWord word p → None ≡ Some p
no_name word none p is = absurd (strip_suffix_char 58 word None none (omega arith) is.name is.text)

pub name_found : (word : List ℕ) (x : Bor (List ℕ)) (found : Option FunctionPlace) → StripsSuffix (FindsCharSuffix 58) word x.now
    → IfSome found (IsPlaceName x.now) → IfSome found (IsFunctionNameWord word)
name_found word x None cut is = tt
name_found word x (Some p) cut is = record { name = x.now; is = is; text = strip_suffix_char 58 word (Some x) cut (omega arith) }

pub name_only : (word : List ℕ) (x : Bor (List ℕ)) (found : Option FunctionPlace) → StripsSuffix (FindsCharSuffix 58) word x.now
    → ((p : FunctionPlace) → IsPlaceName x.now p → found ≡ Some p) → (p : FunctionPlace) → IsFunctionNameWord word p → found ≡ Some p
name_only word x found cut only p is =
    let whole : word ≡ x.now ++ 58 ∷ [] = strip_suffix_char 58 word (Some x) cut (omega arith) in
    let same : x.now ++ 58 ∷ [] ≡ is.name ++ 58 ∷ [] = sym whole ∙ is.text in
    let long : length x.now ≡ length is.name = omega (arith, ap length same, length-append x.now (58 ∷ []), length-append is.name (58 ∷ [])) in
    only p (subst (λ w. IsPlaceName w p) (sym (same_front x.now (58 ∷ []) is.name (58 ∷ []) long same)) is.is)

-- ---- the words of a line

words_same : (a b : List ℕ) → log_line_words a ≡ log_line_words b → a ≡ b
words_same a b same = sym (join_with_byte-slice_split 32 a) ∙ ap (join_with_byte 32) same ∙ join_with_byte-slice_split 32 b

some_words : (text : List ℕ) → [] ≡ log_line_words text → ⊥
some_words text none = omega (arith, ap length none, length-slice_split (λ byte. byte == 32) text)

first_named : (xs ys : List (List ℕ)) (v w : List ℕ) (vs ws : List (List ℕ)) (p q : FunctionPlace) → xs ++ v ∷ vs ≡ ys ++ w ∷ ws
    → All IsNoNameWord xs → All IsNoNameWord ys → IsFunctionNameWord v p → IsFunctionNameWord w q → (v ≡ w) × (vs ≡ ws)
first_named [] [] v w vs ws p q same no_x no_y of_v of_w = (ap (λ t. get_or t 0 []) same, ap (λ t. drop 1 t) same)
first_named [] (y ∷ ys) v w vs ws p q same no_x no_y of_v of_w =
    absurd (All-head IsNoNameWord y ys no_y p (subst (λ t. IsFunctionNameWord t p) (ap (λ t. get_or t 0 []) same) of_v))
first_named (x ∷ xs) [] v w vs ws p q same no_x no_y of_v of_w =
    absurd (All-head IsNoNameWord x xs no_x q (subst (λ t. IsFunctionNameWord t q) (sym (ap (λ t. get_or t 0 []) same)) of_w))
first_named (x ∷ xs) (y ∷ ys) v w vs ws p q same no_x no_y of_v of_w =
    first_named xs ys v w vs ws p q (ap (λ t. drop 1 t) same) (All-tail IsNoNameWord x xs no_x) (All-tail IsNoNameWord y ys no_y) of_v of_w

-- some words of a line were looked at, others are left
pub record HasPassed (line : List ℕ) (left : List (List ℕ)) : Type 0 where
  pub done : List (List ℕ)
  pub parts : log_line_words line ≡ done ++ left
  pub none : All IsNoNameWord done

pub passed_none : (line : List ℕ) → HasPassed line (log_line_words line)
passed_none line = record { done = []; parts = refl; none = All-nil IsNoNameWord }

pub passed_more : (line word : List ℕ) (left rest : List (List ℕ)) → left ≡ word ∷ rest → IsNoNameWord word → HasPassed line left → HasPassed line rest
passed_more line word left rest first none passed = record {
  done = passed.done ++ word ∷ [];
  parts = passed.parts ∙ ap (λ l. passed.done ++ l) first ∙ sym (append_assoc passed.done (word ∷ []) rest);
  none = All-push IsNoNameWord passed.done word passed.none none;
}

pub said_there : (line word text : List ℕ) (left : List (List ℕ)) (p : FunctionPlace) → left ≡ word ∷ log_line_words text → IsFunctionNameWord word p → HasPassed line left → IsSaidOf line p text
said_there line word text left p first names passed = record {
  before = passed.done;
  word = word;
  parts = passed.parts ∙ ap (λ l. passed.done ++ l) first;
  none = passed.none;
  names = names;
}

-- what is said is one text
pub said_same : (line text other : List ℕ) (p q : FunctionPlace) (a : IsSaidOf line p text) (b : IsSaidOf line q other) → (b.word ≡ a.word) × (other ≡ text)
said_same line text other p q a b =
    let same = first_named b.before a.before b.word a.word (log_line_words other) (log_line_words text) q p (sym b.parts ∙ a.parts) b.none a.none b.names a.names in
    (same.0, words_same other text same.1)

pub said_only : (line word text : List ℕ) (left : List (List ℕ)) (p : FunctionPlace) (first : left ≡ word ∷ log_line_words text) (names : IsFunctionNameWord word p) (passed : HasPassed line left)
    → ((q : FunctionPlace) → IsFunctionNameWord word q → Some p ≡ Some q) → (q : FunctionPlace) (other : List ℕ) → IsSaidOf line q other → (q ≡ p) × (other ≡ text)
unfolding said_there
said_only line word text left p first names passed only q other is =
    let same = said_same line text other p q (said_there line word text left p first names passed) is in
    let place : Some p ≡ Some q = only q (subst (λ w. IsFunctionNameWord w q) same.0 is.names) in
    (sym (cc place), same.1)

-- nothing stands behind the first word that names a function
pub nothing_behind : (line word : List ℕ) (left : List (List ℕ)) (p : FunctionPlace) → left ≡ word ∷ [] → IsFunctionNameWord word p → HasPassed line left
    → (q : FunctionPlace) (other : List ℕ) → IsSaidOf line q other → ⊥
nothing_behind line word left p first names passed q other is =
    some_words other
    (first_named passed.done is.before word is.word [] (log_line_words other) p q (sym (passed.parts ∙ ap (λ l. passed.done ++ l) first) ∙ is.parts) passed.none is.none names is.names).1

-- no word names a function
pub nothing_left : (line : List ℕ) (left : List (List ℕ)) → left ≡ [] → HasPassed line left → (q : FunctionPlace) (other : List ℕ) → IsSaidOf line q other → ⊥
nothing_left line left none passed q other is =
    let whole : is.before ++ is.word ∷ log_line_words other ≡ passed.done =
    sym is.parts ∙ passed.parts ∙ ap (λ l. passed.done ++ l) none ∙ append-nil passed.done in
    let has : Contains passed.done is.word =
    subst (λ l. Contains l is.word) whole (Contains-append_right is.before (is.word ∷ log_line_words other) is.word (0, omega arith, refl)) in
    All-contains IsNoNameWord passed.done is.word passed.none has q is.names
