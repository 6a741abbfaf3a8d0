-- Lists of words: what is read of one, and that nothing else has its text.
use Rattle.std.proofs.Common.{◌≡◌, ◌≢◌, inl, inr, ℕ, zero, suc, ◌<◌, Bool, true, false, List, [], ◌∷◌, ◌++◌, length, get_or, Option, None, Some, Bor, refl, sym, ◌∙◌, ap, subst, codes, arith, nat_lt}
use Rattle.std.specs.Prelude.{◌↔◌, IsTrue, MatchOption, option_map, is_some}
use Rattle.std.specs.List.{AllPairs, Contains, list_all}
use Rattle.std.proofs.lemmas.Bool.{false≢true, and_parts, ltb-true}
use Rattle.std.proofs.lemmas.List.{append_assoc, length-append, get_or_append_left, get_or_at, get_or_default}
use Rattle.std.proofs.lemmas.List.Elements.{Contains-append_left, Contains-append_right, Contains-append_cases}
use Rattle.std.proofs.lemmas.List.Quantifiers.{all_pairs_push}
use Rattle.judge_spec.specs.Words.{VgaWord, Vga, Vga16}
use Rattle.judge_spec.specs.ModelWords.{Words, Name, Cardbus, Ide, Isa, Power, Reset, Snoop, Subtractive, Unclaimed, Unnumbered, Legacy, Windows, name_text, IsCounted, AreNames, no_words}
use Rattle.pci_model.specs.WordsValue.{vga_value, words_value}
use Rattle.pci_model.specs.declared.words.VgaWord.{VgaWord as DeclaredVga}
use Rattle.pci_model.specs.declared.words.Words as declared
use Rattle.pciplan_lists.specs.Joined.{AreJoined, rest_with_comma}
use Rattle.pciplan_lists.proofs.Joined.{IsRead, read_bad, read_more, read_all, read_only, read_none}
use Rattle.pciplan_lists.proofs.Without.{Without, without_one}
use Rattle.pciplan_lists.specs.ModelWords.{IsNameWord, IsWordList, IsModelWord}
use Rattle.pciplan_lists.specs.NameWords.{IsNameAdded, IsTooMuch}

-- ---- a name has no comma

no_comma : (text : List ℕ) → list_all (λ b. nat_lt 44 b) text ≡ true → Without 44 text
no_comma [] all = λ i inside. absurd (omega (arith, inside))
no_comma (x ∷ text) all =
    let parts = and_parts (nat_lt 44 x) (list_all (λ b. nat_lt 44 b) text) all in
    without_one 44 x text (λ same. omega (arith, same, ltb-true 44 x parts.0)) (no_comma text parts.1)

all_above : (n : Name) → list_all (λ b. nat_lt 44 b) (name_text n) ≡ true
all_above Cardbus = refl
all_above Ide = refl
all_above Isa = refl
all_above Power = refl
all_above Reset = refl
all_above Snoop = refl
all_above Subtractive = refl
all_above Unclaimed = refl
all_above Unnumbered = refl
all_above (Legacy Vga) = refl
all_above (Legacy Vga16) = refl
all_above Windows = refl

pub name_without_comma : (word : List ℕ) (n : Name) → IsNameWord word n → Without 44 word
name_without_comma word n is = subst (λ w. Without 44 w) (sym is) (no_comma (name_text n) (all_above n))

-- ---- words are told by what they count

same_flag : (a b : Bool) → (IsTrue a ↔ IsTrue b) → a ≡ b
same_flag true true h = refl
same_flag false false h = refl
same_flag true false h = sym (h.0 refl)
same_flag false true h = h.1 refl

same_vga : (a b : Option VgaWord) → ((v : VgaWord) → (a ≡ Some v) ↔ (b ≡ Some v)) → a ≡ b
same_vga None None h = refl
same_vga None (Some v) h = (h v).1 refl
same_vga (Some v) b h = sym ((h v).0 refl)

pub same_words : (w v : Words) → ((n : Name) → IsCounted w n ↔ IsCounted v n) → w ≡ v
same_words w v h = λ i. record {
  cardbus = same_flag w.cardbus v.cardbus (h Cardbus) i;
  ide = same_flag w.ide v.ide (h Ide) i;
  isa = same_flag w.isa v.isa (h Isa) i;
  power = same_flag w.power v.power (h Power) i;
  reset = same_flag w.reset v.reset (h Reset) i;
  snoop = same_flag w.snoop v.snoop (h Snoop) i;
  subtractive = same_flag w.subtractive v.subtractive (h Subtractive) i;
  unclaimed = same_flag w.unclaimed v.unclaimed (h Unclaimed) i;
  unnumbered = same_flag w.unnumbered v.unnumbered (h Unnumbered) i;
  vga = same_vga w.vga v.vga (λ x. h (Legacy x)) i;
  windows = same_flag w.windows v.windows (h Windows) i;
}

-- ---- what counts already can't be named again

pub counts_already : (w : Words) (n : Name) → IsCounted w n → IsTooMuch w n
counts_already w n is = record { other = n; counted = is; never = λ v a b. refl }

-- ---- one legacy word alone counts

vga_in : Option VgaWord → VgaWord
vga_in None = Vga
vga_in (Some v) = v

one_legacy : (w : Words) (x y : VgaWord) → IsCounted w (Legacy x) → IsCounted w (Legacy y) → Legacy x ≡ Legacy y
unfolding vga_in
one_legacy w x y is_x is_y = ap (λ o. Legacy (vga_in o)) (sym is_x ∙ is_y)

pub legacy_too_much : (w : Words) (vga : Option VgaWord) (y : VgaWord) → w.vga ≡ vga → is_some vga ≡ true → IsTooMuch w (Legacy y)
legacy_too_much w None y is some = absurd (false≢true some)
legacy_too_much w (Some x) y is some = record { other = Legacy x; counted = is; never = λ v a b. one_legacy v x y a b }

some_value : (vga : Option DeclaredVga) → is_some vga ≡ true → is_some (option_map vga_value vga) ≡ true
some_value None some = some
some_value (Some v) some = refl

pub code_too_much : (w : declared.Words) (y : VgaWord) → is_some w.vga ≡ true → IsTooMuch (words_value w) (Legacy y)
code_too_much w y some = legacy_too_much (words_value w) (option_map vga_value w.vga) y refl (some_value w.vga some)

-- ---- names that were read, and the words that count by them

nothing_counts : (n : Name) → IsCounted no_words n → ⊥
nothing_counts Cardbus is = false≢true is
nothing_counts Ide is = false≢true is
nothing_counts Isa is = false≢true is
nothing_counts Power is = false≢true is
nothing_counts Reset is = false≢true is
nothing_counts Snoop is = false≢true is
nothing_counts Subtractive is = false≢true is
nothing_counts Unclaimed is = false≢true is
nothing_counts Unnumbered is = false≢true is
nothing_counts (Legacy v) is = cc is
nothing_counts Windows is = false≢true is

none_counted : AreNames [] no_words
none_counted = record {
  once = λ i j d before inside. absurd (omega (arith, inside));
  counted = λ n. (λ has. absurd (omega (arith, has.1)), λ is. absurd (nothing_counts n is));
}

only_last : {n : Name} (m : Name) → Contains (n ∷ []) m → m ≡ n
only_last m (zero, inside, is) = sym is
only_last m (suc k, inside, is) = absurd (omega (arith, inside))

-- an element at an index is one, whatever stands for those that aren't there
at_index : (xs : List Name) (k : ℕ) (d x : Name) → k < length xs → get_or xs k d ≡ x → Contains xs x
at_index xs k d x inside is = (k, inside, get_or_default xs k x d inside ∙ is)

one_counted : (done : List Name) (w v : Words) (n : Name) → AreNames done w → IsNameAdded w v n → AreNames (done ++ n ∷ []) v
one_counted done w v n are added = record {
  once = all_pairs_push (λ m n. m ≢ n) done n are.once
      (λ k d inside same. added.fresh ((are.counted n).0 (at_index done k d n inside same)));
  counted = λ m. (
    λ has. (added.counted m).1 (elim (Contains-append_cases done (n ∷ []) m has) [
      | inl before ↦ inl ((are.counted m).0 before)
      | inr last ↦ inr (only_last m last)
    ]),
    λ is. elim ((added.counted m).0 is) [
      | inl before ↦ Contains-append_left done (n ∷ []) m ((are.counted m).1 before)
      | inr same ↦ Contains-append_right done (n ∷ []) m (subst (λ x. Contains (n ∷ []) x) (sym same) (0, omega arith, refl))
    ],
  );
}

-- the words by the names that were read so far
pub record IsTakenTo (whole text : List ℕ) (w : Words) : Type 0 where
  pub done : List Name
  pub read : IsRead IsNameWord name_without_comma whole text done
  pub are : AreNames done w

pub taken_none : (whole : List ℕ) → IsTakenTo whole whole no_words
taken_none whole = record { done = []; read = read_none IsNameWord name_without_comma whole; are = none_counted }

-- what a part of the list names, if anything
abbrev pub IsNamed : List ℕ → Option Name → Type 0
IsNamed word o = (n : Name) → (o ≡ Some n) ↔ (word ≡ name_text n)

name_in : Option Name → Name
name_in None = Ide
name_in (Some n) = n

only_name : (word : List ℕ) (o : Option Name) (n m : Name) → IsNamed word o → o ≡ Some n → IsNameWord word m → n ≡ m
unfolding name_in
only_name word o n m named is word_is = ap name_in (sym is ∙ (named m).1 word_is)

pub read_name : (whole text first : List ℕ) (left : Option (Bor (List ℕ))) (done : List Name) (o : Option Name) (n : Name)
    → IsRead IsNameWord name_without_comma whole text done → text ≡ 44 ∷ (first ++ rest_with_comma left) → Without 44 first
    → IsNamed first o → o ≡ Some n → IsRead IsNameWord name_without_comma whole (rest_with_comma left) (done ++ n ∷ [])
read_name whole text first left done o n read is none named named_is =
    read_more IsNameWord name_without_comma whole text first left done n read is none ((named n).0 named_is) (λ m. only_name first o n m named named_is)

-- one more
pub taken_more : (whole text first : List ℕ) (left : Option (Bor (List ℕ))) (o : Option Name) (n : Name) (w v : Words)
    → IsTakenTo whole text w → text ≡ 44 ∷ (first ++ rest_with_comma left) → Without 44 first → IsNamed first o → o ≡ Some n
    → IsNameAdded w v n → IsTakenTo whole (rest_with_comma left) v
taken_more whole text first left o n w v taken is none named named_is added = record {
  done = taken.done ++ n ∷ [];
  read = read_name whole text first left taken.done o n taken.read is none named named_is;
  are = one_counted taken.done w v n taken.are added;
}

-- a part that names nothing is in no list
pub no_name : (word text first : List ℕ) (left : Option (Bor (List ℕ))) (o : Option Name) (w : Words)
    → IsTakenTo (44 ∷ word) text w → text ≡ 44 ∷ (first ++ rest_with_comma left) → Without 44 first → IsNamed first o → o ≡ None
    → (v : Words) → IsWordList word v → ⊥
no_name word text first left o w taken is none named named_is v list =
    read_bad IsNameWord name_without_comma (44 ∷ word) text first left taken.done taken.read is none
    (λ n word_is. cc (named_is, (named n).1 word_is)) list.names list.joined

-- a name that was read stands twice where it comes again
twice : (names done more : List Name) (n : Name) → AllPairs (λ m n. m ≢ n) names → names ≡ (done ++ n ∷ []) ++ more → Contains done n → ⊥
twice names done more n once parts has =
    let pairs : AllPairs (λ m n. m ≢ n) (done ++ (n ∷ more)) = subst (λ l. AllPairs (λ m n. m ≢ n) l) (parts ∙ append_assoc done (n ∷ []) more) once in
    pairs has.0 (length done) n has.1 (omega (arith, length-append done (n ∷ more)))
    (get_or_append_left done (n ∷ more) n has.0 has.1 ∙ has.2 ∙ sym (get_or_at done n more n (length done) refl))

-- a name among those that were read is among those of each list with this text, and so is the next one behind it
not_once : (names done more : List Name) (w v : Words) (n : Name) → AreNames done w → AreNames names v → names ≡ (done ++ n ∷ []) ++ more
    → IsTooMuch w n → ⊥
not_once names done more w v n before are parts much =
    let has : Contains done much.other = (before.counted much.other).1 much.counted in
    let in_front : Contains (done ++ n ∷ []) much.other = Contains-append_left done (n ∷ []) much.other has in
    let other_in : Contains names much.other = subst (λ l. Contains l much.other) (sym parts) (Contains-append_left (done ++ n ∷ []) more much.other in_front) in
    let last_in : Contains names n = subst (λ l. Contains l n) (sym parts) (Contains-append_left (done ++ n ∷ []) more n (Contains-append_right done (n ∷ []) n (0, omega arith, refl))) in
    let same : much.other ≡ n = much.never v ((are.counted much.other).0 other_in) ((are.counted n).0 last_in) in
    twice names done more n are.once parts (subst (λ x. Contains done x) same has)

-- what would count twice is in no list
pub too_much : (word text first : List ℕ) (left : Option (Bor (List ℕ))) (o : Option Name) (n : Name) (w : Words)
    → IsTakenTo (44 ∷ word) text w → text ≡ 44 ∷ (first ++ rest_with_comma left) → Without 44 first → IsNamed first o → o ≡ Some n
    → IsTooMuch w n → (v : Words) → IsWordList word v → ⊥
too_much word text first left o n w taken is none named named_is much v list =
    let read = read_name (44 ∷ word) text first left taken.done o n taken.read is none named named_is in
    let rest = read.back list.names list.joined in
    not_once list.names taken.done rest.more w v n taken.are list.are rest.parts much

-- ---- the whole list

pub words_are : (word : List ℕ) (w : Words) → IsTakenTo (44 ∷ word) [] w → IsWordList word w
words_are word w taken = record { names = taken.done; joined = read_all IsNameWord name_without_comma word taken.done taken.read; are = taken.are }

both_ways_counted : (names : List Name) (w v : Words) → AreNames names w → AreNames names v → (n : Name) → IsCounted w n ↔ IsCounted v n
both_ways_counted names w v of_w of_v n = (λ is. (of_v.counted n).0 ((of_w.counted n).1 is), λ is. (of_w.counted n).0 ((of_v.counted n).1 is))

pub words_only : (word : List ℕ) (w : Words) → IsTakenTo (44 ∷ word) [] w → (v : Words) → IsWordList word v → w ≡ v
words_only word w taken v list =
    let same = read_only IsNameWord name_without_comma word taken.done taken.read list.names list.joined in
    same_words w v (both_ways_counted list.names w v (subst (λ l. AreNames l w) same taken.are) list.are)

-- ---- `all` is no list of words

-- each name has another first letter
first_letter : (n : Name) → get_or (name_text n) 0 0 ≢ 97
first_letter Cardbus = omega arith
first_letter Ide = omega arith
first_letter Isa = omega arith
first_letter Power = omega arith
first_letter Reset = omega arith
first_letter Snoop = omega arith
first_letter Subtractive = omega arith
first_letter Unclaimed = omega arith
first_letter Unnumbered = omega arith
first_letter (Legacy Vga) = omega arith
first_letter (Legacy Vga16) = omega arith
first_letter Windows = omega arith

some_letter : (n : Name) (rest : List ℕ) → get_or (name_text n ++ rest) 0 0 ≡ get_or (name_text n) 0 0
some_letter Cardbus rest = refl
some_letter Ide rest = refl
some_letter Isa rest = refl
some_letter Power rest = refl
some_letter Reset rest = refl
some_letter Snoop rest = refl
some_letter Subtractive rest = refl
some_letter Unclaimed rest = refl
some_letter Unnumbered rest = refl
some_letter (Legacy Vga) rest = refl
some_letter (Legacy Vga16) rest = refl
some_letter Windows rest = refl

no_all : (n : Name) (word rest : List ℕ) → IsNameWord word n → 44 ∷ codes "all" ≡ 44 ∷ (word ++ rest) → ⊥
no_all n word rest is parts =
    first_letter n (sym (some_letter n rest) ∙ ap (λ t. get_or (t ++ rest) 0 0) (sym is) ∙ ap (λ t. get_or t 1 0) (sym parts))

first_is_all : (names : List Name) (w : Words) → AreJoined IsNameWord (44 ∷ codes "all") names → ⊥
first_is_all [] w are = omega (arith, ap length are)
first_is_all (n ∷ names) w are = no_all n are.1.word are.0 are.1.is are.1.parts

pub not_all : (w : Words) → IsWordList (codes "all") w → ⊥
not_all w list = first_is_all list.names w list.joined

list_of : (list : List ℕ) (w : Words) → (list ≡ codes "all" → ⊥) → IsModelWord list w → IsWordList list w
list_of list w other (inl all) = absurd (other all.0)
list_of list w other (inr is) = is

-- a list that isn't `all` has just its own words
pub listed_alone : (list : List ℕ) (found : Option declared.Words) → (list ≡ codes "all" → ⊥)
    → MatchOption found ((w : Words) → IsWordList list w → ⊥) (λ words. IsWordList list (words_value words))
    → MatchOption found ((w : Words) → IsModelWord list w → ⊥) (λ words. IsModelWord list (words_value words))
listed_alone list None other none = λ w is. none w (list_of list w other is)
listed_alone list (Some words) other is = inr is
