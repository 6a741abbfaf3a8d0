-- The words beside a function show each of its badges once.
use Rattle.std.proofs.Common.{◌≡◌, ◌≢◌, ◌<◌, ◌≤◌, ◌+◌, ◌-◌, ◌==◌, eqb, ℕ, Bool, true, false, List, [], ◌∷◌, ◌++◌, length, take, get_or, Option, Some, None, refl, sym, ap, subst, ◌∙◌, inl, inr, arith}
use Rattle.std.specs.List.{All, AllPairs, Contains, filter, flat_map}
use Rattle.std.specs.List.Sorted.{IsNonDecreasingBy}
use Rattle.std.specs.Option.{MatchOption, is_some, option_eq, unwrap_or}
use Rattle.std.proofs.lemmas.Grind.{flat_map-append}
use Rattle.std.proofs.lemmas.Bool.{both_ways, cases_eq, eq-eqb, eqb-true}
use Rattle.std.proofs.lemmas.List.{append-nil, append_assoc, get_or-take, get_or_default, length-take, take_all, take_more}
use Rattle.std.proofs.lemmas.List.Elements.{All-contains, All-filter, All-take, Contains-append_left, Contains-push, Contains-push_cases}
use Rattle.std.proofs.lemmas.List.Kept.{IsNonDecreasingBy-filter}
use Rattle.std.proofs.lemmas.List.Quantifiers.{all_pairs_push}
use Rattle.pci_picture.specs.Badges.{ShowBadges, badges_beside}
use Rattle.pci_picture.specs.Ranks.{badge_word, badge_words, bit_of, rank_of_badge}
use Rattle.pci_picture.specs.declared.badge.Badge.{Badge}
use Rattle.pci_picture.specs.declared.faults.Faults.{Faults}
use Rattle.pci_picture.proofs.Badges.{IsSmall, bit_small}

bit_same : (a b : Bool) → bit_of a ≡ bit_of b → a ≡ b
bit_same true true is = refl
bit_same false false is = refl
bit_same true false is = absurd (omega (arith, is))
bit_same false true is = absurd (omega (arith, is))

the_badge : ℕ → ℕ → Bool → Badge
the_badge slot number is_bridge = record { slot = slot; number = number; is_bridge = is_bridge }

-- two badges with one rank are the same
rank_same : (one other : Badge) → IsSmall one → IsSmall other → rank_of_badge one ≡ rank_of_badge other → one ≡ other
unfolding the_badge
rank_same one other small small' same =
    let low = bit_small one.is_bridge in
    let high = bit_small other.is_bridge in
    ap (λ n. the_badge n one.number one.is_bridge) (omega (arith, same, small, small', low, high))
    ∙ ap (λ n. the_badge other.slot n one.is_bridge) (omega (arith, same, small, small', low, high))
    ∙ ap (the_badge other.slot other.number) (bit_same one.is_bridge other.is_bridge (omega (arith, same, small, small', low, high)))

-- a rank is the greatest of some badges
pub record IsTop (gone : List Badge) (rank : ℕ) : Type 0 where
  pub last : Badge
  pub has : Contains gone last
  pub at : rank_of_badge last ≡ rank
  pub most : (badge : Badge) → Contains gone badge → rank_of_badge badge ≤ rank

-- some badges were shown of those that were gone through, of which the last one has a rank
pub record Shows (gone shown : List Badge) (before : Option ℕ) : Type 0 where
  pub rise : AllPairs (λ one other. rank_of_badge one < rank_of_badge other) shown
  pub to : (badge : Badge) → Contains shown badge → Contains gone badge
  pub from : (badge : Badge) → Contains gone badge → Contains shown badge
  pub top : MatchOption before (shown ≡ []) (λ rank. IsTop gone rank)

-- words show the badges of a list up to an index
pub record ShowUpTo (items : List Badge) (i : ℕ) (before : Option ℕ) (words : List ℕ) : Type 0 where
  pub shown : List Badge
  pub are : Shows (take i items) shown before
  pub says : words ≡ badge_words shown

pub none_shown : (items : List Badge) (words : List ℕ) → words ≡ [] → ShowUpTo items 0 None words
none_shown items words none = record {
  shown = [];
  are = record { rise = λ i j d less within. absurd (omega (arith, within)); to = λ badge has. has; from = λ badge has. has; top = refl };
  says = none;
}

-- what stands before the next number
abbrev pub gap_behind : Option ℕ → List ℕ
gap_behind None = []
gap_behind (Some rank) = 32 ∷ []

words_more : (before : Option ℕ) (gone shown : List Badge) (badge : Badge) → Shows gone shown before
    → badge_words shown ++ (gap_behind before ++ badge_word badge) ≡ badge_words (shown ++ badge ∷ [])
words_more None gone shown badge are =
    subst (λ l. badge_words l ++ badge_word badge ≡ badge_words (l ++ badge ∷ [])) (sym are.top) (sym (append-nil (badge_word badge)))
words_more (Some rank) gone [] badge are = absurd (let none = are.from are.top.last are.top.has in omega (arith, none.1))
words_more (Some rank) gone (x ∷ shown) badge are =
    let all = λ (bs : List Badge). flat_map (λ (b : Badge). 32 ∷ badge_word b) bs in
    append_assoc (badge_word x) (all shown) (32 ∷ badge_word badge)
    ∙ ap (λ l. badge_word x ++ (all shown ++ l)) (sym (append-nil (32 ∷ badge_word badge)))
    ∙ ap (λ l. badge_word x ++ l) (sym (flat_map-append (λ (b : Badge). 32 ∷ badge_word b) shown (badge ∷ [])))

module _ (items : List Badge) (small : All IsSmall items) (sorted : IsNonDecreasingBy (λ (badge : Badge). rank_of_badge badge) items) where
  earlier_is_less : (i : ℕ) (d badge : Badge) → i < length items → Contains (take i items) badge → rank_of_badge badge ≤ rank_of_badge (get_or items i d)
  earlier_is_less i d badge within (k, inside, at) =
      let long = length-take i items in
      let less : k < i = omega (arith, inside, long) in
      subst (λ b. rank_of_badge b ≤ rank_of_badge (get_or items i d)) (sym (get_or-take i items k badge less) ∙ at)
      (subst (λ b. rank_of_badge (get_or items k badge) ≤ rank_of_badge b) (get_or_default items i badge d within) (sorted k i badge (omega (arith, less)) within))

  is_small : (i : ℕ) (badge : Badge) → Contains (take i items) badge → IsSmall badge
  is_small i badge has = All-contains IsSmall (take i items) badge (All-take IsSmall i items small) has

  -- a badge that is the same as the one before it isn't shown again
  pub shown_again : (i : ℕ) (d : Badge) (words : List ℕ) → i < length items → ShowUpTo items i (Some (rank_of_badge (get_or items i d))) words
      → ShowUpTo items (i + 1) (Some (rank_of_badge (get_or items i d))) words
  shown_again i d words within before =
      let badge = get_or items i d in
      let more = take_more items i d within in
      let top = before.are.top in
      let same : top.last ≡ badge = rank_same top.last badge (is_small i top.last top.has) (small i d within) top.at in
      record {
        shown = before.shown;
        are = record {
          rise = before.are.rise;
          to = λ b has. subst (λ l. Contains l b) (sym more) (Contains-append_left (take i items) (badge ∷ []) b (before.are.to b has));
          from = λ b has. elim (Contains-push_cases (take i items) badge b (subst (λ l. Contains l b) more has)) [
            | inl old ↦ before.are.from b old
            | inr new ↦ subst (Contains before.shown) (same ∙ new) (before.are.from top.last top.has)
          ];
          top = record {
            last = top.last;
            has = subst (λ l. Contains l top.last) (sym more) (Contains-append_left (take i items) (badge ∷ []) top.last top.has);
            at = top.at;
            most = λ b has. elim (Contains-push_cases (take i items) badge b (subst (λ l. Contains l b) more has)) [
              | inl old ↦ top.most b old
              | inr new ↦ subst (λ x. rank_of_badge x ≤ rank_of_badge badge) new (omega arith)
            ];
          };
        };
        says = before.says;
      }

  -- every badge that was shown is before another one
  shown_less : (i : ℕ) (d badge : Badge) (before : Option ℕ) (shown : List Badge) → i < length items → Shows (take i items) shown before
      → before ≢ Some (rank_of_badge (get_or items i d)) → Contains shown badge → rank_of_badge badge < rank_of_badge (get_or items i d)
  shown_less i d badge None shown within are differ has = absurd (let none = are.top in let none_has : Contains [] badge = subst (λ l. Contains l badge) none has in omega (arith, none_has.1))
  shown_less i d badge (Some rank) shown within are differ has =
      let top = are.top in
      let least = earlier_is_less i d top.last within top.has in
      let most = top.most badge (are.to badge has) in
      let at = top.at in
      elim (cases_eq rank (rank_of_badge (get_or items i d))) [
        | inl same ↦ absurd (differ (ap Some same))
        | inr other ↦ omega (arith, least, most, at, other)
      ]

  -- another one is shown behind those before it
  pub shown_next : (i : ℕ) (d : Badge) (before : Option ℕ) (words new : List ℕ) → i < length items → before ≢ Some (rank_of_badge (get_or items i d))
      → new ≡ words ++ (gap_behind before ++ badge_word (get_or items i d)) → ShowUpTo items i before words
      → ShowUpTo items (i + 1) (Some (rank_of_badge (get_or items i d))) new
  shown_next i d before words new within differ adds old =
      let badge = get_or items i d in
      let more = take_more items i d within in
      record {
        shown = old.shown ++ badge ∷ [];
        are = record {
          rise = all_pairs_push (λ one other. rank_of_badge one < rank_of_badge other) old.shown badge old.are.rise
              (λ k e inside. shown_less i d (get_or old.shown k e) before old.shown within old.are differ (k, inside, get_or_default old.shown k (get_or old.shown k e) e inside));
          to = λ b has. elim (Contains-push_cases old.shown badge b has) [
            | inl was ↦ subst (λ l. Contains l b) (sym more) (Contains-append_left (take i items) (badge ∷ []) b (old.are.to b was))
            | inr new_one ↦ subst (λ l. Contains l b) (sym more) (subst (Contains (take i items ++ badge ∷ [])) new_one (Contains-push (take i items) badge))
          ];
          from = λ b has. elim (Contains-push_cases (take i items) badge b (subst (λ l. Contains l b) more has)) [
            | inl was ↦ Contains-append_left old.shown (badge ∷ []) b (old.are.from b was)
            | inr new_one ↦ subst (Contains (old.shown ++ badge ∷ [])) new_one (Contains-push old.shown badge)
          ];
          top = record {
            last = badge;
            has = subst (λ l. Contains l badge) (sym more) (Contains-push (take i items) badge);
            at = refl;
            most = λ b has. elim (Contains-push_cases (take i items) badge b (subst (λ l. Contains l b) more has)) [
              | inl was ↦ earlier_is_less i d b within was
              | inr new_one ↦ subst (λ x. rank_of_badge x ≤ rank_of_badge badge) new_one (omega arith)
            ];
          };
        };
        says = adds ∙ ap (λ w. w ++ (gap_behind before ++ badge_word badge)) old.says ∙ words_more before (take i items) old.shown badge old.are;
      }

pub all_shown : (items : List Badge) (i : ℕ) (before : Option ℕ) (words : List ℕ) → length items ≤ i → ShowUpTo items i before words → ShowBadges items words
all_shown items i before words end are = record {
  shown = are.shown;
  rise = are.are.rise;
  same = λ badge. (
    (λ has. subst (λ l. Contains l badge) (take_all i items end) (are.are.to badge has)),
    (λ has. are.are.from badge (subst (λ l. Contains l badge) (sym (take_all i items end)) has)),
  );
  says = are.says;
}

-- ---- the badges beside a function

pub beside_small : {A : Type 0} (faults : Faults A) (slot : ℕ) (items : List Badge) → items ≡ badges_beside faults slot → All IsSmall items
beside_small faults slot items are = subst (All IsSmall) (sym are) (All-filter (λ badge. badge.slot == slot) IsSmall faults.badges.items faults.small)

pub beside_sorted : {A : Type 0} (faults : Faults A) (slot : ℕ) (items : List Badge) → items ≡ badges_beside faults slot → IsNonDecreasingBy (λ (badge : Badge). rank_of_badge badge) items
beside_sorted faults slot items are =
    subst (IsNonDecreasingBy (λ (badge : Badge). rank_of_badge badge)) (sym are)
    (IsNonDecreasingBy-filter (λ badge. rank_of_badge badge) (λ badge. badge.slot == slot) faults.badges.items faults.ranked)

-- ---- the rank before a badge

pub same_before : (before : Option ℕ) (rank : ℕ) → option_eq eqb before (Some rank) ≡ true → before ≡ Some rank
same_before None rank is = cc
same_before (Some r) rank is = ap Some (eqb-true r rank is)

pub other_before : (before : Option ℕ) (rank : ℕ) → option_eq eqb before (Some rank) ≡ false → before ≢ Some rank
other_before None rank is same = cc
other_before (Some r) rank is same = both_ways (eqb r rank) is (eq-eqb r rank (omega (arith, ap (λ o. unwrap_or o 0) same)))

pub gap_there : (before : Option ℕ) → is_some before ≡ true → gap_behind before ≡ 32 ∷ []
gap_there None is = cc
gap_there (Some r) is = refl

pub no_gap : (before : Option ℕ) → is_some before ≡ false → gap_behind before ≡ []
no_gap None is = refl
no_gap (Some r) is = cc
