-- What a bridge passes and forwards, by its windows and else.
use Rattle.std.proofs.Common.{◌≡◌, ℕ, zero, suc, ◌+◌, ◌<◌, ◌≤◌, ◌⊎◌, List, [], ◌∷◌, ◌++◌, length, get_or, take, map, Bool, true, false, ◌&&◌, ◌||◌, nat_le, inl, inr, arith, subst, sym, ◌∙◌, ap, refl}
use Rattle.std.specs.Prelude.{◌↔◌, ◌==◌, IsTrue}
use Rattle.std.specs.Option.{is_some}
use Rattle.std.specs.List.{All, list_any}
use Rattle.std.proofs.lemmas.Bool.{or_cases, and_parts, and_from, both_ways, leb-true, le-leb}
use Rattle.std.proofs.Math.Bool.{or-true}
use Rattle.std.proofs.lemmas.List.{take_all}
use Rattle.std.proofs.lemmas.List.Elements.{All-append, All-push}
use Rattle.pci_spec.specs.Slot.{Slot, same_slot}
use Rattle.pci_spec.specs.Window.{WindowKind}
use Rattle.pci_spec.specs.Decoded as decoded
use Rattle.pci_spec.specs.System.{Space, window_space}
use Rattle.pci_base.specs.declared.range.Range.{Range}
use Rattle.pci_base.specs.Ranges.{decoded_range_of}
use Rattle.pci_base.specs.Space.{is_on, kind_in}
use Rattle.pci_function.specs.declared.record.Record.{Record}
use Rattle.pci_tree.specs.Ranges.{Holds, Covers, IsCanonical}
use Rattle.judge_spec.specs.Given.{Given, ranges_of}
use Rattle.pci_claims.specs.declared.given.LegacyBridge.{LegacyBridge}
use Rattle.pci_claims.specs.declared.given.TakingBridge.{TakingBridge}
use Rattle.pci_claims.specs.declared.legacy.FixedPart.{FixedPart}
use Rattle.pci_claims.specs.declared.legacy.FixedPart.TheVariants.{Legacy, Palette}
use Rattle.pci_claims.specs.declared.passed.Through.{Through}
use Rattle.pci_claims.specs.Values.{legacy_value, taking_value}
use Rattle.pci_claims.specs.Gathered.{IsGathered, IsCommon, AreLawfulBehind}
use Rattle.pci_claims.specs.Legacy.{part_holds, bridges_with, ArePartPieces}
use Rattle.pci_claims.specs.Passed.{is_part_at, is_piece_at, is_taken_piece_at, ArePiecesOf, AreTakenPieces, ArePassedElse, part_claims, AreClaimedByPart, passes_else_of, window_passes, ArePassed, passes_with, AreForwarded, forwards_with, lets, AreLet, IsLetOn}
use Rattle.pci_claims.proofs.Gathering.{none_covered, more_covers}
use Rattle.pci_claims.proofs.Parts.{any_more}

-- ---- one list behind another

cons_to : (x : Range) (xs : List Range) (a : ℕ) → Covers (x ∷ xs) a → Holds x a ⊎ Covers xs a
cons_to x xs a (zero, r, within, at, held) = inl (subst (λ (y : Range). Holds y a) (sym at) held)
cons_to x xs a (suc k, r, within, at, held) = inr (k, r, omega (arith, within), at, held)

cons_from : (x : Range) (xs : List Range) (a : ℕ) → Holds x a ⊎ Covers xs a → Covers (x ∷ xs) a
cons_from x xs a (inl held) = (0, x, omega arith, refl, held)
cons_from x xs a (inr (k, r, within, at, held)) = (suc k, r, omega (arith, within), at, held)

pub append_to : (xs ys : List Range) (a : ℕ) → Covers (xs ++ ys) a → Covers xs a ⊎ Covers ys a
append_to [] ys a h = inr h
append_to (x ∷ xs) ys a h = elim (cons_to x (xs ++ ys) a h) [
  | inl held ↦ inl (cons_from x xs a (inl held))
  | inr rest ↦ elim (append_to xs ys a rest) [ inl left ↦ inl (cons_from x xs a (inr left)) | inr right ↦ inr right ]
]

pub append_from : (xs ys : List Range) (a : ℕ) → Covers xs a ⊎ Covers ys a → Covers (xs ++ ys) a
append_from [] ys a (inl h) = absurd (none_covered a h)
append_from [] ys a (inr h) = h
append_from (x ∷ xs) ys a (inl h) = elim (cons_to x xs a h) [
  | inl held ↦ cons_from x (xs ++ ys) a (inl held)
  | inr rest ↦ cons_from x (xs ++ ys) a (inr (append_from xs ys a (inl rest)))
]
append_from (x ∷ xs) ys a (inr h) = cons_from x (xs ++ ys) a (inr (append_from xs ys a (inr h)))

-- ---- the parts of a slot

and_both : (a b c : Bool) → (a && b && c) ≡ (a && (b && c))
and_both true b c = refl
and_both false b c = refl

pub same_of : (s t : Slot) (b : Bool) → (s.bus == t.bus && (s.device == t.device && s.function == t.function)) ≡ b → same_slot s t ≡ b
same_of s t b e = and_both (s.bus == t.bus) (s.device == t.device) (s.function == t.function) ∙ e

module _ (part : FixedPart) where
  pub no_pieces : (slot : Slot) (space : Space) → ArePiecesOf part [] slot space []
  no_pieces slot space = record {
    lawful = λ k d less. absurd (omega (arith, less));
    exact = λ a. (λ (h : Covers [] a). absurd (none_covered a h), λ (h : false ≡ true). absurd cc);
  }

  pub pieces_more : (entries : List LegacyBridge) (i : ℕ) (e : LegacyBridge) (slot : Slot) (space : Space) (out more new : List Range) → ArePiecesOf part (take i entries) slot space out
      → i < length entries → e ≡ get_or entries i e → same_slot e.slot slot ≡ true → ArePartPieces part e.is_wide space more → new ≡ out ++ more → ArePiecesOf part (take (i + 1) entries) slot space new
  pieces_more entries i e slot space out more new is within at same pieces grown = subst (λ xs. ArePiecesOf part (take (i + 1) entries) slot space xs) (sym grown) record {
    lawful = All-append (λ r. r.first ≤ r.last) out more is.lawful pieces.canonical.each;
    exact = λ a. (
      λ (h : Covers (out ++ more) a). (any_more (is_part_at part slot space a) legacy_value entries i e within at).1 (elim (append_to out more a h) [
        | inl before ↦ inl ((is.exact a).0 before)
        | inr here ↦ inr (and_from (same_slot e.slot slot) (part_holds part e.is_wide space a) same ((pieces.exact a).0 here))
      ]),
      λ (h : IsTrue (list_any (is_part_at part slot space a) (map legacy_value (take (i + 1) entries)))). append_from out more a
          (elim ((any_more (is_part_at part slot space a) legacy_value entries i e within at).0 h) [
            | inl before ↦ inl ((is.exact a).1 before)
            | inr here ↦ inr ((pieces.exact a).1 (and_parts (same_slot e.slot slot) (part_holds part e.is_wide space a) here).1)
          ]),
    );
  }

  pub pieces_less : (entries : List LegacyBridge) (i : ℕ) (e : LegacyBridge) (slot : Slot) (space : Space) (out : List Range) → ArePiecesOf part (take i entries) slot space out
      → i < length entries → e ≡ get_or entries i e → same_slot e.slot slot ≡ false → ArePiecesOf part (take (i + 1) entries) slot space out
  pieces_less entries i e slot space out is within at other = record {
    lawful = is.lawful;
    exact = λ a. (
      λ (h : Covers out a). (any_more (is_part_at part slot space a) legacy_value entries i e within at).1 (inl ((is.exact a).0 h)),
      λ (h : IsTrue (list_any (is_part_at part slot space a) (map legacy_value (take (i + 1) entries)))).
          elim ((any_more (is_part_at part slot space a) legacy_value entries i e within at).0 h) [
            | inl before ↦ (is.exact a).1 before
            | inr here ↦ absurd (both_ways _ other (and_parts (same_slot e.slot slot) (part_holds part e.is_wide space a) here).0)
          ],
    );
  }

  -- what such parts of a bridge claim
  pub part_on : (given : Given) (space : Space) (r : Record) (entries : List LegacyBridge) (pieces out : List Range) → map legacy_value entries ≡ bridges_with given part
      → (is_some r.bridge && is_on r.command space) ≡ true → ArePiecesOf part entries r.slot space pieces → IsGathered pieces out → AreClaimedByPart given part space r out
  part_on given space r entries pieces out said on are is = record {
    canonical = is.canonical;
    exact = λ a. (
      λ (h : Covers out a). and_from (is_some r.bridge && is_on r.command space) (list_any (is_part_at part r.slot space a) (bridges_with given part)) on
          (subst (λ xs. IsTrue (list_any (is_part_at part r.slot space a) xs)) said ((are.exact a).0 ((is.exact a).0 h))),
      λ (h : IsTrue (part_claims given part space a r)). (is.exact a).1 ((are.exact a).1 (subst (λ xs. IsTrue (list_any (is_part_at part r.slot space a) xs)) (sym said)
          (and_parts (is_some r.bridge && is_on r.command space) (list_any (is_part_at part r.slot space a) (bridges_with given part)) h).1)),
    );
  }

  pub part_off : (given : Given) (space : Space) (r : Record) (out : List Range) → (is_some r.bridge && is_on r.command space) ≡ false → out ≡ [] → AreClaimedByPart given part space r out
  part_off given space r out off e = subst (λ xs. AreClaimedByPart given part space r xs) (sym e) record {
    canonical = record { each = λ k d less. absurd (omega (arith, less)); apart = λ j k d up less. absurd (omega (arith, less)) };
    exact = λ a. (
      λ (h : Covers [] a). absurd (none_covered a h),
      λ (h : IsTrue (part_claims given part space a r)). absurd (both_ways _ off (and_parts (is_some r.bridge && is_on r.command space) (list_any (is_part_at part r.slot space a) (bridges_with given part)) h).0),
    );
  }

-- ---- ranges that are not empty, behind others

pub one_holds : (r : Range) (a : ℕ) → Covers (r ∷ []) a → Holds r a
one_holds r a h = elim (cons_to r [] a h) [ inl held ↦ held | inr none ↦ absurd (none_covered a none) ]

pub none_behind : (before : List Range) → AreLawfulBehind before [] before
none_behind before = record {
  lawful = λ all. all;
  exact = λ a. (λ (h : Covers before a). inl h, λ (h : Covers before a ⊎ Covers [] a). elim h [ inl c ↦ c | inr none ↦ absurd (none_covered a none) ]);
}

pub one_behind : (before rs : List Range) (i : ℕ) (r : Range) (out new : List Range) → AreLawfulBehind before (take i rs) out → i < length rs → r ≡ get_or rs i r → r.first ≤ r.last → new ≡ out ++ r ∷ []
    → AreLawfulBehind before (take (i + 1) rs) new
one_behind before rs i r out new is within at lawful e = subst (λ xs. AreLawfulBehind before (take (i + 1) rs) xs) (sym e) record {
  lawful = λ all. All-push (λ r. r.first ≤ r.last) out r (is.lawful all) lawful;
  exact = λ a. (
    λ (h : Covers (out ++ r ∷ []) a). elim (append_to out (r ∷ []) a h) [
      | inl c ↦ elim ((is.exact a).0 c) [ inl first ↦ inl first | inr later ↦ inr ((more_covers rs i r within at a).1 (inl later)) ]
      | inr one ↦ inr ((more_covers rs i r within at a).1 (inr (one_holds r a one)))
    ],
    λ (h : Covers before a ⊎ Covers (take (i + 1) rs) a). append_from out (r ∷ []) a (elim h [
      | inl first ↦ inl ((is.exact a).1 (inl first))
      | inr later ↦ elim ((more_covers rs i r within at a).0 later) [
        | inl c ↦ inl ((is.exact a).1 (inr c))
        | inr held ↦ inr (cons_from r [] a (inl held))
      ]
    ]),
  );
}

pub empty_behind : (before rs : List Range) (i : ℕ) (r : Range) (out : List Range) → AreLawfulBehind before (take i rs) out → i < length rs → r ≡ get_or rs i r → (r.first ≤ r.last → ⊥)
    → AreLawfulBehind before (take (i + 1) rs) out
empty_behind before rs i r out is within at empty = record {
  lawful = is.lawful;
  exact = λ a. (
    λ (h : Covers out a). elim ((is.exact a).0 h) [ inl first ↦ inl first | inr later ↦ inr ((more_covers rs i r within at a).1 (inl later)) ],
    λ (h : Covers before a ⊎ Covers (take (i + 1) rs) a). (is.exact a).1 (elim h [
      | inl first ↦ inl first
      | inr later ↦ elim ((more_covers rs i r within at a).0 later) [
        | inl c ↦ inr c
        | inr held ↦ absurd (let low = held.0 in let high = held.1 in empty (omega (arith, low, high)))
      ]
    ]),
  );
}

pub all_behind : (before rs : List Range) (n : ℕ) (out : List Range) → length rs ≤ n → AreLawfulBehind before (take n rs) out → AreLawfulBehind before rs out
all_behind before rs n out end is = subst (λ xs. AreLawfulBehind before xs out) (take_all n rs end) is

-- ---- what a bridge takes as nobody claims it

covers_to_any : (rs : List Range) (a : ℕ) → Covers rs a → IsTrue (list_any (λ r. nat_le r.first a && nat_le a r.last) (map decoded_range_of rs))
covers_to_any [] a h = absurd (none_covered a h)
covers_to_any (r ∷ rs) a h = elim (cons_to r rs a h) [
  | inl held ↦ ap (λ b. b || list_any (λ r. nat_le r.first a && nat_le a r.last) (map decoded_range_of rs)) (and_from (nat_le r.first a) (nat_le a r.last) (le-leb _ _ held.0) (le-leb _ _ held.1))
  | inr later ↦ ap (λ b. (nat_le r.first a && nat_le a r.last) || b) (covers_to_any rs a later) ∙ or-true _
]

any_to_covers : (rs : List Range) (a : ℕ) → IsTrue (list_any (λ r. nat_le r.first a && nat_le a r.last) (map decoded_range_of rs)) → Covers rs a
any_to_covers [] a h = let e : false ≡ true = h in absurd cc
any_to_covers (r ∷ rs) a h = cons_from r rs a (elim (or_cases (nat_le r.first a && nat_le a r.last) (list_any (λ r. nat_le r.first a && nat_le a r.last) (map decoded_range_of rs)) h) [
  | inl here ↦ (let parts = and_parts (nat_le r.first a) (nat_le a r.last) here in inl (leb-true _ _ parts.0, leb-true _ _ parts.1))
  | inr later ↦ inr (any_to_covers rs a later)
])

pub no_taken : (slot : Slot) (space : Space) → AreTakenPieces [] slot space []
no_taken slot space = record {
  lawful = λ k d less. absurd (omega (arith, less));
  exact = λ a. (λ (h : Covers [] a). absurd (none_covered a h), λ (h : false ≡ true). absurd cc);
}

abbrev has_address : ℕ → List decoded.Range → Bool
has_address a rs = list_any (λ r. nat_le r.first a && nat_le a r.last) rs

pub taken_more : (entries : List TakingBridge) (i : ℕ) (e : TakingBridge) (slot : Slot) (space : Space) (out ranges new : List Range) → AreTakenPieces (take i entries) slot space out
    → i < length entries → e ≡ get_or entries i e → same_slot e.slot slot ≡ true → map decoded_range_of ranges ≡ ranges_of (taking_value e) space → AreLawfulBehind out ranges new
    → AreTakenPieces (take (i + 1) entries) slot space new
taken_more entries i e slot space out ranges new is within at same its grown = record {
  lawful = grown.lawful is.lawful;
  exact = λ a. (
    λ (h : Covers new a). (any_more (is_taken_piece_at slot space a) taking_value entries i e within at).1 (elim ((grown.exact a).0 h) [
      | inl before ↦ inl ((is.exact a).0 before)
      | inr here ↦ inr (and_from (same_slot e.slot slot) (has_address a (ranges_of (taking_value e) space)) same (subst (λ xs. IsTrue (has_address a xs)) its (covers_to_any ranges a here)))
    ]),
    λ (h : IsTrue (list_any (is_taken_piece_at slot space a) (map taking_value (take (i + 1) entries)))). (grown.exact a).1
        (elim ((any_more (is_taken_piece_at slot space a) taking_value entries i e within at).0 h) [
          | inl before ↦ inl ((is.exact a).1 before)
          | inr here ↦ inr (any_to_covers ranges a (subst (λ xs. IsTrue (has_address a xs)) (sym its) (and_parts (same_slot e.slot slot) (has_address a (ranges_of (taking_value e) space)) here).1))
        ]),
  );
}

pub taken_less : (entries : List TakingBridge) (i : ℕ) (e : TakingBridge) (slot : Slot) (space : Space) (out : List Range) → AreTakenPieces (take i entries) slot space out
    → i < length entries → e ≡ get_or entries i e → same_slot e.slot slot ≡ false → AreTakenPieces (take (i + 1) entries) slot space out
taken_less entries i e slot space out is within at other = record {
  lawful = is.lawful;
  exact = λ a. (
    λ (h : Covers out a). (any_more (is_taken_piece_at slot space a) taking_value entries i e within at).1 (inl ((is.exact a).0 h)),
    λ (h : IsTrue (list_any (is_taken_piece_at slot space a) (map taking_value (take (i + 1) entries)))).
        elim ((any_more (is_taken_piece_at slot space a) taking_value entries i e within at).0 h) [
          | inl before ↦ (is.exact a).1 before
          | inr here ↦ absurd (both_ways _ other (and_parts (same_slot e.slot slot) (has_address a (ranges_of (taking_value e) space)) here).0)
        ],
  );
}

pub all_taken : (entries : List TakingBridge) (n : ℕ) (slot : Slot) (space : Space) (out : List Range) → length entries ≤ n → AreTakenPieces (take n entries) slot space out → AreTakenPieces entries slot space out
all_taken entries n slot space out end is = subst (λ xs. AreTakenPieces xs slot space out) (take_all n entries end) is

-- ---- what is passed else than by windows

pub else_of : (given : Given) (slot : Slot) (space : Space) (legacy : List LegacyBridge) (unclaimed : List TakingBridge) (pieces taken out : List Range) → given.legacy ≡ map legacy_value legacy
    → given.unclaimed ≡ map taking_value unclaimed → ArePiecesOf Legacy legacy slot space pieces → AreTakenPieces unclaimed slot space taken → out ≡ pieces ++ taken → ArePassedElse given slot space out
else_of given slot space legacy unclaimed pieces taken out said also are takes e = subst (λ xs. ArePassedElse given slot space xs) (sym e) record {
  lawful = All-append (λ r. r.first ≤ r.last) pieces taken are.lawful takes.lawful;
  exact = λ a. (
    λ (h : Covers (pieces ++ taken) a). elim (append_to pieces taken a h) [
      | inl piece ↦ ap (λ b. b || list_any (is_taken_piece_at slot space a) given.unclaimed)
          (subst (λ xs. IsTrue (list_any (is_piece_at slot space a) xs)) (sym said) ((are.exact a).0 piece))
      | inr taken_one ↦ ap (λ b. list_any (is_piece_at slot space a) given.legacy || b)
          (subst (λ xs. IsTrue (list_any (is_taken_piece_at slot space a) xs)) (sym also) ((takes.exact a).0 taken_one)) ∙ or-true _
    ],
    λ (h : IsTrue (list_any (is_piece_at slot space a) given.legacy || list_any (is_taken_piece_at slot space a) given.unclaimed)). append_from pieces taken a
        (elim (or_cases (list_any (is_piece_at slot space a) given.legacy) (list_any (is_taken_piece_at slot space a) given.unclaimed) h) [
          | inl piece ↦ inl ((are.exact a).1 (subst (λ xs. IsTrue (list_any (is_piece_at slot space a) xs)) said piece))
          | inr taken_one ↦ inr ((takes.exact a).1 (subst (λ xs. IsTrue (list_any (is_taken_piece_at slot space a) xs)) also taken_one))
        ]),
  );
}

both_on : (on one other : Bool) → on ≡ true → ((on && one) || (on && other)) ≡ (one || other)
both_on true one other e = refl
both_on false one other e = absurd cc

both_off : (on one other : Bool) → on ≡ false → ((on && one) || (on && other)) ≡ false
both_off true one other e = absurd cc
both_off false one other e = refl

-- ---- windows and the rest together

module _ (given : Given) (kind : WindowKind) (r : Record) (windows : List Range) (canonical : IsCanonical windows)
    (exact : (a : ℕ) → Covers windows a ↔ IsTrue (window_passes given kind a r)) where
  abbrev piece_at : ℕ → Bool
  piece_at a = list_any (is_piece_at r.slot (window_space kind) a) given.legacy

  abbrev taken_at : ℕ → Bool
  taken_at a = list_any (is_taken_piece_at r.slot (window_space kind) a) given.unclaimed

  pub lawful_both : (more both : List Range) (space : Space) → ArePassedElse given r.slot space more → both ≡ windows ++ more → All (λ r. r.first ≤ r.last) both
  lawful_both more both space are e = subst (λ xs. All (λ r. r.first ≤ r.last) xs) (sym e) (All-append (λ r. r.first ≤ r.last) windows more canonical.each are.lawful)

  pub passed_both : (more both out : List Range) → (is_some r.bridge && is_on r.command (window_space kind)) ≡ true → ArePassedElse given r.slot (window_space kind) more
      → both ≡ windows ++ more → IsGathered both out → ArePassed given kind r out
  passed_both more both out on are e is =
      let same : (a : ℕ) → passes_else_of given (window_space kind) a r ≡ (piece_at a || taken_at a) = λ a. both_on (is_some r.bridge && is_on r.command (window_space kind)) (piece_at a) (taken_at a) on in
      record {
        canonical = is.canonical;
        exact = λ a. (
          λ (h : Covers out a). elim (append_to windows more a (subst (λ xs. Covers xs a) e ((is.exact a).0 h))) [
            | inl window ↦ ap (λ b. b || passes_else_of given (window_space kind) a r) ((exact a).0 window)
            | inr piece ↦ ap (λ b. window_passes given kind a r || b) (same a ∙ (are.exact a).0 piece) ∙ or-true _
          ],
          λ (h : IsTrue (window_passes given kind a r || passes_else_of given (window_space kind) a r)). (is.exact a).1 (subst (λ xs. Covers xs a) (sym e)
              (append_from windows more a (elim (or_cases (window_passes given kind a r) (passes_else_of given (window_space kind) a r) h) [
                | inl window ↦ inl ((exact a).1 window)
                | inr piece ↦ inr ((are.exact a).1 (sym (same a) ∙ piece))
              ]))),
        );
      }

  -- where Command doesn't enable the space
  pub passed_windows : (both out : List Range) → (is_some r.bridge && is_on r.command (window_space kind)) ≡ false → both ≡ windows → IsGathered both out → ArePassed given kind r out
  passed_windows both out off e is =
      let none : (a : ℕ) → passes_else_of given (window_space kind) a r ≡ false = λ a. both_off (is_some r.bridge && is_on r.command (window_space kind)) (piece_at a) (taken_at a) off in
      record {
        canonical = is.canonical;
        exact = λ a. (
          λ (h : Covers out a). ap (λ b. b || passes_else_of given (window_space kind) a r) ((exact a).0 (subst (λ xs. Covers xs a) e ((is.exact a).0 h))),
          λ (h : IsTrue (window_passes given kind a r || passes_else_of given (window_space kind) a r)). (is.exact a).1 (subst (λ xs. Covers xs a) (sym e)
              (elim (or_cases (window_passes given kind a r) (passes_else_of given (window_space kind) a r) h) [
                | inl window ↦ (exact a).1 window
                | inr piece ↦ absurd (both_ways _ (none a) piece)
              ])),
        );
      }

-- ---- what is forwarded

module _ (given : Given) (space : Space) (r : Record) (passed palette : List Range) (are : ArePassed given (kind_in space true) r passed) (claim : AreClaimedByPart given Palette space r palette) where
  pub lawful_forwarded : (both : List Range) → both ≡ passed ++ palette → All (λ r. r.first ≤ r.last) both
  lawful_forwarded both e = subst (λ xs. All (λ r. r.first ≤ r.last) xs) (sym e) (All-append (λ r. r.first ≤ r.last) passed palette are.canonical.each claim.canonical.each)

  either : (a : ℕ) → (Covers passed a ⊎ Covers palette a) ↔ IsTrue (forwards_with given space a r)
  either a = (
    λ (h : Covers passed a ⊎ Covers palette a). elim h [
      | inl pass ↦ ap (λ b. b || part_claims given Palette space a r) ((are.exact a).0 pass)
      | inr port ↦ ap (λ b. passes_with given (kind_in space true) a r || b) ((claim.exact a).0 port) ∙ or-true _
    ],
    λ (h : IsTrue (forwards_with given space a r)). elim (or_cases (passes_with given (kind_in space true) a r) (part_claims given Palette space a r) h) [
      | inl pass ↦ inl ((are.exact a).1 pass)
      | inr port ↦ inr ((claim.exact a).1 port)
    ],
  )

  pub forwarded_both : (both out : List Range) → both ≡ passed ++ palette → IsGathered both out → AreForwarded given space r out
  forwarded_both both out e is = record {
    canonical = is.canonical;
    exact = λ a. (
      λ (h : Covers out a). (either a).0 (append_to passed palette a (subst (λ xs. Covers xs a) e ((is.exact a).0 h))),
      λ (h : IsTrue (forwards_with given space a r)). (is.exact a).1 (subst (λ xs. Covers xs a) (sym e) (append_from passed palette a ((either a).1 h))),
    );
  }

  -- without ports of a palette
  pub forwarded_alone : palette ≡ [] → AreForwarded given space r passed
  forwarded_alone none = record {
    canonical = are.canonical;
    exact = λ a. (
      λ (h : Covers passed a). (either a).0 (inl h),
      λ (h : IsTrue (forwards_with given space a r)). elim ((either a).1 h) [
        | inl pass ↦ pass
        | inr port ↦ absurd (none_covered a (subst (λ xs. Covers xs a) none port))
      ],
    );
  }

-- ---- what goes through

-- the part of some ranges
pub let_on : (given : Given) (through : Through) (r : Record) (above here out : List Range) → AreLet given through r here → IsCommon above here out → IsLetOn given through above r out
let_on given through r above here out are is = record {
  canonical = is.canonical;
  exact = λ a. (
    λ (h : Covers out a). (let both = (is.exact a).0 h in (both.0, (are.exact a).0 both.1)),
    λ (h : Covers above a × IsTrue (lets given through a r)). (is.exact a).1 (h.0, (are.exact a).1 h.1),
  );
}
