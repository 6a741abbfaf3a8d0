-- Functions that answer told ranges, by the flags of these.
use Rattle.std.proofs.Common.{◌≡◌, ℕ, ◌+◌, ◌<◌, ◌≤◌, inl, inr, List, length, get_or, Bool, true, false, ◌&&◌, arith, refl, sym, ◌∙◌, ap, subst, Some}
use Rattle.std.specs.List.{AllWithin, list_any, range_with_len, slice_get}
use Rattle.std.proofs.lemmas.Bool.{cases_Bool, cases_lt, and_parts, and_from, both_ways, false_from_ne_true}
use Rattle.std.proofs.lemmas.List.{get_or_read}
use Rattle.std.proofs.lemmas.Option.{slice_get_within, slice_get-get_or, get_or_from_slice_get}
use Rattle.pci_spec.specs.Slot.{Slot, IsSlot, same_slot, slot_number}
use Rattle.pci_spec.specs.System.{System, Function, Space}
use Rattle.pci_spec.proofs.Members.{in_range_to, in_range_from}
use Rattle.pci_spec.proofs.Regions.{slot_number-same}
use Rattle.pci_spec.proofs.SameSlot.{slot_itself, slots_same}
use Rattle.plan_spec.proofs.Planning.Behind.{any_gives, any_from}
use Rattle.judge_spec.specs.Told.{ToldRange, IsTold}
use Rattle.judge_spec.specs.ToldForm.{blank}
use Rattle.judge_spec.specs.ToldClaims.{told_register}
use Rattle.judge_spec.specs.ToldRegion.{ToldRegion, told_regions}
use Rattle.judge_spec.proofs.ToldNumbering.{regions_are_numbered}
use Rattle.settle_spec.specs.Lists.{Request}
use Rattle.settle_spec.specs.Lines.{is_command_line}
use Rattle.settle_spec.specs.Parts.{are_same_space}
use Rattle.settle_spec.specs.Stands.{range_stands}
use Rattle.settle_spec.specs.Registers.{is_answered_by}
use Rattle.pci_settle_places.specs.Answers.{is_command_in, is_answer, is_answer_at, is_answering, AreFlagsOfTold}

module _ (ranges : List ToldRange) (standing : List Bool) (space : Space) (slot : Slot) where
  abbrev at : ℕ → Bool
  at n = is_answer_at ranges standing space slot n

  -- none of the first ranges is one of them
  abbrev pub HasNoneTo : ℕ → Type 0
  HasNoneTo n = (k : ℕ) → k < n → at k ≡ false

  other_slot : (k : ℕ) → (slot_number (get_or ranges k blank).slot ≡ slot_number slot → ⊥) → at k ≡ false
  other_slot k differ = false_from_ne_true (at k) (λ is.
      differ (ap slot_number (slots_same (get_or ranges k blank).slot slot (and_parts (same_slot (get_or ranges k blank).slot slot) (get_or standing k false && is_command_in space (get_or ranges k blank)) is).0)))

  pub none_below : (n : ℕ) → n ≤ length ranges → AllWithin (λ r. slot_number r.slot < slot_number slot) ranges 0 n → HasNoneTo n
  none_below n bound before k less = other_slot k (λ same. (let low = before k blank (omega arith) less in let no : ⊥ = omega (arith, low, same) in no))

  pub none_next : (n : ℕ) → HasNoneTo n → at n ≡ false → HasNoneTo (n + 1)
  none_next n none off k less = elim (cases_lt k n) [
    | inl earlier ↦ none k earlier
    | inr past ↦ let same : n ≡ k = omega (arith, less, past) in subst (λ m. at m ≡ false) same off
  ]

  -- where one is of a higher slot, the rest is, too
  pub none_after : (n : ℕ) (r : ToldRange) → IsTold ranges → IsSlot slot → n < length ranges → r ≡ get_or ranges n r → AllWithin (λ x. slot_number slot ≤ slot_number x.slot) ranges n (length ranges) → (r.slot ≡ slot → ⊥)
      → HasNoneTo n → HasNoneTo (length ranges)
  none_after n r told is_slot within is after other none k less = elim (cases_lt k n) [
    | inl earlier ↦ none k earlier
    | inr from ↦ other_slot k (λ same.
        let low : slot_number slot ≤ slot_number r.slot = subst (λ (x : ToldRange). slot_number slot ≤ slot_number x.slot) (sym is) (after n r (omega arith) within) in
        let up : slot_number (get_or ranges n blank).slot ≤ slot_number (get_or ranges k blank).slot = told.order n k blank from less in
        let here : slot_number r.slot ≡ slot_number (get_or ranges n blank).slot = ap (λ (x : ToldRange). slot_number x.slot) (get_or_read ranges n r within is blank) in
        other (slot_number-same r.slot slot (subst (λ (x : ToldRange). IsSlot x.slot) (sym is) (told.each n r within).line.slot) is_slot (let e : slot_number r.slot ≡ slot_number slot = omega (arith, low, up, here, same) in e)))
  ]

  pub none_answers : (n : ℕ) → length ranges ≤ n → HasNoneTo n → false ≡ is_answering ranges standing space slot
  none_answers n past none = sym (false_from_ne_true (is_answering ranges standing space slot) (λ is.
      let found = any_gives at (range_with_len 0 (length ranges)) is in
      let low = (in_range_to 0 (length ranges) found.x found.listed).1 in
      both_ways (at found.x) (none found.x (omega (arith, low, past))) found.is))

  pub one_answers : (n : ℕ) → n < length ranges → at n ≡ true → true ≡ is_answering ranges standing space slot
  one_answers n within is = sym (any_from at (range_with_len 0 (length ranges)) n (in_range_from 0 (length ranges) n (omega arith) (omega (arith, within))) is)

  -- ---- one range

  module _ (n : ℕ) (within : n < length ranges) (r : ToldRange) (is : r ≡ get_or ranges n r) (here : r.slot ≡ slot) (stands : Bool) (stands_is : stands ≡ get_or standing n false) where
    read : is_answer space slot r stands ≡ at n
    read =
        ap (λ (x : ToldRange). is_answer space slot x stands) (get_or_read ranges n r within is blank)
        ∙ ap (is_answer space slot (get_or ranges n blank)) stands_is

    same : same_slot r.slot slot ≡ true
    same = subst (λ x. same_slot r.slot x ≡ true) here (slot_itself r.slot)

    pub answers_here : stands ≡ true → is_command_in space r ≡ true → at n ≡ true
    answers_here on command = sym read ∙ and_from (same_slot r.slot slot) (stands && is_command_in space r) same (and_from stands (is_command_in space r) on command)

    pub not_here : ((stands && is_command_in space r) ≡ false) → at n ≡ false
    not_here off = sym read ∙ ap (λ b. b && (stands && is_command_in space r)) same ∙ off

-- ---- by the definitions

module _ (q : Request) (s : System) (f : Function) (space : Space) (ranges : List ToldRange) (standing : List Bool) (told_is : q.told.ranges ≡ ranges) (flags : AreFlagsOfTold q s standing) where
  abbrev test : ToldRegion → Bool
  test = is_answered_by q s space f

  abbrev by_flag : ℕ → Bool
  by_flag = is_answer_at ranges standing space f.slot

  one : ℕ → ToldRange → ToldRegion
  one n r = record { register = told_register n; told = r }

  range_at : (n : ℕ) (r : ToldRange) → slice_get q.told.ranges n ≡ Some r → get_or ranges n blank ≡ r
  range_at n r is = ap (λ xs. get_or xs n blank) (sym told_is) ∙ get_or_from_slice_get q.told.ranges n r blank is

  flag_to : (n : ℕ) → n < length ranges → by_flag n ≡ true → list_any test (told_regions q.told) ≡ true
  flag_to n within is =
      let r = get_or ranges n blank in
      let in_told : n < length q.told.ranges = subst (λ (xs : List ToldRange). n < length xs) (sym told_is) within in
      let here : slice_get q.told.ranges n ≡ Some r = slice_get-get_or q.told.ranges n blank in_told ∙ ap (λ xs. Some (get_or xs n blank)) told_is in
      let parts = and_parts (same_slot r.slot f.slot) (get_or standing n false && is_command_in space r) is in
      let two = and_parts (get_or standing n false) (is_command_in space r) parts.1 in
      let three = and_parts (is_command_line (record { register = told_register n; told = r })) (are_same_space space r.space) two.1 in
      let x : ToldRegion = record { register = told_register n; told = r } in
      any_from test (told_regions q.told) x ((regions_are_numbered q.told x).1 record { index = n; at = here; slot = refl; register = refl })
      (and_from (is_command_line x && same_slot r.slot f.slot && are_same_space space r.space) (range_stands q s x)
      (and_from (is_command_line x && same_slot r.slot f.slot) (are_same_space space r.space) (and_from (is_command_line x) (same_slot r.slot f.slot) three.0 parts.0) three.1)
      (sym (flags n r here) ∙ two.0))

  flag_from : list_any test (told_regions q.told) ≡ true → is_answering ranges standing space f.slot ≡ true
  flag_from is =
      let found = any_gives test (told_regions q.told) is in
      let x = found.x in
      let named = (regions_are_numbered q.told x).0 found.listed in
      let n = named.index in
      let r = x.told in
      let here : slice_get q.told.ranges n ≡ Some r = named.at in
      let register : told_register n ≡ x.register = named.register in
      let both = and_parts (is_command_line x && same_slot r.slot f.slot && are_same_space space r.space) (range_stands q s x) found.is in
      let three = and_parts (is_command_line x && same_slot r.slot f.slot) (are_same_space space r.space) both.0 in
      let two = and_parts (is_command_line x) (same_slot r.slot f.slot) three.0 in
      let stands : get_or standing n false ≡ true = flags n r here ∙ ap (λ k. range_stands q s (record { register = k; told = r })) register ∙ both.1 in
      let within : n < length ranges = subst (λ (xs : List ToldRange). n < length xs) told_is (slice_get_within q.told.ranges n r here) in
      any_from by_flag (range_with_len 0 (length ranges)) n (in_range_from 0 (length ranges) n (omega arith) (omega (arith, within)))
      (subst (λ (y : ToldRange). is_answer space f.slot y (get_or standing n false) ≡ true) (sym (range_at n r here))
      (and_from (same_slot r.slot f.slot) (get_or standing n false && is_command_in space r) two.1
      (and_from (get_or standing n false) (is_command_in space r) stands (and_from (is_command_line x) (are_same_space space r.space) two.0 three.1))))

  pub answering_is : is_answering ranges standing space f.slot ≡ list_any test (told_regions q.told)
  answering_is = elim (cases_Bool (is_answering ranges standing space f.slot)) [
    | inl is ↦
        let found = any_gives by_flag (range_with_len 0 (length ranges)) is in
        let low = (in_range_to 0 (length ranges) found.x found.listed).1 in
        is ∙ sym (flag_to found.x (omega (arith, low)) found.is)
    | inr off ↦ off ∙ sym (false_from_ne_true (list_any test (told_regions q.told)) (λ is. both_ways (is_answering ranges standing space f.slot) off (flag_from is)))
  ]
